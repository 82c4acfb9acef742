-- `write_refused`: the refusal's line by its pattern.
use Rattle.base_model.specs.Answers.{refusal}
use Rattle.sheet_texts.specs.Texts.{refusal_text}
use Rattle.sheet_texts.proofs.Lengths.{refused_short}
use native.Mathlib.Omega.{arith}
use Rattle.sheet_write.proofs.write_refused.Goals as goal

pub put-requires-clause-values_in_bounds : goal.put-requires-clause-values_in_bounds
put-requires-clause-values_in_bounds c = omega (arith, refused_short c.args.n (omega arith))

pub returns : goal.returns
unfolding refusal_text refusal
returns c = c.put.ensures
