-- `walls_told::rank_answer_in` meets its contract: the number of a ranking is that of its answer.
use mathlib.Core.Path.{◌≡◌, refl, ◌∙◌}
use Rattle.std.specs.Prelude.{Option, Some, None, Result, Ok, Err}
use Rattle.base_model.specs.Answers.{reply_of}
use Rattle.base_model.specs.declared.Refusal.{Refusal}
use Rattle.base_model.specs.declared.Rank.{Rank}
use Rattle.call_read.specs.Told.{number_in}
use Rattle.rule_ranks.specs.Ranks.{ranking_of}
use Rattle.walls_numbers.specs.Ranked.{ranked_answer}
use Rattle.walls_told.proofs.rank_answer_in.Goals as goal

ranked_number : (r : Result (Option Rank) Refusal) → number_in (reply_of r) ≡ ranked_answer (ranking_of r)
unfolding number_in reply_of ranked_answer ranking_of
ranked_number (Ok (Some k)) = refl
ranked_number (Ok None) = refl
ranked_number (Err e) = refl

pub returns : goal.returns
returns c = c.number_of.ensures ∙ ranked_number c.args.ranked
