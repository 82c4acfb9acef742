-- The verdict on a set that leaves the blocked mover open ends and no route.
use Rattle.std.specs.Prelude.{ℕ, not, List, [], ◌∷◌}
use Rattle.std.proofs.Math.Option.{Option}
use Rattle.base_laws.specs.Lists.{first_of, is_some}
use Rattle.base_model.specs.declared.Rect.{Rect}
use Rattle.base_model.specs.declared.Verdict.{Verdict}
use Rattle.base_model.specs.declared.Verdict.TheVariants.{Spare, Shut, Wall}
use Rattle.rule_routes.specs.Edges.{Step, steps_of}
use Rattle.rule_layouts.specs.Boards.{Mover}
use Rattle.set_places.specs.declared.Given.{Given}
use Rattle.set_pass.specs.declared.Ground.{Ground}
use Rattle.set_pass.specs.Pass.{minimal, allowed_past}
use Rattle.set_pass.specs.Lent.{block_on, allow_given}

module _ (w : Rect) (steps : List Step) (start end : ℕ) (block : Mover) (allow : Option Mover) (s : List ℕ) where
  unfoldable pub past_shut : Verdict
  past_shut = first_of ((not (minimal w steps start end block s), Spare) ∷ (not (is_some (allowed_past w steps start end allow s)), Shut) ∷ []) Wall

-- the same of what the code lends
abbrev pub shut_on : Ground → Given → List ℕ → Verdict
shut_on g given s = past_shut g.window (steps_of g.steps.now) g.start g.end (block_on g given) (allow_given g given) s
