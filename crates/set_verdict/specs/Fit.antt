-- The verdict on a set whose members may stand together, over placements lent flat.
use Rattle.std.specs.Prelude.{ℕ, not, ◌&&◌, List, [], ◌∷◌}
use Rattle.std.proofs.Math.Option.{Option}
use Rattle.base_laws.specs.Lists.{first_of, is_some}
use Rattle.base_model.specs.declared.Rect.{Rect}
use Rattle.base_model.specs.declared.Verdict.{Verdict}
use Rattle.base_model.specs.declared.Verdict.TheVariants.{EndCovered, Open}
use Rattle.rule_routes.specs.Edges.{Step, steps_of}
use Rattle.rule_layouts.specs.Boards.{Mover, leaves_open}
use Rattle.set_places.specs.declared.Given.{Given}
use Rattle.set_pass.specs.declared.Ground.{Ground}
use Rattle.set_pass.specs.Pass.{passed}
use Rattle.set_pass.specs.Lent.{block_on, allow_given}
use Rattle.set_shut.specs.Shut.{past_shut}

module _ (w : Rect) (steps : List Step) (start end : ℕ) (block : Mover) (allow : Option Mover) (s : List ℕ) where
  -- the verdict where no group's count is exceeded and no footprints overlap
  unfoldable pub past_fit : Verdict
  past_fit = first_of ((not (leaves_open block s start && leaves_open block s end), EndCovered) ∷ (is_some (passed w steps start end block s), Open) ∷ []) (past_shut w steps start end block allow s)

-- the same of what the code lends
abbrev pub fit_on : Ground → Given → List ℕ → Verdict
fit_on g given s = past_fit g.window (steps_of g.steps.now) g.start g.end (block_on g given) (allow_given g given) s
