-- The checks of a board's route, with no placement on it, are those over the baseline: the empty set leaves open just what the baseline does.
use mathlib.Core.Path.{◌≡◌, refl, fun_ext}
use mathlib.Core.Bool.{Bool, true, false, not, ◌&&◌}
use mathlib.Core.List.{List, []}
use Prim.Native.Nat.{ℕ}
use lib.Dec.{eqb}
use lib.ListN.{get_or}
use Rattle.base_laws.specs.Lists.{any_of}
use Rattle.base_model.specs.Answers.{first}
use Rattle.base_model.specs.declared.Rect.{Rect}
use Rattle.base_model.specs.declared.Bounds.{Bounds}
use Rattle.base_model.specs.declared.Placement.{Placement}
use Rattle.rule_routes.specs.Edges.{Step}
use Rattle.route_find.specs.Ground.{open_in}
use Rattle.rule_layouts.specs.Boards.{leaves_open, route_past}
use Rattle.rule_layouts.specs.Inputs.{Inputs, mover_of, board_of}
use Rattle.rule_calls.specs.Checks.{route_checks}
use Rattle.call_passage.specs.Passages.{route_over, passage_over}

twice : (b : Bool) → not (not b) && not false ≡ b
twice true = refl
twice false = refl

module _ (w : Rect) (ps : List Placement) (m : Bounds) (base : List ℕ) where
  pub open_bare : leaves_open (mover_of w ps m base) [] ≡ open_in base
  unfolding leaves_open mover_of any_of open_in
  open_bare = fun_ext (λ c. twice (eqb (get_or base c 0) 0))

pub passage_is : (steps : List Step) (i : Inputs) (m : Bounds) (base : List ℕ) →
    first (route_checks (board_of steps i) (mover_of i.query.window i.places m base))
    ≡ passage_over steps i.query.window i.query.start i.query.end base
unfolding route_checks board_of route_past passage_over route_over
passage_is steps i m base = rw (open_bare i.query.window i.places m base) refl
