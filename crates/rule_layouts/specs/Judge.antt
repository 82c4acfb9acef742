-- Judging a selection: the first that holds, and the ground left (RULES 7.7, 7.8).
use Rattle.std.specs.Prelude.{ℕ, Bool, not, ◌&&◌, List, [], ◌∷◌, eqb, ltb}
use Rattle.base_laws.specs.Lists.{any_of, first_of, is_some}
use Rattle.base_model.specs.declared.Verdict.{Verdict}
use Rattle.base_model.specs.declared.Verdict.TheVariants.{Slots, Overlap, EndCovered, Open, Spare, Shut, Wall}
use Rattle.rule_routes.specs.Routes.{reach_count}
use Rattle.rule_layouts.specs.Boards.{Board, leaves_open, open_ends, route_past, used}
use Rattle.rule_layouts.specs.Explore.{is_minimal_block, allowed_route}

module _ (g : Board) where
  -- a group's count is exceeded
  unfoldable pub over_slots : List ℕ → Bool
  over_slots s = any_of (λ (i : ℕ). ltb (g.places.slots (g.places.group i)) (used g.places (g.places.group i) s)) s

  -- two members' footprints overlap
  unfoldable pub overlaps : List ℕ → Bool
  overlaps s = any_of (λ (i : ℕ). any_of (λ (j : ℕ). not (eqb i j) && g.places.overlap i j) s) s

  unfoldable pub verdict : List ℕ → Verdict
  verdict s = first_of (
      (over_slots s, Slots)
      ∷ (overlaps s, Overlap)
      ∷ (not (open_ends g g.block s), EndCovered)
      ∷ (is_some (route_past g g.block s), Open)
      ∷ (not (is_minimal_block g s), Spare)
      ∷ (not (is_some (allowed_route g s)), Shut)
      ∷ []) Wall

  -- the number of centres to which a route from the start exists for the blocked mover
  unfoldable pub ground_left : List ℕ → ℕ
  ground_left s = reach_count g.edges g.nodes (leaves_open g.block s) g.start
