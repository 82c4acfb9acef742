-- What each call turns away, in its order (RULES 3.3, 7.2, 8.1, 8.3).
use Rattle.std.specs.Prelude.{ℕ, suc, Bool, true, false, ◌&&◌, List, [], ◌∷◌, leb, ltb, length}
use Rattle.std.proofs.Math.Option.{Option, none, some}
use Rattle.base_laws.specs.Lists.{all_of, total, is_some}
use Rattle.base_model.specs.Answers.{Said, ask}
use Rattle.base_model.specs.declared.Rect.{Rect}
use Rattle.base_model.specs.declared.Placement.{Placement}
use Rattle.std.specs.Prelude.{None, Some}
use Rattle.base_model.specs.declared.Limits.{Limits}
use Rattle.ground_rects.specs.Rects.{nonempty, holds, small}
use Rattle.ground_rects.specs.Windows.{window_fits, in_window}
use Rattle.rule_layouts.specs.Boards.{Mover, Board, leaves_open, route_past}
use Rattle.rule_layouts.specs.Inputs.{Inputs}
use Rattle.rule_calls.specs.Areas.{bases_fit}

-- 10, groups or slots, unless up to 6 groups have slot counts 1 to 6, at most 6 together
unfoldable pub group_checks : Inputs → List (Option Said)
group_checks i = ask 10 (leb (length i.groups) 6 && all_of (λ (k : ℕ). leb 1 k && leb k 6) i.groups && leb (total i.groups) 6) ∷ []

-- passes 4: no bound of either mover is above 256
unfoldable pub movers_small : Inputs → Bool
movers_small i = small i.query.block && elim i.query.allow [ None ↦ true | Some m ↦ small m ]

-- 7: start blocked; 8: end blocked; 9: no route exists
unfoldable pub route_checks : Board → Mover → List (Option Said)
route_checks g m = ask 7 (leaves_open m [] g.start) ∷ ask 8 (leaves_open m [] g.end) ∷ ask 9 (is_some (route_past g m [])) ∷ []

-- passes 15: spec index at most 5, an existing group, no empty rectangle, footprint inside the window
unfoldable pub placement_fits : Rect → List ℕ → Placement → Bool
placement_fits w groups p =
    leb p.spec 5 && ltb p.group (length groups) && nonempty p.footprint && nonempty p.collision && holds w p.footprint

-- 15 with the first index that does not
unfoldable pub first_misplaced : Rect → List ℕ → ℕ → List Placement → Option Said
first_misplaced w groups k [] = none
first_misplaced w groups k (p ∷ ps) =
    elim (placement_fits w groups p) [ true ↦ first_misplaced w groups (suc k) ps | false ↦ some (record { number = 15; values = k ∷ [] }) ]

-- 14: over 6,144 placements
unfoldable pub place_checks : Inputs → List (Option Said)
place_checks i = ask 14 (leb (length i.places) 6144) ∷ first_misplaced i.query.window i.groups 0 i.places ∷ []

-- 11: state limit not 1 to 100,000; 12: result limit not 1 to 32
unfoldable pub limit_checks : Limits → List (Option Said)
limit_checks l = ask 11 (leb 1 l.states && leb l.states 100000) ∷ ask 12 (leb 1 l.results && leb l.results 32) ∷ []

-- 2 (the map here is 8,192 square), 3, 4, 6 (the areas that the call takes are long enough)
unfoldable pub query_checks : Inputs → (long : Bool) → List (Option Said)
query_checks i long =
    ask 2 (window_fits 8192 8192 i.query.window)
    ∷ ask 3 (in_window i.query.window i.query.start && in_window i.query.window i.query.end)
    ∷ ask 4 (movers_small i)
    ∷ ask 6 (bases_fit i && long)
    ∷ []
