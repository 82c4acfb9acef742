-- 16: what step and reading ask of the record and the areas, on stopped searches too (RULES 8.4).
use Rattle.std.specs.Prelude.{ℕ, suc, ◌*◌, Bool, true, not, ◌&&◌, ◌||◌, List, leb, ltb, eqb, length, get_or, take}
use Rattle.base_laws.specs.Lists.{all_of, below, total, ascends}
use Rattle.std.specs.Prelude.{None, Some}
use Rattle.base_model.specs.declared.Limits.{Limits}
use Rattle.base_model.specs.declared.Record.{Record}
use Rattle.ground_rects.specs.Windows.{centres}
use Rattle.rule_layouts.specs.Boards.{may_join}
use Rattle.rule_search.specs.State.{Running, set_on}
use Rattle.rule_layouts.specs.Inputs.{Inputs, places_of}
use Rattle.rule_calls.specs.Areas.{Store, number_of, row_of, list_of, lists_of}

-- layouts ≤ result limit, and below it while Running
unfoldable pub layouts_fit : Limits → Record → Bool
layouts_fit l r = leb r.layouts l.results && (ltb r.layouts l.results || not (eqb r.reason (number_of Running)))

-- a row ascends strictly, with at most 6 members, and names placements
unfoldable pub row_fits : (places : ℕ) → List ℕ → ℕ → Bool
row_fits places area k = leb (get_or area (7 * k) 0) 6 && ascends (row_of area k) && all_of (λ (i : ℕ). ltb i places) (row_of area k)

-- each kept route has at most c points, none without an allowed mover, and their sum is at most 1,000,000
unfoldable pub routes_fit : Inputs → List ℕ → Bool
routes_fit i lengths =
    all_of (λ (n : ℕ). leb n (centres i.query.window)) lengths
    && elim i.query.allow [ None ↦ all_of (λ (n : ℕ). eqb n 0) lengths | Some m ↦ true ]
    && leb (total lengths) 1000000

module _ (i : Inputs) (r : Record) (a : Store) where
  -- a list or a pending set stands on list k
  unfoldable pub stood_on : ℕ → Bool
  stood_on k = ltb (suc k) r.lists || r.pending

  -- next ≤ length ≤ placements, next above 0 where something stands on the list, and its entries are placements that may join its set: the set
  -- below plus the placement last taken, k members for list k. The touch isn't looked at.
  unfoldable pub list_fits : ℕ → Bool
  list_fits k =
      leb (get_or r.nexts k 0) (get_or r.lengths k 0) && leb (get_or r.lengths k 0) (length i.places)
      && (not (stood_on k) || ltb 0 (get_or r.nexts k 0))
      && all_of (λ (e : ℕ). ltb e (length i.places) && may_join (places_of i.groups i.places) (set_on (lists_of r a.lists k)) e)
      (list_of r a.lists k).entries

  unfoldable pub record_fits : Limits → Bool
  record_fits l =
      leb 1 r.reason && leb r.reason 4
      && eqb r.placements (length i.places)
      && leb r.evaluations l.states
      && layouts_fit l r
      && all_of (row_fits (length i.places) a.visited) (below r.evaluations)
      && all_of (row_fits (length i.places) a.layouts) (below r.layouts)
      && routes_fit i (take r.layouts r.routes)
      && leb r.lists 6
      && all_of list_fits (below r.lists)
