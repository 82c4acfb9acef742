-- What the calls are given and leave where every value is a number (RULES 7.10).
use Rattle.std.specs.Prelude.{ℕ, zero, suc, Bool, true, false, List, [], ◌∷◌, ◌++◌, eqb, ℤ, get_or, take, drop}
use Rattle.std.proofs.Math.Option.{Option, none, some}
use Rattle.base_model.specs.Answers.{Said, verdict_number}
use Rattle.base_model.specs.Allow.{Allow}
use Rattle.std.specs.Prelude.{None, Some}
use Rattle.base_model.specs.declared.Query.{Query}
use Rattle.base_model.specs.declared.Record.{Record}
use Rattle.ground_rects.specs.Rects.{rect}
use Rattle.rule_calls.specs.Calls.{Judgement, refuses, judges}

-- ---- the query
-- 0 is nobody; any other number lets the mover with these bounds pass
unfoldable pub allow_from : (given left top right bottom : ℕ) → Allow
allow_from zero left top right bottom = None
allow_from (suc n) left top right bottom = Some (record { left = left; top = top; right = right; bottom = bottom })

unfoldable pub query_from : (window_left window_top window_right window_bottom : ℤ) → (start_x start_y end_x end_y : ℕ)
    → (block_left block_top block_right block_bottom : ℕ)
    → (allow_given allow_left allow_top allow_right allow_bottom : ℕ) → Query
query_from window_left window_top window_right window_bottom start_x start_y end_x end_y block_left block_top block_right block_bottom allow_given allow_left
    allow_top allow_right allow_bottom = record {
      window = rect window_left window_top window_right window_bottom;
      start = record { x = start_x; y = start_y };
      end = record { x = end_x; y = end_y };
      block = record { left = block_left; top = block_top; right = block_right; bottom = block_bottom };
      allow = allow_from allow_given allow_left allow_top allow_right allow_bottom;
    }

-- ---- the search record as fifty numbers
unfoldable pub one_where : Bool → ℕ
one_where true = 1
one_where false = 0

-- reason, evaluations, placements, layouts, lists, pending, then 32 route lengths, 6 list lengths, 6 nexts
unfoldable pub record_numbers : Record → List ℕ
record_numbers r =
    (r.reason ∷ r.evaluations ∷ r.placements ∷ r.layouts ∷ r.lists ∷ one_where r.pending ∷ []) ++ r.routes ++ r.lengths ++ r.nexts

unfoldable pub record_from : List ℕ → Record
record_from ns = record {
  reason = get_or ns 0 0;
  evaluations = get_or ns 1 0;
  placements = get_or ns 2 0;
  layouts = get_or ns 3 0;
  lists = get_or ns 4 0;
  pending = eqb (get_or ns 5 0) 1;
  routes = take 32 (drop 6 ns);
  lengths = take 6 (drop 38 ns);
  nexts = take 6 (drop 44 ns);
}

-- the numbers after a call: an accepted one lays the record's and leaves what stood past the fiftieth, a refused one leaves all that stood there
unfoldable pub numbers_after : Option Said → Record → List ℕ → List ℕ
numbers_after none r ns = record_numbers r ++ drop 50 ns
numbers_after (some e) r ns = ns

-- ---- a judgement as four numbers
-- 0 where a verdict is given
unfoldable pub judged_answer : Judgement → ℕ
judged_answer (refuses e) = e.number
judged_answer (judges v centres) = 0

unfoldable pub judged_index : Judgement → ℕ
judged_index (refuses e) = get_or e.values 0 0
judged_index (judges v centres) = 0

-- 0 on a refusal
unfoldable pub judged_verdict : Judgement → ℕ
judged_verdict (refuses e) = 0
judged_verdict (judges v centres) = verdict_number v

unfoldable pub judged_ground : Judgement → ℕ
judged_ground (refuses e) = 0
judged_ground (judges v centres) = centres
