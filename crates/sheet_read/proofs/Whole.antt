-- The whole sheet from the answers of its parts. Assumes nothing.
use mathlib.Core.Path.{◌≡◌, refl}
use mathlib.Core.Logic.{◌⊎◌, inl, inr}
use mathlib.Core.List.{List, []}
use Prim.Native.Nat.{ℕ, ◌+◌, ◌*◌, ◌≤◌, ◌<◌}
use native.Mathlib.Omega.{arith}
use mathlib.Core.Bool.{Bool}
use mathlib.Core.Path.{sym, ◌∙◌}
use Rattle.std.proofs.Common.{None, Some, cond}
use lib.ListN.{length, get_or}
use Rattle.text_forms.specs.Patterns.{bytes, is, fields}
use Rattle.text_forms.specs.Rest.{RestSpelled, Only}
use Rattle.text_forms.proofs.Rest.{left_then, only_then, only_more, left_run, only_longer, end_made, end_only}
use Rattle.sheet_form.specs.Tails.{SheetLines, places_on, groups_on, allow_on, lines_on, obstacles_on, whole, parts}
use Rattle.sheet_form.proofs.Follows.{obstacles_follow, obstacles_end, places_follow, places_end}
use Rattle.sheet_lines.specs.Answers.{
  PlacedRows,
  RowsOver,
  MapRead,
  MapGot,
  LinesRead,
  LinesGot,
  LimitsRead,
  LimitsGot,
  GroupsRead,
  GroupsGot,
}
use Rattle.sheet_lines.proofs.Standing.{stands_kept, kept_kept}
use Rattle.sheet_read.specs.Answers.{SheetRead}

abbrev OverAll : SheetLines → Type 0
OverAll w = (64 < length w.1.0) ⊎ ((32 < length w.1.1.1.0) ⊎ (64 < length w.1.1.1.1.1.1.1.1.1.1.1.1.0))

no_sheet : {s fixed cells obstacles groups places : List ℕ} → Only s whole 0 OverAll → SheetRead s fixed cells obstacles groups places None
unfolding whole obstacles_on lines_on allow_on groups_on places_on
no_sheet o = record { answer = record { over = λ v fit e. o.only (parts v) fit e } }

-- ---- runs of lines
module _ {s before : List ℕ} {at : ℕ} where
  module _ {out : List ℕ} {count next : ℕ} where
    obstacles_left : (h : PlacedRows (bytes "(obstacle # # # #)\n") s at before out count next) → RestSpelled s obstacles_on at lines_on next (λ b. (h.rows, b))
    unfolding obstacles_on
    obstacles_left h = left_run (is "(obstacle # # # #)\n") lines_on obstacles_end obstacles_follow h.chain h.inside h.stops

    places_left : (h : PlacedRows (bytes "(place $ $ $ $ (# # # #) (# # # #))\n") s at before out count next) → RestSpelled s places_on at (is "") next (λ b. (h.rows, b))
    unfolding places_on
    places_left h = left_run (is "(place $ $ $ $ (# # # #) (# # # #))\n") (is "") places_end places_follow h.chain h.inside h.stops

  obstacles_over : length before ≡ 128 → RowsOver (bytes "(obstacle # # # #)\n") s at before → Only s obstacles_on at (λ w. 32 < length w.0)
  unfolding obstacles_on fields
  obstacles_over room h =
      let short : length before < 4 * length h.rows + 4 = h.short in
      only_more (λ w k. omega arith) (only_longer (is "(obstacle # # # #)\n") lines_on obstacles_end obstacles_follow h.chain h.one_more_lem)

  places_over : length before ≡ 768 → RowsOver (bytes "(place $ $ $ $ (# # # #) (# # # #))\n") s at before → Only s places_on at (λ w. 64 < length w.0)
  unfolding places_on fields
  places_over room h =
      let short : length before < 12 * length h.rows + 12 = h.short in
      only_more (λ w k. omega arith) (only_longer (is "(place $ $ $ $ (# # # #) (# # # #))\n") (is "") places_end places_follow h.chain h.one_more_lem)

-- ---- part after part
pub no_map : {s f c fixed cells obstacles groups places : List ℕ} → MapRead s f c None → SheetRead s fixed cells obstacles groups places None
no_map h = no_sheet (only_more (λ w k. inl k) h.answer)

module _ {s f₁ cells : List ℕ} {c a : ℕ} (m : MapGot s f₁ cells c a) where
  pub no_obstacles : {before fixed d obstacles groups places : List ℕ} → length before ≡ 128 → RowsOver (bytes "(obstacle # # # #)\n") s a before
      → SheetRead s fixed d obstacles groups places None
  no_obstacles room h = no_sheet (only_then m.left (only_more (λ w k. inr (inl k)) (obstacles_over room h)))

  module _ {before obstacles : List ℕ} {o b : ℕ} (r : PlacedRows (bytes "(obstacle # # # #)\n") s a before obstacles o b) where
    second : RestSpelled s whole 0 lines_on b (λ x. (m.size, (m.values, ([], (r.rows, x)))))
    second = left_then m.left (obstacles_left r)

    pub no_lines : {f g fixed d e groups places : List ℕ} → LinesRead s b f g None → SheetRead s fixed d e groups places None
    no_lines h = no_sheet (only_then second (only_more (λ w k. absurd k) h.answer))

    module _ {f₂ : List ℕ} {d : ℕ} (q : LinesGot s b f₁ f₂ d) where
      third : RestSpelled s whole 0 allow_on d (λ x. (m.size, (m.values, ([], (r.rows, (q.window, (q.ends, (q.block, x))))))))
      third = left_then second q.left

      pub no_limits : {f g fixed k e groups places : List ℕ} → LimitsRead s d f g None → SheetRead s fixed k e groups places None
      no_limits h = no_sheet (only_then third (only_more (λ w k. absurd k) h.answer))

      module _ {f₃ : List ℕ} {w e : ℕ} (l : LimitsGot s d f₂ f₃ w e) where
        fourth : RestSpelled s whole 0 groups_on e (λ x. (m.size, (m.values, ([], (r.rows, (q.window, (q.ends, (q.block, (l.allow, (l.limits, x))))))))))
        fourth = left_then third l.left

        pub no_groups : {f g o fixed k i groups places : List ℕ} → GroupsRead s e f g o None → SheetRead s fixed k i groups places None
        no_groups h = no_sheet (only_then fourth (only_more (λ w k. absurd k) h.answer))

        module _ {f₄ groups : List ℕ} {g f : ℕ} (n : GroupsGot s e f₃ f₄ groups g f) where
          fifth : RestSpelled s whole 0 places_on f
              (λ x. (m.size, (m.values, ([], (r.rows, (q.window, (q.ends, (q.block, (l.allow, (l.limits, ([], (n.rows, ([], x)))))))))))))
          fifth = left_then fourth n.left

          pub no_places : {lent fixed k i j places : List ℕ} → length lent ≡ 768 → RowsOver (bytes "(place $ $ $ $ (# # # #) (# # # #))\n") s f lent
              → SheetRead s fixed k i j places None
          no_places room h = no_sheet (only_then fifth (only_more (λ w k. inr (inr k)) (places_over room h)))

          module _ {lent places : List ℕ} {p end : ℕ} (z : PlacedRows (bytes "(place $ $ $ $ (# # # #) (# # # #))\n") s f lent places p end) where
            pub no_end : {fixed k i j u : List ℕ} → end < length s → SheetRead s fixed k i j u None
            no_end lt = no_sheet (only_then fifth (only_then (places_left z) (end_only s end lt)))

            pub whole_sheet : (allow : Bool) → w ≡ cond allow 1 0 → end ≡ length s → length before ≡ 128 → length lent ≡ 768
                → SheetRead s f₄ cells obstacles groups places (Some (record { cells = c; obstacles = o; allow = allow; groups = g; places = p }))
            unfolding whole obstacles_on lines_on allow_on groups_on places_on fields
            whole_sheet allow few last room lent-room =
                let made = (left_then fifth (places_left z)).makes [] refl (end_made s end last) in
                let few_o : 4 * o ≤ length before = r.room in
                let few_p : 12 * p ≤ length lent = z.room in
                let w4 : length q.window ≡ 4 = q.window_wide in
                let e4 : length q.ends ≡ 4 = q.ends_wide in
                let b4 : length q.block ≡ 4 = q.block_wide in
                let s2 : length m.size ≡ 2 = m.wide in
                let l2 : length l.limits ≡ 2 = l.limits_wide in
                let later = kept_kept l.kept n.kept (omega arith) in
                record {
                  answer = record {
                    value = record {
                      size = m.size;
                      cells = m.values;
                      obstacles = r.rows;
                      window = q.window;
                      ends = q.ends;
                      block = q.block;
                      allow = l.allow;
                      limits = l.limits;
                      groups = n.rows;
                      places = z.rows;
                    };
                    fits = made.0;
                    spelled = made.1;
                    held = record {
                      cell_count = m.counted;
                      obstacle_count = r.counted;
                      allow_count = sym few ∙ l.counted;
                      group_count = n.counted;
                      place_count = z.counted;
                      few_cells = m.few;
                      few_obstacles = omega arith;
                      few_groups = n.few;
                      few_places = omega arith;
                      size_stands = stands_kept m.stands (kept_kept q.kept later (omega arith)) (omega arith);
                      window_stands = stands_kept q.window_stands later (omega arith);
                      ends_stands = stands_kept q.ends_stands later (omega arith);
                      block_stands = stands_kept q.block_stands later (omega arith);
                      allow_stands = stands_kept l.allow_stands n.kept (let k : length (get_or l.allow 0 []) ≤ 4 = l.allow_short in omega arith);
                      limits_stands = stands_kept l.limits_stands n.kept (omega arith);
                      cell_area = m.area;
                      obstacle_area = r.area;
                      group_area = n.area;
                      place_area = z.area;
                    };
                  };
                }
