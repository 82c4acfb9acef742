-- Covering a prepared baseline against preparing with further obstacles. An area that prepare has filled holds a mark for each centre. A cover fills it anew with one
-- more where the rectangle keeps the mover off, and one more than anything is not zero, as the mark is not where the rectangle is an obstacle. So, cover by cover, the
-- area stays filled with numbers that are zero exactly where the marks with the rectangles so far are; and it does not matter where in the list an obstacle stands.
use Prim.Native.Nat.{ℕ, ◌-◌}
use mathlib.Core.Path.{◌≡◌, refl, sym, ap, ◌∙◌}
use mathlib.Core.Bool.{Bool, true, false, cond, ◌||◌}
use mathlib.Core.Option.{Option, none, some, none-ne-some}
use mathlib.Core.List.{List, [], ◌∷◌, ◌++◌, map, map-map, map-append, append-nil}
use native.Mathlib.Numerals.{add-one}
use native.Mathlib.Omega.{arith}
use lib.IntN.{ℤ}
use lib.ListN.{length, get_or, take, drop, replicate}
use lib.Seq.{take_at}
use Rattle.base_laws.specs.Lists.{any_of, below, padded}
use Rattle.base_laws.specs.Fill.{filled}
use Rattle.base_laws.proofs.Fill.{filled_same, filled_at, filled_again}
use Rattle.base_laws.proofs.Tables.{length_table, table_same}
use Rattle.base_model.specs.Answers.{Said, first}
use Rattle.base_model.specs.declared.Rect.{Rect}
use Rattle.base_model.specs.declared.Bounds.{Bounds}
use Rattle.ground_rects.specs.Rects.{rects_of, keeps_off}
use Rattle.ground_rects.specs.Windows.{centres, pixel_x, pixel_y}
use Rattle.ground_baseline.specs.Baseline.{Map, off_terrain, off_obstacle, off_edge, mark, baseline_of}
use Rattle.rule_covers.specs.Covers.{one_more, may_rise, off_centre, changed, cover_call}
use Rattle.rule_covers.specs.Sessions.{Building, after, Accepted, cover_one}
use Rattle.rule_covers.proofs.Changes.{accepted_leaves}
use Rattle.rule_routes.specs.Edges.{Step, steps_of}
use Rattle.rule_layouts.specs.Boards.{Board}
use Rattle.rule_layouts.specs.Inputs.{board_of}
use Rattle.rule_calls.specs.Areas.{Work, laid}
use Rattle.rule_calls.specs.Checks.{route_checks}
use Rattle.rule_calls.specs.Calls.{Preparation, Prepared, bare, prepare_checks, prepare_over, prepare_call}
use Rattle.rule_calls.proofs.Tables.{prepare_over_lem, prepare_table}
use Rattle.promise_counts.specs.Counts.{count_bit, as_bits, SameZeros}
use Rattle.promise_counts.specs.Obstacles.{PrepareMarks, Ground, prepared, buildings, AllAccepted, covered, with_obstacles, asked_with, CoversAreObstacles}
use Rattle.promise_counts.proofs.SameCalls.{same_zeros}

-- ---- marks
-- of terrain, obstacles and edge
abbrev marked : Bool → ℕ
marked t = elim t [ true ↦ 1 | false ↦ 0 ]

bit_marked : (t : Bool) → count_bit (marked t) ≡ marked t
unfolding count_bit
bit_marked true = refl
bit_marked false = refl

bit_more : (n : ℕ) → count_bit (one_more n) ≡ 1
unfolding count_bit one_more
bit_more n = rw (add-one n) refl

covered_mark : (off a b c : Bool) (n : ℕ) → count_bit n ≡ marked (a || b || c) → count_bit (cond off (one_more n) n) ≡ marked (a || (off || b) || c)
covered_mark false a b c n e = e
covered_mark true true b c n e = bit_more n
covered_mark true false b c n e = bit_more n

exchanged : (a b rest : Bool) → (a || (b || rest)) ≡ (b || (a || rest))
exchanged true true rest = refl
exchanged true false rest = refl
exchanged false true rest = refl
exchanged false false rest = refl

-- a test of any, with one of them taken first
any_among : {A : Type 0} (f : A → Bool) (before behind : List A) (x : A) → any_of f (before ++ x ∷ behind) ≡ (f x || any_of f (before ++ behind))
unfolding any_of
any_among f [] behind x = refl
any_among f (y ∷ before) behind x = ap (λ (t : Bool). f y || t) (any_among f before behind x) ∙ exchanged (f y) (f x) (any_of f (before ++ behind))

module _ (m : Map) (mover : Bounds) (w : Rect) where
  abbrev mark_at : List Rect → ℕ → ℕ
  mark_at obstacles c = mark m obstacles mover (pixel_x w c) (pixel_y w c)

  mark_bit : (obstacles : List Rect) (c : ℕ) → count_bit (mark_at obstacles c) ≡ mark_at obstacles c
  unfolding mark
  mark_bit obstacles c =
      let x : ℤ = pixel_x w c in
      let y : ℤ = pixel_y w c in
      bit_marked (off_terrain m obstacles mover x y || off_obstacle m obstacles mover x y || off_edge m obstacles mover x y)

  mark_covered : (r : Rect) (obstacles : List Rect) (c n : ℕ) → count_bit n ≡ mark_at obstacles c
      → count_bit (cond (off_centre w mover r c) (one_more n) n) ≡ mark_at (r ∷ obstacles) c
  unfolding mark off_centre off_terrain off_obstacle off_edge any_of
  mark_covered r obstacles c n e =
      let x : ℤ = pixel_x w c in
      let y : ℤ = pixel_y w c in
      covered_mark (keeps_off r mover x y) (off_terrain m obstacles mover x y) (off_obstacle m obstacles mover x y) (off_edge m obstacles mover x y) n e

  mark_among : (before behind : List Rect) (r : Rect) (c : ℕ) → mark_at (before ++ r ∷ behind) c ≡ mark_at (r ∷ (before ++ behind)) c
  unfolding mark off_terrain off_obstacle off_edge any_of
  mark_among before behind r c =
      let x : ℤ = pixel_x w c in
      let y : ℤ = pixel_y w c in
      ap (λ (t : Bool). marked (off_terrain m behind mover x y || t || off_edge m behind mover x y)) (any_among (λ (o : Rect). keeps_off o mover x y) before behind r)

  marks_among : (before behind : List Rect) (r : Rect) → baseline_of m (before ++ r ∷ behind) mover w ≡ baseline_of m (r ∷ (before ++ behind)) mover w
  unfolding baseline_of
  marks_among before behind r = table_same (mark_at (before ++ r ∷ behind)) (mark_at (r ∷ (before ++ behind))) (centres w) (λ c h. mark_among before behind r c)

  -- ---- numbers that are zero exactly where the marks are
  module _ (f : ℕ → ℕ) (obstacles : List Rect) (zeros : (c : ℕ) → count_bit (f c) ≡ mark_at obstacles c) where
    bits_table : as_bits (map f (below (centres w))) ≡ baseline_of m obstacles mover w
    unfolding as_bits baseline_of
    bits_table =
        map-map count_bit f (below (centres w))
        ∙ table_same (λ (c : ℕ). count_bit (f c)) (mark_at obstacles) (centres w) (λ c h. zeros c)

    bits_filled : (area : List ℕ) → as_bits (filled f (centres w) area) ≡ baseline_of m obstacles mover w ++ as_bits (drop (centres w) area)
    unfolding as_bits filled
    bits_filled area =
        map-append count_bit (map f (below (centres w))) (drop (centres w) area)
        ∙ ap (λ (l : List ℕ). l ++ as_bits (drop (centres w) area)) bits_table

  marks_bits : (obstacles : List Rect) → as_bits (baseline_of m obstacles mover w) ≡ baseline_of m obstacles mover w
  unfolding baseline_of
  marks_bits obstacles = bits_table (mark_at obstacles) obstacles (mark_bit obstacles)

  -- a baseline has a mark for each centre, so that it is laid without zeros behind it
  laid_marks : (obstacles : List Rect) (area : List ℕ) → laid (centres w) (baseline_of m obstacles mover w) area ≡ filled (mark_at obstacles) (centres w) area
  unfolding laid padded baseline_of filled
  laid_marks obstacles area =
      let base : List ℕ = map (mark_at obstacles) (below (centres w)) in
      let z : centres w - length base ≡ 0 = omega (arith, length_table (mark_at obstacles) (centres w)) in
      ap (λ (k : ℕ). (base ++ replicate k 0) ++ drop (centres w) area) z ∙ ap (λ (l : List ℕ). l ++ drop (centres w) area) (append-nil base)

  laid_bits : (obstacles : List Rect) (area : List ℕ) → as_bits (laid (centres w) (baseline_of m obstacles mover w) area)
      ≡ baseline_of m obstacles mover w ++ as_bits (drop (centres w) area)
  laid_bits obstacles area = ap as_bits (laid_marks obstacles area) ∙ bits_filled (mark_at obstacles) obstacles (mark_bit obstacles) area

  laid_taken : (obstacles : List Rect) (area : List ℕ) → take (centres w) (laid (centres w) (baseline_of m obstacles mover w) area) ≡ baseline_of m obstacles mover w
  unfolding filled baseline_of
  laid_taken obstacles area =
      ap (take (centres w)) (laid_marks obstacles area)
      ∙ take_at (map (mark_at obstacles) (below (centres w))) (drop (centres w) area) (centres w) (length_table (mark_at obstacles) (centres w))

  -- ---- covers, one after the other
  abbrev more : Rect → (ℕ → ℕ) → ℕ → ℕ
  more r f c = cond (off_centre w mover r c) (one_more (f c)) (f c)

  abbrev building : Rect → Building
  building r = record { mover = mover; rectangle = r }

  module _ (area : List ℕ) where
    changed_filled : (r : Rect) (f : ℕ → ℕ) → changed w mover r one_more (filled f (centres w) area) ≡ filled (more r f) (centres w) area
    unfolding changed
    changed_filled r f =
        let now : ℕ → ℕ = λ c. get_or (filled f (centres w) area) c 0 in
        filled_again f (centres w) area (more r now)
        ∙ filled_same (more r now) (more r f) (centres w) area
        (λ c h. ap (λ (n : ℕ). cond (off_centre w mover r c) (one_more n) n) (filled_at f (centres w) area c 0 h))

    covers_bits : (rs obstacles : List Rect) (f : ℕ → ℕ) (now : List ℕ) → now ≡ filled f (centres w) area → ((c : ℕ) → count_bit (f c) ≡ mark_at obstacles c)
        → Accepted (cover_one w) (map building rs) now
        → as_bits (after (cover_one w) (map building rs) now) ≡ baseline_of m (rs ++ obstacles) mover w ++ as_bits (drop (centres w) area)
    unfolding Accepted after cover_one cover_call
    covers_bits [] obstacles f now e zeros a = ap as_bits e ∙ bits_filled f obstacles zeros area
    covers_bits (r ∷ rs) obstacles f now e zeros a =
        covers_bits rs (r ∷ obstacles) (more r f) (cover_one w (building r) now).baseline
        (accepted_leaves w mover r may_rise now one_more a.0 ∙ ap (changed w mover r one_more) e ∙ changed_filled r f)
        (λ c. mark_covered r obstacles c (f c) (zeros c)) a.1
        ∙ ap (λ (l : List ℕ). l ++ as_bits (drop (centres w) area)) (marks_among rs obstacles r)

-- ---- the calls
module _ (steps : List Step) (q : Preparation) (area : List ℕ) (work : Work) where
  abbrev marks_of : List ℕ
  marks_of = baseline_of q.map (rects_of q.obstacles) q.mover q.window

  abbrev ground : Board
  ground = board_of steps (bare q marks_of)

  left_by : (o p : Option Said) → first (prepare_checks q area work) ≡ o → first (route_checks ground ground.block) ≡ p
      → (prepare_over steps q area work).answer ≡ none → (prepare_over steps q area work).baseline ≡ laid (centres q.window) marks_of area
  unfolding prepare_over
  left_by none none e f a = rw (prepare_over, e, f) refl
  left_by none (some s) e f a = absurd (none-ne-some s (sym (rw (prepare_over, e, f) at a)))
  left_by (some s) p e f a = absurd (none-ne-some s (sym (rw (prepare_over, e) at a)))

prepare_leaves_lem : (table : List ℤ) (q : Preparation) (area : List ℕ) (work : Work) → (prepare_call table q area work).answer ≡ none
    → (prepare_call table q area work).baseline ≡ laid (centres q.window) (baseline_of q.map (rects_of q.obstacles) q.mover q.window) area
prepare_leaves_lem table q area work a =
    let steps = steps_of table in
    let g = ground steps q area work in
    let same = prepare_over_lem table (prepare_table table q area work a) q area work in
    ap (λ (x : Prepared). x.baseline) same
    ∙ left_by steps q area work (first (prepare_checks q area work)) (first (route_checks g g.block)) refl refl (sym (ap (λ (x : Prepared). x.answer) same) ∙ a)

pub prepare_marks : PrepareMarks
unfolding PrepareMarks
prepare_marks table q area work a =
    let w = q.window in
    let obstacles = rects_of q.obstacles in
    let e = ap (take (centres w)) (prepare_leaves_lem table q area work a) ∙ laid_taken q.map q.mover w obstacles area in
    ap as_bits e ∙ marks_bits q.map q.mover w obstacles ∙ sym e

module _ (table : List ℤ) (rs : List Rect) where
  same_bits : (g : Ground) → AllAccepted table rs g → as_bits (covered table rs g) ≡ as_bits (with_obstacles rs g)
  unfolding prepared buildings covered with_obstacles
  same_bits g a =
      let q = g.asked in
      let obstacles = rects_of q.obstacles in
      covers_bits q.map q.mover q.window g.area rs obstacles (mark_at q.map q.mover q.window obstacles) (prepare_call table q g.area g.work).baseline
      (prepare_leaves_lem table q g.area g.work a.at_first ∙ laid_marks q.map q.mover q.window obstacles g.area)
      (mark_bit q.map q.mover q.window obstacles) a.covers
      ∙ sym (laid_bits q.map q.mover q.window (rs ++ obstacles) g.area)

  same_prepared : (g : Ground) (obstacles : List ℤ) (work : Work) → rects_of obstacles ≡ rs ++ rects_of g.asked.obstacles
      → (prepare_call table (asked_with obstacles g.asked) g.area work).answer ≡ none
      → with_obstacles rs g ≡ (prepare_call table (asked_with obstacles g.asked) g.area work).baseline
  unfolding with_obstacles asked_with
  same_prepared g obstacles work e a =
      let q = g.asked in
      let w = q.window in
      ap (λ (l : List Rect). laid (centres w) (baseline_of q.map l q.mover w) g.area) (sym e)
      ∙ sym (prepare_leaves_lem table (asked_with obstacles q) g.area work a)

pub covers_are_obstacles : (table : List ℤ) (rs : List Rect) → CoversAreObstacles table rs
unfolding SameZeros
covers_are_obstacles table rs = record {
  areas = same_bits table rs;
  as_prepared = λ g obstacles work a e b. same_bits table rs g a ∙ ap as_bits (same_prepared table rs g obstacles work e b);
  calls = λ i block allow a b. same_zeros table i _ _ _ _ (same_bits table rs block a) (same_bits table rs allow b);
  blocked_alone = λ i block allow a. same_zeros table i _ _ allow allow (same_bits table rs block a) refl;
}
