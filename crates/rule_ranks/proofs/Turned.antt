-- Exchanging the ends of the entrance changes no answer: what was measured from the one end is measured from the other, and the checks treat both alike.
use Prim.Native.Nat.{ℕ, ◌*◌, ◌<◌}
use mathlib.Core.Path.{◌≡◌, refl, sym, ap, ◌∙◌}
use mathlib.Core.Bool.{Bool, true, false, ◌&&◌, and_comm}
use mathlib.Core.Option.{Option, none, some}
use native.Mathlib.Omega.{arith}
use lib.Dec.{leb, eqb}
use lib.IntN.{ℤ, pos, neg_ℤ, ◌+ℤ◌, ◌-ℤ◌, ◌*ℤ◌}
use borrow.Author.Tests.{eqb-true, eq-eqb}
use Rattle.base_laws.proofs.Ints.{minus_parts, le_z_fact, le_z_not, fact_le_z, fact_nle_z}
use Rattle.base_laws.proofs.Magnitudes.{abs_neg}
use Rattle.base_laws.proofs.Members.{same_truth}
use Rattle.base_laws.proofs.Products.{itself, natural, difference, product, times, opposite, equal}
use Rattle.base_model.specs.Answers.{Said, first}
use Rattle.base_model.specs.declared.Rect.{Rect}
use Rattle.base_model.specs.declared.Site.{Site}
use Rattle.rule_ranks.specs.declared.Vector.{Vector}
use Rattle.rule_ranks.specs.declared.Measure.{Measure}
use Rattle.rule_ranks.specs.Measures.{square, squared_length, cross, segment, from_first, from_second, projection_twice, beside_end, between_ends, measure_of}
use Rattle.rule_ranks.specs.Ranks.{on_map, same_point, site_fits, rank_checks, rank_call}
use Rattle.rule_ranks.specs.Sizes.{FitsWords}
use Rattle.rule_ranks.specs.Nearest.{turned_round, EitherEnd}
use Rattle.rule_ranks.proofs.Given.{call_passes, call_stops}
use Rattle.rule_ranks.proofs.Ends.{at_first, at_second, at_between, measure_cases}
use Rattle.rule_ranks.proofs.Sizes.{fits_words}
use Rattle.rule_ranks.proofs.Vectors.{turned, less_twice, dot_turned}

-- ---- the ways
cross_turned : (u v : Vector) → cross (less_twice u v) (turned v) ≡ neg_ℤ (cross u v)
unfolding cross less_twice turned
cross_turned u v =
    let a = itself u.x in let b = itself u.y in
    let c = itself v.x in let d = itself v.y in
    equal
    (difference (product (difference a (times 2 c)) (opposite d)) (product (difference b (times 2 d)) (opposite c)))
    (opposite (difference (product a d) (product b c)))
    (omega arith)

-- one coordinate: f and g are the ends', c twice the centre's
module _ (f g : ℕ) where
  other_way : pos f -ℤ pos g ≡ neg_ℤ (pos g -ℤ pos f)
  other_way = equal (difference (natural f) (natural g)) (opposite (difference (natural g) (natural f))) (omega arith)

  other_end : (c : ℤ) → c -ℤ pos 2 *ℤ pos g ≡ c -ℤ pos 2 *ℤ pos f -ℤ pos 2 *ℤ (pos g -ℤ pos f)
  other_end c =
      equal
      (difference (itself c) (natural (2 * g)))
      (difference (difference (itself c) (natural (2 * f))) (times 2 (difference (natural g) (natural f))))
      (omega arith)

segment_turned : (s : Site) → segment (turned_round s) ≡ turned (segment s)
unfolding segment turned_round turned
segment_turned s = cc (other_way s.first.x s.second.x, other_way s.first.y s.second.y)

first_turned : (s : Site) (r : Rect) → from_first (turned_round s) r ≡ from_second s r
unfolding from_first from_second segment turned_round
first_turned s r = cc (other_end s.first.x s.second.x (r.left +ℤ r.right), other_end s.first.y s.second.y (r.top +ℤ r.bottom))

-- ---- the measure
module _ (s : Site) (r : Rect) where
  same_length : squared_length (segment (turned_round s)) ≡ squared_length (segment s)
  unfolding squared_length square turned
  same_length = rw (segment_turned s, abs_neg (segment s).x, abs_neg (segment s).y)

  projection_turned : projection_twice (turned_round s) r ≡ pos (2 * squared_length (segment s)) -ℤ projection_twice s r
  unfolding projection_twice from_second less_twice
  projection_turned = rw (first_turned s r, segment_turned s) (dot_turned (from_first s r) (segment s))

  between_turned : between_ends (turned_round s) r ≡ between_ends s r
  unfolding between_ends turned_round square from_second less_twice
  between_turned =
      cc (same_length, first_turned s r, segment_turned s, cross_turned (from_first s r) (segment s), abs_neg (cross (from_first s r) (segment s)))

  -- the projection p becomes 2 l − p for the squared length l, so that p ≤ 0 and 2 l ≤ p change places
  same_measure : 0 < squared_length (segment s) → measure_of (turned_round s) r ≡ measure_of s r
  unfolding turned_round
  same_measure long =
      let t = turned_round s in
      let p = projection_twice t r in
      let whole = pos (2 * squared_length (segment t)) in
      let same = same_length in
      let rest = rw (← projection_turned) at (minus_parts (pos (2 * squared_length (segment s))) (projection_twice s r)) in
      measure_cases s r (λ (m : Measure). measure_of t r ≡ m)
      (λ h.
      at_second t r (fact_nle_z p (pos 0) (omega (arith, le_z_fact))) (fact_le_z whole p (omega (arith, le_z_fact)))
      ∙ ap (beside_end s.radius) (sym (first_turned t r)))
      (λ h k. at_first t r (fact_le_z p (pos 0) (omega (arith, le_z_fact))) ∙ ap (beside_end s.radius) (first_turned s r))
      (λ h k. at_between t r (fact_nle_z p (pos 0) (omega (arith, le_z_not))) (fact_nle_z whole p (omega (arith, le_z_not))) ∙ between_turned)

-- ---- the checks
eqb_turned : (m n : ℕ) → eqb m n ≡ eqb n m
eqb_turned m n = same_truth (eqb m n) (eqb n m) (λ e. eq-eqb n m (sym (eqb-true m n e))) (λ e. eq-eqb m n (sym (eqb-true n m e)))

and_turned : (a b c : Bool) → a && b && c ≡ a && c && b
and_turned true b c = and_comm b c
and_turned false b c = refl

same_checks : (across down : ℕ) (s : Site) (r : Rect) → first (rank_checks across down (turned_round s) r) ≡ first (rank_checks across down s r)
unfolding rank_checks site_fits same_point turned_round
same_checks across down s r =
    cc (
      and_turned (leb s.radius 1024) (on_map across down s.first) (on_map across down s.second),
      eqb_turned s.first.x s.second.x,
      eqb_turned s.first.y s.second.y,
    )

-- ---- the call
pub either_end : EitherEnd
unfolding EitherEnd FitsWords
either_end across down s r = go (first (rank_checks across down s r)) refl
  where
    go : (o : Option Said) → first (rank_checks across down s r) ≡ o → rank_call across down (turned_round s) r ≡ rank_call across down s r
    go none e =
        cc (
          call_passes across down (turned_round s) r (same_checks across down s r ∙ e),
          call_passes across down s r e,
          same_measure s r (fits_words across down s r e).some,
        )
    go (some d) e = cc (call_stops across down (turned_round s) r d (same_checks across down s r ∙ e), call_stops across down s r d e)
