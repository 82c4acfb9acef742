-- The difference grid over an area: what adding spans leaves, and what two running sums then leave, at strides 1 and s. Each stage is a difference of two sums over the spans,
-- so no entry passes the number of spans.
use mathlib.Core.Path.{◌≡◌, refl, ap, ◌∙◌, subst}
use mathlib.Core.Bool.{Bool, true, false, ◌&&◌}
use mathlib.Core.List.{List, [], ◌∷◌}
use Prim.Native.Nat.{ℕ, zero, suc, ◌+◌, ◌-◌, ◌*◌, ◌/◌, ◌%◌, ◌≤◌, ◌<◌, ◌^◌}
use native.Mathlib.Nat.{mul-le-mul_right}
use native.Mathlib.Omega.{arith}
use lib.IntN.{ℤ, pos, negsuc, ◌+ℤ◌}
use lib.Signed.{mag}
use lib.Dec.{ltb, leb, eqb}
use lib.ListN.{length, get_or, drop, length-set}
use lib.Seq.{get_or-set_same, get_or-set_other, drop-set-lt}
use mir.Syntax.{w32}
use mir.Val.{SFits, hbits}
use borrow.Author.Tests.{ltb-true, ltb-false, eqb-true, eqb-false}
use Rattle.base_laws.specs.Ints.{up, dn}
use Rattle.base_laws.proofs.Ints.{add_parts, eq_parts, sfits_parts, mag_parts, mag_up}
use Rattle.ground_rects.specs.declared.Span.{Span}
use Rattle.ground_rects.specs.Spans.{in_span}
use Rattle.ground_counts.specs.Counts.{
  bit,
  count_of,
  live,
  at_top_left,
  at_top_right,
  at_bottom_left,
  at_bottom_right,
  plus1,
  minus1,
  row_plus1,
  row_minus1,
  cover1,
  sum_of,
  Inside,
  none,
  more,
  Diff,
  Stamped,
  bumped,
  stamp_of,
  ScanTo,
  Scan,
  SumsFit,
}
use Rattle.ground_counts.proofs.Corners.{live_left, live_top, row_zero, row_step, col_zero, col_step}

diff_sfits : (z : ℤ) (p m : ℕ) → Diff z p m → p < 2 ^ hbits w32 → m ≤ 2 ^ hbits w32 → SFits w32 z
diff_sfits z p m d h k = sfits_parts w32 z (omega arith) (omega arith)

pub diff_pos : (z : ℤ) (p : ℕ) → Diff z p 0 → z ≡ pos p
diff_pos z p d = eq_parts z (pos p) (omega arith)

-- ---- sums over the spans
cover_count : (s : ℕ) (ps : List Span) (i : ℕ) → sum_of (cover1 s) ps i ≡ count_of ps (i % s) (i / s)
unfolding sum_of count_of cover1
cover_count s [] i = refl
cover_count s (p ∷ ps) i = ap (λ (n : ℕ). bit (in_span p (i % s) (i / s)) + n) (cover_count s ps i)

bit_le : (t : Bool) → bit t ≤ 1
bit_le true = omega arith
bit_le false = omega arith

module _ (s : ℕ) where
  rows_zero : (ps : List Span) → sum_of (row_plus1 s) ps 0 + sum_of (minus1 s) ps 0 ≡ sum_of (row_minus1 s) ps 0 + sum_of (plus1 s) ps 0
  unfolding sum_of
  rows_zero [] = refl
  rows_zero (p ∷ ps) = omega (arith, rows_zero ps, row_zero s p)

  rows_step : (ps : List Span) (i : ℕ) → sum_of (row_plus1 s) ps (i + 1) + sum_of (row_minus1 s) ps i + sum_of (minus1 s) ps (i + 1)
      ≡ sum_of (row_minus1 s) ps (i + 1) + sum_of (row_plus1 s) ps i + sum_of (plus1 s) ps (i + 1)
  unfolding sum_of
  rows_step [] i = refl
  rows_step (p ∷ ps) i = omega (arith, rows_step ps i, row_step s p i)

  cols_zero : (ps : List Span) → 0 < s → Inside s ps → (i : ℕ) → i < s → sum_of (cover1 s) ps i + sum_of (row_minus1 s) ps i ≡ sum_of (row_plus1 s) ps i
  unfolding sum_of
  cols_zero [] hs none i h = refl
  cols_zero (p ∷ ps) hs (more hr a) i h = omega (arith, cols_zero ps hs a i h, col_zero s p hs hr i h)

  cols_step : (ps : List Span) → 0 < s → Inside s ps → (i : ℕ) → sum_of (cover1 s) ps (i + s) + sum_of (row_minus1 s) ps (i + s) ≡ sum_of (cover1 s) ps i + sum_of (row_plus1 s) ps (i + s)
  unfolding sum_of
  cols_step [] hs none i = refl
  cols_step (p ∷ ps) hs (more hr a) i = omega (arith, cols_step ps hs a i, col_step s p hs hr i)

  row_plus_le : (ps : List Span) (i : ℕ) → sum_of (row_plus1 s) ps i ≤ length ps
  unfolding sum_of row_plus1
  row_plus_le [] i = omega arith
  row_plus_le (p ∷ ps) i = omega (arith, row_plus_le ps i, bit_le (live p && (leb (at_top_left s p) i && ltb i (at_top_right s p))))

  row_minus_le : (ps : List Span) (i : ℕ) → sum_of (row_minus1 s) ps i ≤ length ps
  unfolding sum_of row_minus1
  row_minus_le [] i = omega arith
  row_minus_le (p ∷ ps) i = omega (arith, row_minus_le ps i, bit_le (live p && (leb (at_bottom_left s p) i && ltb i (at_bottom_right s p))))

  plus_le : (ps : List Span) (i : ℕ) → sum_of (plus1 s) ps i ≤ 2 * length ps
  unfolding sum_of plus1
  plus_le [] i = omega arith
  plus_le (p ∷ ps) i = omega (arith, plus_le ps i, bit_le (live p && eqb i (at_top_left s p)), bit_le (live p && eqb i (at_bottom_right s p)))

  minus_le : (ps : List Span) (i : ℕ) → sum_of (minus1 s) ps i ≤ 2 * length ps
  unfolding sum_of minus1
  minus_le [] i = omega arith
  minus_le (p ∷ ps) i = omega (arith, minus_le ps i, bit_le (live p && eqb i (at_top_right s p)), bit_le (live p && eqb i (at_bottom_left s p)))

pub count_le : (ps : List Span) (x y : ℕ) → count_of ps x y ≤ length ps
unfolding count_of
count_le [] x y = omega arith
count_le (p ∷ ps) x y = omega (arith, count_le ps x y, bit_le (in_span p x y))

-- ---- adding spans
pub stamped_none : (s n : ℕ) (v : List ℤ) → n ≤ length v → ((i : ℕ) → i < n → get_or v i (pos 0) ≡ pos 0) → Stamped s n [] v
unfolding sum_of
stamped_none s n v h z = record { long = h; at = λ i q. rw (z i q) }

-- z is a − b, and is added at k alone
bump_by : (v : List ℤ) (k i p m a b : ℕ) (z : ℤ) (t : Bool) → eqb i k ≡ t → k < length v → (t ≡ true → Diff z a b) → (t ≡ false → a ≡ b) → Diff (get_or v i (pos 0)) p m
    → Diff (get_or (bumped v k z) i (pos 0)) (p + a) (m + b)
unfolding bumped
bump_by v k i p m a b z true e h f g d =
    let q : i ≡ k = eqb-true i k e in
    let y = f refl in
    rw (q, get_or-set_same v k (get_or v k (pos 0) +ℤ z) (pos 0) h)
    (let d' = rw q at d in omega (arith, add_parts (get_or v k (pos 0)) z))
bump_by v k i p m a b z false e h f g d =
    let y = g refl in
    rw (get_or-set_other v k i (get_or v k (pos 0) +ℤ z) (pos 0) (eqb-false i k e)) (omega arith)

bump_up : (v : List ℤ) (k i p m : ℕ) → k < length v → Diff (get_or v i (pos 0)) p m → Diff (get_or (bumped v k (pos 1)) i (pos 0)) (p + bit (eqb i k)) m
bump_up v k i p m h d =
    omega (arith, bump_by v k i p m (bit (eqb i k)) 0 (pos 1) (eqb i k) refl h (λ e. omega (arith, ap bit e)) (λ e. omega (arith, ap bit e)) d)

bump_down : (v : List ℤ) (k i p m : ℕ) → k < length v → Diff (get_or v i (pos 0)) p m → Diff (get_or (bumped v k (negsuc 0)) i (pos 0)) p (m + bit (eqb i k))
bump_down v k i p m h d =
    omega (arith, bump_by v k i p m 0 (bit (eqb i k)) (negsuc 0) (eqb i k) refl h (λ e. omega (arith, ap bit e)) (λ e. omega (arith, ap bit e)) d)

pub length_bump : (v : List ℤ) (k : ℕ) (z : ℤ) → length (bumped v k z) ≡ length v
unfolding bumped
length_bump v k z = length-set v k (get_or v k (pos 0) +ℤ z)

rest_bump : (v : List ℤ) (k n : ℕ) (z : ℤ) → k < n → drop n (bumped v k z) ≡ drop n v
unfolding bumped
rest_bump v k n z h = drop-set-lt n v k (get_or v k (pos 0) +ℤ z) h

module _ (s n : ℕ) (p : Span) (ps : List Span) (v : List ℤ) (fits : live p ≡ true → at_bottom_right s p < n) (a : Stamped s n ps v) where
  stamp_by : (t : Bool) → live p ≡ t → Stamped s n (p ∷ ps) (stamp_of s p v)
  unfolding stamp_of sum_of plus1 minus1
  stamp_by true e =
      let hl = live_left p e in
      let ht = mul-le-mul_right s (live_top p e) in
      let hd = fits e in
      let hn = a.long in
      let v₁ = bumped v (at_top_left s p) (pos 1) in
      let v₂ = bumped v₁ (at_top_right s p) (negsuc 0) in
      let v₃ = bumped v₂ (at_bottom_left s p) (negsuc 0) in
      let n₁ = length_bump v (at_top_left s p) (pos 1) in
      let n₂ = length_bump v₁ (at_top_right s p) (negsuc 0) in
      let n₃ = length_bump v₂ (at_bottom_left s p) (negsuc 0) in
      let n₄ = length_bump v₃ (at_bottom_right s p) (pos 1) in
      rw e (record {
        long = omega arith;
        at = λ i h.
            let d₁ = bump_up v (at_top_left s p) i _ _ (omega arith) (a.at i h) in
            let d₂ = bump_down v₁ (at_top_right s p) i _ _ (omega arith) d₁ in
            let d₃ = bump_down v₂ (at_bottom_left s p) i _ _ (omega arith) d₂ in
            let d₄ = bump_up v₃ (at_bottom_right s p) i _ _ (omega arith) d₃ in
            rw e (omega arith);
      })
  stamp_by false e = rw e (record { long = a.long; at = λ i h. rw e (omega (arith, a.at i h)) })

  pub stamp_law : Stamped s n (p ∷ ps) (stamp_of s p v)
  stamp_law = stamp_by (live p) refl

  rest_by : (t : Bool) → live p ≡ t → drop n (stamp_of s p v) ≡ drop n v
  unfolding stamp_of
  rest_by true e =
      let hl = live_left p e in
      let ht = mul-le-mul_right s (live_top p e) in
      let hd = fits e in
      let v₁ = bumped v (at_top_left s p) (pos 1) in
      let v₂ = bumped v₁ (at_top_right s p) (negsuc 0) in
      let v₃ = bumped v₂ (at_bottom_left s p) (negsuc 0) in
      rw e
      (rest_bump v₃ (at_bottom_right s p) n (pos 1) (omega arith)
      ∙ rest_bump v₂ (at_bottom_left s p) n (negsuc 0) (omega arith)
      ∙ rest_bump v₁ (at_top_right s p) n (negsuc 0) (omega arith)
      ∙ rest_bump v (at_top_left s p) n (pos 1) (omega arith))
  rest_by false e = rw e

  -- nothing past the first n entries changes
  pub stamp_rest : drop n (stamp_of s p v) ≡ drop n v
  stamp_rest = rest_by (live p) refl

-- an entry is at most twice the number of spans
pub stamped_small : (s n : ℕ) (ps : List Span) (v : List ℤ) (K : ℕ) → Stamped s n ps v → 2 * length ps < K → (i : ℕ) → i < n → mag (get_or v i (pos 0)) < K
stamped_small s n ps v K a h i q = mag_parts (get_or v i (pos 0)) K (omega (arith, a.at i q, plus_le s ps i, minus_le s ps i)) (omega (arith, a.at i q, plus_le s ps i, minus_le s ps i))

-- ---- running sums of differences
module _ (v : List ℤ) (d n : ℕ) (p m P M : ℕ → ℕ) (hd : 0 < d)
    (at : (i : ℕ) → i < n → Diff (get_or v i (pos 0)) (p i) (m i))
    (zero-law : (i : ℕ) → i < d → P i + m i ≡ M i + p i)
    (step-law : (i : ℕ) → P (i + d) + M i + m (i + d) ≡ M (i + d) + P i + p (i + d)) where
  module _ (k : ℕ) (out : List ℤ) (hk : k ≤ n) (a : ScanTo v d k out) where
    scan_one : (i : ℕ) (t : Bool) → ltb i d ≡ t → i < k → ((j : ℕ) → j < i → Diff (get_or out j (pos 0)) (P j) (M j)) → Diff (get_or out i (pos 0)) (P i) (M i)
    scan_one i true e h ih =
        let q = ltb-true i d e in
        rw (a.base i q h) (omega (arith, at i (omega arith), zero-law i q))
    scan_one i false e h ih =
        let q = ltb-false i d e in
        let j : (i - d) + d ≡ i = omega arith in
        subst (λ (x : ℕ). Diff (get_or out x (pos 0)) (P x) (M x)) j
        (rw (a.step (i - d) (omega arith))
        (omega (arith, ih (i - d) (omega arith), add_parts (get_or v (i - d + d) (pos 0)) (get_or out (i - d) (pos 0)), at (i - d + d) (omega arith), step-law (i - d))))

    scan_go : (f i : ℕ) → i < f → i < k → Diff (get_or out i (pos 0)) (P i) (M i)
    scan_go zero i hf h = absurd (omega arith)
    scan_go (suc f) i hf h = scan_one i (ltb i d) refl h (λ j q. scan_go f j (omega arith) (omega arith))

    pub scan_at : (i : ℕ) → i < k → Diff (get_or out i (pos 0)) (P i) (M i)
    scan_at i h = scan_go (suc i) i (omega arith) h

  pub scan_room : (K : ℕ) → K < 2 ^ hbits w32 → ((i : ℕ) → P i ≤ K) → ((i : ℕ) → M i ≤ K) → SumsFit v d n
  scan_room K h_k h_p h_m = record {
    room = λ out i h a.
        let r = scan_at (i + d) out (omega arith) a i (omega arith) in
        diff_sfits (get_or v (i + d) (pos 0) +ℤ get_or out i (pos 0)) (P (i + d)) (M (i + d))
        (omega (arith, add_parts (get_or v (i + d) (pos 0)) (get_or out i (pos 0)), at (i + d) h, step-law i))
        (omega (arith, h_p (i + d))) (omega (arith, h_m (i + d)));
  }

-- ---- along the rows, then down the columns
module _ (s n : ℕ) (ps : List Span) (v : List ℤ) (hs : 0 < s) (ins : Inside s ps) (a : Stamped s n ps v) (K : ℕ) (few : length ps ≤ K) (h_k : K < 2 ^ hbits w32) where
  row_zeros : (i : ℕ) → i < 1 → sum_of (row_plus1 s) ps i + sum_of (minus1 s) ps i ≡ sum_of (row_minus1 s) ps i + sum_of (plus1 s) ps i
  row_zeros i h = let e : i ≡ 0 = omega arith in rw e (rows_zero s ps)

  pub rows_room : SumsFit v 1 n
  rows_room = scan_room v 1 n (sum_of (plus1 s) ps) (sum_of (minus1 s) ps) (sum_of (row_plus1 s) ps) (sum_of (row_minus1 s) ps) (omega arith) a.at row_zeros (rows_step s ps) K h_k
      (λ i. omega (arith, row_plus_le s ps i)) (λ i. omega (arith, row_minus_le s ps i))

  module _ (v₁ : List ℤ) (a₁ : Scan v 1 n v₁) where
    rows_at : (i : ℕ) → i < n → Diff (get_or v₁ i (pos 0)) (sum_of (row_plus1 s) ps i) (sum_of (row_minus1 s) ps i)
    rows_at = scan_at v 1 n (sum_of (plus1 s) ps) (sum_of (minus1 s) ps) (sum_of (row_plus1 s) ps) (sum_of (row_minus1 s) ps) (omega arith) a.at row_zeros (rows_step s ps) n v₁ (omega arith) a₁.sums

    col_zeros : (i : ℕ) → i < s → sum_of (cover1 s) ps i + sum_of (row_minus1 s) ps i ≡ 0 + sum_of (row_plus1 s) ps i
    col_zeros i h = omega (arith, cols_zero s ps hs ins i h)

    col_steps : (i : ℕ) → sum_of (cover1 s) ps (i + s) + 0 + sum_of (row_minus1 s) ps (i + s) ≡ 0 + sum_of (cover1 s) ps i + sum_of (row_plus1 s) ps (i + s)
    col_steps i = omega (arith, cols_step s ps hs ins i)

    pub cols_room : SumsFit v₁ s n
    cols_room = scan_room v₁ s n (sum_of (row_plus1 s) ps) (sum_of (row_minus1 s) ps) (sum_of (cover1 s) ps) (λ i. 0) hs rows_at col_zeros col_steps K h_k
        (λ i. omega (arith, cover_count s ps i, count_le ps (i % s) (i / s))) (λ i. omega arith)

    pub counts_of : (v₂ : List ℤ) → Scan v₁ s n v₂ → (i : ℕ) → i < n → get_or v₂ i (pos 0) ≡ pos (count_of ps (i % s) (i / s))
    counts_of v₂ a₂ i h =
        diff_pos (get_or v₂ i (pos 0)) (sum_of (cover1 s) ps i)
        (scan_at v₁ s n (sum_of (row_plus1 s) ps) (sum_of (row_minus1 s) ps) (sum_of (cover1 s) ps) (λ i. 0) hs rows_at col_zeros col_steps n v₂ (omega arith) a₂.sums i h)
        ∙ ap pos (cover_count s ps i)

-- ---- a bump changes an entry by at most one
mag_bump : (z w : ℤ) (K : ℕ) → up w + dn z ≤ dn w + up z + 1 → dn w + up z ≤ up w + dn z + 1 → mag z < K → mag w < K + 1
mag_bump z w K p q h = let k = mag_up z h in mag_parts w (K + 1) (omega arith) (omega arith)

pub sum_mag : (x z : ℤ) (K : ℕ) → up z ≤ 1 → dn z ≤ 1 → mag x < K → mag (x +ℤ z) < K + 1
sum_mag x z K p q h = let e = add_parts x z in mag_bump x (x +ℤ z) K (omega arith) (omega arith) h

bump_mag_by : (v : List ℤ) (k i K : ℕ) (z : ℤ) (t : Bool) → eqb i k ≡ t → k < length v → up z ≤ 1 → dn z ≤ 1 → mag (get_or v i (pos 0)) < K → mag (get_or (bumped v k z) i (pos 0)) < K + 1
unfolding bumped
bump_mag_by v k i K z true e h p q d =
    let j : i ≡ k = eqb-true i k e in
    let d' = rw j at d in
    rw (j, get_or-set_same v k (get_or v k (pos 0) +ℤ z) (pos 0) h) (sum_mag (get_or v k (pos 0)) z K p q d')
bump_mag_by v k i K z false e h p q d = rw (get_or-set_other v k i (get_or v k (pos 0) +ℤ z) (pos 0) (eqb-false i k e)) (omega arith)

pub bump_mag : (v : List ℤ) (k i K : ℕ) (z : ℤ) → k < length v → up z ≤ 1 → dn z ≤ 1 → mag (get_or v i (pos 0)) < K → mag (get_or (bumped v k z) i (pos 0)) < K + 1
bump_mag v k i K z h p q d = bump_mag_by v k i K z (eqb i k) refl h p q d
