-- Parts of a list: stored anew, lent and given back, cleared. How long they are, and what stands where.
use Prim.Native.Nat.{ℕ, zero, suc, ◌+◌, ◌-◌, ◌≤◌, ◌<◌}
use mathlib.Core.Path.{◌≡◌, refl, sym, ◌∙◌, ap, ap₂, subst}
use mathlib.Core.List.{List, ◌∷◌, ◌++◌, append_assoc, append-nil}
use native.Mathlib.Omega.{arith}
use lib.ListN.{length, get_or, take, drop, replicate, length-append, length-replicate, length-drop, length-take, take-append-drop, get_or-append}
use lib.Seq.{sets, sets-eq, drop-drop, drop-append-le, drop-append-add, length-take-le, take_at, take-take, drop-length, drop-append_seam, get_or-take, get_or-drop, get_or-append-add}
use Rattle.base_laws.specs.Lists.{padded}
use Rattle.base_laws.specs.Fill.{zeros, over}

pub length_zeros : (n : ℕ) → length (zeros n) ≡ n
length_zeros n = length-replicate {A = ℕ} n 0

pub length_padded : (n : ℕ) (xs : List ℕ) → length xs ≤ n → length (padded n xs) ≡ n
unfolding padded
length_padded n xs h = omega (arith, length-append xs (zeros (n - length xs)), length_zeros (n - length xs))

-- ---- one value throughout
module _ {A : Type 0} (a : A) where
  pub drop_replicate : (k n : ℕ) → drop k (replicate n a) ≡ replicate (n - k) a
  drop_replicate zero n = ap (λ (m : ℕ). replicate m a) (let z : n ≡ n - 0 = omega arith in z)
  drop_replicate (suc k) zero = ap (λ (m : ℕ). replicate m a) (let z : 0 ≡ 0 - suc k = omega arith in z)
  drop_replicate (suc k) (suc n) = drop_replicate k n ∙ ap (λ (m : ℕ). replicate m a) (let z : n - k ≡ suc n - suc k = omega arith in z)

  pub take_replicate : (k n : ℕ) → k ≤ n → take k (replicate n a) ≡ replicate k a
  take_replicate zero n h = refl
  take_replicate (suc k) zero h = absurd (omega arith)
  take_replicate (suc k) (suc n) h = ap (λ (l : List A). a ∷ l) (take_replicate k n (omega arith))

  pub front_cleared : (n : ℕ) (l : List A) → take n (replicate n a ++ l) ≡ replicate n a
  front_cleared n l = take_at (replicate n a) l n (length-replicate {A = A} n a)

  pub whole_cleared : (l : List A) → replicate (length l) a ++ drop (length l) l ≡ replicate (length l) a
  whole_cleared l = ap (λ (q : List A). replicate (length l) a ++ q) (drop-length l) ∙ append-nil (replicate (length l) a)

  -- ---- a list of a alone
  pub all_length : (c : ℕ) {l : List A} → l ≡ replicate c a → length l ≡ c
  all_length c e = ap (λ (q : List A). length q) e ∙ length-replicate {A = A} c a

  pub all_front : (c : ℕ) {l : List A} → l ≡ replicate c a → take c l ≡ replicate c a
  all_front c e = ap (take c) e ∙ take_replicate c c (omega arith)

  -- a list of c entries is one once it is cleared to its end
  pub wiped_whole : (c : ℕ) (l : List A) → length l ≡ c → replicate (length l) a ++ drop (length l) l ≡ replicate c a
  wiped_whole c l e = whole_cleared l ∙ ap (λ (n : ℕ). replicate n a) e

  -- l holds a alone in its first c entries
  module _ (c : ℕ) (l : List A) (clear : take c l ≡ replicate c a) where
    -- w was laid to its front, and as many entries are cleared
    pub laid_cleared : (w : List A) → length w ≤ c → replicate (length w) a ++ drop (length w) (w ++ drop (length w) l) ≡ l
    laid_cleared w h =
        let first : take (length w) l ≡ replicate (length w) a = sym (take-take (length w) c l h) ∙ ap (take (length w)) clear ∙ take_replicate (length w) c h in
        ap₂ (λ (x y : List A). x ++ y) (sym first) (drop-append_seam w (drop (length w) l)) ∙ take-append-drop (length w) l

    -- k of them, which are c, are lent and come back as they were
    module _ (k : ℕ) (e : k ≡ c) where
      pub part_long : k ≤ length l
      part_long = omega (arith, length-take c l, ap (λ (q : List A). length q) clear, length-replicate {A = A} c a)

      pub part_count : k ≡ length (take k l)
      part_count = omega (arith, part_long, length-take k l)

      pub part_clear : take k l ≡ replicate c a
      part_clear = ap (λ (j : ℕ). take j l) e ∙ clear

      pub part_back : (ys : List A) → ys ≡ replicate c a → ys ++ drop k l ≡ l
      part_back ys f = ap (λ (q : List A). q ++ drop k l) (f ∙ sym part_clear) ∙ take-append-drop k l

      pub part_size : (ys : List A) → ys ≡ replicate c a → length (ys ++ drop k l) ≡ length l
      part_size ys f = ap (λ (q : List A). length q) (part_back ys f)

module _ {A : Type 0} (l : List A) (at : ℕ) where
  -- ---- a part stored
  pub length_over : (ys : List A) → at + length ys ≤ length l → length (over l at ys) ≡ length l
  unfolding over
  length_over ys h =
      omega (
        arith,
        length-append (take at l ++ ys) (drop (at + length ys) l),
        length-append (take at l) ys,
        length-take-le at l (let w : at ≤ length l = omega arith in w),
        length-drop (at + length ys) l,
      )

  -- one entry after the other
  pub over_sets : (ys : List A) → at + length ys ≤ length l → sets l at ys ≡ over l at ys
  unfolding over
  over_sets ys h = sets-eq ys l at h

  -- ---- a part lent
  pub over_part : (k : ℕ) (ys : List A) → length ys ≡ k → take at l ++ (ys ++ drop k (drop at l)) ≡ over l at ys
  unfolding over
  over_part k ys e =
      ap (λ (q : List A). take at l ++ (ys ++ q)) (drop-drop k at l ∙ ap (λ (j : ℕ). drop (at + j) l) (sym e))
      ∙ sym (append_assoc (take at l) ys (drop (at + length ys) l))

  -- k entries were lent, and the first n of them were stored anew
  pub over_lent : (k n : ℕ) (ys : List A) → length ys ≡ n → n ≤ k → at + k ≤ length l
      → take at l ++ ((ys ++ drop n (take k (drop at l))) ++ drop k (drop at l)) ≡ over l at ys
  over_lent k n ys e h room =
      let w : List A = drop at l in
      let t = length-take-le k w (let x : k ≤ length w = omega (arith, length-drop at l) in x) in
      let d : drop n (take k w) ++ drop k w ≡ drop n w = sym (drop-append-le n (take k w) (drop k w) (omega arith)) ∙ ap (drop n) (take-append-drop k w) in
      ap (λ (q : List A). take at l ++ q) (append_assoc ys (drop n (take k w)) (drop k w) ∙ ap (λ (q : List A). ys ++ q) d)
      ∙ over_part n ys e

  -- they came back as they were
  pub part_same : (k : ℕ) (ys : List A) → ys ≡ take k (drop at l) → take at l ++ (ys ++ drop k (drop at l)) ≡ l
  part_same k ys e =
      ap (λ (q : List A). take at l ++ (q ++ drop k (drop at l))) e ∙ ap (λ (q : List A). take at l ++ q) (take-append-drop k (drop at l)) ∙ take-append-drop at l

  -- ---- what stands where
  module _ (d : A) (ys : List A) (room : at + length ys ≤ length l) where
    front_long : length (take at l) ≡ at
    front_long = length-take-le at l (omega arith)

    from_part : (j : ℕ) → get_or (over l at ys) (at + j) d ≡ get_or (ys ++ drop (length ys) (drop at l)) j d
    from_part j =
        ap (λ (q : List A). get_or q (at + j) d) (sym (over_part (length ys) ys refl))
        ∙ subst (λ (n : ℕ). get_or (take at l ++ (ys ++ drop (length ys) (drop at l))) (n + j) d ≡ get_or (ys ++ drop (length ys) (drop at l)) j d) front_long
        (get_or-append-add (take at l) (ys ++ drop (length ys) (drop at l)) j d)

    pub over_before : (i : ℕ) → i < at → get_or (over l at ys) i d ≡ get_or l i d
    over_before i h =
        ap (λ (q : List A). get_or q i d) (sym (over_part (length ys) ys refl))
        ∙ get_or-append (take at l) (ys ++ drop (length ys) (drop at l)) d i (omega (arith, front_long)) ∙ get_or-take at l i d h

    pub over_inside : (j : ℕ) → j < length ys → get_or (over l at ys) (at + j) d ≡ get_or ys j d
    over_inside j h = from_part j ∙ get_or-append ys (drop (length ys) (drop at l)) d j h

    pub over_behind : (j : ℕ) → get_or (over l at ys) (at + length ys + j) d ≡ get_or l (at + length ys + j) d
    over_behind j =
        let e : at + length ys + j ≡ at + (length ys + j) = omega arith in
        ap (λ (i : ℕ). get_or (over l at ys) i d) e ∙ from_part (length ys + j) ∙ get_or-append-add ys (drop (length ys) (drop at l)) j d
        ∙ get_or-drop (length ys) (drop at l) j d ∙ get_or-drop at l (length ys + j) d ∙ ap (λ (i : ℕ). get_or l i d) (sym e)

-- ---- a part stored after another
module _ {A : Type 0} where
  pub over_after : (fs ds ys : List A) (at : ℕ) → length fs ≡ at → over (fs ++ ds) at ys ≡ (fs ++ ys) ++ drop (length ys) ds
  unfolding over
  over_after fs ds ys at e =
      ap (λ (l : List A). (l ++ ys) ++ drop (at + length ys) (fs ++ ds)) (take_at fs ds at e)
      ∙ ap (λ (l : List A). (fs ++ ys) ++ l) (ap (λ (k : ℕ). drop (k + length ys) (fs ++ ds)) (sym e) ∙ drop-append-add fs ds (length ys))

  pub over_twice : (l : List A) (at : ℕ) (ys zs : List A) (next : ℕ) → next ≡ at + length ys → at ≤ length l → over (over l at ys) next zs ≡ over l at (ys ++ zs)
  unfolding over
  over_twice l at ys zs next e h =
      over_after (take at l ++ ys) (drop (at + length ys) l) zs next
      (length-append (take at l) ys ∙ ap (λ (k : ℕ). k + length ys) (length-take-le at l h) ∙ sym e)
      ∙ ap₂ (λ (x y : List A). x ++ y) (append_assoc (take at l) ys zs)
      (drop-drop (length zs) (at + length ys) l ∙ ap (λ (k : ℕ). drop k l) (let q : at + length ys + length zs ≡ at + length (ys ++ zs) = omega (arith, length-append ys zs) in q))
