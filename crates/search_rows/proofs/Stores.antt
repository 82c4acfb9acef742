-- What a store does to an area whose used entries are followed by zeros: `padded_put` writes at the end of what is used, `padded_trail` takes zeros at the
-- end of the used entries for unused ones.
use Prim.Native.Nat.{ℕ, ◌+◌, ◌-◌, ◌≤◌}
use mathlib.Core.Path.{◌≡◌, refl, sym, ◌∙◌, ap}
use mathlib.Core.List.{List, [], ◌∷◌, ◌++◌, append_assoc, append-nil}
use native.Mathlib.Omega.{arith}
use lib.ListN.{length, take, drop, get_or, set, length-append, replicate-append-replicate}
use lib.Seq.{drop-append-add, drop-append-le, drop_at, take_at, get_or_at}
use Rattle.base_laws.specs.Lists.{padded}
use Rattle.base_laws.specs.Fill.{zeros, over}
use Rattle.base_laws.proofs.Stores.{length_zeros, drop_replicate, length_padded, over_sets, over_after}

module _ (n : ℕ) (xs ys zs rest : List ℕ) where
  -- the entries from the end of xs on are stored anew: one more entry, a row, or the last entry changed
  pub padded_put : length ys ≤ length zs → length xs + length zs ≤ n → over (padded n (xs ++ ys) ++ rest) (length xs) zs ≡ padded n (xs ++ zs) ++ rest
  unfolding padded
  padded_put h k =
      let a : ℕ = n - length (xs ++ ys) in
      let d : ℕ = length zs - length ys in
      let A : List ℕ = ys ++ (zeros a ++ rest) in
      let e : ((xs ++ ys) ++ zeros a) ++ rest ≡ xs ++ A = simp append_assoc in
      let l = length-append xs ys in
      let m = length-append xs zs in
      let w : drop (length zs) A ≡ zeros (n - length (xs ++ zs)) ++ rest =
      ap (λ (j : ℕ). drop j A) (let z : length zs ≡ length ys + d = omega arith in z)
      ∙ drop-append-add ys (zeros a ++ rest) d
      ∙ drop-append-le d (zeros a) rest (rw (length_zeros a) (omega arith))
      ∙ ap (λ (q : List ℕ). q ++ rest) (drop_replicate 0 d a ∙ ap zeros (let z : a - d ≡ n - length (xs ++ zs) = omega arith in z)) in
      ap (λ (q : List ℕ). over q (length xs) zs) e ∙ over_after xs A zs (length xs) refl
      ∙ ap (λ (q : List ℕ). (xs ++ zs) ++ q) w
      ∙ sym (append_assoc (xs ++ zs) (zeros (n - length (xs ++ zs))) rest)

pub padded_trail : (n m : ℕ) (xs : List ℕ) → length xs + m ≤ n → padded n (xs ++ zeros m) ≡ padded n xs
unfolding padded
padded_trail n m xs h =
    let l = length-append xs (zeros m) in
    let r = length_zeros m in
    append_assoc xs (zeros m) (zeros (n - length (xs ++ zeros m)))
    ∙ ap (λ (q : List ℕ). xs ++ q)
    (replicate-append-replicate {A = ℕ} m (n - length (xs ++ zeros m)) 0 ∙ ap zeros (let z : m + (n - length (xs ++ zeros m)) ≡ n - length xs = omega arith in z))

-- an append: nothing was there before
pub padded_add : (n : ℕ) (xs zs rest : List ℕ) (k : ℕ) → k ≡ length xs → length xs + length zs ≤ n → over (padded n xs ++ rest) k zs ≡ padded n (xs ++ zs) ++ rest
padded_add n xs zs rest k e h =
    ap (λ (j : ℕ). over (padded n xs ++ rest) j zs) e
    ∙ ap (λ (q : List ℕ). over (padded n q ++ rest) (length xs) zs) (sym (append-nil xs))
    ∙ padded_put n xs [] zs rest (omega arith) h

-- a part at the end, itself padded up to p, is cleared
pub padded_cut : (n p : ℕ) (xs es rest : List ℕ) (at : ℕ) → at ≡ length xs → length es ≤ p → length xs + p ≤ n
    → over (padded n (xs ++ padded p es) ++ rest) at (zeros (length es)) ≡ padded n xs ++ rest
unfolding padded
padded_cut n p xs es rest at e h l =
    let a = length-append xs es in
    let z = length_zeros (length es) in
    ap (λ (q : List ℕ). over (padded n q ++ rest) at (zeros (length es))) (sym (append_assoc xs es (zeros (p - length es))))
    ∙ ap (λ (q : List ℕ). over (q ++ rest) at (zeros (length es))) (padded_trail n (p - length es) (xs ++ es) (omega arith))
    ∙ ap (λ (j : ℕ). over (padded n (xs ++ es) ++ rest) j (zeros (length es))) e
    ∙ padded_put n xs es (zeros (length es)) rest (omega arith) (omega arith)
    ∙ ap (λ (q : List ℕ). q ++ rest) (padded_trail n (length es) xs (omega arith))

-- the unused entries are zero
pub padded_free : (n : ℕ) (xs rest : List ℕ) (at k : ℕ) → at ≡ length xs → at + k ≤ n → take k (drop at (padded n xs ++ rest)) ≡ zeros k
unfolding padded
padded_free n xs rest at k e h =
    let d : ℕ = n - length xs in
    let w : d ≡ k + (d - k) = omega arith in
    ap (λ (q : List ℕ). take k (drop at q)) (append_assoc xs (zeros d) rest)
    ∙ ap (λ (q : List ℕ). take k q) (drop_at xs (zeros d ++ rest) at (sym e))
    ∙ ap (λ (j : ℕ). take k (zeros j ++ rest)) w
    ∙ ap (λ (q : List ℕ). take k (q ++ rest)) (sym (replicate-append-replicate {A = ℕ} k (d - k) 0))
    ∙ ap (λ (q : List ℕ). take k q) (append_assoc (zeros k) (zeros (d - k)) rest)
    ∙ take_at (zeros k) (zeros (d - k) ++ rest) k (length_zeros k)

-- one entry of a padded array stored anew, or the first free one
pub padded_set : (n : ℕ) (xs ys : List ℕ) (k v : ℕ) → k ≡ length xs → length ys ≤ 1 → length xs + 1 ≤ n → set (padded n (xs ++ ys)) k v ≡ padded n (xs ++ (v ∷ []))
padded_set n xs ys k v e h l =
    let p : length (xs ++ ys) ≤ n = let w = length-append xs ys in omega arith in
    let q = length_padded n (xs ++ ys) p in
    over_sets (padded n (xs ++ ys)) k (v ∷ []) (omega arith)
    ∙ ap (λ (j : ℕ). over (padded n (xs ++ ys)) j (v ∷ [])) e
    ∙ ap (λ (a : List ℕ). over a (length xs) (v ∷ [])) (sym (append-nil (padded n (xs ++ ys))))
    ∙ padded_put n xs ys (v ∷ []) [] h l
    ∙ append-nil (padded n (xs ++ (v ∷ [])))

pub padded_last : (n : ℕ) (xs : List ℕ) (x k : ℕ) → k ≡ length xs → get_or (padded n (xs ++ (x ∷ []))) k 0 ≡ x
unfolding padded
padded_last n xs x k e = ap (λ (q : List ℕ). get_or q k 0) (append_assoc xs (x ∷ []) (zeros (n - length (xs ++ (x ∷ []))))) ∙ get_or_at xs x (zeros (n - length (xs ++ (x ∷ [])))) 0 k (sym e)
