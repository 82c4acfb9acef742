-- Blocks of one width, one after the other: what stands in block k.
use Prim.Native.Nat.{ℕ, zero, suc, ◌+◌, ◌*◌, ◌<◌}
use mathlib.Core.Path.{◌≡◌, refl, sym, ◌∙◌, ap}
use mathlib.Core.List.{List, [], ◌∷◌, ◌++◌, map, append_assoc, Memᴰ}
use native.Mathlib.Omega.{arith}
use native.Mathlib.Nat.{suc-mul, zero-mul}
use lib.ListN.{length, take, drop, get_or}
use lib.Seq.{take_at, drop-append-add, get_or-take, get_or-drop}
use Rattle.base_laws.specs.Lists.{flat}

module _ {A : Type 0} (f : A → List ℕ) (n : ℕ) where
  pub block_at : (d : A) (rest : List ℕ) (xs : List A) (k : ℕ) → ((x : A) → Memᴰ x xs → length (f x) ≡ n) → k < length xs
      → take n (drop (k * n) (flat (map f xs) ++ rest)) ≡ f (get_or xs k d)
  unfolding flat
  block_at d rest [] k w h = absurd (omega arith)
  block_at d rest (x ∷ xs) zero w h =
      ap (λ (j : ℕ). take n (drop j ((f x ++ flat (map f xs)) ++ rest))) (zero-mul n)
      ∙ ap (λ (q : List ℕ). take n q) (append_assoc (f x) (flat (map f xs)) rest)
      ∙ take_at (f x) (flat (map f xs) ++ rest) n (w x (Memᴰ.head refl))
  block_at d rest (x ∷ xs) (suc k) w h =
      let l = w x (Memᴰ.head refl) in
      let e : suc k * n ≡ length (f x) + k * n = omega (arith, suc-mul k n) in
      ap (λ (q : List ℕ). take n (drop (suc k * n) q)) (append_assoc (f x) (flat (map f xs)) rest)
      ∙ ap (λ (j : ℕ). take n (drop j (f x ++ (flat (map f xs) ++ rest)))) e
      ∙ ap (λ (q : List ℕ). take n q) (drop-append-add (f x) (flat (map f xs) ++ rest) (k * n))
      ∙ block_at d rest xs k (λ y m. w y (Memᴰ.tail m)) (omega arith)

  pub entry_at : (d : A) (rest : List ℕ) (xs : List A) (k j : ℕ) → ((x : A) → Memᴰ x xs → length (f x) ≡ n) → k < length xs → j < n
      → get_or (flat (map f xs) ++ rest) (k * n + j) 0 ≡ get_or (f (get_or xs k d)) j 0
  entry_at d rest xs k j w h i =
      let L : List ℕ = flat (map f xs) ++ rest in
      sym (get_or-take n (drop (k * n) L) j 0 i ∙ get_or-drop (k * n) L j 0) ∙ ap (λ (q : List ℕ). get_or q j 0) (block_at d rest xs k w h)
