-- Lists laid one after another: how long they are together, and what one more adds.
use Prim.Native.Nat.{ℕ, ◌*◌}
use mathlib.Core.Path.{◌≡◌, refl, sym, ◌∙◌, ap}
use mathlib.Core.List.{List, [], ◌∷◌, ◌++◌, map, append_assoc, append-nil, Memᴰ}
use native.Mathlib.Omega.{arith}
use native.Mathlib.Nat.{suc-mul, zero-mul}
use lib.ListN.{length, length-append}
use Rattle.base_laws.specs.Lists.{flat}

pub flat_append : {A : Type 0} (xs ys : List (List A)) → flat (xs ++ ys) ≡ flat xs ++ flat ys
unfolding flat
flat_append [] ys = refl
flat_append {A} (x ∷ xs) ys = ap (λ (q : List A). x ++ q) (flat_append xs ys) ∙ sym (append_assoc x (flat xs) (flat ys))

module _ {A B : Type 0} (f : A → List B) where
  pub flat_snoc : (xs : List A) (x : A) → flat (map f (xs ++ x ∷ [])) ≡ flat (map f xs) ++ f x
  unfolding flat
  flat_snoc [] x = append-nil (f x)
  flat_snoc (y ∷ xs) x = ap (λ (q : List B). f y ++ q) (flat_snoc xs x) ∙ sym (append_assoc (f y) (flat (map f xs)) (f x))

  pub length_flat : (n : ℕ) (xs : List A) → ((x : A) → Memᴰ x xs → length (f x) ≡ n) → length (flat (map f xs)) ≡ length xs * n
  unfolding flat
  length_flat n [] w = sym (zero-mul n)
  length_flat n (x ∷ xs) w =
      omega (arith, length-append (f x) (flat (map f xs)), w x (Memᴰ.head refl), length_flat n xs (λ y m. w y (Memᴰ.tail m)), suc-mul (length xs) n)
