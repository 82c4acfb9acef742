-- Members and their places: each member has one, and where no value stands twice, only one.
use Prim.Native.Nat.{ℕ, zero, suc, ◌<◌}
use mathlib.Core.Path.{◌≡◌, refl, sym, ap}
use mathlib.Core.List.Memᴰ
use mathlib.Core.List.{List, [], ◌∷◌, map, Memᴰ}
use native.Mathlib.Nat.{not-suc-le-zero}
use native.Mathlib.Omega.{arith}
use lib.ListN.{length, get_or}
use Rattle.base_laws.specs.Lists.{Distinct, fresh}
use Rattle.base_laws.proofs.Members.{get_d_member}

module _ {A : Type 0} (d : A) where
  pub member_place : {x : A} (l : List A) → Memᴰ x l → (k : ℕ) × (k < length l) × (get_or l k d ≡ x)
  member_place _ (Memᴰ.head e) = (0, omega arith, sym e)
  member_place _ (Memᴰ.tail {xs = l} m) = let p = member_place l m in (suc p.0, (let h = p.1 in omega arith), p.2)

  pub one_place : {B : Type 0} (f : A → B) (l : List A) → Distinct (map f l) → (j k : ℕ) → j < length l → k < length l → f (get_or l j d) ≡ f (get_or l k d) → j ≡ k
  one_place f [] n j k h i e = absurd (not-suc-le-zero h)
  one_place f (x ∷ l) (fresh n u) zero zero h i e = refl
  one_place f (x ∷ l) (fresh n u) zero (suc k) h i e = absurd (n (Memᴰ.cast e (Memᴰ.map f (get_d_member l k d (omega arith)))))
  one_place f (x ∷ l) (fresh n u) (suc j) zero h i e = absurd (n (Memᴰ.cast (sym e) (Memᴰ.map f (get_d_member l j d (omega arith)))))
  one_place f (x ∷ l) (fresh n u) (suc j) (suc k) h i e = ap suc (one_place f l u j k (omega arith) (omega arith) e)
