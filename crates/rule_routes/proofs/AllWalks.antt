-- All walks with so many steps, listed: those over the first neighbour come first. For each number of steps the list holds every walk with so many and nothing else.
use Prim.Native.Nat.{ℕ, zero, suc}
use mathlib.Core.Path.{◌≡◌, refl, sym, ap, subst}
use mathlib.Core.Bool.{true, false}
use mathlib.Core.List.Memᴰ
use mathlib.Core.List.{List, [], ◌∷◌, map, Memᴰ}
use native.Mathlib.Omega.{arith}
use lib.Dec.{eqb}
use lib.ListN.{length}
use borrow.Author.Tests.{eqb-true, eq-eqb}
use Rattle.base_laws.specs.Lists.{flat}
use Rattle.base_laws.proofs.Members.{either, concat_in, concat_out}
use Rattle.rule_routes.specs.Roads.{Walk, Walk·stop, Walk·step}

module _ (nbrs : ℕ → List ℕ) where
  unfoldable pub walks_of : (steps s t : ℕ) → List (List ℕ)
  walks_of zero s t = elim (eqb s t) [ true ↦ (s ∷ []) ∷ [] | false ↦ [] ]
  walks_of (suc k) s t = flat (map (λ (v : ℕ). map (λ (r : List ℕ). s ∷ r) (walks_of k v t)) (nbrs s))

  pub walks_all : {s t : ℕ} {r : List ℕ} → Walk nbrs s t r → (k : ℕ) → length r ≡ suc k → Memᴰ r (walks_of k s t)
  unfolding walks_of
  walks_all (Walk·stop {u = u}) zero e = rw (walks_of, eq-eqb u u refl) (Memᴰ.head refl)
  walks_all (Walk·stop {u = u}) (suc k) e = absurd (omega arith)
  walks_all (Walk·step m Walk·stop) zero e = absurd (omega arith)
  walks_all (Walk·step m (Walk·step j w)) zero e = absurd (omega arith)
  walks_all (Walk·step {u = u} {v = v} {w = t} {r = r} m w) (suc k) e =
      concat_in (map (λ (v : ℕ). map (λ (r : List ℕ). u ∷ r) (walks_of k v t)) (nbrs u)) (map (λ (r : List ℕ). u ∷ r) (walks_of k v t)) (u ∷ r)
      (Memᴰ.map (λ (v : ℕ). map (λ (r : List ℕ). u ∷ r) (walks_of k v t)) m)
      (Memᴰ.map (λ (r : List ℕ). u ∷ r) (walks_all w k (omega arith)))

  pub walks_only : (k s t : ℕ) (r : List ℕ) → Memᴰ r (walks_of k s t) → Walk nbrs s t r × (length r ≡ suc k)
  unfolding walks_of
  walks_only zero s t r m =
      either (eqb s t)
      (λ e.
      let one = Memᴰ.eq_of_singleton (rw (walks_of, e) at m) in
      rw one (subst (λ (x : ℕ). Walk nbrs s x (s ∷ [])) (eqb-true s t e) Walk·stop, refl))
      (λ f. absurd (Memᴰ.not-nil (rw (walks_of, f) at m)))
  walks_only (suc k) s t r m =
      let o = concat_out (map (λ (v : ℕ). map (λ (r : List ℕ). s ∷ r) (walks_of k v t)) (nbrs s)) r m in
      let v = Memᴰ.of_map (λ (v : ℕ). map (λ (r : List ℕ). s ∷ r) (walks_of k v t)) (nbrs s) o.1 in
      let q = Memᴰ.of_map (λ (r : List ℕ). s ∷ r) (walks_of k v.0 t) (subst (λ (l : List (List ℕ)). Memᴰ r l) (sym v.2) o.2) in
      let w = walks_only k v.0 t q.0 q.1 in
      rw (sym q.2) (Walk·step v.1 w.0, ap suc w.1)
