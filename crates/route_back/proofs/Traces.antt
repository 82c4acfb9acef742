-- The way back from a node to the start, by the area of predecessors.
use mathlib.Core.Path.{◌≡◌, refl, sym, ap, ◌∙◌}
use mathlib.Core.List.{List, ◌∷◌}
use Prim.Native.Nat.{ℕ, ◌<◌}
use native.Mathlib.Decide.{dec_lt}
use native.Mathlib.Omega.{arith}
use lib.ListN.{length, get_or, set, get_or-eq_default}
use lib.Seq.{get_or-set_other}
use Rattle.route_back.specs.Ways.{Traced, Traced·home, Traced·from}

-- a node that is marked is one of the area's
pub marked_below : (predecessors : List ℕ) (x : ℕ) → (get_or predecessors x 0 ≡ 0 → ⊥) → x < length predecessors
marked_below predecessors x n = go (dec_lt x (length predecessors))
  where
    go : Dec (x < length predecessors) → x < length predecessors
    go (yes h) = h
    go (no h) = absurd (n (get_or-eq_default predecessors 0 (omega arith)))

-- a mark at a node that had none changes no way back
pub traced_set : {predecessors : List ℕ} {start x : ℕ} {back : List ℕ} (v w : ℕ) → get_or predecessors v 0 ≡ 0 → Traced predecessors start x back → Traced (set predecessors v w) start x back
traced_set v w e Traced·home = Traced·home
traced_set {predecessors} v w e (Traced·from {x = x} ne m t) =
    Traced·from ne (get_or-set_other predecessors v x w 0 (λ q. let z = sym m ∙ ap (λ (n : ℕ). get_or predecessors n 0) q ∙ e in omega arith) ∙ m) (traced_set v w e t)

-- there is one way back
traced_at : {predecessors : List ℕ} {start x y : ℕ} {l : List ℕ} → Traced predecessors start x l → (m : List ℕ) → Traced predecessors start y m → x ≡ y → l ≡ m
traced_at Traced·home m Traced·home q = refl
traced_at Traced·home m (Traced·from ne e t) q = absurd (ne (sym q))
traced_at (Traced·from ne e s) m Traced·home q = absurd (ne q)
traced_at {predecessors} {start} (Traced·from {u = u} {back = l} ne e s) m (Traced·from {u = w} {back = k} ne' e' t) q =
    let same : u ≡ w = let r = sym e ∙ ap (λ (n : ℕ). get_or predecessors n 0) q ∙ e' in omega arith in
    let rest : l ≡ k = traced_at s k t same in
    ap (λ (n : ℕ). n ∷ l) same ∙ ap (λ (r : List ℕ). w ∷ r) rest

pub traced_one : {predecessors : List ℕ} {start x : ℕ} {l : List ℕ} → Traced predecessors start x l → (m : List ℕ) → Traced predecessors start x m → l ≡ m
traced_one s m t = traced_at s m t refl
