-- What a centre's turn does to the areas, and why there is room: the queue's tail is the number of marks among the predecessors.
use mathlib.Core.Path.{◌≡◌, refl, sym, ap, ◌∙◌}
use mathlib.Core.Bool.{Bool, true, false}
use mathlib.Core.List.{List, [], ◌∷◌, ◌++◌, Memᴰ}
use Prim.Native.Nat.{ℕ, zero, suc, ◌+◌, ◌≤◌, ◌<◌, zero-le, suc-le-suc}
use native.Mathlib.Nat.{le_of_suc-le-suc, not-suc-le-zero}
use native.Mathlib.Numerals.{add-one}
use native.Mathlib.Omega.{arith}
use lib.ListN.{length, get_or, set, take, replicate, length-set}
use lib.Seq.{take-set-lt, get_or-take, length-take-le}
use Rattle.route_step.specs.Areas.{Area, entered, tried, marks, SearchRoom}
use Rattle.route_step.proofs.Steps.{only}

pub marks_le : (l : List ℕ) → marks l ≤ length l
unfolding marks
marks_le [] = zero-le
marks_le (zero ∷ l) = let h = marks_le l in omega arith
marks_le (suc x ∷ l) = suc-le-suc (marks_le l)

pub marks_set : (l : List ℕ) (i x : ℕ) → i < length l → get_or l i 0 ≡ 0 → marks (set l i (suc x)) ≡ suc (marks l)
unfolding marks
marks_set [] i x h e = absurd (not-suc-le-zero h)
marks_set (zero ∷ l) zero x h e = refl
marks_set (suc y ∷ l) zero x h e = absurd (omega arith)
marks_set (zero ∷ l) (suc i) x h e = marks_set l i x (le_of_suc-le-suc h) e
marks_set (suc y ∷ l) (suc i) x h e = ap suc (marks_set l i x (le_of_suc-le-suc h) e)

pub marks_zero : (n : ℕ) → marks (replicate n 0) ≡ 0
unfolding marks
marks_zero zero = refl
marks_zero (suc n) = marks_zero n

-- one more mark among the first c entries
pub marks_more : (c : ℕ) (l : List ℕ) (v x : ℕ) → c ≤ length l → v < c → get_or l v 0 ≡ 0 → marks (take c (set l v (suc x))) ≡ suc (marks (take c l))
marks_more c l v x h k e =
    ap marks (take-set-lt c l v (suc x) k) ∙ marks_set (take c l) v x (rw (length-take-le c l h) k) (get_or-take c l v 0 k ∙ e)

-- the areas with v reached from u
abbrev pub added : (u v : ℕ) → Area → Area
added u v a = record { queue = set a.queue a.tail v; predecessors = set a.predecessors v (suc u); tail = suc a.tail }

module _ (c : ℕ) (a : Area) (r : SearchRoom c a) where
  pub tail_le : a.tail ≤ c
  tail_le = let m = marks_le (take c a.predecessors) in let l = length-take-le c a.predecessors r.predecessors_room in omega (arith, r.used)

  module _ (v : ℕ) (h : v < c) (e : get_or a.predecessors v 0 ≡ 0) where
    pub tail_below : a.tail < c
    tail_below =
        let m = marks_more c a.predecessors v 0 r.predecessors_room h e in
        let b = marks_le (take c (set a.predecessors v 1)) in
        let l = length-take-le c (set a.predecessors v 1) (simp length-set r.predecessors_room) in
        omega (arith, r.used)

    pub room_added : (u : ℕ) → SearchRoom c (added u v a)
    room_added u =
        record {
          queue_room = simp length-set r.queue_room;
          predecessors_room = simp length-set r.predecessors_room;
          used = marks_more c a.predecessors v u r.predecessors_room h e ∙ ap suc r.used;
        }

-- ---- entering
pub entered_old : (u v : ℕ) (a : Area) → (get_or a.predecessors v 0 ≡ 0 → ⊥) → entered u v a ≡ a
unfolding entered
entered_old u v a n = go (get_or a.predecessors v 0) refl
  where
    go : (k : ℕ) → get_or a.predecessors v 0 ≡ k → entered u v a ≡ a
    go zero e = absurd (n e)
    go (suc k) e = rw (entered, e)

pub entered_new : (u v : ℕ) (a : Area) → get_or a.predecessors v 0 ≡ 0 → entered u v a ≡ added u v a
unfolding entered
entered_new u v a e = rw (entered, e)

-- either nothing changes, or the neighbour is new
pub entered_cases : (P : Area → Type 0) (u v : ℕ) (a : Area) → P a → (get_or a.predecessors v 0 ≡ 0 → P (added u v a)) → P (entered u v a)
entered_cases P u v a old new = go (get_or a.predecessors v 0) refl
  where
    go : (k : ℕ) → get_or a.predecessors v 0 ≡ k → P (entered u v a)
    go zero e = rw (entered_new u v a e) (new e)
    go (suc k) e = rw (entered_old u v a (λ z. let q = sym e ∙ z in omega arith)) old

-- ---- trying
pub tried_none : (u : ℕ) (vs : List ℕ) (a : Area) → vs ≡ [] → a ≡ tried u vs a
unfolding tried
tried_none u vs a e = rw e

pub tried_append : (u : ℕ) (vs ws : List ℕ) (a : Area) → tried u (vs ++ ws) a ≡ tried u ws (tried u vs a)
unfolding tried
tried_append u [] ws a = refl
tried_append u (v ∷ vs) ws a = tried_append u vs ws (entered u v a)

pub tried_old : (u : ℕ) (vs : List ℕ) (b : Bool) (v : ℕ) (a : Area) → vs ≡ only b v → (get_or a.predecessors v 0 ≡ 0 → ⊥) → a ≡ tried u vs a
unfolding tried only
tried_old u vs true v a e n = rw (e, entered_old u v a n)
tried_old u vs false v a e n = rw e

pub tried_new : (u : ℕ) (vs : List ℕ) (v : ℕ) (a : Area) → vs ≡ v ∷ [] → get_or a.predecessors v 0 ≡ 0
    → record { queue = set a.queue a.tail v; predecessors = set a.predecessors v (u + 1); tail = a.tail + 1 } ≡ tried u vs a
unfolding tried
tried_new u vs v a e n = rw (e, entered_new u v a n, add-one u, add-one a.tail)

pub tried_lengths : (u : ℕ) (vs : List ℕ) (a : Area) → (length (tried u vs a).queue ≡ length a.queue) × (length (tried u vs a).predecessors ≡ length a.predecessors)
unfolding tried
tried_lengths u [] a = (refl, refl)
tried_lengths u (v ∷ vs) a =
    let rest = tried_lengths u vs (entered u v a) in
    let one : (length (entered u v a).queue ≡ length a.queue) × (length (entered u v a).predecessors ≡ length a.predecessors) =
    entered_cases (λ (b : Area). (length b.queue ≡ length a.queue) × (length b.predecessors ≡ length a.predecessors)) u v a (refl, refl)
    (λ e. (length-set a.queue a.tail v, length-set a.predecessors v (suc u)))
    in
    (rest.0 ∙ one.0, rest.1 ∙ one.1)

pub tried_room : (c u : ℕ) (vs : List ℕ) (a : Area) → ((v : ℕ) → Memᴰ v vs → v < c) → SearchRoom c a → SearchRoom c (tried u vs a)
unfolding tried
tried_room c u [] a below r = r
tried_room c u (v ∷ vs) a below r =
    tried_room c u vs (entered u v a) (λ w m. below w (Memᴰ.tail m))
    (entered_cases (SearchRoom c) u v a r (λ e. room_added c a r v (below v (Memᴰ.head refl)) e u))

pub tried_tail : (u : ℕ) (vs : List ℕ) (a : Area) → a.tail ≤ (tried u vs a).tail
unfolding tried
tried_tail u [] a = omega arith
tried_tail u (v ∷ vs) a =
    let rest = tried_tail u vs (entered u v a) in
    let one : a.tail ≤ (entered u v a).tail = entered_cases (λ (b : Area). a.tail ≤ b.tail) u v a (omega arith) (λ e. omega arith) in
    omega arith
