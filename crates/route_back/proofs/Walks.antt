-- The invariants of the two walks back over the predecessors: what is left of the way, and what it comes to with what is done.
use mathlib.Core.Path.{◌≡◌, refl, sym, ap, ◌∙◌, subst}
use mathlib.Core.List.{List, [], ◌∷◌, ◌++◌, reverse, reverse-cons, append_assoc}
use Prim.Native.Nat.{ℕ, suc, ◌+◌, ◌-◌, ◌≤◌, ◌<◌, ◌^◌}
use native.Mathlib.Omega.{arith}
use lib.ListN.{length, get_or, set, drop, length-set}
use lib.Seq.{drop-cons, drop-set-lt, get_or-set_same, set_split}
use Rattle.route_back.specs.Ways.{Traced, Traced·home, Traced·from}
use Rattle.route_back.specs.Ways.{Leads, BackCounted, RouteLaid}
use Rattle.route_back.proofs.Traces.{marked_below, traced_one}

-- The first step back from x.
record Back (predecessors : List ℕ) (start x : ℕ) (rest : List ℕ) : Type 0 where
  u : ℕ
  more : List ℕ
  is : rest ≡ u ∷ more
  mark : get_or predecessors x 0 ≡ suc u
  on : Traced predecessors start u more

back_from : {predecessors : List ℕ} {start x : ℕ} {rest : List ℕ} → Traced predecessors start x rest → (x ≡ start → ⊥) → Back predecessors start x rest
back_from Traced·home ne = absurd (ne refl)
back_from (Traced·from {u = u} {back = more} n e t) ne = record { u = u; more = more; is = refl; mark = e; on = t }

back_of : {predecessors : List ℕ} {start x : ℕ} {rest : List ℕ} → Traced predecessors start x rest → 0 < length rest → Back predecessors start x rest
back_of Traced·home h = absurd (omega arith)
back_of (Traced·from {u = u} {back = more} n e t) h = record { u = u; more = more; is = refl; mark = e; on = t }

home_of : {predecessors : List ℕ} {start x : ℕ} {rest : List ℕ} → Traced predecessors start x rest → length rest ≡ 0 → (x ≡ start) × (rest ≡ [])
home_of Traced·home h = (refl, refl)
home_of (Traced·from {back = more} n e t) h = absurd (omega arith)

module _ (predecessors : List ℕ) (start end : ℕ) where
  pub record Counting (n x : ℕ) : Type 0 where
    pub rest : List ℕ
    pub traced : Traced predecessors start x rest
    pub total : (back : List ℕ) → Traced predecessors start end back → n + length rest ≡ suc (length back)
    pub bound : n + length rest ≤ 2 ^ 32

  pub counting_begin : Leads predecessors start end (2 ^ 32) → Counting 1 end
  counting_begin l =
      record {
        rest = l.back;
        traced = l.traced;
        total = λ back t. let e = ap length (traced_one l.traced back t) in omega arith;
        bound = let s = l.fits in omega arith;
      }

  pub record Marked (x : ℕ) : Type 0 where
    pub mark : 1 ≤ get_or predecessors x 0
    pub below : x < length predecessors

  marked : (x u : ℕ) → get_or predecessors x 0 ≡ suc u → Marked x
  marked x u e = record { mark = omega arith; below = marked_below predecessors x (λ z. omega arith) }

  module _ (n x : ℕ) (i : Counting n x) (ne : x ≡ start → ⊥) where
    pub counting_marked : Marked x
    counting_marked = let b = back_from i.traced ne in marked x b.u b.mark

    pub counting_less : n < 2 ^ 32
    counting_less = let b = back_from i.traced ne in let l = ap length b.is in let h = i.bound in omega arith

    pub counting_next : (y : ℕ) → y ≡ get_or predecessors x 0 → Counting (n + 1) (y - 1)
    counting_next y e =
        let b = back_from i.traced ne in
        let l = ap length b.is in
        let m = b.mark in
        let at : y - 1 ≡ b.u = omega arith in
        record {
          rest = b.more;
          traced = rw at b.on;
          total = λ back t. let h = i.total back t in omega arith;
          bound = let h = i.bound in omega arith;
        }

  pub counting_done : (n x : ℕ) → Counting n x → x ≡ start → BackCounted predecessors start end n
  counting_done n x i e back t = let h = i.total back t in let z = ends i.rest i.traced in omega arith
    where
      ends : (rest : List ℕ) → Traced predecessors start x rest → length rest ≡ 0
      ends rest t = let same = traced_one (subst (λ (y : ℕ). Traced predecessors start y rest) e t) [] Traced·home in ap length same

  module _ (n : ℕ) (route₀ : List ℕ) where
    pub record Laying (route : List ℕ) (i x : ℕ) : Type 0 where
      pub rest : List ℕ
      pub traced : Traced predecessors start x rest
      pub left : i ≡ suc (length rest)
      pub fits : i ≤ length route
      pub kept : length route ≡ length route₀
      pub written : (back : List ℕ) → Traced predecessors start end back → reverse (x ∷ rest) ++ drop i route ≡ reverse (end ∷ back) ++ drop n route₀

    pub laying_begin : Leads predecessors start end (length route₀) → BackCounted predecessors start end n → Laying route₀ n end
    laying_begin l c =
        record {
          rest = l.back;
          traced = l.traced;
          left = c l.back l.traced;
          fits = let s = l.fits in let e = c l.back l.traced in omega arith;
          kept = refl;
          written = λ back t. ap (λ (b : List ℕ). reverse (end ∷ b) ++ drop n route₀) (traced_one l.traced back t);
        }

    module _ (route : List ℕ) (i x : ℕ) (l : Laying route i x) where
      pub laying_next : 1 < i → (y : ℕ) → y ≡ get_or predecessors x 0 → Laying (set route (i - 1) x) (i - 1) (y - 1)
      laying_next h y e =
          let b = back_of l.traced (let q = l.left in omega arith) in
          let k = ap length b.is in
          let m = b.mark in
          let f = l.fits in
          let q = l.left in
          let at : y - 1 ≡ b.u = omega arith in
          record {
            rest = b.more;
            traced = rw at b.on;
            left = omega arith;
            fits = simp length-set (omega arith);
            kept = length-set route (i - 1) x ∙ l.kept;
            written = λ back t. front b at ∙ l.written back t;
          }
        where
          f' : i - 1 < length route
          f' = let f = l.fits in omega arith

          one : suc (i - 1) ≡ i
          one = omega arith

          last : drop (i - 1) (set route (i - 1) x) ≡ x ∷ drop i route
          last =
              drop-cons (set route (i - 1) x) (i - 1) 0 (simp length-set f')
              ∙ ap (λ (v : ℕ). v ∷ drop (suc (i - 1)) (set route (i - 1) x)) (get_or-set_same route (i - 1) x 0 f')
              ∙ ap (λ (d : List ℕ). x ∷ d) (drop-set-lt (suc (i - 1)) route (i - 1) x (omega arith) ∙ ap (λ (k : ℕ). drop k route) one)

          front : (b : Back predecessors start x l.rest) → y - 1 ≡ b.u
              → reverse ((y - 1) ∷ b.more) ++ drop (i - 1) (set route (i - 1) x) ≡ reverse (x ∷ l.rest) ++ drop i route
          front b at =
              ap (λ (d : List ℕ). reverse ((y - 1) ∷ b.more) ++ d) last
              ∙ sym (append_assoc (reverse ((y - 1) ∷ b.more)) (x ∷ []) (drop i route))
              ∙ ap (λ (d : List ℕ). d ++ drop i route) (sym (reverse-cons x ((y - 1) ∷ b.more)))
              ∙ ap (λ (d : List ℕ). reverse (x ∷ d) ++ drop i route) (ap (λ (v : ℕ). v ∷ b.more) at ∙ sym b.is)

      pub laying_done : i ≤ 1 → RouteLaid predecessors start end n route₀ (set route 0 x)
      laying_done h back t =
          let none = (home_of l.traced (let e = l.left in omega arith)).1 in
          let one : i ≡ 1 = let e = l.left in omega arith in
          set_split route 0 x (let f = l.fits in omega arith)
          ∙ ap (λ (k : ℕ). x ∷ drop k route) (sym one)
          ∙ ap (λ (d : List ℕ). reverse (x ∷ d) ++ drop i route) (sym none)
          ∙ l.written back t
