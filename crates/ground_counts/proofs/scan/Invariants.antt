-- `ground_counts::scan` meets its contract. Before the turn at i the entries below i are summed, the others as they were; each sum fits by `SumsFit`.
use mathlib.Core.Path.{◌≡◌, refl}
use Prim.Native.Nat.{ℕ, ◌+◌, ◌-◌, ◌≤◌, ◌<◌}
use native.Mathlib.Omega.{arith}
use mathlib.Core.List.{List}
use lib.IntN.{ℤ, pos, ◌+ℤ◌}
use lib.ListN.{length, get_or, set}
use lib.ListN.{length-set}
use lib.Seq.{get_or-set_same, get_or-set_other}
use mathlib.Core.Path.{sym, ◌∙◌, subst}
use mathlib.Core.Bool.{Bool, true, false}
use lib.Dec.{eqb}
use borrow.Author.Tests.{eqb-true, eqb-false}
use mir.Syntax.{w32}
use mir.Val.{SFits}
use Rattle.ground_counts.specs.Counts.{ScanTo, SumsFit}
use Rattle.ground_counts.proofs.scan.Given as goal

-- before the turn at i: the entries below i are summed, the others as they were
pub record Turn (v₀ : List ℤ) (d n : ℕ) (v : List ℤ) (i : ℕ) : Type 0 where
  pub from : d ≤ i
  pub upto : i ≤ n
  pub sums : ScanTo v₀ d i v
  pub kept : (j : ℕ) → i ≤ j → get_or v j (pos 0) ≡ get_or v₀ j (pos 0)
  pub size : length v ≡ length v₀

-- one turn, at the integers themselves
module _ (v₀ : List ℤ) (d n : ℕ) (v : List ℤ) (i : ℕ) (hd : 0 < d) (hi : i < n) (hn : n ≤ length v₀) (t : Turn v₀ d n v i) where
  unfoldable pub new : ℤ
  new = get_or v i (pos 0) +ℤ get_or v (i - d) (pos 0)

  pub new_fits : SumsFit v₀ d n → SFits w32 new
  unfolding new
  new_fits r =
      let e : (i - d) + d ≡ i = omega (arith, t.from) in
      let s = subst (λ (k : ℕ). ScanTo v₀ d k v) (sym e) t.sums in
      let z = r.room v (i - d) (omega arith) s in
      rw (t.kept i (omega arith)) (subst (λ (k : ℕ). SFits w32 (get_or v₀ k (pos 0) +ℤ get_or v (i - d) (pos 0))) e z)

  pub below : (j : ℕ) → (j ≡ i → ⊥) → get_or (set v i new) j (pos 0) ≡ get_or v j (pos 0)
  below j h = get_or-set_other v i j new (pos 0) h

  pub new_is : (j : ℕ) → j ≡ i - d → new ≡ get_or v₀ i (pos 0) +ℤ get_or v j (pos 0)
  unfolding new
  new_is j u = rw (t.kept i (omega arith), u)

  pub new_step : (j : ℕ) (q : Bool) → eqb (j + d) i ≡ q → j + d < i + 1 → get_or (set v i new) (j + d) (pos 0) ≡ get_or v₀ (j + d) (pos 0) +ℤ get_or (set v i new) j (pos 0)
  new_step j true e h =
      let w : j + d ≡ i = eqb-true (j + d) i e in
      let u : j ≡ i - d = omega arith in
      rw (below j (omega arith), w, get_or-set_same v i new (pos 0) (omega (arith, t.size))) (new_is j u)
  new_step j false e h =
      let w = eqb-false (j + d) i e in
      let k : j + d < i = omega arith in
      rw (below j (omega arith), below (j + d) w) (t.sums.step j k)

  pub turned : Turn v₀ d n (set v i new) (i + 1)
  turned = record {
    from = omega (arith, t.from);
    upto = omega arith;
    sums = record {
      base = λ j h k. below j (omega (arith, t.from)) ∙ t.sums.base j h (omega (arith, t.from));
      step = λ j h. new_step j (eqb (j + d) i) refl h;
    };
    kept = λ j h. below j (omega arith) ∙ t.kept j (omega arith);
    size = length-set v i new ∙ t.size;
  }

abbrev pub invariant-loop-i : goal.invariant-loop-i
invariant-loop-i l = Turn l.initial.v l.d l.n l.v l.i

abbrev pub decreases-loop-i : goal.decreases-loop-i
decreases-loop-i l = l.n - l.i
