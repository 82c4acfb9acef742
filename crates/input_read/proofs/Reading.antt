-- What one read tells: if more may come, it has put a byte or more.
use Prim.Native.Nat.{ℕ, ◌+◌, ◌<◌}
use mathlib.Core.Path.{◌≡◌, refl, sym, ◌∙◌}
use mathlib.Core.Bool.{Bool, true, false}
use native.Mathlib.Omega.{arith}
use lib.Dec.{ltb, eqb}
use Rattle.std.specs.Prelude.{Option, None, Some}
use borrow.Author.Tests.{eqb-false}
use Rattle.input_arrival.specs.Arrivals.{takes}
use Rattle.input_arrival.specs.declared.Arrival.{Arrival}
use Rattle.input_arrival.specs.declared.Arrival.TheVariants.{Going, Whole, Cut}
use Rattle.input_read.specs.Reads.{ReadOnce}

module _ (room at : ℕ) (r : Arrival) (h : ReadOnce room at r) where
  goes : (z : Option ℕ) (n : ℕ) → takes room (Going at) z ≡ Going n → at < n
  unfolding takes
  goes None n e = absurd (cc)
  goes (Some k) n e = go (ltb (at + k) room) (eqb k 0) refl e
    where
      go : (b d : Bool) → eqb k 0 ≡ d
          → ◌≡◌ {A = Arrival} (elim b [ true ↦ elim d [ true ↦ Whole at | false ↦ Going (at + k) ] | false ↦ Cut ]) (Going n) → at < n
      go false d q f = absurd (cc)
      go true true q f = absurd (cc)
      go true false q f =
          let e : at + k ≡ n = cc in
          let d = eqb-false k 0 q in
          omega arith

  pub more_after : (n : ℕ) → r ≡ Going n → at < n
  more_after n e = goes h.answer n (sym h.is ∙ e)
