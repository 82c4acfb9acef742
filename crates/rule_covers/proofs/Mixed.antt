-- Covers and lifts mixed: move by move it is known which buildings stand, so each lift of one that stands is accepted, and each count is what it was plus those that
-- reach it.
use mathlib.Core.Path.{◌≡◌}
use mathlib.Core.List.{List}
use Prim.Native.Nat.{ℕ}
use Rattle.base_model.specs.declared.Rect.{Rect}
use Rattle.rule_covers.specs.Sessions.{Building, cover_one, lift_one}
use Rattle.rule_covers.specs.Standing.{counted, Standing, Move, Moves, done, covered, lifted, move, moved, CoversAccepted, LiftsAccepted, Mixed}
use Rattle.rule_covers.proofs.Standing.{nothing_stands, cover_stands, lift_stands}

module _ (w : Rect) (counts : List ℕ) where
  from_here : {bs standing : List Building} {ms : List Move} → Moves bs ms standing → (now : List ℕ) → Standing w counts bs now → CoversAccepted w ms now
      → LiftsAccepted w ms now × (moved w ms now ≡ counted w standing counts)
  unfolding CoversAccepted LiftsAccepted moved move
  from_here done now s e = (tt, s.holds)
  from_here (covered {b = b} {bs = bs} p) now s e = from_here p (cover_one w b now).baseline (cover_stands w counts b bs now s e.0) e.1
  from_here (lifted {b = b} before behind p) now s e =
      let l = lift_stands w counts before behind b now s in
      let k = from_here p (lift_one w b now).baseline l.1 e in
      ((l.0, k.0), k.1)

pub mixed : (w : Rect) → Mixed w
unfolding Mixed
mixed w counts ms standing fits room p e = from_here w counts p counts (nothing_stands w counts fits room) e
