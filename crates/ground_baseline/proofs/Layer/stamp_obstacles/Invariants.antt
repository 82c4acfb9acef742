-- `ground_baseline::Layer::stamp_obstacles` meets its contract. Before the turn at i, the first i obstacles have been laid.
use mathlib.Core.Path.{◌≡◌, refl, ◌∙◌}
use mathlib.Core.List.{List, ◌∷◌, ◌++◌}
use Prim.Native.Nat.{ℕ, ◌+◌, ◌*◌, ◌≤◌, ◌<◌}
use native.Mathlib.Numerals.{add-one}
use native.Mathlib.Omega.{arith}
use lib.IntN.{ℤ}
use lib.ListN.{length, take, length-append}
use lib.Seq.{take-suc, length-take-le}
use Rattle.base_model.specs.declared.Rect.{Rect}
use Rattle.base_model.specs.declared.Bounds.{Bounds}
use Rattle.ground_rects.specs.Rects.{rects_of}
use Rattle.ground_rects.specs.Spans.{nth_rect}
use Rattle.ground_rects.proofs.Rows.{rects_at}
use Rattle.ground_baseline.specs.Stamps.{RectsStamped, Open}
use Rattle.ground_baseline.proofs.Stamps.{laid_last}
use Rattle.ground_baseline.proofs.Layer.stamp_obstacles.Given as goal

pub record Sweep (v₀ : List ℤ) (obs : List ℤ) (w : Rect) (m : Bounds) (v : List ℤ) (i : ℕ) : Type 0 where
  pub upto : i ≤ length (rects_of obs)
  pub size : length v ≡ length v₀
  pub laid : (rest : List ℤ) (rs : List Rect) → RectsStamped w m rest rs v₀ → RectsStamped w m rest (take i (rects_of obs) ++ rs) v

module _ (v₀ : List ℤ) (obs : List ℤ) (w : Rect) (m : Bounds) (whole : length obs ≡ length (rects_of obs) * 4) where
  pub start : Sweep v₀ obs w m v₀ 0
  start = record { upto = omega arith; size = refl; laid = λ rest rs l. l }

  module _ (v : List ℤ) (i : ℕ) (t : Sweep v₀ obs w m v i) (h : i < length (rects_of obs)) where
    pub still : Open w m v₀ (length (rects_of obs)) → Open w m v 1
    still o = record {
      rest = o.rest;
      rects = take i (rects_of obs) ++ o.rects;
      laid = t.laid o.rest o.rects o.laid;
      few = omega (arith, length-append (take i (rects_of obs)) o.rects, length-take-le i (rects_of obs) (omega arith), o.few);
    }

    pub laid_one : (v' : List ℤ) (r : Rect) → r ≡ nth_rect obs i → length v' ≡ length v
        → ((rest : List ℤ) (rs : List Rect) → RectsStamped w m rest rs v → RectsStamped w m rest (r ∷ rs) v') → Sweep v₀ obs w m v' (i + 1)
    laid_one v' r k z f = record {
      upto = omega arith;
      size = z ∙ t.size;
      laid = λ rest rs l.
          rw (add-one i, take-suc (rects_of obs) i r h, rects_at obs i r (omega arith), ← k)
          (laid_last w m rest r (take i (rects_of obs)) rs v' (f rest (take i (rects_of obs) ++ rs) (t.laid rest rs l)));
    }

abbrev pub invariant-loop-i : goal.invariant-loop-i
invariant-loop-i l = Sweep l.initial.counts l.obstacles l.self.window l.self.mover l.counts l.i
