-- `ground_baseline::Layer::stamp_terrain_blockers` meets its contract. Before the turn at i, the unwalkable of the first i cells have been laid.
use mathlib.Core.Path.{◌≡◌, refl, sym, ◌∙◌}
use mathlib.Core.List.{List, ◌∷◌, ◌++◌}
use Prim.Native.Nat.{ℕ, ◌+◌, ◌<◌}
use native.Mathlib.Numerals.{add-one}
use native.Mathlib.Omega.{arith}
use lib.IntN.{ℤ}
use lib.ListN.{length, get_or, length-append}
use borrow.Author.Tests.{eq-eqb, ne_eqb}
use Rattle.base_model.specs.declared.Rect.{Rect}
use Rattle.base_model.specs.declared.Bounds.{Bounds}
use Rattle.ground_baseline.specs.Baseline.{Map, cell_rect}
use Rattle.ground_baseline.specs.Lent.{map_of}
use Rattle.ground_baseline.specs.Stamps.{shut_cells, RectsStamped, Open}
use Rattle.ground_baseline.proofs.Stamps.{laid_last, cells_none, cells_shut, cells_open, cells_few, get_d_same}
use Rattle.ground_baseline.proofs.Layer.stamp_terrain_blockers.Given as goal

pub record Sweep (v₀ : List ℤ) (c : Map) (w : Rect) (m : Bounds) (v : List ℤ) (i : ℕ) : Type 0 where
  pub size : length v ≡ length v₀
  pub laid : (rest : List ℤ) (rs : List Rect) → RectsStamped w m rest rs v₀ → RectsStamped w m rest (shut_cells c i ++ rs) v

module _ (v₀ : List ℤ) (c : Map) (w : Rect) (m : Bounds) where
  pub start : Sweep v₀ c w m v₀ 0
  start = record { size = refl; laid = λ rest rs l. rw (cells_none c) l }

  module _ (v : List ℤ) (i : ℕ) (t : Sweep v₀ c w m v i) (h : i < length c.cells) where
    pub still : Open w m v₀ (length c.cells) → Open w m v 1
    still o = record {
      rest = o.rest;
      rects = shut_cells c i ++ o.rects;
      laid = t.laid o.rest o.rects o.laid;
      few = omega (arith, length-append (shut_cells c i) o.rects, cells_few c i, o.few);
    }

    pub passed : (get_or c.cells i 0 ≡ 0 → ⊥) → Sweep v₀ c w m v (i + 1)
    passed e = record {
      size = t.size;
      laid = λ rest rs l.
          rw (add-one i, cells_open c i (ne_eqb (get_or c.cells i 1) 0 (λ q. e (sym (get_d_same c.cells i 1 0 h) ∙ q)))) (t.laid rest rs l);
    }

    pub laid_one : (v' : List ℤ) (r : Rect) → get_or c.cells i 0 ≡ 0 → r ≡ cell_rect c i → length v' ≡ length v
        → ((rest : List ℤ) (rs : List Rect) → RectsStamped w m rest rs v → RectsStamped w m rest (r ∷ rs) v') → Sweep v₀ c w m v' (i + 1)
    laid_one v' r e k z f = record {
      size = z ∙ t.size;
      laid = λ rest rs l.
          rw (add-one i, cells_shut c i (eq-eqb (get_or c.cells i 1) 0 (get_d_same c.cells i 1 0 h ∙ e)), ← k)
          (laid_last w m rest r (shut_cells c i) rs v' (f rest (shut_cells c i ++ rs) (t.laid rest rs l)));
    }

abbrev pub invariant-loop-i : goal.invariant-loop-i
invariant-loop-i l = Sweep l.initial.counts (map_of l.map) l.self.window l.self.mover l.counts l.i
