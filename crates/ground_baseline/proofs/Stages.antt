-- The stages of marking a baseline: what each asks follows from the checks and from what the stage before left.
use mathlib.Core.Path.{◌≡◌, ap, ◌∙◌}
use mathlib.Core.Bool.{true}
use mathlib.Core.List.{List, [], ◌++◌}
use Prim.Native.Nat.{ℕ, ◌+◌, ◌*◌, ◌≤◌, ◌<◌}
use native.Mathlib.Nat.{mul-le-mul_left}
use native.Mathlib.Omega.{arith}
use lib.IntN.{ℤ, pos}
use lib.ListN.{length, drop, replicate, length-append}
use Rattle.base_laws.specs.Ints.{up}
use Rattle.base_laws.specs.Fill.{filled}
use Rattle.base_model.specs.declared.Rect.{Rect}
use Rattle.base_model.specs.declared.Bounds.{Bounds}
use Rattle.ground_rects.specs.Rects.{rects_of}
use Rattle.ground_rects.specs.Windows.{width, height, centres, window_fits}
use Rattle.ground_rects.proofs.Windows.{framed, fits_larger}
use Rattle.ground_counts.specs.Counts.{SpansReady, Counted}
use Rattle.ground_baseline.specs.Baseline.{Map, baseline_of}
use Rattle.ground_baseline.specs.Stamps.{shut_cells, entries, RectsStamped, Open, Setting, blocked_at, Centres, Checked}
use Rattle.ground_baseline.proofs.Stamps.{cells_few}
use Rattle.ground_baseline.proofs.Marks.{mapped, mapped_cells, obstacles_whole, counted_rest, cleared_laid, laid_all, filled_baseline}

-- x columns, h rows, so (x + 1) * (h + 1) entries; the counts are v₀, then v₁ cleared, v₂ and v₃ laid, v₄ summed
module _ (m : Map) (obs : List ℤ) (w : Rect) (b : Bounds) (v₀ : List ℤ) (nb x h : ℕ) (p : Checked m obs w b (length v₀) nb) (ex : x ≡ width w) (eh : h ≡ height w) where
  entries_is : (x + 1) * (h + 1) ≡ entries w
  unfolding entries
  entries_is = rw (ex, eh)

  pub room : (x + 1) * (h + 1) ≤ length v₀
  room = rw (ex, eh) p.counts_room_lem

  wide : window_fits 8192 8192 w ≡ true
  wide = let k = mapped m p.map_fits_lem in fits_larger (8 * m.across) (8 * m.down) 8192 8192 w (omega arith) (omega arith) p.window

  pub setting : Setting (x + 1) w b
  setting = record { window = (framed 8192 8192 w wide).filled; mover = p.mover; stride_is = ap (λ (k : ℕ). k + 1) ex }

  module _ (v₁ : List ℤ) (e₁ : v₁ ≡ replicate ((x + 1) * (h + 1)) (pos 0) ++ drop ((x + 1) * (h + 1)) v₀) where
    laid₁ : RectsStamped w b (drop ((x + 1) * (h + 1)) v₀) [] v₁
    laid₁ = cleared_laid w b ((x + 1) * (h + 1)) v₀ v₁ entries_is room e₁

    pub asks_terrain : ((0 < m.across) × ((m.across ≤ 1024) × (length m.cells ≤ m.across * 1024))) × Open w b v₁ (length m.cells)
    asks_terrain =
        let k = mapped m p.map_fits_lem in
        let q = mapped_cells m k in
        ((omega arith, (k.across_le, q.0)), record { rest = drop ((x + 1) * (h + 1)) v₀; rects = []; laid = laid₁; few = omega arith })

    module _ (v₂ : List ℤ)
        (f₂ : (rest : List ℤ) (rs : List Rect) → RectsStamped w b rest rs v₁ → RectsStamped w b rest (shut_cells m (length m.cells) ++ rs) v₂)
      where
        laid₂ : RectsStamped w b (drop ((x + 1) * (h + 1)) v₀) (shut_cells m (length m.cells) ++ []) v₂
        laid₂ = f₂ (drop ((x + 1) * (h + 1)) v₀) [] laid₁

        few₂ : length (shut_cells m (length m.cells) ++ []) ≤ 1048576
        few₂ =
            let q = mapped_cells m (mapped m p.map_fits_lem) in
            omega (arith, length-append (shut_cells m (length m.cells)) [], cells_few m (length m.cells))

        pub asks_obstacles : (length obs ≡ length (rects_of obs) * 4) × Open w b v₂ (length (rects_of obs))
        asks_obstacles =
            let o = obstacles_whole obs p.obstacles in
            (o.0, record { rest = drop ((x + 1) * (h + 1)) v₀; rects = shut_cells m (length m.cells) ++ []; laid = laid₂; few = omega (arith, few₂) })

        module _ (v₃ : List ℤ) (f₃ : (rest : List ℤ) (rs : List Rect) → RectsStamped w b rest rs v₂ → RectsStamped w b rest (rects_of obs ++ rs) v₃) where
          laid₃ : RectsStamped w b (drop ((x + 1) * (h + 1)) v₀) (laid_all m (rects_of obs)) v₃
          laid₃ = f₃ (drop ((x + 1) * (h + 1)) v₀) (shut_cells m (length m.cells) ++ []) laid₂

          few₃ : length (laid_all m (rects_of obs)) ≤ 1052672
          few₃ =
              let o = obstacles_whole obs p.obstacles in
              omega (arith, few₂, length-append (rects_of obs) (shut_cells m (length m.cells) ++ []))

          pub asks_finish : (0 < x + 1) × ((x + 1 ≤ (x + 1) * (h + 1)) × SpansReady (x + 1) ((x + 1) * (h + 1)) v₃)
          asks_finish =
              let q : 1 ≤ h + 1 = omega arith in (
                omega arith,
                (
                  omega (arith, mul-le-mul_left (x + 1) q),
                  rw (entries_is, ex) (record { spans = laid₃.spans; stamped = laid₃.stamped; inside = laid₃.inside; few = omega (arith, laid₃.many, few₃) }),
                ),
              )

          module _ (v₄ : List ℤ) (k : Counted (x + 1) ((x + 1) * (h + 1)) v₃ v₄) where
            pub asks_centres : length v₄ ≡ length v₀ → Centres w b m.across m.down (length v₄) nb
            asks_centres e =
                let q = mapped m p.map_fits_lem in
                record {
                  window = wide;
                  mover = p.mover;
                  across_le = q.across_le;
                  down_le = q.down_le;
                  counts_room_lem = omega (arith, entries_is, room);
                  baseline_room_lem = p.baseline_room_lem;
                }

            rest₃ : drop ((x + 1) * (h + 1)) v₃ ≡ drop ((x + 1) * (h + 1)) v₀
            rest₃ = ap (λ (n : ℕ). drop n v₃) entries_is ∙ laid₃.kept

            pub cleared : (v₅ : List ℤ) → v₅ ≡ replicate ((x + 1) * (h + 1)) (pos 0) ++ drop ((x + 1) * (h + 1)) v₄
                → v₅ ≡ replicate ((width w + 1) * (height w + 1)) (pos 0) ++ drop ((width w + 1) * (height w + 1)) v₀
            cleared v₅ e =
                rw (← ex, ← eh) (e ∙ ap (λ (l : List ℤ). replicate ((x + 1) * (h + 1)) (pos 0) ++ l) (counted_rest (x + 1) ((x + 1) * (h + 1)) v₃ v₄ k ∙ rest₃))

            pub marked : (u₀ u : List ℕ) → u
                ≡ filled (blocked_at m b (up w.left) (up w.top) (width w) v₄) (centres w) u₀ → u
                ≡ baseline_of m (rects_of obs) b w ++ drop (centres w) u₀
            marked u₀ u e =
                let j = rw (entries_is, ex) at k in
                e ∙ filled_baseline m (rects_of obs) w b wide (drop ((x + 1) * (h + 1)) v₀) v₃ v₄ laid₃ few₃ j u₀
