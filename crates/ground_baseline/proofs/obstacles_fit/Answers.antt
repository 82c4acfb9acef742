-- The answers to the goals of `ground_baseline::obstacles_fit`.
use mathlib.Core.Path.{◌≡◌, refl, sym, ap, ◌∙◌}
use mathlib.Core.Bool.{Bool, true, false, ◌&&◌, and-false}
use mathlib.Core.List.{List}
use Prim.Native.Nat.{ℕ, ◌/◌, ◌%◌, ◌≤◌, ◌<◌}
use native.Mathlib.Omega.{arith}
use lib.Dec.{leb}
use lib.IntN.{ℤ, pos}
use lib.ListN.{length}
use borrow.Author.Tests.{le-leb, lt-leb, leb-true, leb-false}
use Rattle.base_laws.specs.Lists.{all_of}
use Rattle.base_laws.proofs.Tests.{all_true, all_false}
use Rattle.base_model.specs.declared.Rect.{Rect}
use Rattle.ground_rects.specs.Rects.{rect, nonempty, rects_of}
use Rattle.ground_rects.specs.Spans.{nth_rect}
use Rattle.ground_rects.proofs.Rows.{rects_length, rects_at, rects_part}
use Rattle.ground_baseline.proofs.obstacles_fit.Goals as goal

fits : List ℤ → Bool
fits obs = leb (length (rects_of obs)) 4096 && all_of nonempty (rects_of obs)

empty : Rect
empty = rect (pos 0) (pos 0) (pos 0) (pos 0)

many : (obs : List ℤ) → 16384 < length obs → fits obs ≡ false
unfolding fits
many obs h = rw (lt-leb (length (rects_of obs)) 4096 (omega (arith, rects_length obs)))

not_all : (obs : List ℤ) → all_of nonempty (rects_of obs) ≡ false → fits obs ≡ false
unfolding fits
not_all obs e = rw e (and-false (leb (length (rects_of obs)) 4096))

part : (obs : List ℤ) → (length obs % 4 ≡ 0 → ⊥) → fits obs ≡ false
part obs h = not_all obs (rects_part obs (omega (arith, rects_length obs)))

one : (obs : List ℤ) (i : ℕ) → i < length obs / 4 → nonempty (nth_rect obs i) ≡ false → fits obs ≡ false
one obs i h e = not_all obs (all_false nonempty empty (rects_of obs) i (omega (arith, rects_length obs)) (ap nonempty (rects_at obs i empty (omega arith)) ∙ e))

unfit : (obs : List ℤ) → (length obs ≤ 16384 → length obs % 4 ≡ 0 → ⊥) → fits obs ≡ false
unfit obs f = go (leb (length obs) 16384) refl
  where
    go : (t : Bool) → leb (length obs) 16384 ≡ t → fits obs ≡ false
    go true e = part obs (f (leb-true (length obs) 16384 e))
    go false e = many obs (leb-false (length obs) 16384 e)

good : (obs : List ℤ) → length obs ≤ 16384 → length obs % 4 ≡ 0 → ((k : ℕ) → k < length obs / 4 → nonempty (nth_rect obs k) ≡ true) → fits obs ≡ true
unfolding fits
good obs h e f =
    rw (le-leb (length (rects_of obs)) 4096 (omega (arith, rects_length obs)))
    (all_true nonempty empty (rects_of obs) (λ k q.
    let j : k < length obs / 4 = omega (arith, rects_length obs) in
    ap nonempty (rects_at obs k empty (omega arith)) ∙ f k j))

pub returns-then-obstacles-gt-MOST_EDGES : goal.returns-then-obstacles-gt-MOST_EDGES
unfolding fits
returns-then-obstacles-gt-MOST_EDGES c = sym (unfit c.args.obstacles.now (λ h k. grind arith))

pub returns-then-not-nonempty : goal.returns-then-not-nonempty
unfolding fits
returns-then-not-nonempty c =
    sym (one c.args.obstacles.now c.loop-i.i c.loop-i-test.true
    (ap nonempty (sym c.rect_at.ensures) ∙ sym c.nonempty.ensures ∙ c.if-not-nonempty.true))

pub returns : goal.returns
unfolding fits
returns c = sym (good c.args.obstacles.now (omega arith) (omega arith) (λ k h. c.loop-i.invariant.1 k (omega arith)))
