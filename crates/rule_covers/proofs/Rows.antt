-- Covers and lifts that the checker computes, row by row: what a cover adds and a lift takes away, the bounds of counts from both sides, overlaps, rectangles beside
-- the window, and the refusals in their order.
use Prim.Native.Nat.{ℕ}
use mathlib.Core.Path.{◌≡◌, refl}
use mathlib.Core.Option.{none, some}
use mathlib.Core.List.{List, [], ◌∷◌, ◌++◌, map}
use lib.IntN.{pos, negsuc}
use lib.ListN.{replicate}
use Rattle.base_laws.specs.Lists.{all_of, span, below}
use Rattle.base_laws.specs.Fill.{filled}
use Rattle.base_model.specs.Answers.{refusal, ask, first}
use Rattle.base_model.specs.declared.Rect.{Rect}
use Rattle.base_model.specs.declared.Bounds.{Bounds}
use Rattle.ground_rects.specs.Rects.{rect, nonempty, keeps_off, small}
use Rattle.ground_rects.specs.Windows.{width, height, centres, window_fits, pixel_x, pixel_y}
use Rattle.rule_covers.specs.Covers.{
  one_more,
  may_rise,
  one_less,
  may_fall,
  AfterChange,
  off_centre,
  changed,
  may_change,
  change_checks,
  change_call,
  cover_call,
  lift_call,
}

-- a call and what it must leave
pub record Row : Type 0 where
  pub got : AfterChange
  pub want : AfterChange

unfoldable pub ◌gives◌ : AfterChange → AfterChange → Row
a gives b = record { got = a; want = b }

infix 3 ◌gives◌
unfoldable pub gots : List Row → List AfterChange
gots [] = []
gots (r ∷ rs) = r.got ∷ gots rs

unfoldable pub wants : List Row → List AfterChange
wants [] = []
wants (r ∷ rs) = r.want ∷ wants rs

unfoldable pub accepts : List ℕ → AfterChange
accepts counts = record { answer = none; baseline = counts }

unfoldable pub refuses : ℕ → List ℕ → AfterChange
refuses n counts = record { answer = some (refusal n); baseline = counts }

-- ---- values
unfoldable pub box : ℕ → ℕ → ℕ → ℕ → Rect
box l t r b = rect (pos l) (pos t) (pos r) (pos b)

unfoldable pub bounds : ℕ → ℕ → ℕ → ℕ → Bounds
bounds l t r b = record { left = l; top = t; right = r; bottom = b }

unfoldable pub still : Bounds
still = bounds 0 0 0 0

-- a window of 4 × 3 pixels
unfoldable pub W : Rect
W = box 2 3 6 6

unfoldable pub four : ℕ → ℕ → ℕ → ℕ → List ℕ
four a b c d = a ∷ b ∷ c ∷ d ∷ []

-- its baseline by rows, and three entries past it, which no call looks at
unfoldable pub ground : List ℕ → List ℕ → List ℕ → List ℕ
ground a b c = a ++ (b ++ (c ++ (9 ∷ 255 ∷ 0 ∷ [])))

-- so much at each centre
unfoldable pub level : ℕ → List ℕ
level n = ground (four n n n n) (four n n n n) (four n n n n)

-- ---- a name under which all of this unfolds
unfoldable pub computing : ℕ
unfolding all_of span below filled refusal ask first rect nonempty keeps_off small width height centres window_fits pixel_x pixel_y
    one_more may_rise one_less may_fall off_centre changed may_change change_checks change_call cover_call lift_call
    ◌gives◌ gots wants accepts refuses box bounds still W four ground level
computing = 0

-- ---- the mover's bounds: four different ones, in a window of 6 × 4 pixels
unfoldable pub wide : Rect
wide = box 2 3 8 7

unfoldable pub uneven : Bounds
uneven = bounds 3 0 1 2

unfoldable pub six : ℕ → ℕ → List ℕ
six a b = a ∷ b ∷ b ∷ b ∷ b ∷ b ∷ []

unfoldable pub reached : ℕ → ℕ → List ℕ
reached a b = six a b ++ (six a b ++ (six a b ++ (six a a ++ (9 ∷ []))))

pub reaching : List Row
reaching =
    (cover_call wide uneven (box 4 5 5 6) (reached 0 0) gives accepts (reached 0 1))
    ∷ (lift_call wide uneven (box 4 5 5 6) (reached 0 1) gives accepts (reached 0 0))
    ∷ (cover_call wide uneven (box 4 5 5 6) (reached 7 7) gives accepts (reached 7 8))
    ∷ (lift_call wide uneven (box 4 5 5 6) (reached 7 7) gives accepts (reached 7 6))
    ∷ []

pub covers_reach : gots reaching ≡ wants reaching
unfolding computing wide uneven six reached reaching
covers_reach = refl

-- ---- the bounds of a count: 254 beside 255 for a cover, 1 beside 0 for a lift. The rectangle reaches two centres of the middle row
unfoldable pub leaning : Bounds
leaning = bounds 1 0 0 0

unfoldable pub rise : List ℕ → AfterChange
rise counts = cover_call W leaning (box 3 4 4 5) counts

unfoldable pub fall : List ℕ → AfterChange
fall counts = lift_call W leaning (box 3 4 4 5) counts

-- n but for the middle row
unfoldable pub around : ℕ → List ℕ → List ℕ
around n row = ground (four n n n n) row (four n n n n)

pub rising : List Row
rising =
    (rise (level 0) gives accepts (around 0 (four 0 1 1 0)))
    ∷ (rise (around 0 (four 0 254 0 0)) gives accepts (around 0 (four 0 255 1 0)))
    ∷ (rise (around 0 (four 0 255 0 0)) gives refuses 20 (around 0 (four 0 255 0 0)))
    ∷ (rise (around 0 (four 0 0 254 0)) gives accepts (around 0 (four 0 1 255 0)))
    ∷ (rise (around 0 (four 0 0 255 0)) gives refuses 20 (around 0 (four 0 0 255 0)))
    ∷ (rise (around 0 (four 0 254 255 0)) gives refuses 20 (around 0 (four 0 254 255 0)))
    ∷ (rise (around 255 (four 255 254 254 255)) gives accepts (level 255))
    ∷ (rise (level 255) gives refuses 20 (level 255))
    -- the whole window: its first and its last centre
    ∷ (cover_call W still W (level 254) gives accepts (level 255))
    ∷ (cover_call W still W (ground (four 255 0 0 0) (four 0 0 0 0) (four 0 0 0 0)) gives refuses 20 (ground (four 255 0 0 0) (four 0 0 0 0) (four 0 0 0 0)))
    ∷ (cover_call W still W (ground (four 0 0 0 0) (four 0 0 0 0) (four 0 0 0 255)) gives refuses 20 (ground (four 0 0 0 0) (four 0 0 0 0) (four 0 0 0 255)))
    ∷ []

pub covers_rise : gots rising ≡ wants rising
unfolding computing leaning rise around rising
covers_rise = refl

pub falling : List Row
falling =
    (fall (level 255) gives accepts (around 255 (four 255 254 254 255)))
    ∷ (fall (around 9 (four 9 1 9 9)) gives accepts (around 9 (four 9 0 8 9)))
    ∷ (fall (around 9 (four 9 0 9 9)) gives refuses 20 (around 9 (four 9 0 9 9)))
    ∷ (fall (around 9 (four 9 9 1 9)) gives accepts (around 9 (four 9 8 0 9)))
    ∷ (fall (around 9 (four 9 9 0 9)) gives refuses 20 (around 9 (four 9 9 0 9)))
    ∷ (fall (around 9 (four 9 1 0 9)) gives refuses 20 (around 9 (four 9 1 0 9)))
    ∷ (fall (around 0 (four 0 1 1 0)) gives accepts (level 0))
    ∷ (fall (level 0) gives refuses 20 (level 0))
    -- the whole window: its first and its last centre
    ∷ (lift_call W still W (level 1) gives accepts (level 0))
    ∷ (lift_call W still W (ground (four 0 9 9 9) (four 9 9 9 9) (four 9 9 9 9)) gives refuses 20 (ground (four 0 9 9 9) (four 9 9 9 9) (four 9 9 9 9)))
    ∷ (lift_call W still W (ground (four 9 9 9 9) (four 9 9 9 9) (four 9 9 9 0)) gives refuses 20 (ground (four 9 9 9 9) (four 9 9 9 9) (four 9 9 9 0)))
    ∷ []

pub lifts_fall : gots falling ≡ wants falling
unfolding computing leaning fall around falling
lifts_fall = refl

-- ---- two rectangles that share a pixel, lifted in both orders; and one rectangle twice
unfoldable pub A : Rect
A = box 2 3 5 5

unfoldable pub B : Rect
B = box 4 4 6 6

-- what each leaves on open ground, and both
unfoldable pub under_a : List ℕ
under_a = ground (four 1 1 1 0) (four 1 1 1 0) (four 0 0 0 0)

unfoldable pub under_b : List ℕ
under_b = ground (four 0 0 0 0) (four 0 0 1 1) (four 0 0 1 1)

unfoldable pub under_both : List ℕ
under_both = ground (four 1 1 1 0) (four 1 1 2 1) (four 0 0 1 1)

unfoldable pub twice_a : List ℕ
twice_a = ground (four 2 2 2 0) (four 2 2 2 0) (four 0 0 0 0)

pub overlapping : List Row
overlapping =
    (cover_call W still A (level 0) gives accepts under_a)
    ∷ (cover_call W still B under_a gives accepts under_both)
    ∷ (lift_call W still A under_both gives accepts under_b)
    ∷ (lift_call W still B under_b gives accepts (level 0))
    ∷ (cover_call W still B (level 0) gives accepts under_b)
    ∷ (cover_call W still A under_b gives accepts under_both)
    ∷ (lift_call W still B under_both gives accepts under_a)
    ∷ (lift_call W still A under_a gives accepts (level 0))
    ∷ (cover_call W still A under_a gives accepts twice_a)
    ∷ (lift_call W still A twice_a gives accepts under_a)
    -- what was lifted is not lifted again
    ∷ (lift_call W still A under_b gives refuses 20 under_b)
    ∷ []

pub covers_overlap : gots overlapping ≡ wants overlapping
unfolding computing A B under_a under_b under_both twice_a overlapping
covers_overlap = refl

-- ---- rectangles beside the window: on each side they miss it, and reach it through the mover's bound of that side
pub beside : List Row
beside =
    (cover_call W still (box 20 20 21 21) (level 255) gives accepts (level 255))
    ∷ (lift_call W still (box 20 20 21 21) (level 0) gives accepts (level 0))
    ∷ (cover_call W (bounds 9 9 0 9) (box 6 3 7 6) (level 0) gives accepts (level 0))
    ∷ (cover_call W (bounds 0 0 1 0) (box 6 3 7 6) (level 0) gives accepts (ground (four 0 0 0 1) (four 0 0 0 1) (four 0 0 0 1)))
    ∷ (cover_call W (bounds 0 9 9 9) (box 1 3 2 6) (level 0) gives accepts (level 0))
    ∷ (cover_call W (bounds 1 0 0 0) (box 1 3 2 6) (level 0) gives accepts (ground (four 1 0 0 0) (four 1 0 0 0) (four 1 0 0 0)))
    ∷ (cover_call W (bounds 9 0 9 9) (box 2 2 6 3) (level 0) gives accepts (level 0))
    ∷ (cover_call W (bounds 0 1 0 0) (box 2 2 6 3) (level 0) gives accepts (ground (four 1 1 1 1) (four 0 0 0 0) (four 0 0 0 0)))
    ∷ (cover_call W (bounds 9 9 9 0) (box 2 6 6 7) (level 0) gives accepts (level 0))
    ∷ (cover_call W (bounds 0 0 0 1) (box 2 6 6 7) (level 0) gives accepts (ground (four 0 0 0 0) (four 0 0 0 0) (four 1 1 1 1)))
    ∷ (lift_call W (bounds 0 0 0 1) (box 2 6 6 7) (level 1) gives accepts (ground (four 1 1 1 1) (four 1 1 1 1) (four 0 0 0 0)))
    -- edges below zero, and past the map
    ∷ (cover_call W (bounds 4 5 0 0) (rect (negsuc 1) (negsuc 1) (negsuc 0) (negsuc 0)) (level 0) gives accepts (ground (four 1 0 0 0) (four 0 0 0 0) (four 0 0 0 0)))
    ∷ (cover_call W (bounds 3 5 0 0) (rect (negsuc 1) (negsuc 1) (negsuc 0) (negsuc 0)) (level 0) gives accepts (level 0))
    ∷ (cover_call W still (rect (negsuc 2147483647) (negsuc 2147483647) (pos 2147483647) (pos 2147483647)) (level 0) gives accepts (level 1))
    -- the largest bound
    ∷ (cover_call W (bounds 0 0 256 0) (box 261 3 262 6) (level 0) gives accepts (ground (four 0 0 0 1) (four 0 0 0 1) (four 0 0 0 1)))
    ∷ (cover_call W (bounds 0 0 256 0) (box 262 3 263 6) (level 0) gives accepts (level 0))
    ∷ []

pub covers_beside : gots beside ≡ wants beside
unfolding computing beside
covers_beside = refl

-- ---- no entry past the centres, and one entry too few; the map's last pixel
pub lent : List Row
lent =
    (cover_call W still W (replicate 12 0) gives accepts (replicate 12 1))
    ∷ (cover_call W still W (replicate 11 0) gives refuses 6 (replicate 11 0))
    ∷ (lift_call W still W (replicate 12 1) gives accepts (replicate 12 0))
    ∷ (lift_call W still W (replicate 11 1) gives refuses 6 (replicate 11 1))
    ∷ (cover_call (box 8191 8191 8192 8192) still (box 8191 8191 8192 8192) (0 ∷ []) gives accepts (1 ∷ []))
    ∷ []

pub covers_lent : gots lent ≡ wants lent
unfolding computing lent
covers_lent = refl

-- ---- the refusals in their order, through both calls
pub record Faulty : Type 0 where
  pub window : Rect
  pub mover : Bounds
  pub rectangle : Rect
  pub counts : List ℕ
  pub number : ℕ

unfoldable pub wrong : Rect → Bounds → Rect → List ℕ → ℕ → Faulty
wrong w m r counts n = record { window = w; mover = m; rectangle = r; counts = counts; number = n }

unfoldable pub by_cover : Faulty → AfterChange
by_cover f = cover_call f.window f.mover f.rectangle f.counts

unfoldable pub by_lift : Faulty → AfterChange
by_lift f = lift_call f.window f.mover f.rectangle f.counts

unfoldable pub wanted : Faulty → AfterChange
wanted f = refuses f.number f.counts

-- a rectangle that misses W; the rows of W at 0 and 255 by turns, so that two neighbours let neither a cover nor a lift pass
unfoldable pub far : Rect
far = box 20 20 21 21

unfoldable pub spent : List ℕ
spent = ground (four 0 255 0 255) (four 0 255 0 255) (four 0 255 0 255)

pub faulty : List Faulty
faulty =
    -- 2, then 4: empty and inverted across and down, below zero, past the map
    wrong (box 2 3 2 6) (bounds 257 0 0 0) far (level 9) 2
    ∷ wrong (box 2 3 6 3) (bounds 257 0 0 0) far (level 9) 2
    ∷ wrong (box 6 3 2 6) (bounds 257 0 0 0) far (level 9) 2
    ∷ wrong (box 2 6 6 3) (bounds 257 0 0 0) far (level 9) 2
    ∷ wrong (rect (negsuc 0) (pos 3) (pos 3) (pos 6)) (bounds 257 0 0 0) far (level 9) 2
    ∷ wrong (rect (pos 2) (negsuc 0) (pos 6) (pos 2)) (bounds 257 0 0 0) far (level 9) 2
    ∷ wrong (box 8189 3 8193 6) (bounds 257 0 0 0) far (level 9) 2
    ∷ wrong (box 2 8190 6 8193) (bounds 257 0 0 0) far (level 9) 2
    -- 4 for each bound, then 6
    ∷ wrong W (bounds 257 0 0 0) far (replicate 11 9) 4
    ∷ wrong W (bounds 0 257 0 0) far (replicate 11 9) 4
    ∷ wrong W (bounds 0 0 257 0) far (replicate 11 9) 4
    ∷ wrong W (bounds 0 0 0 257) far (replicate 11 9) 4
    -- 6, then 15
    ∷ wrong W (bounds 256 256 256 256) (box 20 20 20 21) (replicate 11 9) 6
    ∷ wrong W still (box 20 20 21 20) [] 6
    -- 15 across and down, empty and inverted, then 20
    ∷ wrong W (bounds 1 0 1 0) (box 4 4 4 5) spent 15
    ∷ wrong W (bounds 2 0 2 0) (box 5 4 4 5) spent 15
    ∷ wrong W (bounds 0 1 0 0) (box 3 4 5 4) spent 15
    ∷ wrong W (bounds 0 2 0 1) (box 3 5 5 4) spent 15
    -- 20
    ∷ wrong W still (box 3 4 5 5) spent 20
    ∷ []

pub in_order : map by_cover faulty ∷ map by_lift faulty ∷ [] ≡ replicate 2 (map wanted faulty)
unfolding computing wrong by_cover by_lift wanted far spent faulty
in_order = refl

-- ---- the window's bounds from both sides, on no baseline: one that passes 2 is refused with 6
unfoldable pub on_none : Rect → ℕ → Faulty
on_none w n = wrong w still (box 0 0 1 1) [] n

pub framed : List Faulty
framed =
    on_none (box 0 0 8192 1) 6
    ∷ on_none (box 0 0 8193 1) 2
    ∷ on_none (box 0 0 1 8192) 6
    ∷ on_none (box 0 0 1 8193) 2
    ∷ on_none (box 0 0 1024 1024) 6
    ∷ on_none (box 0 0 1024 1025) 2
    ∷ on_none (box 0 0 1025 1024) 2
    ∷ on_none (box 8191 8191 8192 8192) 6
    ∷ on_none (rect (negsuc 0) (pos 0) (pos 1) (pos 1)) 2
    ∷ on_none (rect (pos 0) (negsuc 0) (pos 1) (pos 1)) 2
    ∷ []

pub window_bounds : map by_cover framed ∷ map by_lift framed ∷ [] ≡ replicate 2 (map wanted framed)
unfolding computing wrong by_cover by_lift wanted on_none framed
window_bounds = refl

-- ---- a mover's bounds from both sides
unfoldable pub one_side : ℕ → List Bounds
one_side n = bounds n 0 0 0 ∷ bounds 0 n 0 0 ∷ bounds 0 0 n 0 ∷ bounds 0 0 0 n ∷ []

unfoldable pub covers_for : Bounds → AfterChange
covers_for m = cover_call W m far (level 0)

unfoldable pub lifts_for : Bounds → AfterChange
lifts_for m = lift_call W m far (level 0)

pub mover_bounds : map covers_for (one_side 256) ∷ map covers_for (one_side 257) ∷ map lifts_for (one_side 256) ∷ map lifts_for (one_side 257) ∷ []
    ≡ replicate 4 (accepts (level 0)) ∷ replicate 4 (refuses 4 (level 0)) ∷ replicate 4 (accepts (level 0)) ∷ replicate 4 (refuses 4 (level 0)) ∷ []
unfolding computing far one_side covers_for lifts_for
mover_bounds = refl
