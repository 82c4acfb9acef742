-- `call_cover::change_counts` meets its contract: each return is that of the first check that fails, and past all of them the span that the
-- rectangle is clipped to has changed.
use mathlib.Core.Path.{◌≡◌, sym, ap₂, ◌∙◌}
use Prim.Native.Nat.{ℕ, ◌*◌}
use native.Mathlib.Omega.{arith}
use Rattle.base_model.specs.declared.Rect.{Rect}
use Rattle.base_model.specs.Answers.{reply_of, said_of}
use Rattle.ground_rects.specs.Windows.{width, height, centres}
use Rattle.ground_rects.proofs.Windows.{framed}
use Rattle.ground_spans.specs.Changes.{made, allows}
use Rattle.call_cover.proofs.Asked.{window_refused, mover_refused, room_refused, rectangle_refused, count_refused, change_made}
use Rattle.call_cover.proofs.Asked.{span_fits, may_change_lem, may_not_change, is_changed}
use Rattle.call_cover.proofs.change_counts.Goals as goal

count : (w : Rect) (across down : ℕ) → across ≡ width w → down ≡ height w → across * down ≡ centres w
unfolding centres
count w across down e f = ap₂ ◌*◌ e f

pub returns-then-not-window_fits : goal.returns-then-not-window_fits
unfolding reply_of said_of
returns-then-not-window_fits c =
    let a = c.args in
    window_refused a.window a.mover a.rect (allows a.change) (made a.change) a.baseline.now
    (sym c.window_fits.ensures ∙ c.if-not-window_fits.true)

pub returns-then-not-small : goal.returns-then-not-small
unfolding reply_of said_of
returns-then-not-small c =
    let a = c.args in
    mover_refused a.window a.mover a.rect (allows a.change) (made a.change) a.baseline.now (sym c.window_fits.ensures ∙ c.if-not-window_fits.false)
    (sym c.small.ensures ∙ c.if-not-small.true)

pub width-width-requires : goal.width-width-requires
width-width-requires c = (framed 8192 8192 c.args.window (sym c.window_fits.ensures ∙ c.if-not-window_fits.false)).filled

pub height-requires : goal.height-requires
height-requires c = (framed 8192 8192 c.args.window (sym c.window_fits.ensures ∙ c.if-not-window_fits.false)).filled

pub overflow_mul-width : goal.overflow_mul-width
overflow_mul-width c = omega (arith, count c.args.window _ _ c.width-width.ensures.0 c.height.ensures.0, (framed 8192 8192 c.args.window (sym c.window_fits.ensures ∙ c.if-not-window_fits.false)).few)

pub returns-then-baseline-width : goal.returns-then-baseline-width
unfolding reply_of said_of
returns-then-baseline-width c =
    let a = c.args in
    room_refused a.window a.mover a.rect (allows a.change) (made a.change) a.baseline.now (sym c.window_fits.ensures ∙ c.if-not-window_fits.false) (sym c.small.ensures ∙ c.if-not-small.false)
    (omega (arith, count c.args.window _ _ c.width-width.ensures.0 c.height.ensures.0, c.if-baseline-width.true))

pub returns-then-not-nonempty : goal.returns-then-not-nonempty
unfolding reply_of said_of
returns-then-not-nonempty c =
    let a = c.args in
    rectangle_refused a.window a.mover a.rect (allows a.change) (made a.change) a.baseline.now
    (sym c.window_fits.ensures ∙ c.if-not-window_fits.false) (sym c.small.ensures ∙ c.if-not-small.false)
    (omega (arith, count c.args.window _ _ c.width-width.ensures.0 c.height.ensures.0, c.if-baseline-width.false))
    (sym c.nonempty.ensures ∙ c.if-not-nonempty.true)

pub clip-span-requires : goal.clip-span-requires
clip-span-requires c =
    ((framed 8192 8192 c.args.window (sym c.window_fits.ensures ∙ c.if-not-window_fits.false)).filled, (sym c.small.ensures ∙ c.if-not-small.false))

pub span_allows-requires : goal.span_allows-requires
span_allows-requires c =
    let a = c.args in
    span_fits a.window a.mover a.rect a.baseline.now (sym c.window_fits.ensures ∙ c.if-not-window_fits.false)
    (omega (arith, count c.args.window _ _ c.width-width.ensures.0 c.height.ensures.0, c.if-baseline-width.false)) _
    c.width-width.ensures.0 c.clip-span.result c.clip-span.ensures

pub returns-then-not-span_allows : goal.returns-then-not-span_allows
unfolding reply_of said_of
returns-then-not-span_allows c =
    let a = c.args in
    count_refused a.window a.mover a.rect (allows a.change) (made a.change) a.baseline.now
    (sym c.window_fits.ensures ∙ c.if-not-window_fits.false) (sym c.small.ensures ∙ c.if-not-small.false)
    (omega (arith, count c.args.window _ _ c.width-width.ensures.0 c.height.ensures.0, c.if-baseline-width.false))
    (sym c.nonempty.ensures ∙ c.if-not-nonempty.false)
    (may_not_change a.window a.mover a.rect a.baseline.now (sym c.window_fits.ensures ∙ c.if-not-window_fits.false)
    (omega (arith, count c.args.window _ _ c.width-width.ensures.0 c.height.ensures.0, c.if-baseline-width.false)) _
    c.width-width.ensures.0 c.clip-span.result c.clip-span.ensures (allows a.change)
    (c.span_allows.ensures.no (c.if-not-span_allows.true)))

pub change_span-requires : goal.change_span-requires
change_span-requires c =
    let a = c.args in record {
      span_fits = span_fits a.window a.mover a.rect a.baseline.now (sym c.window_fits.ensures ∙ c.if-not-window_fits.false)
          (omega (arith, count c.args.window _ _ c.width-width.ensures.0 c.height.ensures.0, c.if-baseline-width.false)) _
          c.width-width.ensures.0 c.clip-span.result c.clip-span.ensures;
      span_allows = c.span_allows.ensures.yes (c.if-not-span_allows.false);
    }

pub returns : goal.returns
unfolding reply_of
returns c =
    let a = c.args in
    change_made a.window a.mover a.rect (allows a.change) (made a.change) a.baseline.now
    (sym c.window_fits.ensures ∙ c.if-not-window_fits.false) (sym c.small.ensures ∙ c.if-not-small.false)
    (omega (arith, count c.args.window _ _ c.width-width.ensures.0 c.height.ensures.0, c.if-baseline-width.false))
    (sym c.nonempty.ensures ∙ c.if-not-nonempty.false)
    (may_change_lem a.window a.mover a.rect a.baseline.now (sym c.window_fits.ensures ∙ c.if-not-window_fits.false)
    (omega (arith, count c.args.window _ _ c.width-width.ensures.0 c.height.ensures.0, c.if-baseline-width.false)) _
    c.width-width.ensures.0 c.clip-span.result c.clip-span.ensures (allows a.change)
    (c.span_allows.ensures.yes (c.if-not-span_allows.false)))
    _
    (is_changed a.window a.mover a.rect a.baseline.now (sym c.window_fits.ensures ∙ c.if-not-window_fits.false)
    (omega (arith, count c.args.window _ _ c.width-width.ensures.0 c.height.ensures.0, c.if-baseline-width.false)) _
    c.width-width.ensures.0 c.clip-span.result c.clip-span.ensures (made a.change) _ c.change_span.ensures)
