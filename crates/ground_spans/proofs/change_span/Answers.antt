-- The answers to the goals of `ground_spans::change_span`.
use mathlib.Core.Path.{refl}
use mathlib.Core.Logic.{inl}
use native.Mathlib.Omega.{arith}
use Rattle.ground_spans.specs.Changes.{made, allows}
use Rattle.ground_spans.proofs.Rows.{row_allowed, rows_more, rows_all, none_across}
use Rattle.ground_spans.proofs.change_span.Goals as goal

pub returns-then-right-left : goal.returns-then-right-left
returns-then-right-left c =
    none_across (made c.args.change) c.args.map.now c.args.width c.args.span c.if-right-left.true

pub change_row-requires : goal.change_row-requires
change_row-requires c =
    let a = c.args in
    let s = a.span in
    let p = c.requires.span_fits in
    row_allowed (made a.change) a.map.now a.width s.left s.right s.top s.bottom c.loop-y.map c.loop-y.y p.right p.some p.bottom
    c.if-right-left.false c.loop-y-test.true c.loop-y.invariant.1 (allows a.change) s refl refl refl refl c.requires.span_allows

pub loop-y-preserved : goal.loop-y-preserved
loop-y-preserved c =
    let a = c.args in
    let p = c.requires.span_fits in (
      inl (omega (arith, c.loop-y-test.true)),
      rows_more (made a.change) a.map.now a.width a.span.left a.span.right a.span.top a.span.bottom c.loop-y.map c.loop-y.y p.right p.some p.bottom
          c.if-right-left.false c.loop-y-test.true c.loop-y.invariant.1 c.change_row.new.row c.change_row.ensures,
    )

pub returns : goal.returns
returns c =
    let a = c.args in
    rows_all (made a.change) a.map.now a.width a.span c.loop-y.map c.loop-y.y c.loop-y-test.false c.loop-y.invariant.0 c.loop-y.invariant.1
