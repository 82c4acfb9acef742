-- The answers to the goals of `ground_spans::span_allows`.
use mathlib.Core.Path.{refl, sym, ◌∙◌}
use mathlib.Core.Bool.{true≢false}
use Rattle.ground_spans.specs.Changes.{allows}
use Rattle.ground_spans.proofs.Rows.{passed_more, passed_all, row_fails, none_asked}
use Rattle.ground_spans.proofs.span_allows.Goals as goal

pub returns-then-right-left : goal.returns-then-right-left
returns-then-right-left c =
    let a = c.args in
    record { yes = λ e. none_asked (allows a.change) a.map.now a.width a.span c.if-right-left.true; no = λ e. absurd (true≢false e) }

pub returns-then-not-row_allows : goal.returns-then-not-row_allows
returns-then-not-row_allows c =
    let a = c.args in
    let s = a.span in
    let p = c.requires in
    record {
      yes = λ e. absurd (true≢false (sym e));
      no = λ e.
          row_fails (allows a.change) a.map.now a.width s.left s.right s.top s.bottom c.loop-y.y p.right p.some p.bottom
          c.if-right-left.false c.loop-y-test.true c.loop-y.invariant.from s refl refl refl refl
          (sym c.row_allows.ensures ∙ c.if-not-row_allows.true);
    }

pub loop-y-preserved : goal.loop-y-preserved
loop-y-preserved c =
    let a = c.args in
    let s = a.span in
    let p = c.requires in
    passed_more (allows a.change) a.map.now a.width s.left s.right s.top s.bottom c.loop-y.y p.right p.some p.bottom
    c.if-right-left.false c.loop-y-test.true c.loop-y.invariant.from c.loop-y.invariant
    (sym c.row_allows.ensures ∙ c.if-not-row_allows.false)

pub returns : goal.returns
returns c =
    let a = c.args in
    record {
      yes = λ e. passed_all (allows a.change) a.map.now a.width a.span c.loop-y.y c.loop-y-test.false c.loop-y.invariant;
      no = λ e. absurd (true≢false e);
    }
