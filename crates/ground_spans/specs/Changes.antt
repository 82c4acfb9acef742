-- What is done to the bytes of a span of a map: to each byte, and to the map.
use Rattle.std.specs.Prelude.{◌≡◌, Bool, true, false, cond, List, ℕ, ◌*◌, ◌/◌, ◌%◌, ◌≤◌, ◌<◌, length, get_or}
use Rattle.ground_rects.specs.declared.Span.{Span}
use Rattle.ground_rects.specs.Spans.{in_span}
use Rattle.rule_covers.specs.Covers.{one_more, may_rise, one_less, may_fall}
use Rattle.ground_spans.specs.declared.Change.{Change}
use Rattle.ground_spans.specs.declared.Change.TheVariants.{Mark, Raise, Lower}

-- what a byte becomes
unfoldable pub made : Change → ℕ → ℕ
made Mark b = 1
made Raise b = one_more b
made Lower b = one_less b

-- it is a byte again
unfoldable pub allows : Change → ℕ → Bool
allows Mark b = true
allows Raise b = may_rise b
allows Lower b = may_fall b

-- the span lies in a map of so many columns
pub record SpanFits (width : ℕ) (p : Span) (cells : List ℕ) : Type 0 where
  pub some : 0 < width
  pub right : p.right ≤ width
  pub bottom : p.bottom * width ≤ length cells

-- each byte of the span passes the test
pub record SpanAllows (ok : ℕ → Bool) (width : ℕ) (p : Span) (cells : List ℕ) : Type 0 where
  pub each : (c : ℕ) → in_span p (c % width) (c / width) ≡ true → ok (get_or cells c 0) ≡ true

-- a byte of the span that does not
pub record SpanHas (ok : ℕ → Bool) (width : ℕ) (p : Span) (cells : List ℕ) : Type 0 where
  pub at : ℕ
  pub inside : in_span p (at % width) (at / width) ≡ true
  pub fails : ok (get_or cells at 0) ≡ false

-- r tells which
pub record SpanAsked (ok : ℕ → Bool) (width : ℕ) (p : Span) (cells : List ℕ) (r : Bool) : Type 0 where
  pub yes : r ≡ true → SpanAllows ok width p cells
  pub no : r ≡ false → SpanHas ok width p cells

-- the bytes of the span have changed, and the others are as they were
pub record SpanChanged (change : ℕ → ℕ) (width : ℕ) (p : Span) (cells cells' : List ℕ) : Type 0 where
  pub size : length cells' ≡ length cells
  pub at : (c : ℕ) → get_or cells' c 0 ≡ cond (in_span p (c % width) (c / width)) (change (get_or cells c 0)) (get_or cells c 0)
