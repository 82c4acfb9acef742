-- The layout lines of two lists of layouts, the second beginning with the first: line k tells the layout and the route at k and nothing else, so as many lines
-- as the first has are the same in the second.
use Prim.Native.Nat.{ℕ, zero, suc, ◌+◌, ◌≤◌, ◌<◌}
use mathlib.Core.Path.{◌≡◌, refl, sym, ◌∙◌, ap, ap₂}
use mathlib.Core.List.{List, ◌++◌, map, append_assoc}
use native.Mathlib.Omega.{arith}
use Rattle.base_laws.specs.Lists.{span, below, flat}
use Rattle.rule_calls.specs.Areas.{positions}
use Rattle.promise.specs.Promise.{Held, layout_at}
use Rattle.promise.specs.Longer.{route_at, BeginsWith}
use Rattle.sheet_texts.specs.Texts.{layout_text}
use Rattle.promise_sheet.specs.LongerAnswers.{layout_lines}

module _ (f g : ℕ → List ℕ) where
  -- the n pieces from k on begin the m pieces from k on
  more_from : (k n m : ℕ) → n ≤ m → ((i : ℕ) → i < k + n → g i ≡ f i) → (more : List ℕ) × (flat (map g (span k m)) ≡ flat (map f (span k n)) ++ more)
  unfolding span flat
  more_from k zero m h e = (flat (map g (span k m)), refl)
  more_from k (suc n) zero h e = absurd (omega arith)
  more_from k (suc n) (suc m) h e =
      let r = more_from (suc k) n m (omega arith) (λ i q. e i (omega arith)) in
      (r.0, ap₂ ◌++◌ (e k (omega arith)) r.1 ∙ sym (append_assoc (f k) (flat (map f (span (suc k) n))) r.0))

pub more_lines : (later earlier : Held) → BeginsWith later earlier → (more : List ℕ) × (layout_lines later ≡ layout_lines earlier ++ more)
unfolding layout_lines below
more_lines later earlier b =
    more_from (line earlier) (line later) 0 earlier.rec.layouts later.rec.layouts b.layouts
    (λ k q. let h : k < earlier.rec.layouts = omega arith in ap₂ (layout_text k) (b.same k h) (ap positions (b.routes k h)))
  where
    line : Held → ℕ → List ℕ
    line h k = layout_text k (layout_at h k) (positions (route_at h k))
