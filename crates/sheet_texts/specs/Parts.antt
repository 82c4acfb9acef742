-- The parts that a result is written in, what it is written from, and where it then stands (RULES 9.4).
use Rattle.std.specs.Prelude.{ℕ, zero, suc, ◌*◌, ◌≤◌, ◌<◌, ◌≡◌, List, ◌∷◌, ◌++◌, length, take, drop, get_or}
use Rattle.base_laws.specs.Lists.{total}
use Rattle.rule_calls.specs.Areas.{reason_of, row_of, positions}
use Rattle.text_forms.specs.Forms.{decimal}
use Rattle.text_forms.specs.Patterns.{bytes}
use Rattle.sheet_texts.specs.Texts.{reason_text, layout_text}

-- how many bytes hold any result
abbrev pub enough : ℕ
enough = 262144

-- with a space before it, unless it is the first
unfoldable pub gap : ℕ → List ℕ → List ℕ
gap zero w = w
gap (suc k) w = 32 ∷ w

-- a result's first line
unfoldable pub head_text : (reason evaluations placements layouts : ℕ) → List ℕ
head_text reason evaluations placements layouts =
    bytes "(result " ++ reason_text (reason_of reason) ++ 32 ∷ decimal evaluations ++ 32 ∷ decimal placements ++ 32 ∷ decimal layouts ++ bytes ")\n"

-- the line of layout k
unfoldable pub row_text : (routes layouts points : List ℕ) → ℕ → List ℕ
row_text routes layouts points k = layout_text k (row_of layouts k) (positions (take (2 * get_or routes k 0) (drop (2 * total (take k routes)) points)))

-- what lines of layouts are written from: at most 32 rows of at most 6 members, and at most 8,192 points, all inside the areas
pub record Writable (count : ℕ) (routes layouts points : List ℕ) : Type 0 where
  pub few : count ≤ 32
  pub rows : 7 * count ≤ length layouts
  pub members : (k : ℕ) → k < count → get_or layouts (7 * k) 0 ≤ 6
  pub kept : 2 * total (take count routes) ≤ length points
  pub bounded : length points ≤ 16384

-- the text stands in front of the area, up to n, and past it all is as before
pub record Front (w before out : List ℕ) (n : ℕ) : Type 0 where
  pub text : out ≡ w ++ drop (length w) before
  pub ends : n ≡ length w
