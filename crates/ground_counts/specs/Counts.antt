-- The difference grid: rows of s entries, the first n of them in use. A span adds 1 at its corners top left and bottom right, and takes 1 away at the other two.
-- Sums along the rows, then down the columns, turn the entries into the numbers of spans that cover them.
use Rattle.std.specs.Prelude.{◌≡◌, Bool, true, false, cond, ◌&&◌, List, [], ◌∷◌, ℕ, ◌+◌, ◌*◌, ◌/◌, ◌%◌, ◌≤◌, ◌<◌, ltb, leb, eqb, ℤ, pos, negsuc, ◌+ℤ◌, length, get_or, set}
use Rattle.std.specs.Int.Signed.{mag}
use Rattle.std.specs.Int.{w32}
use Rattle.std.proofs.Common.{SFits}
use Rattle.base_laws.specs.Ints.{up, dn}
use Rattle.ground_rects.specs.declared.Span.{Span}
use Rattle.ground_rects.specs.Spans.{in_span}

abbrev pub bit : Bool → ℕ
bit true = 1
bit false = 0

abbrev pub in_b : ℕ → ℕ → ℕ → Bool
in_b a b i = leb a i && ltb i b

-- how many of the spans cover column x of row y
unfoldable pub count_of : List Span → ℕ → ℕ → ℕ
count_of [] x y = 0
count_of (p ∷ ps) x y = bit (in_span p x y) + count_of ps x y

-- ---- one span. One that is empty or inverted adds nothing
unfoldable pub live : Span → Bool
live p = ltb p.left p.right && ltb p.top p.bottom

abbrev pub at_top_left : ℕ → Span → ℕ
at_top_left s p = p.top * s + p.left

abbrev pub at_top_right : ℕ → Span → ℕ
at_top_right s p = p.top * s + p.right

abbrev pub at_bottom_left : ℕ → Span → ℕ
at_bottom_left s p = p.bottom * s + p.left

abbrev pub at_bottom_right : ℕ → Span → ℕ
at_bottom_right s p = p.bottom * s + p.right

-- what it adds to entry i, and what it takes away
unfoldable pub plus1 : ℕ → Span → ℕ → ℕ
plus1 s p i = bit (live p && eqb i (at_top_left s p)) + bit (live p && eqb i (at_bottom_right s p))

unfoldable pub minus1 : ℕ → Span → ℕ → ℕ
minus1 s p i = bit (live p && eqb i (at_top_right s p)) + bit (live p && eqb i (at_bottom_left s p))

-- the same after the sums along the rows
unfoldable pub row_plus1 : ℕ → Span → ℕ → ℕ
row_plus1 s p i = bit (live p && in_b (at_top_left s p) (at_top_right s p) i)

unfoldable pub row_minus1 : ℕ → Span → ℕ → ℕ
row_minus1 s p i = bit (live p && in_b (at_bottom_left s p) (at_bottom_right s p) i)

-- and down the columns
unfoldable pub cover1 : ℕ → Span → ℕ → ℕ
cover1 s p i = bit (in_span p (i % s) (i / s))

-- ---- all the spans
unfoldable pub sum_of : (Span → ℕ → ℕ) → List Span → ℕ → ℕ
sum_of f [] i = 0
sum_of f (p ∷ ps) i = f p i + sum_of f ps i

-- each ends within the row
pub data Inside (s : ℕ) : List Span → Type 0 where
  none : Inside s []
  more : {p : Span} {ps : List Span} → p.right ≤ s → Inside s ps → Inside s (p ∷ ps)

-- z is p − m
abbrev pub Diff : ℤ → ℕ → ℕ → Type 0
Diff z p m = up z + m ≡ dn z + p

-- the first n entries hold what the spans' corners add
pub record Stamped (s n : ℕ) (ps : List Span) (v : List ℤ) : Type 0 where
  pub long : n ≤ length v
  pub at : (i : ℕ) → i < n → Diff (get_or v i (pos 0)) (sum_of (plus1 s) ps i) (sum_of (minus1 s) ps i)

-- ---- adding a span
unfoldable pub bumped : List ℤ → ℕ → ℤ → List ℤ
bumped v k z = set v k (get_or v k (pos 0) +ℤ z)

unfoldable pub stamp_of : ℕ → Span → List ℤ → List ℤ
stamp_of s p v =
    cond (live p)
    (bumped (bumped (bumped (bumped v (at_top_left s p) (pos 1)) (at_top_right s p) (negsuc 0)) (at_bottom_left s p) (negsuc 0)) (at_bottom_right s p) (pos 1))
    v

-- its corners lie in v, and the entries there are far from overflow
pub record Stampable (s : ℕ) (p : Span) (v : List ℤ) : Type 0 where
  pub fits : live p ≡ true → at_bottom_right s p < length v
  pub small : (i : ℕ) → i ≤ at_bottom_right s p → mag (get_or v i (pos 0)) < 2147483644

-- ---- running sums at a stride of d: below k, out is v with the entry d before it added
pub record ScanTo (v : List ℤ) (d k : ℕ) (out : List ℤ) : Type 0 where
  pub base : (i : ℕ) → i < d → i < k → get_or out i (pos 0) ≡ get_or v i (pos 0)
  pub step : (i : ℕ) → i + d < k → get_or out (i + d) (pos 0) ≡ get_or v (i + d) (pos 0) +ℤ get_or out i (pos 0)

-- the same of the first n entries, and no other entry changes
pub record Scan (v : List ℤ) (d n : ℕ) (out : List ℤ) : Type 0 where
  pub sums : ScanTo v d n out
  pub size : length out ≡ length v
  pub kept : (i : ℕ) → n ≤ i → get_or out i (pos 0) ≡ get_or v i (pos 0)

-- each sum fits signed 32 bits
pub record SumsFit (v : List ℤ) (d n : ℕ) : Type 0 where
  pub room : (out : List ℤ) (i : ℕ) → i + d < n → ScanTo v d (i + d) out → SFits w32 (get_or v (i + d) (pos 0) +ℤ get_or out i (pos 0))

-- v is what some spans' corners add, no more of them than 1,024 × 1,024 cells and 4,096 obstacles
pub record SpansReady (s n : ℕ) (v : List ℤ) : Type 0 where
  pub spans : List Span
  pub stamped : Stamped s n spans v
  pub inside : Inside s spans
  pub few : length spans ≤ 1052672

-- whatever spans v was stamped with, out counts them, and no entry past the first n changes
pub record Counted (s n : ℕ) (v out : List ℤ) : Type 0 where
  pub counts : (ps : List Span) → Stamped s n ps v → Inside s ps → length ps ≤ 1052672 → (i : ℕ) → i < n → get_or out i (pos 0) ≡ pos (count_of ps (i % s) (i / s))
  pub size : length out ≡ length v
  pub kept : (i : ℕ) → n ≤ i → get_or out i (pos 0) ≡ get_or v i (pos 0)
