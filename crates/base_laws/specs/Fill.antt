-- Zeros, a part stored in a list, and what a loop that writes a value at each index in turn leaves, from a place on.
use Rattle.std.specs.Prelude.{◌≡◌, ℕ, ◌+◌, ◌≤◌, List, map, ◌++◌, length, take, drop, replicate}
use Rattle.base_laws.specs.Lists.{below}

abbrev pub zeros : ℕ → List ℕ
zeros n = replicate n 0

-- l with ys stored from `at` on
unfoldable pub over : {A : Type 0} → List A → ℕ → List A → List A
over l at ys = (take at l ++ ys) ++ drop (at + length ys) l

-- f i at each i below n, then v's own entries
unfoldable pub filled : {A : Type 0} → (ℕ → A) → ℕ → List A → List A
filled f n v = map f (below n) ++ drop n v

-- the same from `at` on
unfoldable pub filled_from : {A : Type 0} → (ℕ → A) → ℕ → ℕ → List A → List A
filled_from f at n v = take at v ++ filled f n (drop at v)

-- v₀ has become v before the turn at i, of n turns, the first of which writes at `at`
pub record FillingFrom {A : Type 0} (f : ℕ → A) (at n : ℕ) (v₀ v : List A) (i : ℕ) : Type 0 where
  pub upto : i ≤ n
  pub size : length v ≡ length v₀
  pub holds : v ≡ filled_from f at i v₀

-- the first turn writes at 0
abbrev pub Filling : {A : Type 0} → (ℕ → A) → ℕ → List A → List A → ℕ → Type 0
Filling f n v₀ v i = FillingFrom f 0 n v₀ v i
