-- A row of numbers in pairs: the entries of the pair k, and how many pairs there are.
use mathlib.Core.Path.{◌≡◌, ap, ◌∙◌}
use mathlib.Core.List.{List, []}
use Prim.Native.Nat.{ℕ, zero, suc, ◌+◌, ◌*◌, ◌/◌, ◌<◌}
use native.Mathlib.Omega.{arith}
use lib.IntN.{ℤ, pos}
use lib.ListN.{length, get_or, drop}
use Rattle.std.specs.Simd.{first_chunks}
use Rattle.std.proofs.lemmas.List.{get_or-take, get_or-drop}

entry_at : (l : List ℤ) (n k i : ℕ) → k < n → i < 2 → get_or (get_or (first_chunks 2 n l) k []) i (pos 0) ≡ get_or l (2 * k + i) (pos 0)
entry_at l zero k i h j = absurd (omega arith)
entry_at l (suc n) zero i h j = get_or-take 2 l i (pos 0) j ∙ ap (λ (m : ℕ). get_or l m (pos 0)) (omega arith)
entry_at l (suc n) (suc k) i h j =
    entry_at (drop 2 l) n k i (omega arith) j ∙ get_or-drop 2 l (2 * k + i) (pos 0) ∙ ap (λ (m : ℕ). get_or l m (pos 0)) (omega arith)

-- the two numbers of a pair, and that they are of the row
pub record Pair (l : List ℤ) (pair : List ℤ) (k : ℕ) : Type 0 where
  pub first : get_or pair 0 (pos 0) ≡ get_or l (2 * k) (pos 0)
  pub second : get_or pair 1 (pos 0) ≡ get_or l (2 * k + 1) (pos 0)
  pub within : 2 * k + 1 < length l

pub pair_at : (l : List ℤ) (pairs : List (List ℤ)) (k : ℕ) → pairs ≡ first_chunks 2 (length l / 2) l → length pairs ≡ length l / 2
    → k < length pairs → Pair l (get_or pairs k []) k
pair_at l pairs k e n h =
    rw e
    (record {
      first = entry_at l (length l / 2) k 0 (omega arith) (omega arith) ∙ ap (λ (m : ℕ). get_or l m (pos 0)) (omega arith);
      second = entry_at l (length l / 2) k 1 (omega arith) (omega arith);
      within = omega arith;
    })
