-- Clearing the unused entries leaves what was read, laid out.
use Prim.Native.Nat.{ℕ, suc, ◌+◌, ◌-◌, ◌*◌, ◌≤◌, ◌<◌}
use mathlib.Core.Path.{◌≡◌, sym, ◌∙◌, ap}
use mathlib.Core.List.{List, ◌∷◌, ◌++◌, map, reverse, reverse-reverse, map-map}
use native.Mathlib.Omega.{arith}
use native.Mathlib.Nat.{suc-mul, zero-mul, mul_comm}
use native.Mathlib.Numerals.{add-one}
use lib.ListN.{length, take, drop, get_or, length-drop}
use lib.Seq.{drop-cons, length-take-le}
use Rattle.base_laws.specs.Lists.{below, span, flat, padded}
use Rattle.base_laws.specs.Fill.{zeros, over}
use Rattle.base_laws.proofs.Blocks.{flat_snoc, length_flat}
use Rattle.base_laws.proofs.Lists.{length_below, below_out}
use Rattle.base_laws.proofs.Stores.{length_padded}
use Rattle.base_laws.proofs.Tests.{below_last}
use Rattle.base_laws.proofs.Tables.{table_same}
use Rattle.base_model.specs.declared.Record.{Record}
use Rattle.rule_search.specs.State.{Extensions}
use Rattle.rule_calls.specs.Areas.{laid, row_of, list_of, lists_of, row}
use Rattle.rule_calls.proofs.Blocks.{clear_one, clear_rest}
use Rattle.rule_calls.proofs.Back.{lists_order}

-- ---- blocks of one width
pub flat_more : (f : ℕ → List ℕ) (k : ℕ) → flat (map f (below (suc k))) ≡ flat (map f (below k)) ++ f k
flat_more f k = ap (λ (q : List ℕ). flat (map f q)) (below_last k) ∙ flat_snoc f (below k) k

pub length_blocks : (w : ℕ) (f : ℕ → List ℕ) (k : ℕ) → ((j : ℕ) → j < k → length (f j) ≡ w) → length (flat (map f (below k))) ≡ k * w
length_blocks w f k h = length_flat f w (below k) (λ j m. h j (below_out k j m)) ∙ ap (λ (n : ℕ). n * w) (length_below k)

-- what an area of blocks holds: the used entries of block k stand at k × w
pub record Begins (w : ℕ) (used : ℕ → List ℕ) (a : List ℕ) (k : ℕ) : Type 0 where
  pub stands : used k ≡ take (length (used k)) (drop (k * w) a)
  pub size : length (used k) ≤ w

module _ (w : ℕ) (used : ℕ → List ℕ) (a : List ℕ) where
  -- the first k blocks are cleared
  unfoldable pub up_to : ℕ → List ℕ
  up_to k = flat (map (λ (j : ℕ). padded w (used j)) (below k)) ++ drop (k * w) a

  pub begin : up_to 0 ≡ a
  unfolding up_to flat below span
  begin = ap (λ (n : ℕ). drop n a) (zero-mul w)

  long : (k : ℕ) → ((j : ℕ) → j < k → Begins w used a j) → length (flat (map (λ (j : ℕ). padded w (used j)) (below k))) ≡ k * w
  long k h = length_blocks w (λ (j : ℕ). padded w (used j)) k (λ j l. length_padded w (used j) (h j l).size)

  pub next : (k : ℕ) → ((j : ℕ) → j < suc k → Begins w used a j) → suc k * w ≤ length a
      → over (up_to k) (k * w + length (used k)) (zeros (w - length (used k))) ≡ up_to (suc k)
  unfolding up_to
  next k h l =
      let m = suc-mul k w in
      let b = h k (omega arith) in
      clear_one (flat (map (λ (j : ℕ). padded w (used j)) (below k))) a (used k) (k * w) w (long k (λ j q. h j (omega arith))) b.stands b.size (omega arith)
      ∙ ap (λ (q : List ℕ). q ++ drop (k * w + w) a) (sym (flat_more (λ (j : ℕ). padded w (used j)) k))
      ∙ ap (λ (n : ℕ). flat (map (λ (j : ℕ). padded w (used j)) (below (suc k))) ++ drop n a) (sym m)

  pub rest : (k n : ℕ) → ((j : ℕ) → j < k → Begins w used a j) → k * w ≤ n
      → over (up_to k) (k * w) (zeros (n - k * w)) ≡ laid n (flat (map (λ (j : ℕ). padded w (used j)) (below k))) a
  unfolding up_to
  rest k n h l = clear_rest (flat (map (λ (j : ℕ). padded w (used j)) (below k))) a (k * w) n (long k h) l

-- ---- rows
abbrev pub row_used : List ℕ → ℕ → List ℕ
row_used a k = length (row_of a k) ∷ row_of a k

pub row_padded : (v : List ℕ) → row v ≡ padded 7 (length v ∷ v)
unfolding row padded
row_padded v = ap (λ (n : ℕ). length v ∷ (v ++ zeros n)) (let x : 6 - length v ≡ 7 - suc (length v) = omega arith in x)

pub length_row_of : (a : List ℕ) (k : ℕ) → get_or a (7 * k) 0 ≤ 6 → 7 * k + 7 ≤ length a → length (row_of a k) ≡ get_or a (7 * k) 0
unfolding row_of
length_row_of a k h l = length-take-le (get_or a (7 * k) 0) (drop (7 * k + 1) a) (let e = length-drop (7 * k + 1) a in omega arith)

row_is : (a : List ℕ) (k : ℕ) → row_of a k ≡ take (get_or a (7 * k) 0) (drop (suc (7 * k)) a)
unfolding row_of
row_is a k = ap (λ (n : ℕ). take (get_or a (7 * k) 0) (drop n a)) (add-one (7 * k))

pub row_begins : (a : List ℕ) (k : ℕ) → get_or a (7 * k) 0 ≤ 6 → 7 * k + 7 ≤ length a → Begins 7 (row_used a) a k
row_begins a k h l =
    let e = length_row_of a k h l in
    record {
      stands =
          ap (λ (n : ℕ). n ∷ row_of a k) e
          ∙ ap (λ (q : List ℕ). get_or a (7 * k) 0 ∷ q) (row_is a k ∙ ap (λ (n : ℕ). take n (drop (suc (7 * k)) a)) (sym e))
          ∙ ap (λ (q : List ℕ). take (suc (length (row_of a k))) q) (sym (drop-cons a (7 * k) 0 (omega arith)))
          ∙ ap (λ (n : ℕ). take (suc (length (row_of a k))) (drop n a)) (mul_comm 7 k);
      size = omega arith;
    }

-- the rows that the state holds, laid out again
pub rows_laid : (a : List ℕ) (m : ℕ) → flat (map row (map (row_of a) (below m))) ≡ flat (map (λ (k : ℕ). padded 7 (row_used a k)) (below m))
rows_laid a m = ap flat (map-map row (row_of a) (below m) ∙ table_same (λ (k : ℕ). row (row_of a k)) (λ (k : ℕ). padded 7 (row_used a k)) m (λ k l. row_padded (row_of a k)))

-- ---- lists
abbrev pub list_used : Record → List ℕ → ℕ → List ℕ
list_used r a k = (list_of r a k).entries

pub length_entries : (r : Record) (a : List ℕ) (n k : ℕ) → r.placements ≡ n → get_or r.lengths k 0 ≤ n → suc k * n ≤ length a → length (list_of r a k).entries ≡ get_or r.lengths k 0
unfolding list_of
length_entries r a n k p h l =
    length-take-le (get_or r.lengths k 0) (drop (k * r.placements) a)
    (let e = length-drop (k * r.placements) a in let q : k * r.placements ≡ k * n = ap (λ (j : ℕ). k * j) p in let m = suc-mul k n in omega arith)

pub list_begins : (r : Record) (a : List ℕ) (n k : ℕ) → r.placements ≡ n → get_or r.lengths k 0 ≤ n → suc k * n ≤ length a → Begins n (list_used r a) a k
unfolding list_of
list_begins r a n k p h l =
    let e = length_entries r a n k p h l in
    record {
      stands = ap (λ (j : ℕ). take j (drop (k * r.placements) a)) (sym e) ∙ ap (λ (j : ℕ). take (length (list_used r a k)) (drop (k * j) a)) p;
      size = omega arith;
    }

pub lists_made : (r : Record) (a : List ℕ) (m : ℕ) → reverse (lists_of r a m) ≡ map (list_of r a) (below m)
lists_made r a m = ap reverse (sym (lists_order r a m)) ∙ reverse-reverse (map (list_of r a) (below m))

pub lists_laid : (r : Record) (a : List ℕ) (n m : ℕ)
    → flat (map (λ (e : Extensions). padded n e.entries) (reverse (lists_of r a m))) ≡ flat (map (λ (k : ℕ). padded n (list_used r a k)) (below m))
lists_laid r a n m =
    ap (λ (q : List Extensions). flat (map (λ (e : Extensions). padded n e.entries) q)) (lists_made r a m)
    ∙ ap flat (map-map (λ (e : Extensions). padded n e.entries) (list_of r a) (below m))
