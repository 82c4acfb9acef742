-- The clearing of rows, row by row.
use Prim.Native.Nat.{ℕ, ◌+◌, ◌-◌, ◌*◌, ◌≤◌, ◌<◌}
use mathlib.Core.Path.{◌≡◌, refl, sym, ◌∙◌, ap}
use mathlib.Core.List.{List, ◌++◌, map}
use native.Mathlib.Omega.{arith}
use native.Mathlib.Numerals.{add-one}
use lib.ListN.{length, drop, get_or}
use lib.Seq.{get_or-append-add, get_or-drop}
use Rattle.base_laws.specs.Lists.{below, flat, padded}
use Rattle.base_laws.specs.Fill.{zeros, over}
use Rattle.base_laws.proofs.Stores.{length_zeros, length_padded, length_over}
use Rattle.rule_calls.specs.Areas.{laid, row_of, row}
use Rattle.search_tidy.specs.Stores.{RowsIn}
use Rattle.rule_calls.proofs.Clearing.{up_to, row_used, row_begins, length_blocks}
use Rattle.rule_calls.proofs.Whole.{clear_rows, clear_from, rows_up, rows_cleared}

-- the first k rows are cleared
pub record Cleared (a₀ : List ℕ) (count n k : ℕ) (a : List ℕ) : Type 0 where
  pub so : a ≡ clear_rows a₀ k
  pub kept : length a ≡ length a₀
  pub within : k ≤ count

pub cleared_begin : (a₀ : List ℕ) (count n : ℕ) → Cleared a₀ count n 0 a₀
unfolding clear_rows
cleared_begin a₀ count n = record { so = refl; kept = refl; within = omega arith }

up_read : (a : List ℕ) (k : ℕ) → ((j : ℕ) → j < k → get_or a (7 * j) 0 ≤ 6) → 7 * k ≤ length a → get_or (up_to 7 (row_used a) a k) (k * 7) 0 ≡ get_or a (7 * k) 0
unfolding up_to
up_read a k h l =
    let X : List ℕ = flat (map (λ (j : ℕ). padded 7 (row_used a j)) (below k)) in
    let e : length X ≡ k * 7 = length_blocks 7 (λ (j : ℕ). padded 7 (row_used a j)) k (λ j q. length_padded 7 (row_used a j) (row_begins a j (h j q) (omega arith)).size) in
    ap (λ (m : ℕ). get_or (X ++ drop (k * 7) a) m 0) (let x : k * 7 ≡ length X + 0 = omega arith in x)
    ∙ get_or-append-add X (drop (k * 7) a) 0 0
    ∙ get_or-drop (k * 7) a 0 0
    ∙ ap (λ (m : ℕ). get_or a m 0) (let x : k * 7 + 0 ≡ 7 * k = omega arith in x)

module _ (a₀ : List ℕ) (count n k : ℕ) (a : List ℕ) (p : RowsIn a₀ count n) (c : Cleared a₀ count n k a) where
  pub cleared_read : k < count → get_or a (k * 7) 0 ≡ get_or a₀ (7 * k) 0
  cleared_read h =
      let r = p.room in let w = p.long in
      ap (λ (q : List ℕ). get_or q (k * 7) 0) (c.so ∙ rows_up a₀ k (λ j q. p.six j (omega arith)) (omega arith)) ∙ up_read a₀ k (λ j q. p.six j (omega arith)) (omega arith)

  pub cleared_six : k < count → get_or a (k * 7) 0 ≤ 6
  cleared_six h = let e = cleared_read h in let s = p.six k h in omega arith

  pub cleared_room : k < count → k * 7 + 7 ≤ length a
  cleared_room h = let r = p.room in let w = p.long in let t = c.kept in omega arith

  pub cleared_next : k < count → (b : List ℕ) → b ≡ over a (k * 7 + (get_or a (k * 7) 0 + 1)) (zeros (6 - get_or a (k * 7) 0)) → Cleared a₀ count n (k + 1) b
  unfolding clear_rows
  cleared_next h b e =
      let u : ℕ = get_or a (k * 7) 0 in
      let s = cleared_six h in
      let r = cleared_room h in
      let z = length_zeros (6 - get_or a (k * 7) 0) in
      record {
        so = e
            ∙ ap (λ (m : ℕ). over a (k * 7 + (m + 1)) (zeros (6 - m))) (cleared_read h)
            ∙ ap (λ (q : List ℕ). over q (k * 7 + (get_or a₀ (7 * k) 0 + 1)) (zeros (6 - get_or a₀ (7 * k) 0))) c.so
            ∙ ap (λ (m : ℕ). over (clear_rows a₀ k) (k * 7 + m) (zeros (6 - get_or a₀ (7 * k) 0))) (add-one (get_or a₀ (7 * k) 0))
            ∙ ap (clear_rows a₀) (sym (add-one k));
        kept = ap length e ∙ length_over a (k * 7 + (get_or a (k * 7) 0 + 1)) (zeros (6 - get_or a (k * 7) 0)) (omega arith) ∙ c.kept;
        within = omega arith;
      }

  pub cleared_end : count ≤ k → (b : List ℕ) → b ≡ over a (count * 7) (zeros (n - count * 7)) → b ≡ laid n (flat (map row (map (row_of a₀) (below count)))) a₀
  unfolding clear_from
  cleared_end h b e =
      let w = c.within in
      let x : k ≡ count = omega arith in
      e ∙ ap (λ (q : List ℕ). over q (count * 7) (zeros (n - count * 7))) (c.so ∙ ap (clear_rows a₀) x)
      ∙ rows_cleared a₀ count n p.six p.room p.long
