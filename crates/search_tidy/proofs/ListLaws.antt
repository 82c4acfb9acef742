-- The clearing of lists, list by list.
use Prim.Native.Nat.{ℕ, suc, ◌+◌, ◌-◌, ◌*◌, ◌≤◌, ◌<◌}
use mathlib.Core.Path.{◌≡◌, refl, sym, ◌∙◌, ap}
use mathlib.Core.List.{List, map, reverse}
use native.Mathlib.Omega.{arith}
use native.Mathlib.Numerals.{add-one}
use native.Mathlib.Nat.{suc-mul, mul-le-mul_right}
use lib.ListN.{length, get_or, take}
use lib.Seq.{get_or-take}
use Rattle.base_laws.specs.Lists.{flat, padded}
use Rattle.base_laws.specs.Fill.{zeros, over}
use Rattle.base_laws.proofs.Stores.{length_zeros, length_over}
use Rattle.base_model.specs.declared.Record.{Record}
use Rattle.rule_search.specs.State.{Extensions}
use Rattle.rule_calls.specs.Areas.{laid, lists_of}
use Rattle.search_tidy.specs.Stores.{ListsIn}
use Rattle.rule_calls.proofs.Whole.{clear_lists, clear_from, lists_cleared}

-- the first k lists are cleared
pub record Swept (a₀ : List ℕ) (n m : ℕ) (ls : List ℕ) (k : ℕ) (a : List ℕ) : Type 0 where
  pub so : a ≡ clear_lists ls n a₀ k
  pub kept : length a ≡ length a₀
  pub within : k ≤ m

pub swept_begin : (a₀ : List ℕ) (n m : ℕ) (ls : List ℕ) → Swept a₀ n m ls 0 a₀
unfolding clear_lists
swept_begin a₀ n m ls = record { so = refl; kept = refl; within = omega arith }

pub record Place (k n : ℕ) (a : List ℕ) : Type 0 where
  pub inside : k * n + n ≤ length a
  pub small : k * n + n ≤ 36864
  pub low : k < 6

module _ (a₀ : List ℕ) (n m : ℕ) (ls : List ℕ) (k : ℕ) (a : List ℕ) (p : ListsIn a₀ ls m n) (c : Swept a₀ n m ls k a) where
  pub swept_place : k < m → Place k n a
  swept_place h =
      let d = p.deep in let w = p.long in let s = p.small in let t = c.kept in
      let y = suc-mul k n in
      let g : suc k * n ≤ 6 * n = mul-le-mul_right n (let u : suc k ≤ 6 = omega arith in u) in
      record { inside = omega arith; small = omega arith; low = omega arith }

  pub swept_next : k < m → (b : List ℕ) → b ≡ over a (k * n + get_or (take m ls) k 0) (zeros (n - get_or (take m ls) k 0)) → Swept a₀ n m ls (k + 1) b
  unfolding clear_lists
  swept_next h b t =
      let e : b ≡ over a (k * n + get_or ls k 0) (zeros (n - get_or ls k 0)) = t ∙ ap (λ (u : ℕ). over a (k * n + u) (zeros (n - u))) (get_or-take m ls k 0 h) in
      let q = swept_place h in
      let f = p.fits k h in
      let z = length_zeros (n - get_or ls k 0) in
      record {
        so = e
            ∙ ap (λ (q : List ℕ). over q (k * n + get_or ls k 0) (zeros (n - get_or ls k 0))) c.so
            ∙ ap (clear_lists ls n a₀) (sym (add-one k));
        kept = ap length e ∙ length_over a (k * n + get_or ls k 0) (zeros (n - get_or ls k 0)) (let i = q.inside in omega arith) ∙ c.kept;
        within = omega arith;
      }

-- at the end, with the record
pub swept_end : (a₀ : List ℕ) (r : Record) (k : ℕ) (a : List ℕ) → ListsIn a₀ r.lengths r.lists r.placements → Swept a₀ r.placements r.lists r.lengths k a
    → r.lists ≤ k → (b : List ℕ) → b ≡ over a (r.lists * r.placements) (zeros (6 * r.placements - r.lists * r.placements))
    → b ≡ laid (6 * r.placements) (flat (map (λ (e : Extensions). padded r.placements e.entries) (reverse (lists_of r a₀ r.lists)))) a₀
unfolding clear_from
swept_end a₀ r k a p c h b e =
    let w = c.within in
    let x : k ≡ r.lists = omega arith in
    e ∙ ap (λ (q : List ℕ). over q (r.lists * r.placements) (zeros (6 * r.placements - r.lists * r.placements))) (c.so ∙ ap (clear_lists r.lengths r.placements a₀) x)
    ∙ lists_cleared r a₀ r.placements refl r.lists (6 * r.placements) p.fits (mul-le-mul_right r.placements p.deep) p.long
