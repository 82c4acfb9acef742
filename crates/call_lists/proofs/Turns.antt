-- One list looked at after those below it: what its head and its entries come to, and what stands when both pass.
use Prim.Native.Nat.{ℕ, ◌+◌, ◌-◌, ◌*◌, ◌≤◌, ◌<◌}
use mathlib.Core.Path.{◌≡◌, sym, ◌∙◌, ap}
use mathlib.Core.Bool.{Bool, true, false}
use mathlib.Core.List.{List}
use native.Mathlib.Omega.{arith}
use lib.ListN.{length, get_or, set, take, drop}
use Rattle.base_laws.specs.Lists.{all_of, below}
use Rattle.base_model.specs.declared.Record.{Record}
use Rattle.rule_layouts.specs.Boards.{Places}
use Rattle.call_rows.proofs.Tests.{below_more, below_fails}
use Rattle.call_lists.specs.Lent.{entry_fits, head_fits, stood, list_passes}
use Rattle.call_lists.proofs.Built.{Head, place_room, head_facts, Built, built_more, head_fails, entries_fail, list_passes_lem}

module _ (p : Places) (r : Record) (lists members : List ℕ) (k : ℕ) (b : Built p r lists members k) (deep : r.lists ≤ 6) (turn : k < r.lists) where
  abbrev passes : Bool
  passes = all_of (list_passes p r lists) (below r.lists)

  pub head_turns_away : head_fits p.count (get_or r.nexts k 0) (get_or r.lengths k 0) (stood r k) ≡ false → false ≡ passes
  head_turns_away e = sym (below_fails (list_passes p r lists) k r.lists turn (head_fails p r lists k members b.are e))

  module _ (places : r.placements ≡ p.count) where
    -- the entries are a part of the lists from k * p.count on
    abbrev entries : List ℕ
    entries = take (k * p.count + get_or r.lengths k 0 - k * p.count) (drop (k * p.count) lists)

    as_entries : all_of (entry_fits p (take k members)) entries ≡ all_of (entry_fits p (take k members)) (take (get_or r.lengths k 0) (drop (k * r.placements) lists))
    as_entries =
        let e : k * p.count + get_or r.lengths k 0 - k * p.count ≡ get_or r.lengths k 0 = omega arith in
        ap (λ (n : ℕ). all_of (entry_fits p (take k members)) (take n (drop (k * p.count) lists))) e
        ∙ ap (λ (n : ℕ). all_of (entry_fits p (take k members)) (take (get_or r.lengths k 0) (drop (k * n) lists))) (sym places)

    pub entries_turn_away : all_of (entry_fits p (take k members)) entries ≡ false → false ≡ passes
    entries_turn_away e = sym (below_fails (list_passes p r lists) k r.lists turn (entries_fail p r lists k members b.are (sym as_entries ∙ e)))

    module _ (long : 6 * p.count ≤ length lists) (head : head_fits p.count (get_or r.nexts k 0) (get_or r.lengths k 0) (stood r k) ≡ true) where
      facts : Head r p.count (get_or r.nexts k 0) (get_or r.lengths k 0) k
      facts = head_facts r p.count (get_or r.nexts k 0) (get_or r.lengths k 0) k head

      pub next_inside : get_or r.nexts k 0 ≤ get_or r.lengths k 0
      next_inside = facts.inside

      pub entries_inside : k * p.count + get_or r.lengths k 0 ≤ length lists
      entries_inside = omega (arith, place_room k p.count (omega arith), facts.short)

      module _ (all : all_of (entry_fits p (take k members)) entries ≡ true) where
        pub last_passes : get_or r.nexts k 0 ≡ 0 → true ≡ passes
        last_passes z =
            let l : r.lists ≡ k + 1 = omega (arith, facts.last z) in
            sym (ap (λ (n : ℕ). all_of (list_passes p r lists) (below n)) l
            ∙ below_more (list_passes p r lists) k b.passed (list_passes_lem p r lists k members b.are head (sym as_entries ∙ all)))

        pub one_more : (get_or r.nexts k 0 ≡ 0 → ⊥) → Built p r lists (set members k (get_or lists (k * p.count + get_or r.nexts k 0 - 1) 0)) (k + 1)
        one_more some =
            let m = get_or r.nexts k 0 - 1 in
            let at : k * p.count + get_or r.nexts k 0 - 1 ≡ k * r.placements + m = omega (arith, ap (λ (n : ℕ). k * n) places) in
            built_more p r lists members k m (get_or lists (k * p.count + get_or r.nexts k 0 - 1) 0) b (omega arith) head (sym as_entries ∙ all)
            (omega (arith, entries_inside, ap (λ (n : ℕ). k * n) places)) (omega arith) (ap (λ (n : ℕ). get_or lists n 0) at)
