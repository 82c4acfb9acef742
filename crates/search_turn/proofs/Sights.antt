-- What the look for the pending set among the visited rows asks and tells, of a state that record and areas hold.
use Prim.Native.Nat.{ℕ, ◌-◌, ◌*◌, ◌≤◌}
use mathlib.Core.Path.{◌≡◌, sym, ◌∙◌, ap, subst}
use mathlib.Core.Bool.{Bool, true}
use mathlib.Core.List.{List, ◌++◌, map, reverse, reverse-reverse}
use native.Mathlib.Omega.{arith}
use lib.ListN.{length, take, drop, length-append, length-map, length-reverse}
use lib.Seq.{take_at}
use Rattle.base_laws.specs.Lists.{padded}
use Rattle.base_laws.specs.Fill.{zeros}
use Rattle.base_laws.proofs.Members.{reverse_member}
use Rattle.base_laws.proofs.Stores.{length_padded}
use Rattle.base_model.specs.declared.Limits.{Limits}
use Rattle.base_model.specs.declared.Record.{Record}
use Rattle.rule_layouts.specs.Boards.{Board}
use Rattle.rule_search.specs.State.{Extensions, State, set_on}
use Rattle.rule_search.specs.Frames.{Plan}
use Rattle.rule_search.proofs.Formed.{length_set_on}
use Rattle.rule_calls.specs.Areas.{laid, row, record_of}
use Rattle.rule_calls.proofs.Back.{laid_front}
use Rattle.search_rows.specs.Lay.{Seek, Stood, SomeStood}
use Rattle.base_laws.proofs.Blocks.{length_flat}
use Rattle.rule_search.specs.Formed.{FormedLists}
use Rattle.search_rows.proofs.Sets.{length_row}
use Rattle.search_turn.specs.Portion.{stack_of, rows_flat, Fitting, Part, SomePart}
use Rattle.search_turn.proofs.Laying.{Summed, summed, line_used}

pub length_laid : (n : ℕ) (used a : List ℕ) → length used ≤ n → n ≤ length (laid n used a)
unfolding laid
length_laid n used a h = omega (arith, length-append (padded n used) (drop n a), length_padded n used h)

module _ (g : Board) (p : Plan) (l : Limits) (n : ℕ) (fit : Fitting g p l n) (l₀ v₀ : List ℕ) (s : State) (r : Record) (lists visited : List ℕ) (h : Part g p l₀ v₀ s r lists visited) where
  pub numbers : Summed g.places.count s r
  numbers = summed g.places.count s r h.rec

  abbrev pub behind : List ℕ
  behind = zeros (6 * g.places.count - length (stack_of g.places.count s.lists)) ++ drop (6 * g.places.count) l₀

  abbrev pub below' : List ℕ
  below' = zeros (7 * p.states - length (rows_flat s.visited)) ++ drop (7 * p.states) v₀

  pub part_stood : r.pending ≡ true → Stood lists n (take r.lists r.nexts) (reverse s.lists) behind
  unfolding stack_of record_of padded
  part_stood b =
      let on : FormedLists g true s.lists = subst (λ (x : Bool). FormedLists g x s.lists) (sym numbers.pending_is ∙ b) h.good.formed.lists in
      let taken : List ℕ = map (λ (e : Extensions). e.next) (reverse s.lists) in
      subst (λ (k : ℕ). Stood lists k (take r.lists r.nexts) (reverse s.lists) behind) fit.count_is
      (record {
        laid = h.lists_are ∙ laid_front (6 * g.places.count) (stack_of g.places.count s.lists) l₀;
        nexts =
            ap (λ (q : Record). take r.lists q.nexts) h.rec
            ∙ take_at taken (zeros (6 - length taken)) r.lists
            (length-map (reverse s.lists) (λ (e : Extensions). e.next) ∙ length-reverse s.lists ∙ sym numbers.lists_are);
        deep = omega (arith, length-reverse s.lists, h.good.formed.deep);
        used = λ x m. line_used g s.lists on x (reverse_member s.lists m);
      })

  pub part_seek : (count : ℕ) → count ≡ r.evaluations → (set : List ℕ) → set ≡ row (set_on (reverse (reverse s.lists))) → Seek visited count set (set_on s.lists) s.visited below'
  unfolding rows_flat
  part_seek count e set q = record {
    laid = h.visited_are ∙ laid_front (7 * p.states) (rows_flat s.visited) v₀;
    count = e ∙ numbers.evaluations_are;
    sought = q ∙ ap (λ (ls : List Extensions). row (set_on ls)) (reverse-reverse s.lists);
    six = omega (arith, length_set_on s.lists, h.good.formed.deep);
    few = λ v m. (h.good.formed.visited v m).six;
  }

  pub rows_inside : length (rows_flat s.visited) ≤ 7 * p.states
  unfolding rows_flat
  rows_inside =
      omega (arith, length_flat row 7 s.visited (λ v m. length_row v (h.good.formed.visited v m).six), h.good.states)

  pub visited_inside : (count : ℕ) → count ≡ r.evaluations → count * 7 ≤ length visited
  visited_inside count e =
      omega (
        arith,
        ap (λ (q : List ℕ). length q) h.visited_are,
        length_laid (7 * p.states) (rows_flat s.visited) v₀ rows_inside,
        numbers.evaluations_are,
        h.good.states,
      )

pub some_stood : (l : Limits) (n : ℕ) (r : Record) (lists visited : List ℕ) (x : SomePart l n r lists visited) → r.pending ≡ true → SomeStood lists n (take r.lists r.nexts)
some_stood l n r lists visited x b = record {
  small = omega (arith, x.fitting.sound.few, x.fitting.count_is);
  ms = reverse x.s.lists;
  rest = behind x.g x.p l n x.fitting x.l₀ x.v₀ x.s r lists visited x.part;
  stood = part_stood x.g x.p l n x.fitting x.l₀ x.v₀ x.s r lists visited x.part b;
}

pub few_lists : (l : Limits) (n : ℕ) (r : Record) (a v : List ℕ) (x : SomePart l n r a v) → r.lists ≤ 6
few_lists l n r a v x = omega (arith, (summed x.g.places.count x.s r x.part.rec).lists_are, x.part.good.formed.deep)
