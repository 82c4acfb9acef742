-- Frames up to an evaluation or a stop: what stays true from frame to frame, and the frames left as a number read off the record.
use Prim.Native.Nat.{ℕ, ◌+◌, ◌-◌, ◌*◌, ◌<◌}
use mathlib.Core.Path.{◌≡◌, refl, sym, ◌∙◌, ap}
use mathlib.Core.Bool.{Bool, true, false}
use mathlib.Core.List.{List, [], ◌∷◌, map, map-map, reverse}
use native.Mathlib.Omega.{arith}
use lib.ListN.{length, get_or, length-reverse, get_or-map}
use Rattle.base_laws.specs.Lists.{below, total, padded}
use Rattle.base_laws.proofs.Lists.{below_out, map_get_d, sum_append, sum_same}
use Rattle.base_model.specs.declared.Limits.{Limits}
use Rattle.base_model.specs.declared.Record.{Record}
use Rattle.rule_layouts.specs.Boards.{Board}
use Rattle.rule_search.specs.State.{Extensions, State, frames_left}
use Rattle.rule_search.specs.Frames.{Plan, advance}
use Rattle.rule_calls.specs.Areas.{record_of}
use Rattle.search_rows.proofs.Stacks.{padded_at}
use Rattle.search_turn.specs.Portion.{Fitting, Part, SomePart, Turned, Sought, frames_in}
use Rattle.search_turn.proofs.Laying.{made_snoc, length_made, longs, nexts}

-- ---- frames left
no_list : Extensions
no_list = record { entries = []; next = 0 }

abbrev frames_of_lem : Extensions → ℕ
frames_of_lem l = 2 * (length l.entries - l.next) + 1

total_made : (ls : List Extensions) → total (map frames_of_lem (reverse ls)) ≡ total (map frames_of_lem ls)
unfolding total
total_made [] = refl
total_made (l ∷ ls) =
    omega (
      arith,
      ap (λ (q : List ℕ). total q) (made_snoc frames_of_lem l ls),
      sum_append (map frames_of_lem (reverse ls)) (frames_of_lem l ∷ []),
      total_made ls,
    )

number_at : (f : Extensions → ℕ) → f no_list ≡ 0 → (ls : List Extensions) (k : ℕ) → k < length ls → get_or (padded 6 (map f (reverse ls))) k 0 ≡ f (get_or (reverse ls) k no_list)
number_at f z ls k h =
    padded_at 6 (map f (reverse ls)) k (let m = length_made f ls in omega arith)
    ∙ ap (λ (d : ℕ). get_or (map f (reverse ls)) k d) (sym z)
    ∙ get_or-map f (reverse ls) k no_list

pub left_is : (n : ℕ) (s : State) (r : Record) → r ≡ record_of n s → frames_in r ≡ frames_left s
unfolding frames_in frames_left record_of no_list
left_is n s r e =
    ap frames_in e
    ∙ ap (λ (k : ℕ). elim s.pending [ true ↦ 1 | false ↦ 0 ] + k)
    (sum_same (λ (k : ℕ). 2 * (get_or (padded 6 (longs s.lists)) k 0 - get_or (padded 6 (nexts s.lists)) k 0) + 1)
    (λ (k : ℕ). frames_of_lem (get_or (reverse s.lists) k no_list)) (below (length s.lists))
    (λ k m.
    let a = number_at (λ (l : Extensions). length l.entries) refl s.lists k (below_out (length s.lists) k m) in
    let b = number_at (λ (l : Extensions). l.next) refl s.lists k (below_out (length s.lists) k m) in
    omega arith)
    ∙ ap (λ (j : ℕ). total (map (λ (k : ℕ). frames_of_lem (get_or (reverse s.lists) k no_list)) (below j))) (sym (length-reverse s.lists))
    ∙ ap (λ (q : List ℕ). total q) (sym (map-map frames_of_lem (λ (k : ℕ). get_or (reverse s.lists) k no_list) (below (length (reverse s.lists)))))
    ∙ ap (λ (q : List Extensions). total (map frames_of_lem q)) (map_get_d no_list (reverse s.lists))
    ∙ total_made s.lists)

-- ---- from frame to frame
pub record Gone (g : Board) (p : Plan) (l₀ v₀ : List ℕ) (s : State) (r : Record) (lists visited : List ℕ) : Type 0 where
  pub t : State
  pub part : Part g p l₀ v₀ t r lists visited
  pub same : advance p s ≡ advance p t
  pub kept : t.layouts ≡ s.layouts

pub record Seeking (l : Limits) (n : ℕ) (r₀ : Record) (lists₀ visited : List ℕ) (r : Record) (lists : List ℕ) : Type 0 where
  pub some : SomePart l n r lists visited
  pub on : (g : Board) (p : Plan) (l₀ v₀ : List ℕ) (s : State) → Fitting g p l n → Part g p l₀ v₀ s r₀ lists₀ visited → Gone g p l₀ v₀ s r lists visited
  pub size : length lists ≡ length lists₀

pub seeking_begin : (l : Limits) (n : ℕ) (r₀ : Record) (lists₀ visited : List ℕ) → SomePart l n r₀ lists₀ visited → Seeking l n r₀ lists₀ visited r₀ lists₀
seeking_begin l n r₀ lists₀ visited x = record { some = x; on = λ g p l₀ v₀ s fit h. record { t = s; part = h; same = refl; kept = refl }; size = refl }

module _ (l : Limits) (n : ℕ) (r₀ : Record) (lists₀ visited : List ℕ) (r : Record) (lists : List ℕ) (k : Seeking l n r₀ lists₀ visited r lists) (q : Record) (goes : Bool)
    (lists' : List ℕ)
    (f : (g : Board) (p : Plan) (l₀ v₀ : List ℕ) (s : State) → Fitting g p l n → Part g p l₀ v₀ s r lists visited → Turned g p l₀ v₀ s q goes lists' visited) where
  turned : Turned k.some.g k.some.p k.some.l₀ k.some.v₀ k.some.s q goes lists' visited
  turned = f k.some.g k.some.p k.some.l₀ k.some.v₀ k.some.s k.some.fitting k.some.part

  pub seeking_less : goes ≡ true → frames_in q < frames_in r
  seeking_less e =
      omega (
        arith,
        left_is k.some.g.places.count k.some.s r k.some.part.rec,
        left_is k.some.g.places.count turned.t q turned.part.rec,
        turned.less e,
      )

  pub seeking_on : length lists' ≡ length lists → Seeking l n r₀ lists₀ visited q lists'
  seeking_on e = record {
    some = record { g = k.some.g; p = k.some.p; fitting = k.some.fitting; l₀ = k.some.l₀; v₀ = k.some.v₀; s = turned.t; part = turned.part };
    on = λ g p l₀ v₀ s fit h.
        let u = k.on g p l₀ v₀ s fit h in
        let w = f g p l₀ v₀ u.t fit u.part in
        record { t = w.t; part = w.part; same = u.same ∙ w.same; kept = w.kept ∙ u.kept };
    size = e ∙ k.size;
  }

  pub seeking_end : goes ≡ false → (g : Board) (p : Plan) (l₀ v₀ : List ℕ) (s : State) → Fitting g p l n → Part g p l₀ v₀ s r₀ lists₀ visited → Sought g p l₀ v₀ s q lists' visited
  seeking_end e g p l₀ v₀ s fit h =
      let u = k.on g p l₀ v₀ s fit h in
      let w = f g p l₀ v₀ u.t fit u.part in
      record { t = w.t; part = w.part; same = u.same ∙ w.same; kept = w.kept ∙ u.kept; due = w.due e }
