-- A state laid out in record and areas: its numbers, and what a list taken from, gone or made does to the record and to the lists' area.
use Prim.Native.Nat.{ℕ, suc, ◌+◌, ◌-◌, ◌*◌, ◌≤◌, ◌<◌}
use mathlib.Core.Path.{◌≡◌, refl, sym, ◌∙◌, ap, ap₂, subst}
use mathlib.Core.Bool.{Bool, true, false}
use mathlib.Core.Logic.{⊎_elim}
use mathlib.Core.List.Memᴰ
use mathlib.Core.List.{List, [], ◌∷◌, ◌++◌, map, map-append, reverse, reverse-cons, Memᴰ}
use native.Mathlib.Omega.{arith}
use native.Mathlib.Numerals.{add-one}
use native.Mathlib.Nat.{suc-mul, mul-le-mul_right}
use lib.ListN.{length, drop, get_or, set, length-map, length-reverse}
use Rattle.base_laws.specs.Lists.{flat, padded}
use Rattle.base_laws.specs.Fill.{zeros, over}
use Rattle.base_laws.proofs.Members.{reverse_member}
use Rattle.base_laws.proofs.Stores.{length_padded}
use Rattle.base_model.specs.declared.Record.{Record}
use Rattle.rule_layouts.specs.Boards.{Board}
use Rattle.rule_search.specs.State.{Reason, Running, Exhausted, StateLimit, ResultLimit, Extensions, Layout, State, state, stop}
use Rattle.rule_search.proofs.Moves.{held, taking}
use Rattle.rule_calls.specs.Areas.{number_of, laid, record_of}
use Rattle.search_rows.specs.Lay.{ListUsed}
use Rattle.search_rows.proofs.Stores.{padded_cut, padded_set, padded_trail, padded_last}
use Rattle.base_laws.proofs.Blocks.{flat_snoc, length_flat}
use Rattle.rule_search.specs.Formed.{FormedLists}
use Rattle.search_turn.specs.Portion.{stack_of, stop_rec, seen_rec, taken_rec, popped_rec}

-- ---- the numbers of a record
pub record Summed (n : ℕ) (s : State) (r : Record) : Type 0 where
  pub reason_is : r.reason ≡ number_of s.reason
  pub evaluations_are : r.evaluations ≡ length s.visited
  pub placements_are : r.placements ≡ n
  pub layouts_are : r.layouts ≡ length s.layouts
  pub lists_are : r.lists ≡ length s.lists
  pub pending_is : r.pending ≡ s.pending

pub summed : (n : ℕ) (s : State) (r : Record) → r ≡ record_of n s → Summed n s r
unfolding record_of
summed n s r e = record {
  reason_is = ap (λ (q : Record). q.reason) e;
  evaluations_are = ap (λ (q : Record). q.evaluations) e;
  placements_are = ap (λ (q : Record). q.placements) e;
  layouts_are = ap (λ (q : Record). q.layouts) e;
  lists_are = ap (λ (q : Record). q.lists) e;
  pending_is = ap (λ (q : Record). q.pending) e;
}

pub is_running_lem : (r : Reason) → number_of r ≡ 1 → r ≡ Running
unfolding number_of
is_running_lem Running e = refl
is_running_lem Exhausted e = absurd (let w : ⊥ = omega arith in w)
is_running_lem StateLimit e = absurd (let w : ⊥ = omega arith in w)
is_running_lem ResultLimit e = absurd (let w : ⊥ = omega arith in w)

pub not_running : (r : Reason) → (r ≡ Running → ⊥) → number_of r ≡ 1 → ⊥
not_running r h e = h (is_running_lem r e)

pub running_number : number_of Running ≡ 1
unfolding number_of
running_number = refl

pub no_lists : (ls : List Extensions) → length ls ≡ 0 → ls ≡ []
no_lists [] e = refl
no_lists (l ∷ ls) e = absurd (let w : ⊥ = omega arith in w)

-- ---- a state by its parts
pub as_running : (P : State → Type 0) → ((b : Bool) (ls : List Extensions) (v : List (List ℕ)) (ys : List Layout) → P (held Running b ls v ys)) → (s : State) → s.reason ≡ Running → P s
as_running P f s e =
    subst P (ap (λ (r : Reason). held r s.pending s.lists s.visited s.layouts) (sym e)) (f s.pending s.lists s.visited s.layouts)

pub as_pending : (P : State → Type 0) (b : Bool) → ((ls : List Extensions) (v : List (List ℕ)) (ys : List Layout) → P (held Running b ls v ys)) → (s : State) → s.reason ≡ Running
    → s.pending ≡ b → P s
as_pending P b f s e =
    as_running (λ s. s.pending ≡ b → P s) (λ c ls v ys q. subst (λ (d : Bool). P (held Running d ls v ys)) (sym q) (f ls v ys)) s e

pub as_list : (P : State → Type 0) → ((l : Extensions) (ls : List Extensions) (v : List (List ℕ)) (ys : List Layout) → P (held Running false (l ∷ ls) v ys)) → (s : State) → s.reason ≡ Running
    → s.pending ≡ false → (length s.lists ≡ 0 → ⊥) → P s
as_list P f = as_pending (λ s. (length s.lists ≡ 0 → ⊥) → P s) false go
  where
    go : (ls : List Extensions) (v : List (List ℕ)) (ys : List Layout) → (length ls ≡ 0 → ⊥) → P (held Running false ls v ys)
    go [] v ys h = absurd (h refl)
    go (l ∷ ls) v ys h = f l ls v ys

-- ---- lists in order of making
pub made_snoc : (f : Extensions → ℕ) (l : Extensions) (ls : List Extensions) → map f (reverse (l ∷ ls)) ≡ map f (reverse ls) ++ (f l ∷ [])
made_snoc f l ls = ap (λ (q : List Extensions). map f q) (reverse-cons l ls) ∙ map-append f (reverse ls) (l ∷ [])

pub length_made : (f : Extensions → ℕ) (ls : List Extensions) → length (map f (reverse ls)) ≡ length ls
length_made f ls = length-map (reverse ls) f ∙ length-reverse ls

pub stack_snoc : (n : ℕ) (l : Extensions) (ls : List Extensions) → stack_of n (l ∷ ls) ≡ stack_of n ls ++ padded n l.entries
unfolding stack_of
stack_snoc n l ls =
    ap (λ (q : List Extensions). flat (map (λ (e : Extensions). padded n e.entries) q)) (reverse-cons l ls)
    ∙ flat_snoc (λ (e : Extensions). padded n e.entries) (reverse ls) l

abbrev pub longs : List Extensions → List ℕ
longs ls = map (λ (l : Extensions). length l.entries) (reverse ls)

abbrev pub nexts : List Extensions → List ℕ
nexts ls = map (λ (l : Extensions). l.next) (reverse ls)

-- ---- lines
pub line_short : (g : Board) (b : Bool) (ls : List Extensions) → FormedLists g b ls → (l : Extensions) → Memᴰ l ls → length l.entries ≤ g.places.count
line_short g b [] h l m = absurd (Memᴰ.not-nil m)
line_short g b (k ∷ ls) h l m =
    ⊎_elim (λ (e : l ≡ k). subst (λ (x : Extensions). length x.entries ≤ g.places.count) (sym e) h.0.short) (line_short g true ls h.1 l) (Memᴰ.cases_cons m)

pub line_used : (g : Board) (ls : List Extensions) → FormedLists g true ls → (l : Extensions) → Memᴰ l ls → ListUsed g.places.count l
line_used g [] h l m = absurd (Memᴰ.not-nil m)
line_used g (k ∷ ls) h l m =
    ⊎_elim (λ (e : l ≡ k). subst (λ (x : Extensions). ListUsed g.places.count x) (sym e) (record { taken = h.0.used refl; inside = h.0.inside; short = h.0.short }))
    (line_used g ls h.1 l) (Memᴰ.cases_cons m)

pub length_stack : (g : Board) (b : Bool) (ls : List Extensions) → FormedLists g b ls → length (stack_of g.places.count ls) ≡ length ls * g.places.count
unfolding stack_of
length_stack g b ls h =
    length_flat (λ (e : Extensions). padded g.places.count e.entries) g.places.count (reverse ls)
    (λ l m. length_padded g.places.count l.entries (line_short g b ls h l (reverse_member ls m)))
    ∙ ap (λ (k : ℕ). k * g.places.count) (length-reverse ls)

-- ---- the record
pub record_stop : (n : ℕ) (s : State) (r : Record) (c : Reason) (k : ℕ) → k ≡ number_of c → r ≡ record_of n s → stop_rec r k ≡ record_of n (stop c s)
unfolding record_of stop state
record_stop n s r c k q e = ap (λ (x : Record). stop_rec x k) e ∙ ap (λ (j : ℕ). stop_rec (record_of n s) j) q

module _ (n : ℕ) (l : Extensions) (ls : List Extensions) (v : List (List ℕ)) (ys : List Layout) (r : Record) (e : r ≡ record_of n (held Running false (l ∷ ls) v ys)) where
  pub top_is : r.lists - 1 ≡ length ls
  unfolding record_of
  top_is = let q = ap (λ (q : Record). q.lists) e in omega arith

  pub next_is : get_or r.nexts (r.lists - 1) 0 ≡ l.next
  unfolding record_of
  next_is =
      ap (λ (q : Record). get_or q.nexts (r.lists - 1) 0) e
      ∙ ap (λ (q : List ℕ). get_or (padded 6 q) (r.lists - 1) 0) (made_snoc (λ (l : Extensions). l.next) l ls)
      ∙ padded_last 6 (nexts ls) l.next (r.lists - 1) (top_is ∙ sym (length_made (λ (l : Extensions). l.next) ls))

  pub long_is : get_or r.lengths (r.lists - 1) 0 ≡ length l.entries
  unfolding record_of
  long_is =
      ap (λ (q : Record). get_or q.lengths (r.lists - 1) 0) e
      ∙ ap (λ (q : List ℕ). get_or (padded 6 q) (r.lists - 1) 0) (made_snoc (λ (l : Extensions). length l.entries) l ls)
      ∙ padded_last 6 (longs ls) (length l.entries) (r.lists - 1) (top_is ∙ sym (length_made (λ (l : Extensions). length l.entries) ls))

  module _ (deep : length ls < 6) where
    last_set : (f : Extensions → ℕ) (x : ℕ) → set (padded 6 (map f (reverse (l ∷ ls)))) (r.lists - 1) x ≡ padded 6 (map f (reverse ls) ++ (x ∷ []))
    last_set f x =
        let m = length_made f ls in
        ap (λ (q : List ℕ). set (padded 6 q) (r.lists - 1) x) (made_snoc f l ls)
        ∙ padded_set 6 (map f (reverse ls)) (f l ∷ []) (r.lists - 1) x (top_is ∙ sym m) (omega arith) (omega arith)

    last_gone : (f : Extensions → ℕ) → set (padded 6 (map f (reverse (l ∷ ls)))) (r.lists - 1) 0 ≡ padded 6 (map f (reverse ls))
    last_gone f = let m = length_made f ls in last_set f 0 ∙ padded_trail 6 1 (map f (reverse ls)) (omega arith)

    pub record_taken : taken_rec r ≡ record_of n (held Running true (taking l ∷ ls) v ys)
    unfolding record_of
    record_taken =
        let a : set r.nexts (r.lists - 1) (get_or r.nexts (r.lists - 1) 0 + 1) ≡ padded 6 (nexts (taking l ∷ ls)) =
        ap₂ (λ (q : List ℕ) (x : ℕ). set q (r.lists - 1) (x + 1)) (ap (λ (q : Record). q.nexts) e) next_is
        ∙ last_set (λ (l : Extensions). l.next) (l.next + 1)
        ∙ ap (λ (x : ℕ). padded 6 (nexts ls ++ (x ∷ []))) (add-one l.next)
        ∙ ap (λ (q : List ℕ). padded 6 q) (sym (made_snoc (λ (l : Extensions). l.next) (taking l) ls)) in
        let b : r.lengths ≡ padded 6 (longs (taking l ∷ ls)) =
        ap (λ (q : Record). q.lengths) e
        ∙ ap (λ (q : List ℕ). padded 6 q) (made_snoc (λ (l : Extensions). length l.entries) l ls ∙ sym (made_snoc (λ (l : Extensions). length l.entries) (taking l) ls)) in
        λ i. record {
          reason = (e i).reason;
          evaluations = (e i).evaluations;
          placements = (e i).placements;
          layouts = (e i).layouts;
          lists = (e i).lists;
          pending = true;
          routes = (e i).routes;
          lengths = b i;
          nexts = a i;
        }

    pub record_popped : popped_rec r ≡ record_of n (held Running false ls v ys)
    unfolding record_of
    record_popped =
        let a : set r.nexts (r.lists - 1) 0 ≡ padded 6 (nexts ls) =
        ap (λ (q : Record). set q.nexts (r.lists - 1) 0) e ∙ last_gone (λ (l : Extensions). l.next) in
        let b : set r.lengths (r.lists - 1) 0 ≡ padded 6 (longs ls) =
        ap (λ (q : Record). set q.lengths (r.lists - 1) 0) e ∙ last_gone (λ (l : Extensions). length l.entries) in
        λ i. record {
          reason = (e i).reason;
          evaluations = (e i).evaluations;
          placements = (e i).placements;
          layouts = (e i).layouts;
          lists = top_is i;
          pending = (e i).pending;
          routes = (e i).routes;
          lengths = b i;
          nexts = a i;
        }

-- the area after a list has gone
pub lists_popped : (g : Board) (l : Extensions) (ls : List Extensions) (a l₀ : List ℕ) (k m : ℕ) → FormedLists g false (l ∷ ls) → length ls < 6 → k ≡ length ls → m ≡ length l.entries
    → a ≡ laid (6 * g.places.count) (stack_of g.places.count (l ∷ ls)) l₀
    → over a (k * g.places.count) (zeros m) ≡ laid (6 * g.places.count) (stack_of g.places.count ls) l₀
unfolding laid
lists_popped g l ls a l₀ k m h deep ek em e =
    let n : ℕ = g.places.count in
    let z = length_stack g true ls h.1 in
    let w : suc (length ls) * n ≤ 6 * n = mul-le-mul_right n deep in
    ap₂ (λ (q : List ℕ) (j : ℕ). over q (k * n) (zeros j)) (e ∙ ap (λ (q : List ℕ). padded (6 * n) q ++ drop (6 * n) l₀) (stack_snoc n l ls)) em
    ∙ padded_cut (6 * n) n (stack_of n ls) l.entries (drop (6 * n) l₀) (k * n) (ap (λ (j : ℕ). j * n) ek ∙ sym z) h.0.short
    (let q = suc-mul (length ls) n in omega arith)

-- the set has been evaluated before
pub record_seen : (n : ℕ) (ls : List Extensions) (v : List (List ℕ)) (ys : List Layout) (r : Record) → r
    ≡ record_of n (held Running true ls v ys) → seen_rec r ≡ record_of n (held Running false ls v ys)
unfolding record_of
record_seen n ls v ys r e = ap (λ (q : Record). seen_rec q) e

pub taking_stack : (n : ℕ) (l : Extensions) (ls : List Extensions) → stack_of n (l ∷ ls) ≡ stack_of n (taking l ∷ ls)
taking_stack n l ls = stack_snoc n l ls ∙ sym (stack_snoc n (taking l) ls)
