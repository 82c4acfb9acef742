-- Lists in their places, and the set that stands on them, looked at in order of making.
use Prim.Native.Nat.{ℕ, zero, suc, ◌+◌, ◌-◌, ◌*◌, ◌≤◌, ◌<◌}
use mathlib.Core.Path.{◌≡◌, refl, sym, ◌∙◌, ap}
use mathlib.Core.List.{List, [], ◌∷◌, ◌++◌, map, reverse, reverse-append, Memᴰ}
use native.Mathlib.Omega.{arith}
use native.Mathlib.Numerals.{add-one}
use native.Mathlib.Nat.{suc-mul, mul-le-mul_right}
use lib.ListN.{length, take, get_or, length-append, length-map, length-reverse, get_or-append, get_or-map}
use lib.Seq.{take-suc, take_all, length-take-le}
use Rattle.base_laws.specs.Lists.{flat, padded, put_in}
use Rattle.base_laws.specs.Fill.{zeros}
use Rattle.base_laws.proofs.Members.{get_d_member}
use Rattle.base_laws.proofs.Stores.{length_padded}
use Rattle.rule_search.specs.State.{Extensions, last_taken, set_on}
use Rattle.rule_search.proofs.Formed.{length_set_on}
use Rattle.rule_calls.specs.Areas.{row}
use Rattle.search_rows.specs.Lay.{ListUsed, Stood, SomeStood}
use Rattle.base_laws.proofs.Blocks.{length_flat}
use Rattle.search_rows.proofs.Blocks.{entry_at}
use Rattle.search_rows.proofs.Sets.{row_head}

pub no_list : Extensions
no_list = record { entries = []; next = 0 }

-- the row is that of the set on the first k lists
pub record Sum (ms : List Extensions) (k : ℕ) (set : List ℕ) : Type 0 where
  pub so : set ≡ row (set_on (reverse (take k ms)))

last_get_d : (es : List ℕ) (n : ℕ) → 0 < n → last_taken es n ≡ get_or es (n - 1) 0
unfolding last_taken
last_get_d es zero h = absurd (omega arith)
last_get_d es (suc n) h = ap (λ (j : ℕ). get_or es j 0) (let w : n ≡ suc n - 1 = omega arith in w)

pub padded_at : (n : ℕ) (xs : List ℕ) (j : ℕ) → j < length xs → get_or (padded n xs) j 0 ≡ get_or xs j 0
unfolding padded
padded_at n xs j h = get_or-append xs (zeros (n - length xs)) 0 j h

module _ (a : List ℕ) (n : ℕ) (ns : List ℕ) (ms : List Extensions) (rest : List ℕ) (st : Stood a n ns ms rest) (k : ℕ) (h : k < length ns) where
  abbrev top : Extensions
  top = get_or ms k no_list

  inside : k < length ms
  inside = omega (arith, ap (λ (q : List ℕ). length q) st.nexts, length-map ms (λ (l : Extensions). l.next))

  used : ListUsed n top
  used = st.used top (get_d_member ms k no_list inside)

  next_is : get_or ns k 0 ≡ top.next
  unfolding no_list
  next_is = ap (λ (q : List ℕ). get_or q k 0) st.nexts ∙ get_or-map (λ (l : Extensions). l.next) ms k no_list

  width : (l : Extensions) → Memᴰ l ms → length (padded n l.entries) ≡ n
  width l m = length_padded n l.entries (st.used l m).short

  pub in_area : k * n + get_or ns k 0 - 1 < length a
  in_area =
      omega (
        arith,
        ap (λ (q : List ℕ). length q) st.laid,
        length-append (flat (map (λ (l : Extensions). padded n l.entries) ms)) rest,
        length_flat (λ (l : Extensions). padded n l.entries) n ms width,
        used.taken,
        used.inside,
        used.short,
        next_is,
        suc-mul k n,
        (let g : suc k * n ≤ length ms * n = mul-le-mul_right n inside in g),
      )

  pub read_is : get_or a (k * n + get_or ns k 0 - 1) 0 ≡ last_taken top.entries top.next
  read_is =
      let p = used.taken in
      let q = used.inside in
      let s = used.short in
      let e = next_is in
      ap (λ (l : List ℕ). get_or l (k * n + get_or ns k 0 - 1) 0) st.laid
      ∙ ap (λ (j : ℕ). get_or (flat (map (λ (l : Extensions). padded n l.entries) ms) ++ rest) j 0) (let w : k * n + get_or ns k 0 - 1 ≡ k * n + (top.next - 1) = omega arith in w)
      ∙ entry_at (λ (l : Extensions). padded n l.entries) n no_list rest ms k (top.next - 1) width inside (let w : top.next - 1 < n = omega arith in w)
      ∙ padded_at n top.entries (top.next - 1) (let w : top.next - 1 < length top.entries = omega arith in w)
      ∙ sym (last_get_d top.entries top.next p)

  more : set_on (reverse (take (k + 1) ms)) ≡ put_in (last_taken top.entries top.next) (set_on (reverse (take k ms)))
  unfolding set_on
  more =
      ap (λ (j : ℕ). set_on (reverse (take j ms))) (add-one k)
      ∙ ap (λ (q : List Extensions). set_on (reverse q)) (take-suc ms k no_list inside)
      ∙ ap set_on (reverse-append (take k ms) (top ∷ []))

  pub set_length : length (set_on (reverse (take k ms))) ≡ k
  set_length = omega (arith, length_set_on (reverse (take k ms)), length-reverse (take k ms), length-take-le k ms (let w : k ≤ length ms = omega (arith, inside) in w))

  pub sum_next : (held r : List ℕ) → Sum ms k held
      → ((s : List ℕ) → held ≡ row s → length s < 6 → r ≡ row (put_in (get_or a (k * n + get_or ns k 0 - 1) 0) s)) → Sum ms (k + 1) r
  sum_next held r s f = record {
    so =
        f (set_on (reverse (take k ms))) s.so (omega (arith, set_length, st.deep, inside))
        ∙ ap (λ (v : ℕ). row (put_in v (set_on (reverse (take k ms))))) read_is
        ∙ ap row (sym more);
  }

  pub sum_head : (held : List ℕ) → Sum ms k held → get_or held 0 0 < 6
  sum_head held s = omega (arith, ap (λ (q : List ℕ). get_or q 0 0) s.so, row_head (set_on (reverse (take k ms))), set_length, st.deep, inside)

pub sum_begin : (ms : List Extensions) → Sum ms 0 (zeros 7)
unfolding row padded set_on
sum_begin ms = record { so = refl }

pub sum_end : (a : List ℕ) (n : ℕ) (ns : List ℕ) (ms : List Extensions) (rest : List ℕ) → Stood a n ns ms rest
    → (k : ℕ) (held : List ℕ) → Sum ms k held → length ns ≤ k → held ≡ row (set_on (reverse ms))
sum_end a n ns ms rest st k held s h =
    let l : length ns ≡ length ms = ap (λ (q : List ℕ). length q) st.nexts ∙ length-map ms (λ (l : Extensions). l.next) in
    s.so ∙ ap (λ (q : List Extensions). row (set_on (reverse q))) (take_all k ms (let w : length ms ≤ k = omega arith in w))

-- what the reading of the placement last taken asks
pub record Reads (a : List ℕ) (n k m : ℕ) : Type 0 where
  pub one : 0 < m
  pub inside : k * n + m - 1 < length a

pub reads_ok : (a : List ℕ) (n : ℕ) (ns : List ℕ) (p : SomeStood a n ns) (k : ℕ) → k < length ns → Reads a n k (get_or ns k 0)
reads_ok a n ns p k h = record {
  one = omega (arith, (used a n ns p.ms p.rest p.stood k h).taken, next_is a n ns p.ms p.rest p.stood k h);
  inside = in_area a n ns p.ms p.rest p.stood k h;
}
