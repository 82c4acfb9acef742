-- The search record as fifty numbers: how it is laid, and read back.
use Prim.Native.Nat.{ℕ, ◌+◌, ◌≤◌, ◌<◌}
use mathlib.Core.Path.{◌≡◌, refl, ◌∙◌, ap}
use mathlib.Core.Bool.{Bool, true, false}
use mathlib.Core.Option.{Option, none, some}
use mathlib.Core.List.{List, ◌++◌, append_assoc}
use native.Mathlib.Omega.{arith}
use lib.Dec.{leb, eqb}
use lib.ListN.{length, get_or, take, drop, length-append, length-drop}
use lib.Seq.{take_all, take_at, drop_at, drop-drop, length-take-le}
use borrow.Author.Tests.{leb-true, leb-false, lt-leb, le-leb}
use mir.Val.{Val}
use denote.Laws.{Is}
use Rattle.base_laws.specs.Fill.{over}
use Rattle.base_laws.proofs.Members.{either}
use Rattle.base_laws.proofs.Stores.{over_lent, over_after}
use Rattle.base_model.specs.Answers.{Said}
use Rattle.base_model.specs.declared.Record.{Record}
use Rattle.base_model.specs.contracts.Record as Recordᵀ
use Rattle.rule_calls.specs.Calls.{no_record}
use Rattle.rule_calls.proofs.Whole.{Shape}
use Rattle.walls_numbers.specs.Numbers.{one_where, record_numbers, record_from}
use Rattle.walls_numbers.specs.Lent.{record_in, numbers_left, lent_of}

-- ---- how much of the visited area is lent on
pub lent_short : (n visited : ℕ) → n < 50 → lent_of n visited ≡ 0
unfolding lent_of
lent_short n visited h = rw (lt-leb 50 n h, lent_of)

pub lent_whole : (n visited : ℕ) → 50 ≤ n → lent_of n visited ≡ visited
unfolding lent_of
lent_whole n visited h = rw (le-leb 50 n h, lent_of)

pub lent_at_most : (n visited : ℕ) → lent_of n visited ≤ visited
lent_at_most n visited =
    either (leb 50 n) (λ t. omega (arith, lent_whole n visited (leb-true 50 n t))) (λ t. omega (arith, lent_short n visited (leb-false 50 n t)))

-- ---- the record read
pub in_short : (ns : List ℕ) → length ns < 50 → record_in ns ≡ no_record
unfolding record_in
in_short ns h = rw (lt-leb 50 (length ns) h, record_in)

pub in_high : (ns : List ℕ) → 50 ≤ length ns → 1 < get_or ns 5 0 → record_in ns ≡ no_record
unfolding record_in
in_high ns h k = rw (le-leb 50 (length ns) h, lt-leb (get_or ns 5 0) 1 k, record_in)

pub in_whole : (ns : List ℕ) → 50 ≤ length ns → get_or ns 5 0 ≤ 1 → record_in ns ≡ record_from ns
unfolding record_in
in_whole ns h k = rw (le-leb 50 (length ns) h, le-leb (get_or ns 5 0) 1 k, record_in)

-- ---- the record laid
-- the arrays have the lengths that their types say
pub record_shape : (r : Record) (vs : List Val) → Is Recordᵀ.the_row r vs → Shape r
record_shape r vs g = record {
  routes = g.1.1.1.1.1.1.1.1.0.1.0.1;
  lengths = g.1.1.1.1.1.1.1.1.1.0.1.0.1;
  nexts = g.1.1.1.1.1.1.1.1.1.1.0.1.0.1;
}

-- a row copied into the part that is lent after the rows before it
pub next_row : (l xs row : List ℕ) (at n : ℕ) {x ys : List ℕ} → length xs ≡ at → length row ≡ n → at + n ≤ length l → x ≡ xs ++ drop at l
    → ys ≡ take n row ++ drop n (take n (drop at x)) → take at x ++ (ys ++ drop n (drop at x)) ≡ (xs ++ row) ++ drop (at + n) l
next_row l xs row at n {x} {ys} exs er room ex e =
    let long : at + n ≤ length x = omega (arith, ap (λ (q : List ℕ). length q) ex, length-append xs (drop at l), length-drop at l) in
    ap (λ (q : List ℕ). take at x ++ (q ++ drop n (drop at x))) (e ∙ ap (λ (q : List ℕ). q ++ drop n (take n (drop at x))) (take_all n row (omega arith)))
    ∙ over_lent x at n n row er (omega arith) long
    ∙ ap (λ (q : List ℕ). over q at row) ex
    ∙ over_after xs (drop at l) row at exs
    ∙ ap (λ (q : List ℕ). (xs ++ row) ++ q) (drop-drop (length row) at l ∙ ap (λ (k : ℕ). drop (at + k) l) er)

pub left_short : (o : Option Said) (r : Record) (ns : List ℕ) → length ns < 50 → ns ≡ numbers_left o r ns
unfolding numbers_left
left_short none r ns h = rw (lt-leb 50 (length ns) h, numbers_left)
left_short (some e) r ns h = refl

pub left_laid : (r : Record) (ns : List ℕ) → 50 ≤ length ns → record_numbers r ++ drop 50 ns ≡ numbers_left none r ns
unfolding numbers_left
left_laid r ns h = rw (le-leb 50 (length ns) h, numbers_left)

-- ---- what is laid is read back
module _ (a b c rest : List ℕ) (ea : length a ≡ 32) (eb : length b ≡ 6) (ec : length c ≡ 6) where
  first_row_lem : take 32 (a ++ b ++ c ++ rest) ≡ a
  first_row_lem = ap (λ (x : List ℕ). take 32 (x ++ rest)) (append_assoc a b c) ∙ ap (λ (x : List ℕ). take 32 x) (append_assoc a (b ++ c) rest) ∙ take_at a (b ++ c ++ rest) 32 ea

  second_row : take 6 (drop 32 (a ++ b ++ c ++ rest)) ≡ b
  second_row =
      ap (λ (x : List ℕ). take 6 (drop 32 (x ++ rest))) (append_assoc a b c)
      ∙ ap (λ (x : List ℕ). take 6 (drop 32 x)) (append_assoc a (b ++ c) rest)
      ∙ ap (λ (x : List ℕ). take 6 x) (drop_at a (b ++ c ++ rest) 32 ea)
      ∙ ap (λ (x : List ℕ). take 6 x) (append_assoc b c rest)
      ∙ take_at b (c ++ rest) 6 eb

  third_row : take 6 (drop 38 (a ++ b ++ c ++ rest)) ≡ c
  third_row =
      ap (λ (x : List ℕ). take 6 (drop 38 x)) (append_assoc (a ++ b) c rest)
      ∙ ap (λ (x : List ℕ). take 6 x) (drop_at (a ++ b) (c ++ rest) 38 (omega (arith, length-append a b)))
      ∙ take_at c rest 6 ec

  rows_long : 44 ≤ length (a ++ b ++ c ++ rest)
  rows_long = omega (arith, length-append (a ++ b ++ c) rest, length-append (a ++ b) c, length-append a b)

one_where_lem : (p : Bool) → eqb (one_where p) 1 ≡ p
unfolding one_where
one_where_lem true = refl
one_where_lem false = refl

one_at_most : (p : Bool) → one_where p ≤ 1
unfolding one_where
one_at_most true = omega arith
one_at_most false = omega arith

module _ (r : Record) (rest : List ℕ) (s : Shape r) where
  pub laid_long : 50 ≤ length (record_numbers r ++ rest)
  unfolding record_numbers
  laid_long = omega (arith, rows_long r.routes r.lengths r.nexts rest s.routes s.lengths s.nexts)

  pub laid_pending : get_or (record_numbers r ++ rest) 5 0 ≤ 1
  unfolding record_numbers
  laid_pending = one_at_most r.pending

  pub record_back : record_from (record_numbers r ++ rest) ≡ r
  unfolding record_numbers record_from
  record_back =
      rw (
        first_row_lem r.routes r.lengths r.nexts rest s.routes s.lengths s.nexts,
        second_row r.routes r.lengths r.nexts rest s.routes s.lengths s.nexts,
        third_row r.routes r.lengths r.nexts rest s.routes s.lengths s.nexts,
        one_where_lem r.pending,
      )

-- fifty numbers are a record whose arrays have these lengths
pub shape_of : (ns : List ℕ) → 50 ≤ length ns → Shape (record_from ns)
unfolding record_from
shape_of ns h = record {
  routes = length-take-le 32 (drop 6 ns) (omega (arith, length-drop 6 ns));
  lengths = length-take-le 6 (drop 38 ns) (omega (arith, length-drop 38 ns));
  nexts = length-take-le 6 (drop 44 ns) (omega (arith, length-drop 44 ns));
}
