-- The line of the allowed mover, which may be missing, and the line of the limits. Assumes nothing.
use mathlib.Core.Path.{◌≡◌, refl, sym, subst, ◌∙◌}
use mathlib.Core.Bool.{Bool}
use mathlib.Core.List.{List, [], ◌++◌, append_assoc}
use Prim.Native.Nat.{ℕ, ◌-◌, ◌*◌, ◌+◌, ◌≤◌, ◌<◌}
use native.Mathlib.Omega.{arith}
use Rattle.std.proofs.Common.{None, Some, Result, Ok, Err, cond}
use Rattle.std.specs.Result.{result_ok}
use lib.Dec.{eqb}
use lib.ListN.{length, take, drop, get_or}
use Rattle.base_laws.specs.Lists.{flat}
use Rattle.text_forms.specs.Forms.{◌then◌}
use Rattle.text_forms.specs.Patterns.{bytes, is, good, fields}
use Rattle.text_forms.specs.Reading.{GotAt, Series, none, more, Few, absent, present}
use Rattle.text_read.specs.Answers.{OptionalRead}
use Rattle.text_read.specs.declared.Several.{Several}
use Rattle.text_read.specs.declared.RowsError.{RowsError}
use Rattle.text_read.specs.declared.RowsError.TheVariants as rows_error
use Rattle.text_forms.specs.Rest.{RestSpelled, Only, Absent}
use Rattle.text_forms.proofs.Pieces.{clash}
use Rattle.text_forms.proofs.Rest.{got_text, left_then, only_then, left_few, only_one}
use Rattle.sheet_form.specs.Tails.{allow_on, groups_on}
use Rattle.sheet_form.proofs.Follows.{limits_begin, allow_end}
use Rattle.sheet_lines.specs.Answers.{Stands, FrontKept, PlacedLine, LimitsRead}
use Rattle.sheet_lines.proofs.Standing.{stands_kept, kept_kept, part_stands, part_kept, part_long}
use Rattle.sheet_lines.proofs.Readers.{is_ok, chain_wide}
use Rattle.sheet_lines.proofs.Parts.{one_line, wide}

pub record AllowGot (s : List ℕ) (at : ℕ) (before out : List ℕ) (count next : ℕ) : Type 0 where
  pub rows : List (List ℕ)
  pub left : RestSpelled s allow_on at (is "(limits $ $)\n" then groups_on) next (λ b. (rows, b))
  pub counted : count ≡ length rows
  pub short : length (get_or rows 0 []) ≤ 4
  pub stands : Stands (get_or rows 0 []) 14 out
  pub kept : FrontKept 14 before out

module _ (s : List ℕ) (at : ℕ) (before : List ℕ) (inside : at ≤ length s) (room : length before ≡ 20) where
  abbrev lent : List ℕ
  lent = take (length before - 14) (drop 14 before)

  few_left : {l : List (List ℕ)} {n p : ℕ} → Few (is "(allow $ $ $ $)\n") s at l n p → RestSpelled s allow_on at (is "(limits $ $)\n" then groups_on) n (λ b. (l, b))
  unfolding allow_on
  few_left h = left_few (is "(allow $ $ $ $)\n") (is "(limits $ $)\n" then groups_on) allow_end limits_begin inside h

  few_short : {l : List (List ℕ)} {n p : ℕ} → Few (is "(allow $ $ $ $)\n") s at l n p → length (get_or l 0 []) ≤ 4
  unfolding fields
  few_short (absent h) = omega arith
  few_short (present h) = omega (arith, wide (bytes "(allow $ $ $ $)\n") h)

  few_first : {l : List (List ℕ)} {n p : ℕ} (tail : List ℕ) → Few (is "(allow $ $ $ $)\n") s at l n p → (x : List ℕ) × (flat l ++ tail ≡ get_or l 0 [] ++ x)
  unfolding flat
  few_first tail (absent h) = (tail, refl)
  few_first tail (present {a = a} h) = (tail, append_assoc a [] tail)

  few_one : {l : List (List ℕ)} {n p count : ℕ} → Few (is "(allow $ $ $ $)\n") s at l n p → count ≡ length l → cond (eqb count 1) 1 0 ≡ length l
  few_one (absent h) e = rw (e)
  few_one (present h) e = rw (e)

  pub allow_got : {ys : List ℕ} (rest : List ℕ) {v : Several} (r : Result Several RowsError) → Some v ≡ result_ok r
      → OptionalRead (bytes "(allow $ $ $ $)\n") s at lent ys r → AllowGot s at before (take 14 before ++ (ys ++ rest)) (cond (eqb v.count 1) 1 0) v.next
  allow_got {ys} rest {v} r e h =
      let k = (subst (λ (z : Result Several RowsError). OptionalRead (bytes "(allow $ $ $ $)\n") s at lent ys z) (is_ok r e) h).answer in
      let within : 14 ≤ length before = omega arith in
      let first = few_first (drop v.used lent) k.read in
      let y : (x : List ℕ) × (ys ≡ get_or k.rows 0 [] ++ x) = (first.0, k.area ∙ first.1) in
      record {
        rows = k.rows;
        left = few_left k.read;
        counted = few_one k.read k.counted;
        short = few_short k.read;
        stands = part_stands before (get_or k.rows 0 []) ys rest 14 within y;
        kept = part_kept before (get_or k.rows 0 []) ys rest 14 within y;
      }

  -- a second line of the allowed mover
  twice : {l : List (List ℕ)} {m n : ℕ} {a : List ℕ} → Series (is "(allow $ $ $ $)\n") s at l m → length l ≡ 1 → GotAt (is "(allow $ $ $ $)\n") s m a n
      → Only s allow_on at (λ w. ⊥)
  twice none e h = absurd (omega arith)
  twice {n = n} {a = a} (more b none) e h =
      only_then (few_left (present b)) (record { only = λ w fit q. allow_end.unlike a w (drop n s) (sym (got_text h) ∙ sym q) })
  twice (more b (more c r)) e h = absurd (omega arith)

  no_allow : {ys : List ℕ} (e : RowsError) → OptionalRead (bytes "(allow $ $ $ $)\n") s at lent ys (Err e) → Only s allow_on at (λ w. ⊥)
  unfolding good fields
  no_allow rows_error.Full h =
      let k = h.answer in
      let w : length (flat k.rows) ≡ 4 * length k.rows = chain_wide (bytes "(allow $ $ $ $)\n") k.chain in
      let a : length (flat k.rows) ≤ length lent = k.room in
      let b : length lent < length (flat k.rows) + 4 = k.short in
      twice k.chain (omega (arith, part_long before 14)) k.one_more_lem
  no_allow rows_error.Beyond h = absurd (omega (arith, h.answer.outside))
  no_allow rows_error.Pattern h = clash (sym h.answer.unreadable)

  pub allow_not : {ys f₀ f₁ : List ℕ} (r : Result Several RowsError) → None ≡ result_ok r → OptionalRead (bytes "(allow $ $ $ $)\n") s at lent ys r
      → LimitsRead s at f₀ f₁ None
  allow_not (Ok v) e h = cc
  allow_not (Err x) e h = record { answer = no_allow x h }

module _ {s : List ℕ} {at : ℕ} {f₀ f₁ : List ℕ} {count next : ℕ} (h : AllowGot s at f₀ f₁ count next) where
  pub limits_none : {g₀ g₁ : List ℕ} → Absent (is "(limits $ $)\n") s next → LimitsRead s at g₀ g₁ None
  limits_none k = record { answer = only_then h.left (only_one (is "(limits $ $)\n") groups_on k) }

  pub limits_got : {f₂ : List ℕ} {n : ℕ} (allow : Bool) → count ≡ cond allow 1 0 → PlacedLine (bytes "(limits $ $)\n") s next 18 f₁ f₂ n
      → LimitsRead s at f₀ f₂ (Some (record { allow = allow; next = n }))
  unfolding good fields
  limits_got allow e k = record {
    answer = record {
      allow = h.rows;
      limits = k.values;
      left = left_then h.left (one_line (bytes "(limits $ $)\n") groups_on refl refl k.got);
      counted = sym e ∙ h.counted;
      allow_short = h.short;
      allow_stands = stands_kept h.stands k.kept (let z : length (get_or h.rows 0 []) ≤ 4 = h.short in omega arith);
      limits_stands = k.stands;
      limits_wide = wide (bytes "(limits $ $)\n") k.got;
      kept = kept_kept h.kept k.kept (omega arith);
    };
  }
