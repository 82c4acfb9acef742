-- The readers' answers, each as one of two: what stands there, or that it does not. Assumes nothing.
use mathlib.Core.Path.{◌≡◌, sym, ap, ◌∙◌, subst}
use mathlib.Core.Bool.{true}
use mathlib.Core.List.{List, ◌++◌}
use Prim.Native.Nat.{ℕ, ◌-◌, ◌*◌, ◌≤◌}
use native.Mathlib.Nat.{mul-zero, mul-suc}
use native.Mathlib.Omega.{arith}
use Rattle.std.proofs.Common.{None, Some, Result, Ok, Err}
use Rattle.std.specs.Result.{result_ok}
use lib.ListN.{length, take, drop, length-append}
use lib.Seq.{take_at}
use Rattle.base_laws.specs.Lists.{flat}
use Rattle.text_forms.specs.Patterns.{line, fields, repeats}
use Rattle.text_forms.specs.Reading.{Series, none, more}
use Rattle.text_digits.specs.Answers.{DigitsRead, DigitsGot}
use Rattle.text_read.specs.Answers.{LineRead, RowsRead}
use Rattle.text_read.specs.declared.LineError.{LineError}
use Rattle.text_read.specs.declared.LineError.TheVariants as line_error
use Rattle.text_read.specs.declared.Several.{Several}
use Rattle.text_read.specs.declared.RowsError.{RowsError}
use Rattle.text_read.specs.declared.RowsError.TheVariants as rows_error
use Rattle.text_digits.specs.declared.Row.{Row}
use Rattle.text_digits.specs.declared.RowError.{RowError}
use Rattle.text_digits.specs.declared.RowError.TheVariants as row_error
use Rattle.text_forms.proofs.Pieces.{clash, line_count}
use Rattle.text_forms.proofs.Rest.{bad_absent, got_only}
use Rattle.text_forms.proofs.Runs.{chain_inside}
use Rattle.sheet_lines.specs.Answers.{LineRoom, LineAt, RowsAt, CellsAt}
use Rattle.sheet_lines.proofs.Standing.{part_stands, part_kept, part_long}

-- ---- an answer without its reason
pub is_ok : {A E : Type 0} {v : A} (r : Result A E) → Some v ≡ result_ok r → r ≡ Ok v
is_ok (Ok w) e = cc
is_ok (Err x) e = cc

-- ---- a line
module _ (pattern s : List ℕ) (at slot : ℕ) (before : List ℕ) (w : LineRoom pattern s at slot before) where
  abbrev lent : List ℕ
  lent = take (length before - slot) (drop slot before)

  pub line_answer : {ys : List ℕ} (rest : List ℕ) (r : Result ℕ LineError) → LineRead pattern s at lent ys r
      → LineAt pattern s at slot before (take slot before ++ (ys ++ rest)) (result_ok r)
  line_answer {ys} rest (Ok n) h =
      let inside : slot ≤ length before = omega (arith, w.room) in
      record {
        answer = record {
          values = h.answer.values;
          got = h.answer.got;
          stands = part_stands before h.answer.values ys rest slot inside (_, h.answer.area);
          kept = part_kept before h.answer.values ys rest slot inside (_, h.answer.area);
        };
      }
  line_answer rest (Err (line_error.Wrong p)) h = record { answer = bad_absent h.answer.bad }
  line_answer rest (Err line_error.Beyond) h = absurd (omega (arith, w.inside, h.answer.outside))
  line_answer rest (Err line_error.Pattern) h = clash (sym h.answer.unreadable ∙ w.readable)
  line_answer rest (Err line_error.Short) h = absurd (omega (arith, w.room, h.answer.short, part_long before slot))

-- ---- cells
module _ (s : List ℕ) (at : ℕ) (before : List ℕ) (inside : at ≤ length s) (room : length before ≡ 64) where
  pub cells_not : {out : List ℕ} (r : Result Row RowError) → None ≡ result_ok r → DigitsRead s at before out r → CellsAt s at out None
  cells_not (Ok d) e h = cc
  cells_not (Err (row_error.Wrong p)) e h = record { answer = record { over = λ v x fit stop e. absurd ((bad_absent h.answer.bad).none v x fit e) } }
  cells_not (Err row_error.Full) e h = record { answer = record { over = λ v x fit stop e. omega (arith, h.answer.short, ap length (got_only h.answer.got v x fit stop e).0) } }
  cells_not (Err row_error.Beyond) e h = absurd (omega (arith, h.answer.outside))

  pub cells_got : {out : List ℕ} {d : Row} (r : Result Row RowError) → Some d ≡ result_ok r → DigitsRead s at before out r
      → CellsAt s at out (Some (record { count = d.count; next = d.next }))
  cells_got {out} {d} r e h =
      let k : DigitsGot s at before out d.count d.next = (subst (λ (z : Result Row RowError). DigitsRead s at before out z) (is_ok r e) h).answer in
      record {
        answer = record {
          values = k.values;
          got = k.got;
          counted = k.counted;
          few = omega (arith, k.room);
          area = ap (take d.count) k.area ∙ take_at k.values (drop d.count before) d.count (sym k.counted);
        };
      }

-- ---- lines by one pattern
pub chain_wide : (pattern : List ℕ) {s : List ℕ} {i n : ℕ} {l : List (List ℕ)} → Series (line pattern) s i l n → length (flat l) ≡ fields pattern * length l
unfolding flat
chain_wide pattern none = sym (mul-zero (fields pattern))
chain_wide pattern (more {a = a} {l = l} h r) =
    omega (arith, length-append a (flat l), line_count pattern a h.got.fits, chain_wide pattern r, mul-suc (fields pattern) (length l))

module _ (pattern s : List ℕ) (at : ℕ) (before : List ℕ) (ok : repeats pattern ≡ true) (inside : at ≤ length s) where
  pub rows_not : {out : List ℕ} (r : Result Several RowsError) → None ≡ result_ok r → RowsRead pattern s at before out r → RowsAt pattern s at before out None
  rows_not (Ok v) e h = cc
  rows_not (Err rows_error.Full) e h =
      let k = h.answer in
      record {
        answer = record {
          rows = k.rows;
          further = k.further;
          end = k.end;
          next = k.next;
          chain = k.chain;
          one_more_lem = k.one_more_lem;
          short = omega (arith, k.short, chain_wide pattern k.chain);
        };
      }
  rows_not (Err rows_error.Beyond) e h = absurd (omega (arith, h.answer.outside))
  rows_not (Err rows_error.Pattern) e h = clash (sym h.answer.unreadable ∙ ok)

  pub rows_got : {out : List ℕ} {v : Several} (r : Result Several RowsError) → Some v ≡ result_ok r → RowsRead pattern s at before out r
      → RowsAt pattern s at before out (Some (record { count = v.count; next = v.next }))
  rows_got {out} {v} r e h =
      let k = (subst (λ (z : Result Several RowsError). RowsRead pattern s at before out z) (is_ok r e) h).answer in
      let all : fields pattern * v.count ≡ v.used = ap (λ (m : ℕ). fields pattern * m) k.counted ∙ sym (k.flat_used ∙ chain_wide pattern k.read.chain) in
      record {
        answer = record {
          rows = k.rows;
          chain = k.read.chain;
          inside = (chain_inside k.read.chain inside).1;
          stops = bad_absent k.read.stops;
          counted = k.counted;
          room = omega (arith, k.room);
          area = ap (λ (m : ℕ). take m out) all ∙ ap (take v.used) k.area ∙ take_at (flat k.rows) (drop v.used before) v.used (sym k.flat_used);
        };
      }
