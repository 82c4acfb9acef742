-- The loop of `rows`, and the answers of `line` and `optional`. Assumes nothing.
use mathlib.Core.Path.{◌≡◌, refl, sym, ap, ap₂, ◌∙◌}
use mathlib.Core.Bool.{true}
use mathlib.Core.List.{List, [], ◌∷◌, ◌++◌, append-nil}
use Prim.Native.Nat.{ℕ, ◌+◌, ◌-◌, ◌≤◌, ◌<◌}
use native.Mathlib.Omega.{arith}
use Rattle.std.proofs.Common.{Ok, Err}
use lib.ListN.{length, take, drop, length-append, length-drop}
use lib.Seq.{drop-drop}
use Rattle.base_laws.specs.Fill.{over}
use Rattle.base_laws.specs.Lists.{flat}
use Rattle.base_laws.proofs.Blocks.{flat_append}
use Rattle.base_laws.proofs.Stores.{over_lent, over_after}
use Rattle.text_forms.specs.Patterns.{line, good, fields, repeats}
use Rattle.text_forms.specs.Reading.{Series, none, absent, present}
use Rattle.text_forms.proofs.Pieces.{line_count}
use Rattle.text_forms.proofs.Runs.{chain_last, goes_on, repeats_solid}
use Rattle.text_lines.specs.Answers.{PassRead, LinePass, Stored}
use Rattle.text_read.specs.Answers.{OptionalRead}
use Rattle.text_read.specs.declared.RowsError.TheVariants as rows_error

-- ---- the loop of rows
flat_last : (l : List (List ℕ)) (a : List ℕ) → flat (l ++ (a ∷ [])) ≡ flat l ++ a
unfolding flat
flat_last l a = flat_append l (a ∷ []) ∙ ap (λ (t : List ℕ). flat l ++ t) (append-nil a)

pub record Going (pattern s : List ℕ) (at : ℕ) (before out : List ℕ) (i n base : ℕ) : Type 0 where
  pub rows : List (List ℕ)
  pub chain : Series (line pattern) s at rows i
  pub counted : n ≡ length rows
  pub few : n ≤ i
  pub inside : i ≤ length s
  pub used : base ≡ length (flat rows)
  pub room : base ≤ length before
  pub area : out ≡ flat rows ++ drop base before

pub going_start : (pattern s : List ℕ) (at : ℕ) (before : List ℕ) → at ≤ length s → Going pattern s at before before at 0 0
unfolding flat
going_start pattern s at before h = record { rows = []; chain = none; counted = refl; few = omega arith; inside = h; used = refl; room = omega arith; area = refl }

module _ (pattern s : List ℕ) (at : ℕ) (before out : List ℕ) (i n base : ℕ) (w : Going pattern s at before out i n base) where
  pub going_long : length out ≡ length before
  going_long =
      let u : base ≡ length (flat w.rows) = w.used in
      let r : base ≤ length before = w.room in
      omega (arith, ap length w.area, length-append (flat w.rows) (drop base before), length-drop base before)

  module _ (v : ℕ) (e : v ≡ fields pattern) (ok : repeats pattern ≡ true) where
    module _ (m : ℕ) (h : PassRead pattern s i (Ok m)) where
      passed : LinePass pattern s i m
      passed = h.answer

      abbrev row : List ℕ
      row = passed.values

      wide : length row ≡ v
      wide = line_count pattern row passed.got.got.fits ∙ sym e

      pub going_on : i < m
      going_on = goes_on (line pattern) s (repeats_solid pattern ok) passed.got

      pub going_inside : m ≤ length s
      going_inside = passed.got.inside

      module _ (room : v ≤ length out - base) where
        pub going_more : (ys : List ℕ) → Stored pattern s i (take (length out - base) (drop base out)) ys
            → Going pattern s at before (take base out ++ (ys ++ drop (length out - base) (drop base out))) m (n + 1) (base + v)
        going_more ys k =
            let u : base ≡ length (flat w.rows) = w.used in
            let b : base ≤ length before = w.room in
            let c : n ≡ length w.rows = w.counted in
            let f : n ≤ i = w.few in
            let on : i < m = going_on in
            let all : flat (w.rows ++ (row ∷ [])) ≡ flat w.rows ++ row = flat_last w.rows row in
            record {
              rows = w.rows ++ (row ∷ []);
              chain = chain_last w.chain passed.got;
              counted = omega (arith, length-append w.rows (row ∷ []));
              few = omega arith;
              inside = going_inside;
              used = omega (arith, ap length all, length-append (flat w.rows) row, wide);
              room = omega (arith, going_long);
              area = ap (λ (l : List ℕ). take base out ++ (l ++ drop (length out - base) (drop base out))) (k.area row m passed.got)
                  ∙ over_lent out base (length out - base) (length row) row refl (omega (arith, wide)) (omega (arith, going_long))
                  ∙ ap (λ (l : List ℕ). over l base row) w.area
                  ∙ over_after (flat w.rows) (drop base before) row base (sym u)
                  ∙ ap₂ (λ (x y : List ℕ). x ++ y) (sym all) (drop-drop (length row) base before ∙ ap (λ (x : ℕ). drop (base + x) before) wide);
            }

-- ---- one line, and one or none
module _ (pattern s : List ℕ) (at : ℕ) (before : List ℕ) (ok : good pattern ≡ true) (inside : at ≤ length s) where
  pub few_wrong : (p : ℕ) → PassRead pattern s at (Err p) → OptionalRead pattern s at before before (Ok (record { count = 0; used = 0; next = at; fault = p }))
  unfolding flat
  few_wrong p h = record {
    answer = record {
      readable = ok;
      rows = [];
      read = absent h.answer;
      counted = refl;
      flat_used = refl;
      room = omega arith;
      area = refl;
    };
  }

  module _ (n : ℕ) (h : PassRead pattern s at (Ok n)) where
    stands : LinePass pattern s at n
    stands = h.answer

    pub few_full : length before < fields pattern → OptionalRead pattern s at before before (Err rows_error.Full)
    unfolding flat
    few_full short = record {
      answer = record {
        readable = ok;
        rows = [];
        further = stands.values;
        end = at;
        next = n;
        chain = none;
        one_more_lem = stands.got;
        room = omega arith;
        short = omega arith;
        area = refl;
      };
    }

    pub few_read : (v : ℕ) → v ≡ fields pattern → v ≤ length before → (out : List ℕ) → Stored pattern s at before out
        → OptionalRead pattern s at before out (Ok (record { count = 1; used = v; next = n; fault = n }))
    unfolding flat
    few_read v e room out k =
        let wide : length stands.values ≡ v = line_count pattern stands.values stands.got.got.fits ∙ sym e in
        record {
          answer = record {
            readable = ok;
            rows = stands.values ∷ [];
            read = present stands.got;
            counted = refl;
            flat_used = sym (ap length (append-nil stands.values) ∙ wide);
            room = room;
            area = k.area stands.values n stands.got ∙ ap (λ (x : ℕ). stands.values ++ drop x before) wide ∙ ap (λ (l : List ℕ). l ++ drop v before) (sym (append-nil stands.values));
          };
        }
