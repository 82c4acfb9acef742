-- Each part of the sheet from the answers of its lines. Assumes nothing.
use mathlib.Core.Path.{◌≡◌, refl, sym, ap, ◌∙◌, subst}
use mathlib.Core.Bool.{Bool, true, false}
use mathlib.Core.List.{List, [], ◌∷◌}
use Prim.Native.Nat.{ℕ, ◌+◌, ◌*◌, ◌/◌, ◌%◌, ◌≤◌, ◌<◌}
use native.Mathlib.Omega.{arith}
use lib.Dec.{ltb}
use lib.ListN.{length, take, drop, length-append, length-drop}
use Rattle.text_forms.specs.Forms.{Form, digits, decimal, decimal_by, last_digit, ◌then◌, many}
use Rattle.text_forms.specs.Patterns.{bytes, is, line, good, fields}
use Rattle.text_forms.specs.Reading.{GotAt, Series, none, more}
use Rattle.text_forms.proofs.Pieces.{line_count, line_closed, closes}
use Rattle.text_forms.specs.Rest.{RestSpelled, Absent}
use Rattle.text_forms.proofs.Rest.{got_text, left_then, only_then, left_one, left_closed, only_one, left_run}
use Rattle.sheet_form.specs.Tails.{places_on, groups_on, allow_on, lines_on, obstacles_on, whole}
use Rattle.sheet_form.proofs.Follows.{cells_follow, groups_follow, groups_end}
use Rattle.sheet_lines.specs.Answers.{LineAt, PlacedLine, PlacedRows, RowsOver, CellsGot, NoCells, MapRead, LinesRead, GroupsRead}
use Rattle.std.proofs.Common.{Option, None, Some}
use Rattle.sheet_lines.proofs.Standing.{stands_kept, kept_kept}

pub one_line : {B : Type 0} {s : List ℕ} {i n : ℕ} {a : List ℕ} (p : List ℕ) (g : Form B) → good p ≡ true → closes p ≡ true → GotAt (line p) s i a n
    → RestSpelled s (line p then g) i g n (λ b. (a, b))
one_line p g ok end h = left_closed (line p) g (line_closed p ok end) h

-- a line without numbers
no_numbers : {s : List ℕ} {i n : ℕ} {a : List ℕ} (p : List ℕ) → fields p ≡ 0 → GotAt (line p) s i a n → GotAt (line p) s i [] n
no_numbers {s} {i} {n} {a} p zero_of h = subst (λ (v : List ℕ). GotAt (line p) s i v n) (empty a (line_count p a h.got.fits ∙ zero_of)) h
  where
    empty : (l : List ℕ) → length l ≡ 0 → l ≡ []
    empty [] e = refl
    empty (x ∷ l) e = absurd (omega arith)

pub wide : {s : List ℕ} {i n : ℕ} {a : List ℕ} (p : List ℕ) → GotAt (line p) s i a n → length a ≡ fields p
wide {a = a} p h = line_count p a h.got.fits

-- ---- the map
pub map_none : {s fixed cells : List ℕ} → Absent (is "(map $ $ ") s 0 → MapRead s fixed cells None
unfolding whole
map_none h = record { answer = only_one (is "(map $ $ ") (digits then is ")\n" then obstacles_on) h }

module _ {s f₀ f₁ : List ℕ} {a : ℕ} (h : PlacedLine (bytes "(map $ $ ") s 0 0 f₀ f₁ a) where
  map_first : RestSpelled s whole 0 (digits then is ")\n" then obstacles_on) a (λ b. (h.values, b))
  unfolding whole good
  map_first = one_line (bytes "(map $ $ ") (digits then is ")\n" then obstacles_on) refl refl h.got

  pub map_no_cells : {fixed cells : List ℕ} → NoCells s a → MapRead s fixed cells None
  map_no_cells k = record { answer = only_then map_first (record { only = λ w fit e. k.over w.0 _ fit.0 (cells_follow.stop w.1 fit.1) e }) }

  module _ {cells : List ℕ} {count next : ℕ} (k : CellsGot s a cells count next) where
    map_second : RestSpelled s whole 0 (is ")\n" then obstacles_on) next (λ b. (h.values, (k.values, b)))
    map_second = left_then map_first (left_one digits (is ")\n" then obstacles_on) cells_follow k.got)

    pub map_open : {fixed : List ℕ} → Absent (is ")\n") s next → MapRead s fixed cells None
    map_open l = record { answer = only_then map_second (only_one (is ")\n") obstacles_on l) }

    pub map_got : {f₂ : List ℕ} {n : ℕ} → PlacedLine (bytes ")\n") s next 20 f₁ f₂ n → MapRead s f₂ cells (Some (record { count = count; next = n }))
    unfolding good fields
    map_got l =
        let two : length h.values ≡ 2 = wide (bytes "(map $ $ ") h.got in
        record {
          answer = record {
            size = h.values;
            values = k.values;
            left = left_then map_second (one_line (bytes ")\n") obstacles_on refl refl (no_numbers (bytes ")\n") refl l.got));
            wide = two;
            stands = stands_kept h.stands l.kept (omega arith);
            counted = k.counted;
            few = k.few;
            area = k.area;
          };
        }

-- ---- window, ends and block
module _ {s : List ℕ} {at : ℕ} where
  pub lines_none : {f₀ f₁ : List ℕ} → Absent (is "(window # # # #)\n") s at → LinesRead s at f₀ f₁ None
  unfolding lines_on
  lines_none h = record { answer = only_one (is "(window # # # #)\n") (is "(ends $ $ $ $)\n" then is "(block $ $ $ $)\n" then allow_on) h }

  module _ {f₀ f₁ : List ℕ} {a : ℕ} (h : PlacedLine (bytes "(window # # # #)\n") s at 2 f₀ f₁ a) where
    lines_first : RestSpelled s lines_on at (is "(ends $ $ $ $)\n" then is "(block $ $ $ $)\n" then allow_on) a (λ b. (h.values, b))
    unfolding lines_on good
    lines_first = one_line (bytes "(window # # # #)\n") (is "(ends $ $ $ $)\n" then is "(block $ $ $ $)\n" then allow_on) refl refl h.got

    pub lines_no_ends : {g₀ g₁ : List ℕ} → Absent (is "(ends $ $ $ $)\n") s a → LinesRead s at g₀ g₁ None
    lines_no_ends k = record { answer = only_then lines_first (only_one (is "(ends $ $ $ $)\n") (is "(block $ $ $ $)\n" then allow_on) k) }

    module _ {f₂ : List ℕ} {b : ℕ} (k : PlacedLine (bytes "(ends $ $ $ $)\n") s a 6 f₁ f₂ b) where
      lines_second : RestSpelled s lines_on at (is "(block $ $ $ $)\n" then allow_on) b (λ x. (h.values, (k.values, x)))
      unfolding good
      lines_second = left_then lines_first (one_line (bytes "(ends $ $ $ $)\n") (is "(block $ $ $ $)\n" then allow_on) refl refl k.got)

      pub lines_no_block : {g₀ g₁ : List ℕ} → Absent (is "(block $ $ $ $)\n") s b → LinesRead s at g₀ g₁ None
      lines_no_block l = record { answer = only_then lines_second (only_one (is "(block $ $ $ $)\n") allow_on l) }

      pub lines_got : {f₃ : List ℕ} {n : ℕ} → PlacedLine (bytes "(block $ $ $ $)\n") s b 10 f₂ f₃ n → LinesRead s at f₀ f₃ (Some n)
      unfolding good fields
      lines_got l =
          let w : length h.values ≡ 4 = wide (bytes "(window # # # #)\n") h.got in
          let e : length k.values ≡ 4 = wide (bytes "(ends $ $ $ $)\n") k.got in
          record {
            answer = record {
              window = h.values;
              ends = k.values;
              block = l.values;
              left = left_then lines_second (one_line (bytes "(block $ $ $ $)\n") allow_on refl refl l.got);
              window_wide = w;
              ends_wide = e;
              block_wide = wide (bytes "(block $ $ $ $)\n") l.got;
              window_stands = stands_kept (stands_kept h.stands k.kept (omega arith)) l.kept (omega arith);
              ends_stands = stands_kept k.stands l.kept (omega arith);
              block_stands = l.stands;
              kept = kept_kept h.kept (kept_kept k.kept l.kept (omega arith)) (omega arith);
            };
          }

      pub lines_last : {f₃ : List ℕ} (r : Option ℕ) → LineAt (bytes "(block $ $ $ $)\n") s b 10 f₂ f₃ r → LinesRead s at f₀ f₃ r
      lines_last (Some n) l = lines_got l.answer
      lines_last None l = lines_no_block l.answer

-- ---- the groups
digits_some : (v : ℕ) → 0 < length (decimal v)
unfolding decimal decimal_by
digits_some v = go (ltb v 10) (λ _. decimal_by v (v / 10))
  where
    go : (t : Bool) (front : Unit {0} → List ℕ) → 0 < length (last_digit t v front)
    go true front = omega arith
    go false front = omega (arith, length-append (front tt) ((48 + v % 10) ∷ []))

slot_long : (v : List ℕ) → (is " $").fits v → 2 ≤ length ((is " $").spell v)
slot_long [] u = absurd u
slot_long (v ∷ vs) u = omega (arith, digits_some v, length-append (decimal v) ((line []).spell vs))

slot_bytes : {s : List ℕ} {i n : ℕ} {v : List ℕ} → GotAt (is " $") s i v n → i + 2 ≤ n
slot_bytes {s} {i} {n} {v} h =
    let a : i ≤ n = h.after in
    let b : n ≤ length s = h.inside in
    omega (arith, slot_long v h.got.fits, ap length (got_text h), length-append ((is " $").spell v) (drop n s), length-drop i s, length-drop n s)

chain_bytes : {s : List ℕ} {i n : ℕ} {l : List (List ℕ)} → Series (is " $") s i l n → i + 2 * length l ≤ n
chain_bytes none = omega arith
chain_bytes (more h r) = omega (arith, slot_bytes h, chain_bytes r)

-- more slot counts than the area holds need more bytes than the text has
pub no_groups_over : {s before : List ℕ} {at : ℕ} → length s ≤ 8192 → length before ≡ 4096 → RowsOver (bytes " $") s at before → ⊥
unfolding fields
no_groups_over {s} {before} short room h =
    let a : length before < 1 * length h.rows + 1 = h.short in
    let b : h.next ≤ length s = h.one_more_lem.inside in
    omega (arith, chain_bytes h.chain, slot_bytes h.one_more_lem)

module _ {s : List ℕ} {at : ℕ} where
  pub groups_none : {f₀ f₁ out : List ℕ} → Absent (is "(groups") s at → GroupsRead s at f₀ f₁ out None
  unfolding groups_on
  groups_none h = record { answer = only_one (is "(groups") (many (is " $") (is ")\n" then places_on)) h }

  module _ {f₀ f₁ before out : List ℕ} {a count next : ℕ} (h : PlacedLine (bytes "(groups") s at 20 f₀ f₁ a)
      (k : PlacedRows (bytes " $") s a before out count next) where
    groups_second : RestSpelled s groups_on at (is ")\n" then places_on) next (λ b. ([], (k.rows, b)))
    unfolding groups_on good fields
    groups_second =
        left_then (one_line (bytes "(groups") (many (is " $") (is ")\n" then places_on)) refl refl (no_numbers (bytes "(groups") refl h.got))
        (left_run (is " $") (is ")\n" then places_on) groups_end groups_follow k.chain k.inside k.stops)

    pub groups_open : {g₀ g₁ o : List ℕ} → Absent (is ")\n") s next → GroupsRead s at g₀ g₁ o None
    groups_open l = record { answer = only_then groups_second (only_one (is ")\n") places_on l) }

    pub groups_got : {f₂ : List ℕ} {n : ℕ} → length before ≡ 4096 → PlacedLine (bytes ")\n") s next 20 f₁ f₂ n → GroupsRead s at f₀ f₂ out (Some (record { count = count; next = n }))
    unfolding good fields
    groups_got room l =
        let once : 1 * count ≡ count = omega arith in
        record {
          answer = record {
            rows = k.rows;
            left = left_then groups_second (one_line (bytes ")\n") places_on refl refl (no_numbers (bytes ")\n") refl l.got));
            counted = k.counted;
            few = (let r : 1 * count ≤ length before = k.room in omega arith);
            area = ap (λ (n : ℕ). take n out) (sym once) ∙ k.area;
            kept = kept_kept h.kept l.kept (omega arith);
          };
        }
