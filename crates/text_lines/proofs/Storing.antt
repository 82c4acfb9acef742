-- The loop of `walk`: a pattern walked piece by piece, its numbers stored. Assumes nothing.
use mathlib.Core.Path.{◌≡◌, refl, sym, ap, ◌∙◌}
use mathlib.Core.Bool.{true, false}
use mathlib.Core.List.{List, [], ◌∷◌, ◌++◌, append_assoc}
use Prim.Native.Nat.{ℕ, ◌+◌, ◌≤◌, ◌<◌}
use native.Mathlib.Omega.{arith}
use lib.ListN.{length, drop, get_or, set, length-append, length-set}
use lib.Seq.{set_at}
use Rattle.std.proofs.Common.{Ok, Err}
use Rattle.text_forms.specs.Patterns.{piece, is_number, form_of, line, good, fields}
use Rattle.text_forms.specs.Reading.{BadAt, GotAt}
use Rattle.text_forms.proofs.Places.{not_both, one_value}
use Rattle.text_forms.proofs.Pieces.{line_tells}
use Rattle.text_forms.proofs.Walks.{Walk, walk_start, walk_few, walk_field, walk_wrong, walk_byte, walk_other, walk_short, walk_done, next_piece}
use Rattle.text_lines.specs.Answers.{PassRead}
use Rattle.text_lines.specs.Inner.{StoredIn}

pub record Storing (pattern s : List ℕ) (at : ℕ) (before out : List ℕ) (i j k : ℕ) : Type 0 where
  pub values : List ℕ
  pub walk : Walk pattern s at values i j
  pub fine : good pattern ≡ true
  pub long : length out ≡ length before
  pub counted : fields pattern ≤ length before → k ≡ length values
  pub area : fields pattern ≤ length before → out ≡ values ++ drop (length values) before

pub storing_start : (pattern s : List ℕ) (at : ℕ) (before : List ℕ) → at ≤ length s → good pattern ≡ true → Storing pattern s at before before at 0 0
storing_start pattern s at before h g = record { values = []; walk = walk_start pattern s at h g; fine = g; long = refl; counted = λ _. refl; area = λ _. refl }

module _ (pattern s : List ℕ) (at : ℕ) (before out : List ℕ) (i j k : ℕ) (w : Storing pattern s at before out i j k) where
  -- a fault: no line stands there
  fault_stored : (p : ℕ) → BadAt (line pattern) s at p → StoredIn pattern s at before out
  fault_stored p b = record { stored = λ r. record { long = w.long; area = λ vs n h. absurd (not_both (line pattern) s h b) } }

  module _ (more : j < length pattern) where
    abbrev here : ℕ
    here = get_or pattern j 0

    module _ (f : is_number (piece here) ≡ true) where
      pub storing_number : (v n : ℕ) → GotAt (form_of (piece here)) s i v n → k < length out → Storing pattern s at before (set out k v) n (j + 1) (k + 1)
      storing_number v n h room = record {
        values = w.values ++ (v ∷ []);
        walk = walk_field pattern s at w.values i j w.walk more f v n h;
        fine = w.fine;
        long = length-set out k v ∙ w.long;
        counted = λ r. omega (arith, w.counted r, length-append w.values (v ∷ []));
        area = λ r.
            let a : k ≡ length w.values = w.counted r in
            let inside : k < length before = omega (arith, w.long) in
            let e : out ≡ w.values ++ drop k before = w.area r ∙ ap (λ (m : ℕ). w.values ++ drop m before) (sym a) in
            let m : k + 1 ≡ length (w.values ++ (v ∷ [])) = omega (arith, length-append w.values (v ∷ [])) in
            ap (λ (l : List ℕ). set l k v) (e ∙ ap (λ (l : List ℕ). w.values ++ l) (next_piece before k inside))
            ∙ set_at w.values (get_or before k 0) (drop (k + 1) before) v k (sym a)
            ∙ sym (append_assoc w.values (v ∷ []) (drop (k + 1) before))
            ∙ ap (λ (n : ℕ). (w.values ++ (v ∷ [])) ++ drop n before) m;
      }

      -- an area that is full has no room for all of them
      pub storing_full : (v n : ℕ) → GotAt (form_of (piece here)) s i v n → length out ≤ k → Storing pattern s at before out n (j + 1) k
      storing_full v n h full =
          let no : fields pattern ≤ length before → ⊥ = λ r. omega (arith, walk_few pattern s at w.values i j w.walk more f, w.counted r, w.long) in
          record {
            values = w.values ++ (v ∷ []);
            walk = walk_field pattern s at w.values i j w.walk more f v n h;
            fine = w.fine;
            long = w.long;
            counted = λ r. absurd (no r);
            area = λ r. absurd (no r);
          }

      pub wrong_passed : (p : ℕ) → BadAt (form_of (piece here)) s i p → PassRead pattern s at (Err p)
      wrong_passed p b = record { answer = walk_wrong pattern s at w.values i j w.walk more f p b }

      pub wrong_stored : (p : ℕ) → BadAt (form_of (piece here)) s i p → StoredIn pattern s at before out
      wrong_stored p b = fault_stored p (walk_wrong pattern s at w.values i j w.walk more f p b)

    module _ (f : is_number (piece here) ≡ false) where
      pub storing_byte : i < length s → get_or s i 0 ≡ here → Storing pattern s at before out (i + 1) (j + 1) k
      storing_byte h e = record { values = w.values; walk = walk_byte pattern s at w.values i j w.walk more f h e; fine = w.fine; long = w.long; counted = w.counted; area = w.area }

      pub other_passed : i < length s → (get_or s i 0 ≡ here → ⊥) → PassRead pattern s at (Err i)
      other_passed h ne = record { answer = walk_other pattern s at w.values i j w.walk more f h ne }

      pub other_stored : i < length s → (get_or s i 0 ≡ here → ⊥) → StoredIn pattern s at before out
      other_stored h ne = fault_stored i (walk_other pattern s at w.values i j w.walk more f h ne)

      pub short_passed : i ≡ length s → here < 256 → PassRead pattern s at (Err i)
      short_passed h b = record { answer = walk_short pattern s at w.values i j w.walk more f h b }

      pub short_stored : i ≡ length s → here < 256 → StoredIn pattern s at before out
      short_stored h b = fault_stored i (walk_short pattern s at w.values i j w.walk more f h b)

  module _ (h : length pattern ≤ j) where
    pub done_passed : PassRead pattern s at (Ok i)
    done_passed = record { answer = record { values = w.values; got = walk_done pattern s at w.values i j w.walk h } }

    pub done_stored : StoredIn pattern s at before out
    done_stored = record {
      stored = λ r. record {
        long = w.long;
        area = λ vs n g.
            let e : w.values ≡ vs = (one_value (line pattern) s (line_tells pattern w.fine) (walk_done pattern s at w.values i j w.walk h) g).0 in
            w.area r ∙ ap (λ (l : List ℕ). l ++ drop (length l) before) e;
      };
    }
