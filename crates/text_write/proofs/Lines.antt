-- Lines by their patterns: a number's spelling and range, whether values are those of a line, whether it has room,
-- and laying it down. In each loop what was passed and what is left of the pattern come together to the whole. Assumes nothing.
use mathlib.Core.Path.{◌≡◌, refl, sym, ap, ◌∙◌}
use mathlib.Core.Bool.{true, false}
use mathlib.Core.List.{List, [], ◌∷◌, ◌++◌, append_assoc}
use Prim.Native.Nat.{ℕ, ◌+◌, ◌-◌, ◌≤◌, ◌<◌}
use native.Mathlib.Omega.{arith}
use lib.ListN.{length, set, drop, get_or, length-append}
use Rattle.text_forms.specs.Forms.{Form}
use Rattle.text_forms.specs.Patterns.{Piece, byte, plain, minus, piece, is_number, form_of, join, line, fields, fields_by}
use Rattle.text_forms.specs.Writing.{Put}
use Rattle.text_forms.proofs.Pieces.{clash}
use Rattle.text_forms.proofs.Walks.{itself, next_piece, field_count}
use Rattle.text_forms.proofs.Puts.{put_then, put_byte, put_length}

-- ---- a number of a pattern
field_spell : (q : Piece) (g : Form (List ℕ)) (v : ℕ) (l : List ℕ) → is_number q ≡ true → (join q g).spell (v ∷ l) ≡ (form_of q).spell v ++ g.spell l
field_spell (byte c) g v l e = clash e
field_spell (plain m) g v l e = refl
field_spell minus g v l e = refl

-- ---- whether values are those of a line: those left are the rest's exactly when all are the whole's
pub record Matching (p vs : List ℕ) (j : ℕ) (left : List ℕ) : Type 0 where
  pub short : j ≤ length p
  pub to : (line (drop j p)).fits left → (line p).fits vs
  pub back : (line p).fits vs → (line (drop j p)).fits left

-- ---- a line's spelling, piece by piece
pub record Spelling (p vs written : List ℕ) (j : ℕ) (left : List ℕ) : Type 0 where
  pub short : j ≤ length p
  pub count : length left ≡ fields (drop j p)
  pub whole : (line p).spell vs ≡ written ++ (line (drop j p)).spell left

module _ (p vs written : List ℕ) (j : ℕ) (left : List ℕ) (w : Spelling p vs written j left) (more : j < length p) where
  abbrev d : ℕ
  d = get_or p j 0

  abbrev tail : List ℕ
  tail = drop (j + 1) p

  count_here : length left ≡ fields (d ∷ tail)
  count_here = w.count ∙ ap fields (next_piece p j more)

  whole_here : (line p).spell vs ≡ written ++ (line (d ∷ tail)).spell left
  whole_here = w.whole ∙ ap (λ (l : List ℕ). written ++ (line l).spell left) (next_piece p j more)

  -- a text that stands next is part of the whole
  within : (u v : List ℕ) → (line p).spell vs ≡ written ++ (u ++ v) → length written + length u ≤ length ((line p).spell vs)
  within u v e = omega (arith, ap length e, length-append written (u ++ v), length-append u v)

  module _ (f : is_number (piece d) ≡ true) where
    pub spelling_some : 0 < length left
    unfolding fields
    spelling_some = omega (arith, count_here ∙ field_count (piece d) (fields tail) f)

    module _ (v : ℕ) (after : List ℕ) (is : left ≡ v ∷ after) where
      abbrev spelt : List ℕ
      spelt = (form_of (piece d)).spell v

      field_whole : (line p).spell vs ≡ written ++ (spelt ++ (line tail).spell after)
      field_whole = whole_here ∙ ap (λ (l : List ℕ). written ++ (line (d ∷ tail)).spell l) is
          ∙ ap (λ (l : List ℕ). written ++ l) (field_spell (piece d) (line tail) v after f)

      pub spelling_within : length written + length spelt ≤ length ((line p).spell vs)
      spelling_within = within spelt ((line tail).spell after) field_whole

      pub spelling_field : Spelling p vs (written ++ spelt) (j + 1) after
      unfolding fields
      spelling_field = record {
        short = omega arith;
        count = omega (arith, ap length is, count_here ∙ field_count (piece d) (fields tail) f);
        whole = field_whole ∙ sym (append_assoc written spelt ((line tail).spell after));
      }

  module _ (f : is_number (piece d) ≡ false) where
    byte_whole : (line p).spell vs ≡ written ++ ((d ∷ []) ++ (line tail).spell left)
    byte_whole = whole_here ∙ ap (λ (q : Piece). written ++ (join q (line tail)).spell left) (itself d f)

    pub spelling_byte : Spelling p vs (written ++ (d ∷ [])) (j + 1) left
    unfolding fields
    spelling_byte = record {
      short = omega arith;
      count = count_here ∙ ap (λ (q : Piece). fields_by q (fields tail)) (itself d f);
      whole = byte_whole ∙ sym (append_assoc written (d ∷ []) ((line tail).spell left));
    }

-- ---- whether a line has room
pub record Measuring (p vs : List ℕ) (room more j : ℕ) (left : List ℕ) : Type 0 where
  pub written : List ℕ
  pub spelling : Spelling p vs written j left
  pub used : length written + more ≡ room

module _ (p vs : List ℕ) (room more j : ℕ) (left : List ℕ) (w : Measuring p vs room more j left) (less : j < length p) where
  abbrev b : ℕ
  b = get_or p j 0

  module _ (f : is_number (piece b) ≡ true) where
    pub measuring_some : 0 < length left
    measuring_some = spelling_some p vs w.written j left w.spelling less f

    module _ (v : ℕ) (after : List ℕ) (is : left ≡ v ∷ after) (n : ℕ) (e : n ≡ length ((form_of (piece b)).spell v)) where
      pub measuring_field : n ≤ more → Measuring p vs room (more - n) (j + 1) after
      measuring_field h = let u : length w.written + more ≡ room = w.used in
          record {
            written = w.written ++ (form_of (piece b)).spell v;
            spelling = spelling_field p vs w.written j left w.spelling less f v after is;
            used = omega (arith, length-append w.written ((form_of (piece b)).spell v));
          }

  module _ (f : is_number (piece b) ≡ false) where
    pub measuring_byte : (more ≡ 0 → ⊥) → Measuring p vs room (more - 1) (j + 1) left
    measuring_byte h = let u : length w.written + more ≡ room = w.used in
        record { written = w.written ++ (b ∷ []); spelling = spelling_byte p vs w.written j left w.spelling less f; used = omega (arith, h, length-append w.written (b ∷ [])) }

-- ---- laying a line down
pub record LineLaid (p vs before : List ℕ) (at : ℕ) (out : List ℕ) (i j : ℕ) (left : List ℕ) : Type 0 where
  pub written : List ℕ
  pub spelling : Spelling p vs written j left
  pub put : Put written before at out i
  pub room : at + length ((line p).spell vs) ≤ length before

module _ (p vs before : List ℕ) (at : ℕ) (out : List ℕ) (i j : ℕ) (left : List ℕ) (w : LineLaid p vs before at out i j left) where
  pub laid_long : length out ≡ length before
  laid_long = put_length w.written before out at i w.put

  module _ (less : j < length p) where
    abbrev a : ℕ
    a = get_or p j 0

    module _ (f : is_number (piece a) ≡ true) where
      pub laid_some : 0 < length left
      laid_some = spelling_some p vs w.written j left w.spelling less f

      module _ (v : ℕ) (after : List ℕ) (is : left ≡ v ∷ after) where
        pub laid_room : i + length ((form_of (piece a)).spell v) ≤ length out
        laid_room = let e : i ≡ at + length w.written = w.put.ends in let r : at + length ((line p).spell vs) ≤ length before = w.room in
            omega (arith, laid_long, spelling_within p vs w.written j left w.spelling less f v after is)

        pub laid_field : (out' : List ℕ) (n : ℕ) → Put ((form_of (piece a)).spell v) out i out' n → LineLaid p vs before at out' n (j + 1) after
        laid_field out' n h = record {
          written = w.written ++ (form_of (piece a)).spell v;
          spelling = spelling_field p vs w.written j left w.spelling less f v after is;
          put = put_then w.written ((form_of (piece a)).spell v) before out out' at i n w.put h;
          room = w.room;
        }

    module _ (f : is_number (piece a) ≡ false) where
      pub laid_byte : LineLaid p vs before at (set out i a) (i + 1) (j + 1) left
      laid_byte = record {
        written = w.written ++ (a ∷ []);
        spelling = spelling_byte p vs w.written j left w.spelling less f;
        put = put_then w.written (a ∷ []) before out (set out i a) at i (i + 1) w.put (put_byte a out i);
        room = w.room;
      }
