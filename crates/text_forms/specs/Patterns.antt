-- A line by its pattern (RULES 9.2). `#` is a signed number of 32 bits; `$`, `%`, `&` and `!` are unsigned ones of 32, 16, 8 bits and one bit; any
-- other byte is itself. A line's value is the list of its numbers.
use Rattle.std.specs.Prelude.{◌≡◌, Bool, true, false, ◌&&◌, ◌||◌, List, [], ◌∷◌, ◌++◌, ℕ, zero, suc, ltb, eqb}
use Prim.Native.Char.{code}
use Prim.Native.String.{String, len, char_at}
use Rattle.text_forms.specs.Forms.{Form, number, integer}

-- the bytes of a quoted text
abbrev pub bytes_from : String → ℕ → ℕ → List ℕ
bytes_from s i zero = []
bytes_from s i (suc n) = code (char_at s i) ∷ bytes_from s (suc i) n

abbrev pub bytes : String → List ℕ
bytes s = bytes_from s 0 (len s)

abbrev pub pick : {A : Type 0} → Bool → A → A → A
pick true a b = a
pick false a b = b

-- the largest number of an unsigned field; 0 where the byte is none
abbrev pub limit_of : ℕ → ℕ
limit_of c = pick (eqb c 36) 4294967295 (pick (eqb c 37) 65535 (pick (eqb c 38) 255 (pick (eqb c 33) 1 0)))

pub data Piece : Type 0 where
  byte plain : ℕ → Piece
  minus : Piece

abbrev pub piece_by : Bool → ℕ → ℕ → Piece
piece_by true m c = minus
piece_by false zero c = byte c
piece_by false (suc m) c = plain (suc m)

abbrev pub piece : ℕ → Piece
piece c = piece_by (eqb c 35) (limit_of c) c

-- a piece that is a number, and that number's form
abbrev pub is_number : Piece → Bool
is_number (byte c) = false
is_number (plain m) = true
is_number minus = true

abbrev pub form_of : Piece → Form ℕ
form_of (byte c) = number 0
form_of (plain m) = number m
form_of minus = integer

-- a number, then the numbers of the rest
abbrev pub spell_more : (ℕ → List ℕ) → (List ℕ → List ℕ) → List ℕ → List ℕ
spell_more f g [] = []
spell_more f g (v ∷ vs) = f v ++ g vs

abbrev pub FitsMore : (ℕ → Type 0) → (List ℕ → Type 0) → List ℕ → Type 0
FitsMore f g [] = ⊥
FitsMore f g (v ∷ vs) = f v × g vs

abbrev pub onto : Form ℕ → Form (List ℕ) → Form (List ℕ)
onto f g = record { spell = spell_more f.spell g.spell; fits = FitsMore f.fits g.fits }

abbrev pub join : Piece → Form (List ℕ) → Form (List ℕ)
join (byte c) g = record { spell = λ vs. c ∷ g.spell vs; fits = g.fits }
join (plain m) g = onto (number m) g
join minus g = onto integer g

abbrev pub line : List ℕ → Form (List ℕ)
line [] = record { spell = λ _. []; fits = λ vs. vs ≡ [] }
line (c ∷ p) = join (piece c) (line p)

abbrev pub is : String → Form (List ℕ)
is s = line (bytes s)

-- ---- patterns that can be read
-- a pattern that is empty or begins with a byte that is no digit
abbrev pub opens_by : Piece → Bool
opens_by (byte c) = ltb c 48 || ltb 57 c
opens_by (plain m) = false
opens_by minus = false

abbrev pub opens : List ℕ → Bool
opens [] = true
opens (c ∷ p) = opens_by (piece c)

-- after a number, no digit and no number follows
abbrev pub good_by : Piece → Bool → Bool → Bool
good_by (byte c) here rest = rest
good_by (plain m) here rest = here && rest
good_by minus here rest = here && rest

unfoldable pub good : List ℕ → Bool
good [] = true
good (c ∷ p) = good_by (piece c) (opens p) (good p)

-- how many numbers a pattern has
abbrev pub fields_by : Piece → ℕ → ℕ
fields_by (byte c) n = n
fields_by (plain m) n = suc n
fields_by minus n = suc n

unfoldable pub fields : List ℕ → ℕ
fields [] = 0
fields (c ∷ p) = fields_by (piece c) (fields p)

-- a pattern whose lines can stand one after the other: it can be read, is not empty and begins with a byte that is no digit
abbrev pub some : List ℕ → Bool
some [] = false
some (c ∷ p) = true

unfoldable pub repeats : List ℕ → Bool
repeats p = good p && (some p && opens p)
