-- Forms: which values a text may have and how each is spelled in bytes, in one way only (RULES 9.2). A text is accepted exactly when it is the
-- spelling of a value in range; there is no reader to believe.
use Rattle.std.specs.Prelude.{Bool, true, false, List, [], ◌∷◌, ◌++◌, map, ℕ, zero, suc, ◌+◌, ◌-◌, ◌/◌, ◌%◌, ◌≤◌, ◌<◌, ltb, length}

-- the decimal digits of n, without leading zeros; more than n steps are never needed
abbrev pub last_digit : Bool → ℕ → (Unit {0} → List ℕ) → List ℕ
last_digit true n front = (48 + n) ∷ []
last_digit false n front = front tt ++ ((48 + n % 10) ∷ [])

unfoldable pub decimal_by : ℕ → ℕ → List ℕ
decimal_by zero n = []
decimal_by (suc k) n = last_digit (ltb n 10) n (λ _. decimal_by k (n / 10))

unfoldable pub decimal : ℕ → List ℕ
decimal n = decimal_by (suc n) n

-- a minus sign before negatives: a signed number is a 32-bit word, and one from 2³¹ on stands for itself less 2³²
abbrev pub signed_by : Bool → ℕ → List ℕ
signed_by true x = decimal x
signed_by false x = 45 ∷ decimal (4294967296 - x)

unfoldable pub signed : ℕ → List ℕ
signed x = signed_by (ltb x 2147483648) x

-- a form: the spelling of each value, and the values in range
pub record Form (A : Type 0) : Type 1 where
  pub spell : A → List ℕ
  pub fits : A → Type 0

-- these bytes
abbrev pub word : List ℕ → Form (Unit {0})
word w = record { spell = λ _. w; fits = λ _. Unit {0} }

-- a number up to max
abbrev pub number : ℕ → Form ℕ
number max = record { spell = decimal; fits = λ n. n ≤ max }

-- a signed number of 32 bits
abbrev pub integer : Form ℕ
integer = record { spell = signed; fits = λ x. x < 4294967296 }

abbrev pub All : {A : Type 0} → (A → Type 0) → List A → Type 0
All P [] = Unit {0}
All P (a ∷ l) = P a × All P l

-- digits run together, one or more, each a value
abbrev pub digits : Form (List ℕ)
digits = record { spell = map (λ d. 48 + d); fits = λ ds. (0 < length ds) × All (λ d. d ≤ 9) ds }

-- one after the other, where the second may look at the first's value
abbrev pub seq : {A B : Type 0} → Form A → (A → Form B) → Form (A × B)
seq f g = record { spell = λ p. f.spell p.0 ++ (g p.0).spell p.1; fits = λ p. f.fits p.0 × (g p.0).fits p.1 }

abbrev pub ◌then◌ : {A B : Type 0} → Form A → Form B → Form (A × B)
f then g = seq f (λ _. g)

infixr 20 ◌then◌
-- any number of the first, then the second
abbrev pub spells : {A : Type 0} → (A → List ℕ) → List A → List ℕ → List ℕ
spells f [] end = end
spells f (a ∷ l) end = f a ++ spells f l end

abbrev pub many : {A B : Type 0} → Form A → Form B → Form (List A × B)
many f g = record { spell = λ p. spells f.spell p.0 (g.spell p.1); fits = λ p. All f.fits p.0 × g.fits p.1 }

-- at most one of the first, then the second
abbrev pub AtMostOne : {A : Type 0} → (A → Type 0) → List A → Type 0
AtMostOne P [] = Unit {0}
AtMostOne P (a ∷ []) = P a
AtMostOne P (a ∷ b ∷ l) = ⊥

abbrev pub perhaps : {A B : Type 0} → Form A → Form B → Form (List A × B)
perhaps f g = record { spell = (many f g).spell; fits = λ p. AtMostOne f.fits p.0 × g.fits p.1 }

-- the same texts for another type of values
abbrev pub via : {A S : Type 0} → Form A → (S → A) → Form S
via f k = record { spell = λ s. f.spell (k s); fits = λ s. f.fits (k s) }
