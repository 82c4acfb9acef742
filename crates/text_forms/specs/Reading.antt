-- What reading a form finds in a text. A text is looked at with the mark 256 after its last byte, so that "it ends early" is no case of
-- its own.
use Rattle.std.specs.Prelude.{◌≡◌, Bool, true, List, [], ◌∷◌, ◌++◌, ℕ, ◌-◌, ◌≤◌, ◌<◌, length, take, drop}
use Rattle.text_forms.specs.Forms.{Form}

-- u begins with p and the first element of r
pub record Past (u p r : List ℕ) : Type 0 where
  pub rest : List ℕ
  pub text : u ≡ p ++ (take 1 r ++ rest)

-- no digit stands first
abbrev pub Stop : List ℕ → Type 0
Stop [] = Unit {0}
Stop (c ∷ x) = 48 ≤ c → 57 < c

-- t is a value in range as spelled, then r; and no other value, with no digit after it, is spelled so up to r's first element
pub record Got {A : Type 0} (f : Form A) (t : List ℕ) (a : A) (r : List ℕ) : Type 0 where
  pub fits : f.fits a
  pub text : t ≡ f.spell a ++ r
  pub only : (b : A) (x : List ℕ) → f.fits b → Stop x → Past (f.spell b ++ x) (f.spell a) r → b ≡ a

-- t is p, then r; p begins a value's spelling; and p with r's first element begins none, whatever follows the value
pub record Bad {A : Type 0} (f : Form A) (t p r : List ℕ) : Type 0 where
  pub text : t ≡ p ++ r
  pub begins : (a : A) × (x : List ℕ) × f.fits a × (f.spell a ≡ p ++ x)
  pub none : (b : A) (x : List ℕ) → f.fits b → Past (f.spell b ++ x) p r → ⊥

-- the text from a place on, with the end mark
abbrev pub from : ℕ → List ℕ → List ℕ
from at s = drop at s ++ (256 ∷ [])

-- the value a stands from `at` up to `next`
pub record GotAt {A : Type 0} (f : Form A) (s : List ℕ) (at : ℕ) (a : A) (next : ℕ) : Type 0 where
  pub after : at ≤ next
  pub inside : next ≤ length s
  pub got : Got f (from at s) a (from next s)

-- from `at` on, p is the first place at fault
pub record BadAt {A : Type 0} (f : Form A) (s : List ℕ) (at p : ℕ) : Type 0 where
  pub after : at ≤ p
  pub inside : p ≤ length s
  pub bad : Bad f (from at s) (take (p - at) (drop at s)) (from p s)

-- these values stand one after the other from a place up to a place
pub data Series {A : Type 0} (f : Form A) (s : List ℕ) : ℕ → List A → ℕ → Type 0 where
  none : {at : ℕ} → Series f s at [] at
  more : {at m next : ℕ} {a : A} {l : List A} → GotAt f s at a m → Series f s m l next → Series f s at (a ∷ l) next

-- and no further one: the next is at fault at p
pub record Run {A : Type 0} (f : Form A) (s : List ℕ) (at : ℕ) (l : List A) (next p : ℕ) : Type 0 where
  pub chain : Series f s at l next
  pub stops : BadAt f s next p

-- one or none: without one the place at fault is told; after one nothing is at fault, and its end stands for the place
pub data Few {A : Type 0} (f : Form A) (s : List ℕ) : ℕ → List A → ℕ → ℕ → Type 0 where
  absent : {at p : ℕ} → BadAt f s at p → Few f s at [] at p
  present : {at next : ℕ} {a : A} → GotAt f s at a next → Few f s at (a ∷ []) next next

-- ---- an answer at a place: a value and the place after it, or the place at fault
pub data Out (A : Type 0) : Type 0 where
  got : A → ℕ → Out A
  bad : ℕ → Out A

abbrev pub Right : {A : Type 0} → Form A → List ℕ → ℕ → Out A → Type 0
Right f s at (got a next) = GotAt f s at a next
Right f s at (bad p) = BadAt f s at p

pub record ReadAs {A : Type 0} (f : Form A) (s : List ℕ) (at : ℕ) (o : Out A) : Type 0 where
  pub right : Right f s at o

-- an answer with values before its own
abbrev pub after : List ℕ → Out (List ℕ) → Out (List ℕ)
after vs (got ws n) = got (vs ++ ws) n
after vs (bad p) = bad p

-- the place is beyond the text, and the area is as before
pub record Beyond (ok : Bool) (s : List ℕ) (at : ℕ) (before out : List ℕ) : Type 0 where
  pub readable : ok ≡ true
  pub outside : length s < at
  pub area : out ≡ before
