-- Runs of a form: where they lead, and that reading a line that can repeat goes on. Assumes nothing.
use mathlib.Core.Path.{◌≡◌, ap, ◌∙◌}
use mathlib.Core.Bool.{true, ◌&&◌}
use mathlib.Core.List.{List, [], ◌∷◌, ◌++◌}
use Prim.Native.Nat.{ℕ, ◌+◌, ◌≤◌, ◌<◌}
use native.Mathlib.Omega.{arith}
use lib.ListN.{length, length-append}
use Rattle.base_laws.proofs.Members.{both}
use Rattle.text_forms.specs.Forms.{Form}
use Rattle.text_forms.specs.Patterns.{line, opens, good, repeats, some}
use Rattle.text_forms.specs.Reading.{Stop, GotAt, Series, none, more, from}
use Rattle.text_forms.proofs.Laws.{Solid}
use Rattle.text_forms.proofs.Places.{long_from}
use Rattle.text_forms.proofs.Pieces.{clash, line_solid}

pub chain_inside : {A : Type 0} {f : Form A} {s : List ℕ} {at next : ℕ} {l : List A} → Series f s at l next → at ≤ length s → (at ≤ next) × (next ≤ length s)
chain_inside none h = (omega arith, h)
chain_inside {at = at} {next = next} (more {m = m} g r) h =
    let w : (m ≤ next) × (next ≤ _) = chain_inside r g.inside in
    let a : at ≤ m = g.after in
    (omega arith, w.1)

pub chain_last : {A : Type 0} {f : Form A} {s : List ℕ} {at m next : ℕ} {l : List A} {a : A} → Series f s at l m → GotAt f s m a next → Series f s at (l ++ (a ∷ [])) next
chain_last none h = more h none
chain_last (more g r) h = more g (chain_last r h)

-- ---- a form that begins with no digit has a byte: reading it goes on
solid_long : {A : Type 0} (f : Form A) → Solid f → (a : A) → f.fits a → 0 < length (f.spell a)
solid_long f o a u = go (f.spell a) (o.solid a (48 ∷ []) u)
  where
    go : (l : List ℕ) → Stop (l ++ (48 ∷ [])) → 0 < length l
    go [] h = let z : 57 < 48 = h (omega arith) in absurd (omega arith)
    go (c ∷ l) h = omega arith

pub goes_on : {A : Type 0} (f : Form A) (s : List ℕ) {i n : ℕ} {a : A} → Solid f → GotAt f s i a n → i < n
goes_on f s {i} {n} {a} o k =
    let x : n ≤ length s = k.inside in
    let y : i ≤ n = k.after in
    let e : length (from i s) ≡ length (f.spell a) + length (from n s) = ap length k.got.text ∙ length-append (f.spell a) (from n s) in
    omega (arith, solid_long f o a k.got.fits, long_from s i (omega arith), long_from s n (omega arith))

some_solid : (p : List ℕ) → some p ≡ true → opens p ≡ true → Solid (line p)
some_solid [] e o = clash e
some_solid (c ∷ p) e o = line_solid c p o

pub repeats_good : (p : List ℕ) → repeats p ≡ true → good p ≡ true
unfolding repeats
repeats_good p e = (both (good p) (some p && opens p) e).0

pub repeats_solid : (p : List ℕ) → repeats p ≡ true → Solid (line p)
unfolding repeats
repeats_solid p e =
    let w : (some p ≡ true) × (opens p ≡ true) = both (some p) (opens p) (both (good p) (some p && opens p) e).1 in
    some_solid p w.0 w.1
