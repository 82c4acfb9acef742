-- Which line of the sheet may follow which. Assumes nothing.
use mathlib.Core.Path.{◌≡◌, refl}
use mathlib.Core.Bool.{true}
use mathlib.Core.List.{List}
use Prim.Native.Nat.{ℕ}
use native.Mathlib.Omega.{arith}
use Rattle.text_forms.specs.Forms.{Form, ◌then◌, many}
use Rattle.text_forms.specs.Patterns.{bytes, is, line, good, repeats}
use Rattle.text_forms.proofs.Laws.{seq_solid, seq_apart}
use Rattle.text_forms.proofs.Pieces.{line_apart, differ}
use Rattle.text_forms.proofs.Runs.{repeats_solid}
use Rattle.text_forms.proofs.Rest.{Follows, Unlike, solid_follows, apart_unlike, many_follows}
use Rattle.sheet_form.specs.Tails.{places_on, groups_on, allow_on, lines_on, obstacles_on}

begins : {B : Type 0} (p : List ℕ) (g : Form B) → repeats p ≡ true → Follows (line p then g)
begins p g e = solid_follows (line p then g) (seq_solid (line p) (λ _. g) (repeats_solid p e))

differs : {B : Type 0} (p q : List ℕ) (g : Form B) → differ p q ≡ true → Unlike (line p) (line q then g)
differs p q g e = apart_unlike (line p) (line q then g) (seq_apart (line p) (line q) (λ _. g) (line_apart p q e))

end_follows : Follows (is "")
end_follows = record { stop = λ b u h. omega arith }

pub places_follow : Follows places_on
unfolding places_on repeats good
places_follow =
    many_follows (is "(place $ $ $ $ (# # # #) (# # # #))\n") (is "") (repeats_solid (bytes "(place $ $ $ $ (# # # #) (# # # #))\n") refl) end_follows

pub places_end : Unlike (is "(place $ $ $ $ (# # # #) (# # # #))\n") (is "")
places_end = record { unlike = λ a b x e. (let z : ◌≡◌ {A = ℕ} 0 1 = cc in omega arith) }

pub groups_follow : Follows (many (is " $") (is ")\n" then places_on))
unfolding repeats good
groups_follow = many_follows (is " $") (is ")\n" then places_on) (repeats_solid (bytes " $") refl) (begins (bytes ")\n") places_on refl)

pub groups_end : Unlike (is " $") (is ")\n" then places_on)
groups_end = differs (bytes " $") (bytes ")\n") places_on refl

pub limits_begin : Follows (is "(limits $ $)\n" then groups_on)
unfolding repeats good
limits_begin = begins (bytes "(limits $ $)\n") groups_on refl

pub allow_end : Unlike (is "(allow $ $ $ $)\n") (is "(limits $ $)\n" then groups_on)
allow_end = differs (bytes "(allow $ $ $ $)\n") (bytes "(limits $ $)\n") groups_on refl

pub obstacles_follow : Follows obstacles_on
unfolding obstacles_on lines_on repeats good
obstacles_follow =
    many_follows (is "(obstacle # # # #)\n") lines_on (repeats_solid (bytes "(obstacle # # # #)\n") refl)
    (begins (bytes "(window # # # #)\n") (is "(ends $ $ $ $)\n" then is "(block $ $ $ $)\n" then allow_on) refl)

pub obstacles_end : Unlike (is "(obstacle # # # #)\n") lines_on
unfolding lines_on
obstacles_end = differs (bytes "(obstacle # # # #)\n") (bytes "(window # # # #)\n") (is "(ends $ $ $ $)\n" then is "(block $ $ $ $)\n" then allow_on) refl

pub cells_follow : Follows (is ")\n" then obstacles_on)
unfolding repeats good
cells_follow = begins (bytes ")\n") obstacles_on refl
