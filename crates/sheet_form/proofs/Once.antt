-- A text is the spelling of one sheet at most: line by line, from the last to the first. Assumes nothing.
use mathlib.Core.Path.{◌≡◌, refl, sym, ap, ◌∙◌}
use mathlib.Core.List.{List}
use Prim.Native.Nat.{ℕ}
use Rattle.text_forms.specs.Forms.{digits, ◌then◌, many}
use Rattle.text_forms.specs.Patterns.{bytes, is, good}
use Rattle.text_forms.specs.Reading.{Stop}
use Rattle.text_forms.proofs.Pieces.{line_tells}
use Rattle.text_forms.proofs.Digits.{digits_tells}
use Rattle.text_forms.proofs.Once.{Once, once_seq, once_line, once_many, once_perhaps}
use Rattle.sheet_form.specs.Sheets.{Sheet, sheet, Accepted}
use Rattle.sheet_form.specs.Tails.{SheetLines, places_on, groups_on, allow_on, lines_on, obstacles_on, whole, parts}
use Rattle.sheet_form.proofs.Follows.{cells_follow, obstacles_follow, obstacles_end, groups_follow, groups_end, limits_begin, allow_end, places_follow, places_end}

once_places : Once places_on
unfolding places_on good
once_places =
    once_many (is "(place $ $ $ $ (# # # #) (# # # #))\n") (is "") (line_tells (bytes "(place $ $ $ $ (# # # #) (# # # #))\n") refl) places_end
    (record { once = λ a b u v e. u ∙ sym v }) places_follow

once_groups : Once groups_on
unfolding groups_on good
once_groups =
    once_line (bytes "(groups") (many (is " $") (is ")\n" then places_on)) refl refl
    (once_many (is " $") (is ")\n" then places_on) (line_tells (bytes " $") refl) groups_end
    (once_line (bytes ")\n") places_on refl refl once_places) groups_follow)

once_allow : Once allow_on
unfolding allow_on good
once_allow =
    once_perhaps (is "(allow $ $ $ $)\n") (is "(limits $ $)\n" then groups_on) (line_tells (bytes "(allow $ $ $ $)\n") refl) allow_end
    (once_line (bytes "(limits $ $)\n") groups_on refl refl once_groups) limits_begin

once_lines : Once lines_on
unfolding lines_on good
once_lines =
    once_line (bytes "(window # # # #)\n") (is "(ends $ $ $ $)\n" then is "(block $ $ $ $)\n" then allow_on) refl refl
    (once_line (bytes "(ends $ $ $ $)\n") (is "(block $ $ $ $)\n" then allow_on) refl refl (once_line (bytes "(block $ $ $ $)\n") allow_on refl refl once_allow))

once_obstacles : Once obstacles_on
unfolding obstacles_on good
once_obstacles = once_many (is "(obstacle # # # #)\n") lines_on (line_tells (bytes "(obstacle # # # #)\n") refl) obstacles_end once_lines obstacles_follow

once_whole : Once whole
unfolding whole good
once_whole =
    once_line (bytes "(map $ $ ") (digits then is ")\n" then obstacles_on) refl refl
    (once_seq Stop digits (is ")\n" then obstacles_on) digits_tells (λ b u. cells_follow.stop b u)
    (once_line (bytes ")\n") obstacles_on refl refl once_obstacles))

unparts : SheetLines → Sheet
unparts w = record {
  size = w.0;
  cells = w.1.0;
  obstacles = w.1.1.1.0;
  window = w.1.1.1.1.0;
  ends = w.1.1.1.1.1.0;
  block = w.1.1.1.1.1.1.0;
  allow = w.1.1.1.1.1.1.1.0;
  limits = w.1.1.1.1.1.1.1.1.0;
  groups = w.1.1.1.1.1.1.1.1.1.1.0;
  places = w.1.1.1.1.1.1.1.1.1.1.1.1.0;
}

pub sheet_once : (s t : Sheet) → sheet.fits s → sheet.fits t → sheet.spell s ≡ sheet.spell t → s ≡ t
unfolding whole obstacles_on lines_on allow_on groups_on places_on unparts
sheet_once s t u v e = ap unparts (once_whole.once (parts s) (parts t) u v e)

pub accepted_one : (text : List ℕ) (s t : Sheet) → Accepted text s → Accepted text t → s ≡ t
accepted_one text s t h k = sheet_once s t h.fits k.fits (h.spelled ∙ sym k.spelled)
