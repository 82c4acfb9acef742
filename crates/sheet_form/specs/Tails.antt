-- The sheet's form from each line on: what is left to read once the lines before it are read.
use Rattle.std.specs.Prelude.{List, [], ℕ}
use Rattle.text_forms.specs.Forms.{Form, digits, ◌then◌, many, perhaps}
use Rattle.text_forms.specs.Patterns.{is}
use Rattle.sheet_form.specs.Sheets.{Sheet}

abbrev pub PlaceLines : Type 0
PlaceLines = List (List ℕ) × List ℕ

unfoldable pub places_on : Form PlaceLines
places_on = many (is "(place $ $ $ $ (# # # #) (# # # #))\n") (is "")

abbrev pub Groups : Type 0
Groups = List ℕ × (List (List ℕ) × (List ℕ × PlaceLines))

unfoldable pub groups_on : Form Groups
groups_on = is "(groups" then many (is " $") (is ")\n" then places_on)

abbrev pub Limits : Type 0
Limits = List (List ℕ) × (List ℕ × Groups)

unfoldable pub allow_on : Form Limits
allow_on = perhaps (is "(allow $ $ $ $)\n") (is "(limits $ $)\n" then groups_on)

abbrev pub Lines : Type 0
Lines = List ℕ × (List ℕ × (List ℕ × Limits))

unfoldable pub lines_on : Form Lines
lines_on = is "(window # # # #)\n" then is "(ends $ $ $ $)\n" then is "(block $ $ $ $)\n" then allow_on

abbrev pub Obstacles : Type 0
Obstacles = List (List ℕ) × Lines

unfoldable pub obstacles_on : Form Obstacles
obstacles_on = many (is "(obstacle # # # #)\n") lines_on

abbrev pub SheetLines : Type 0
SheetLines = List ℕ × (List ℕ × (List ℕ × Obstacles))

unfoldable pub whole : Form SheetLines
whole = is "(map $ $ " then digits then is ")\n" then obstacles_on

-- a sheet's values as this form has them
abbrev pub parts : Sheet → SheetLines
parts s = (s.size, (s.cells, ([], (s.obstacles, (s.window, (s.ends, (s.block, (s.allow, (s.limits, ([], (s.groups, ([], (s.places, [])))))))))))))
