-- Sheets spelled by the checker's own computing: the worked sheet, one with an obstacle and an allowed mover, and negative edges.
use mathlib.Core.Path.{◌≡◌, refl}
use mathlib.Core.List.{[], ◌∷◌, ◌++◌}
use Rattle.text_forms.specs.Forms.{decimal, decimal_by, signed}
use Rattle.text_forms.specs.Patterns.{bytes, is}
use Rattle.sheet_form.specs.Sheets.{Sheet, sheet}

worked : Sheet
worked = record {
  size = 1 ∷ 1 ∷ [];
  cells = 1 ∷ [];
  obstacles = [];
  window = 0 ∷ 0 ∷ 5 ∷ 3 ∷ [];
  ends = 0 ∷ 1 ∷ 4 ∷ 1 ∷ [];
  block = 0 ∷ 0 ∷ 0 ∷ 0 ∷ [];
  allow = [];
  limits = 100 ∷ 32 ∷ [];
  groups = (2 ∷ []) ∷ [];
  places = (0 ∷ 0 ∷ 0 ∷ 0 ∷ 2 ∷ 0 ∷ 3 ∷ 3 ∷ 2 ∷ 0 ∷ 3 ∷ 3 ∷ []) ∷ (0 ∷ 0 ∷ 0 ∷ 0 ∷ 2 ∷ 0 ∷ 3 ∷ 2 ∷ 2 ∷ 0 ∷ 3 ∷ 2 ∷ [])
      ∷ (0 ∷ 0 ∷ 0 ∷ 0 ∷ 2 ∷ 2 ∷ 3 ∷ 3 ∷ 2 ∷ 2 ∷ 3 ∷ 3 ∷ []) ∷ [];
}

worked_text : sheet.spell worked
    ≡ bytes "(map 1 1 1)\n(window 0 0 5 3)\n(ends 0 1 4 1)\n(block 0 0 0 0)\n(limits 100 32)\n(groups 2)\n"
    ++ bytes "(place 0 0 0 0 (2 0 3 3) (2 0 3 3))\n(place 0 0 0 0 (2 0 3 2) (2 0 3 2))\n(place 0 0 0 0 (2 2 3 3) (2 2 3 3))\n"
unfolding worked decimal decimal_by signed
worked_text = refl

-- every line stands in its order
full : Sheet
full = record {
  size = 2 ∷ 1 ∷ [];
  cells = 1 ∷ 0 ∷ [];
  obstacles = (0 ∷ 0 ∷ 1 ∷ 1 ∷ []) ∷ (3 ∷ 0 ∷ 4 ∷ 2 ∷ []) ∷ [];
  window = 0 ∷ 0 ∷ 5 ∷ 3 ∷ [];
  ends = 0 ∷ 1 ∷ 4 ∷ 1 ∷ [];
  block = 1 ∷ 1 ∷ 0 ∷ 0 ∷ [];
  allow = (1 ∷ 2 ∷ 0 ∷ 0 ∷ []) ∷ [];
  limits = 9 ∷ 8 ∷ [];
  groups = (2 ∷ []) ∷ (1 ∷ []) ∷ [];
  places = (7 ∷ 1 ∷ 3 ∷ 0 ∷ 2 ∷ 0 ∷ 3 ∷ 3 ∷ 2 ∷ 0 ∷ 3 ∷ 2 ∷ []) ∷ [];
}

full_text : sheet.spell full
    ≡ bytes "(map 2 1 10)\n(obstacle 0 0 1 1)\n(obstacle 3 0 4 2)\n(window 0 0 5 3)\n(ends 0 1 4 1)\n(block 1 1 0 0)\n(allow 1 2 0 0)\n"
    ++ bytes "(limits 9 8)\n(groups 2 1)\n(place 7 1 3 0 (2 0 3 3) (2 0 3 2))\n"
unfolding full decimal decimal_by signed
full_text = refl

-- a negative edge is a word
negative : (is "(window # # # #)\n").spell (4294967295 ∷ 4294967286 ∷ 2147483647 ∷ 2147483648 ∷ []) ≡ bytes "(window -1 -10 2147483647 -2147483648)\n"
unfolding decimal decimal_by signed
negative = refl
