-- The drive sheet: its fields, its text as a form, and which texts are accepted (RULES 9.1, 9.3).
use Rattle.std.specs.Prelude.{ℕ, ◌-◌, ◌≡◌, Bool, true, false, not, ◌&&◌, ◌||◌, List, [], leb, ltb, ℤ, pos, negsuc, length, get_or}
use Rattle.base_model.specs.declared.Rect.{Rect}
use Rattle.ground_rects.specs.Rects.{rect, nonempty}
use Rattle.ground_rects.specs.Windows.{centres}
use Rattle.text_forms.specs.Forms.{Form, digits, ◌then◌, many, perhaps, via}
use Rattle.text_forms.specs.Patterns.{is}

-- the numbers of each line; an edge is a 32-bit word, and one from 2³¹ on stands for itself less 2³²
pub record Sheet : Type 0 where
  -- width and height
  pub size : List ℕ
  pub cells : List ℕ
  pub obstacles : List (List ℕ)
  pub window : List ℕ
  -- start, then end, as x y
  pub ends : List ℕ
  pub block : List ℕ
  -- one or none
  pub allow : List (List ℕ)
  -- states, results
  pub limits : List ℕ
  pub groups : List (List ℕ)
  -- spec index, group, tile, footprint, collision
  pub places : List (List ℕ)

-- one form a line, in this order
abbrev pub sheet : Form Sheet
sheet =
    via
    (is "(map $ $ " then digits then is ")\n"
    then many (is "(obstacle # # # #)\n")
    (is "(window # # # #)\n" then is "(ends $ $ $ $)\n" then is "(block $ $ $ $)\n"
    then perhaps (is "(allow $ $ $ $)\n")
    (is "(limits $ $)\n"
    then is "(groups" then many (is " $")
    (is ")\n" then many (is "(place $ $ $ $ (# # # #) (# # # #))\n") (is "")))))
    (λ s.
    (s.size, (s.cells, ([], (s.obstacles, (s.window, (s.ends, (s.block, (s.allow, (s.limits, ([], (s.groups, ([], (s.places, []))))))))))))))

-- the number that a word stands for
unfoldable pub signed_of : ℕ → ℤ
signed_of x = elim (ltb x 2147483648) [ true ↦ pos x | false ↦ negsuc (4294967295 - x) ]

unfoldable pub rect_of : List ℕ → Rect
rect_of e = rect (signed_of (get_or e 0 0)) (signed_of (get_or e 1 0)) (signed_of (get_or e 2 0)) (signed_of (get_or e 3 0))

-- what is looked at before any call
unfoldable pub within_caps : Sheet → Bool
within_caps s =
    leb (length s.cells) 64 && (not (nonempty (rect_of s.window)) || leb (centres (rect_of s.window)) 256)
    && leb (length s.obstacles) 32 && leb (length s.places) 64 && leb (get_or s.limits 0 0) 500

-- a text is accepted as the one sheet whose spelling it is
pub record Accepted (text : List ℕ) (s : Sheet) : Type 0 where
  pub short : leb (length text) 8192 ≡ true
  pub fits : sheet.fits s
  pub spelled : sheet.spell s ≡ text
  pub capped : within_caps s ≡ true
