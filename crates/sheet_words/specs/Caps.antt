-- The caps that are left when the areas hold the sheet.
use Rattle.std.specs.Prelude.{ℕ, Bool, not, ◌&&◌, ◌||◌, List, leb, drop, get_or}
use Rattle.base_model.specs.declared.Rect.{Rect}
use Rattle.ground_rects.specs.Rects.{nonempty}
use Rattle.ground_rects.specs.Windows.{centres}
use Rattle.sheet_form.specs.Sheets.{rect_of}

unfoldable pub few_centres : Rect → Bool
few_centres w = not (nonempty w) || leb (centres w) 256

-- window and states as they stand in fixed
unfoldable pub caps_left : List ℕ → Bool
caps_left fixed = few_centres (rect_of (drop 2 fixed)) && leb (get_or fixed 18 0) 500
