-- Areas whose first entries are zero, and a search that stops nowhere.
use mathlib.Core.Path.{◌≡◌, sym, ap, ◌∙◌}
use mathlib.Core.List.{List}
use Prim.Native.Nat.{ℕ, ◌≤◌, ◌<◌}
use native.Mathlib.Nat.{min-le_right}
use native.Mathlib.Omega.{arith}
use lib.ListN.{length, get_or, length-take, length-replicate, get_or-replicate}
use lib.Seq.{get_or-take}
use Rattle.route_find.specs.Results.{Clear}

pub clear_room : (c : ℕ) (area : List ℕ) → Clear c area → c ≤ length area
clear_room c area e = let l = sym (length-take c area) ∙ ap length e ∙ length-replicate c 0 in omega (arith, min-le_right c (length area))

pub clear_at : (c : ℕ) (area : List ℕ) → Clear c area → (v : ℕ) → v < c → get_or area v 0 ≡ 0
clear_at c area e v h = sym (get_or-take c area v 0 h) ∙ ap (λ (l : List ℕ). get_or l v 0) e ∙ get_or-replicate c v 0 0 h
