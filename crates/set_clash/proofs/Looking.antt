-- A look through a set by an iterator: each member stands in the rows, and the tests are the definitions'.
use Prim.Native.Nat.{ℕ, ◌+◌, ◌*◌, ◌≤◌, ◌<◌}
use mathlib.Core.Path.{◌≡◌, refl, ap₂, ◌∙◌}
use mathlib.Core.Bool.{not, ◌&&◌, ◌||◌}
use mathlib.Core.List.{List, [], ◌∷◌}
use native.Mathlib.Omega.{arith}
use lib.Dec.{eqb}
use lib.IntN.{ℤ}
use lib.ListN.{length, get_or}
use Rattle.std.specs.List.{list_any}
use Rattle.std.specs.Ordering.{is_gt}
use Rattle.std.proofs.lemmas.Grind.{get_or_default_zero}
use Rattle.base_laws.specs.Lists.{any_of}
use Rattle.base_laws.proofs.Members.{get_d_member}
use Rattle.ground_rects.specs.Rects.{intersects}
use Rattle.rule_layouts.specs.Boards.{used}
use Rattle.rule_layouts.specs.Flat.{rect_at, places_in}
use Rattle.set_places.specs.Groups.{InGroup, of_group, taken}
use Rattle.set_places.proofs.Members.{any_is, more_is}
use Rattle.set_blocked.specs.Blocked.{Named}
use Rattle.set_extend.specs.Join.{Rowed}
use Rattle.set_extend.proofs.Joining.{in_group}
use Rattle.set_clash.specs.Clashes.{crowded, clashing}

pub in_group_at : {n : ℕ} {groups numbers : List ℕ} {edges : List ℤ} {s : List ℕ} → Rowed n groups numbers edges s → (k x : ℕ) → k < length s → x ≡ get_or s k x → InGroup groups numbers s x
in_group_at {s = s} r k x h e =
    let q = e ∙ get_or_default_zero s k x h in
    let i = r.named (get_or s k 0) (get_d_member s k 0 h) in in_group r (omega (arith, i, q))

pub edges_at : {edges : List ℤ} {s : List ℕ} → Named edges s → (k x : ℕ) → k < length s → x ≡ get_or s k x → 8 * x + 8 ≤ length edges
edges_at {s = s} r k x h e =
    let q = e ∙ get_or_default_zero s k x h in omega (arith, r.each (get_or s k 0) (get_d_member s k 0 h), q)

crowded_is : (n : ℕ) (groups numbers : List ℕ) (edges : List ℤ) (s : List ℕ) (i : ℕ) → is_gt (taken groups numbers s i) ≡ crowded (places_in n groups numbers edges) s i
unfolding crowded places_in used of_group
crowded_is n groups numbers edges s i = more_is _ _

pub any_crowded : (n : ℕ) (groups numbers : List ℕ) (edges : List ℤ) (s t : List ℕ)
    → list_any (λ (x : ℕ). is_gt (taken groups numbers s x)) t ≡ any_of (crowded (places_in n groups numbers edges) s) t
unfolding any_of
any_crowded n groups numbers edges s [] = refl
any_crowded n groups numbers edges s (x ∷ t) = ap₂ ◌||◌ (crowded_is n groups numbers edges s x) (any_crowded n groups numbers edges s t)

pub any_clashing : (edges : List ℤ) (s : List ℕ) (i : ℕ)
    → list_any (λ (x : ℕ). not (eqb i x) && intersects (rect_at edges (8 * i)) (rect_at edges (8 * x))) s ≡ clashing edges s i
unfolding clashing
any_clashing edges s i = any_is (λ (x : ℕ). not (eqb i x) && intersects (rect_at edges (8 * i)) (rect_at edges (8 * x))) s
