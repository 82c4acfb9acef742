-- What the checks of `rank` leave, in naturals: the radius, the entrance points and the footprint's edges lie in their ranges, and the points are two.
use mathlib.Core.Path.{◌≡◌}
use mathlib.Core.Bool.{true, false, not, ◌&&◌}
use mathlib.Core.Option.{none}
use mathlib.Core.List.{[], ◌∷◌}
use Prim.Native.Nat.{ℕ, ◌+◌, ◌*◌, ◌≤◌}
use native.Mathlib.Omega.{arith}
use lib.Dec.{leb}
use lib.IntN.{ℤ, pos}
use lib.Signed.{le_z, lt_z}
use borrow.Author.Tests.{leb-true, not-true}
use Rattle.base_laws.specs.Ints.{up, dn}
use Rattle.base_laws.proofs.Ints.{le_z_fact, lt_z_fact}
use Rattle.base_laws.proofs.Members.{both}
use Rattle.base_model.specs.Answers.{ask, first}
use Rattle.base_model.specs.declared.Rect.{Rect}
use Rattle.base_model.specs.declared.Position.{Position}
use Rattle.base_model.specs.declared.Site.{Site}
use Rattle.base_model.proofs.Asking.{ask_passes, first_passes}
use Rattle.ground_rects.specs.Rects.{rect, nonempty, holds}
use Rattle.ground_rects.specs.Windows.{size_fits}
use Rattle.ground_rects.proofs.Windows.{sized, four}
use Rattle.rule_ranks.specs.Ranks.{on_map, same_point, site_fits, footprint_fits, rank_checks}

-- an edge of a footprint lies on the map
pub record Edge (z : ℤ) : Type 0 where
  pub some : dn z ≤ up z
  pub most : up z ≤ dn z + 8192

pub record Passed (s : Site) (r : Rect) : Type 0 where
  pub radius : s.radius ≤ 1024
  pub first_x_lem : s.first.x ≤ 8192
  pub first_y_lem : s.first.y ≤ 8192
  pub second_x_lem : s.second.x ≤ 8192
  pub second_y_lem : s.second.y ≤ 8192
  pub two : same_point s.first s.second ≡ false
  pub left : Edge r.left
  pub top : Edge r.top
  pub right : Edge r.right
  pub bottom : Edge r.bottom

-- both edges of an axis, from what the checks say of them
edges : (low high : ℤ) (n : ℕ) → n ≤ 8192 → lt_z low high ≡ true → le_z (pos 0) low ≡ true → le_z high (pos n) ≡ true → Edge low × Edge high
edges low high n h lt from to =
    let p = lt_z_fact low high lt in let q = le_z_fact (pos 0) low from in let k = le_z_fact high (pos n) to in
    (record { some = omega arith; most = omega arith }, record { some = omega arith; most = omega arith })

point : (across down : ℕ) (p : Position) → across ≤ 1024 → down ≤ 1024 → on_map across down p ≡ true → (p.x ≤ 8192) × (p.y ≤ 8192)
unfolding on_map
point across down p h k e =
    let i = both (leb p.x (8 * across)) (leb p.y (8 * down)) e in
    (omega (arith, leb-true p.x (8 * across) i.0), omega (arith, leb-true p.y (8 * down) i.1))

-- the three checks, each by itself
pub asked : (across down : ℕ) (s : Site) (r : Rect) → first (rank_checks across down s r) ≡ none
    → (size_fits across down ≡ true) × ((site_fits across down s ≡ true) × (footprint_fits across down r ≡ true))
unfolding rank_checks
asked across down s r e =
    let a = first_passes (ask 1 (size_fits across down)) (ask 22 (site_fits across down s) ∷ ask 15 (footprint_fits across down r) ∷ []) e in
    let b = first_passes (ask 22 (site_fits across down s)) (ask 15 (footprint_fits across down r) ∷ []) a.1 in
    let c = first_passes (ask 15 (footprint_fits across down r)) [] b.1 in
    (ask_passes 1 _ a.0, (ask_passes 22 _ b.0, ask_passes 15 _ c.0))

pub passed : (across down : ℕ) (s : Site) (r : Rect) → size_fits across down ≡ true → site_fits across down s ≡ true → footprint_fits across down r ≡ true → Passed s r
unfolding site_fits footprint_fits nonempty holds rect
passed across down s r e f g =
    let size = sized across down e in
    let i = four (leb s.radius 1024) (on_map across down s.first) (on_map across down s.second) (not (same_point s.first s.second)) f in
    let p = point across down s.first size.across_le size.down_le i.1.0 in
    let q = point across down s.second size.across_le size.down_le i.1.1.0 in
    let j = both (lt_z r.left r.right && lt_z r.top r.bottom) _ g in
    let k = both (lt_z r.left r.right) (lt_z r.top r.bottom) j.0 in
    let l = four (le_z (pos 0) r.left) (le_z (pos 0) r.top) (le_z r.right (pos (8 * across))) (le_z r.bottom (pos (8 * down))) j.1 in
    let columns = edges r.left r.right (8 * across) (omega (arith, size.across_le)) k.0 l.0 l.1.1.0 in
    let rows = edges r.top r.bottom (8 * down) (omega (arith, size.down_le)) k.1 l.1.0 l.1.1.1 in
    record {
      radius = leb-true s.radius 1024 i.0;
      first_x_lem = p.0;
      first_y_lem = p.1;
      second_x_lem = q.0;
      second_y_lem = q.1;
      two = not-true (same_point s.first s.second) i.1.1.1;
      left = columns.0;
      top = rows.0;
      right = columns.1;
      bottom = rows.1;
    }
