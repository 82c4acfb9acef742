-- The allowed mover: what the points of its route answer, and the map that it leaves.
use Rattle.std.specs.Prelude.{None, Some}
use Rattle.std.specs.Prelude as std
use Prim.Native.Nat.{ℕ}
use mathlib.Core.Path.{◌≡◌, refl}
use mathlib.Core.Option.{Option, none, some}
use mathlib.Core.List.{List, []}
use lib.IntN.{ℤ}
use lib.ListN.{length}
use Rattle.base_model.specs.declared.Rect.{Rect}
use Rattle.base_model.specs.declared.Bounds.{Bounds}
use Rattle.base_model.specs.Allow.{Allow}
use Rattle.ground_rects.specs.Windows.{centres}
use Rattle.rule_routes.specs.Edges.{Step}
use Rattle.rule_layouts.specs.Boards.{Mover}
use Rattle.route_find.specs.Results.{Routed, counted, laid_into}
use Rattle.set_blocked.specs.Blocked.{blocked_map, mover_in, allow_in, AllowReady, Named}
use Rattle.set_blocked.proofs.Members.{length_blocked}
use Rattle.set_pass.specs.Pass.{Moving, passed, allowed_past}
use Rattle.set_pass.specs.Maps.{map_after_allowed}
use Rattle.set_pass.specs.Allowed.{Allowed}
use Rattle.set_pass.proofs.Routed.{laid_by}

pub allowed_none : (route : List ℕ) → Allowed (some []) (Some 0) route route
unfolding counted laid_into
allowed_none route = record { count = refl; laid = refl }

-- ---- by whether there is an allowed mover
module _ (w : Rect) (steps : List Step) (start end : ℕ) (edges : List ℤ) (allow : Allow) (base s : List ℕ) where
  pub allow_nobody : allow ≡ None → (route : List ℕ) → Allowed (allowed_past w steps start end (allow_in w edges allow base) s) (Some 0) route route
  unfolding allow_in allowed_past
  allow_nobody e route = rw e (allowed_none route)

  pub map_nobody : allow ≡ None → (cells : List ℕ) → cells ≡ map_after_allowed w (allow_in w edges allow base) s cells
  unfolding allow_in map_after_allowed
  map_nobody e cells = rw e

  module _ (m : Bounds) (e : allow ≡ Some m) where
    pub allow_moving : AllowReady w allow base → Named edges s → Moving w m base edges s
    unfolding AllowReady
    allow_moving r n = let k = rw e at r in record { slim = k.0; bytes = k.1; named = n }

    pub allow_routed : (route route' : List ℕ) (r : std.Option ℕ) → Routed (passed w steps start end (mover_in w edges m base) s) route route' r
        → Allowed (allowed_past w steps start end (allow_in w edges allow base) s) r route route'
    unfolding allow_in allowed_past
    allow_routed route route' r t = rw e (laid_by t)

    pub map_somebody : (cells cells' : List ℕ) → cells' ≡ blocked_map (mover_in w edges m base) (centres w) s → cells' ≡ map_after_allowed w (allow_in w edges allow base) s cells
    unfolding allow_in map_after_allowed
    map_somebody cells cells' l = rw e l

-- an allowed mover, or none, by cases
pub past_cases : (w : Rect) (steps : List Step) (start end : ℕ) (s : List ℕ) (a : Option Mover)
    → elim a [ none ↦ some [] | some m ↦ passed w steps start end m s ] ≡ allowed_past w steps start end a s
unfolding allowed_past
past_cases w steps start end s none = refl
past_cases w steps start end s (some m) = refl

pub length_allowed : (w : Rect) (a : Option Mover) (s cells : List ℕ) → length cells ≡ centres w → length (map_after_allowed w a s cells) ≡ centres w
unfolding map_after_allowed
length_allowed w none s cells z = z
length_allowed w (some m) s cells z = length_blocked m (centres w) s
