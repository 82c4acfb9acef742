-- The evaluation of a set finds a wall exactly when the set is one; and it leads to the walls. A set within a wall that lacks a member has a route, for the
-- wall without this member has one. A member of the wall touches that route, for otherwise the wall would leave it open; and no member of the set does, so
-- this one is an extension.
use Prim.Native.Nat.{ℕ, ◌≤◌}
use mathlib.Core.Path.{◌≡◌, refl, sym, ◌∙◌, ap, subst}
use mathlib.Core.Bool.{true, false, not, false≢true}
use mathlib.Core.Logic.{◌↔◌, ⊎_elim}
use mathlib.Core.Option.{Option, none, some, none-ne-some, some-injective}
use mathlib.Core.List.Memᴰ
use mathlib.Core.List.{List, [], Memᴰ}
use native.Mathlib.Omega.{arith}
use lib.ListN.{length}
use borrow.Author.Tests.{not-true}
use Rattle.base_laws.specs.Lists.{any_of, is_some, ascends, put_in, without}
use Rattle.base_laws.proofs.Members.{either, both, both_true, any_member, none_member, all_member, all_true, is_some_true}
use Rattle.base_laws.proofs.Lists.{any_false}
use Rattle.base_laws.proofs.Sets.{insert_ascends, insert_cases, without_in}
use Rattle.rule_routes.specs.Roads.{Routed, Road}
use Rattle.rule_routes.specs.Routes.{leans_on}
use Rattle.rule_routes.proofs.Neighbours.{joined_mono}
use Rattle.rule_routes.proofs.RouteTheorem.{route_sound, route_complete, route_is_road}
use Rattle.rule_routes.proofs.Leans.{leans_open, joined_untouched}
use Rattle.rule_layouts.specs.Boards.{Mover, Board, leaves_open, open_ends, route_past}
use Rattle.rule_layouts.specs.Explore.{Outcome, Nothing, Extend, Wall, touches, extensions, is_minimal_block, allowed_route, wall_by, explore}
use Rattle.rule_layouts.specs.Walls.{Passes, LetsPass, IsWall}
use Rattle.rule_layouts.specs.Fits.{Fits, MayJoin}
use Rattle.rule_layouts.specs.Regular.{Regular}
use Rattle.rule_layouts.proofs.Fits.{used_insert, used_own, used_within, extensions_in}

-- ---- what an evaluation has found
pub record Walled (g : Board) (s r : List ℕ) : Type 0 where
  pub ends_open : open_ends g g.block s ≡ true
  pub no_route : route_past g g.block s ≡ none
  pub minimal : is_minimal_block g s ≡ true
  pub allowed : allowed_route g s ≡ some r

pub record Extended (g : Board) (s es : List ℕ) : Type 0 where
  pub route : List ℕ
  pub ends_open : open_ends g g.block s ≡ true
  pub passes : route_past g g.block s ≡ some route
  pub are : es ≡ extensions g s route

module _ (g : Board) (s : List ℕ) where
  abbrev Finds : Outcome ℕ → Type 0
  Finds Nothing = Unit {0}
  Finds (Extend es) = Extended g s es
  Finds (Wall r) = Walled g s r

  -- each outcome, with the tests that led to it
  finds : Finds (explore g s)
  unfolding explore wall_by
  finds =
      either (open_ends g g.block s)
      (λ o. past o (route_past g g.block s) refl)
      (λ e. rw (explore, e) tt)
    where
      judged : open_ends g g.block s ≡ true → route_past g g.block s ≡ none → is_minimal_block g s ≡ true → (a : Option (List ℕ)) → allowed_route g s ≡ a → Finds (wall_by g a)
      judged o n m none e = tt
      judged o n m (some r) e = record { ends_open = o; no_route = n; minimal = m; allowed = e }

      past : open_ends g g.block s ≡ true → (q : Option (List ℕ)) → route_past g g.block s ≡ q → Finds (explore g s)
      past o (some r) e = rw (explore, o, e) (record { route = r; ends_open = o; passes = e; are = refl })
      past o none e =
          either (is_minimal_block g s)
          (λ m. rw (explore, o, e, m) (judged o e m (allowed_route g s) refl))
          (λ n. rw (explore, o, e, n) tt)

  pub explore_wall : (r : List ℕ) → explore g s ≡ Wall r → Walled g s r
  explore_wall r e = subst Finds e finds

  pub explore_extend : (es : List ℕ) → explore g s ≡ Extend es → Extended g s es
  explore_extend es e = subst Finds e finds

  pub wall_explore : (r : List ℕ) → Walled g s r → explore g s ≡ Wall r
  unfolding explore wall_by
  wall_explore r w = rw (explore, w.ends_open, w.no_route, w.minimal, w.allowed)

  pub extend_explore : (r : List ℕ) → open_ends g g.block s ≡ true → route_past g g.block s ≡ some r → explore g s ≡ Extend (extensions g s r)
  unfolding explore
  extend_explore r o e = rw (explore, o, e)

-- ---- fewer members leave more open
pub leaves_open_within : (m : Mover) (s t : List ℕ) → ((j : ℕ) → Memᴰ j s → Memᴰ j t) → (c : ℕ) → leaves_open m t c ≡ true → leaves_open m s c ≡ true
unfolding leaves_open
leaves_open_within m s t sub c e =
    let b = both (not (m.blocked c)) (not (any_of (λ (i : ℕ). m.kept_off i c) t)) e in
    both_true b.0 (ap not (any_false (λ (i : ℕ). m.kept_off i c) s (λ i k. none_member (λ (i : ℕ). m.kept_off i c) t (not-true (any_of (λ (i : ℕ). m.kept_off i c) t) b.1) i (sub i k))))

pub passes_within : (g : Board) (m : Mover) (s t : List ℕ) → ((j : ℕ) → Memᴰ j s → Memᴰ j t) → Passes g m t → Passes g m s
unfolding Passes
passes_within g m s t sub j = joined_mono g.edges (leaves_open m t) (leaves_open m s) (leaves_open_within m s t sub) j

pub passes_ends : (g : Board) (m : Mover) (s : List ℕ) → Passes g m s → open_ends g m s ≡ true
unfolding Passes open_ends
passes_ends g m s j = both_true j.start_open j.end_open

module _ (g : Board) (regular : Regular g) where
  -- ---- there is a route exactly when the ends are joined
  pub some_passes : (m : Mover) (s r : List ℕ) → route_past g m s ≡ some r → Passes g m s
  unfolding Passes route_past Routed
  some_passes m s r e = route_sound g.edges g.nodes regular.within (leaves_open m s) g.start g.end regular.from (r, e)

  pub passes_some : (m : Mover) (s : List ℕ) → Passes g m s → (r : List ℕ) × (route_past g m s ≡ some r)
  unfolding Passes route_past Routed
  passes_some m s j = route_complete g.edges g.nodes regular.within (leaves_open m s) g.start g.end regular.from j

  pub is_some_passes : (m : Mover) (s : List ℕ) → is_some (route_past g m s) ≡ true → Passes g m s
  is_some_passes m s e = let r = is_some_true (route_past g m s) e in some_passes m s r.0 r.1

  pub passes_is_some : (m : Mover) (s : List ℕ) → Passes g m s → is_some (route_past g m s) ≡ true
  unfolding is_some
  passes_is_some m s j = rw (passes_some m s j).1

  pub none_shut : (m : Mover) (s : List ℕ) → route_past g m s ≡ none → Passes g m s → ⊥
  none_shut m s e j = let r = passes_some m s j in none-ne-some r.0 (sym e ∙ r.1)

  pub shut_none : (m : Mover) (s : List ℕ) → (Passes g m s → ⊥) → route_past g m s ≡ none
  shut_none m s shut = go (route_past g m s) refl
    where
      go : (o : Option (List ℕ)) → route_past g m s ≡ o → o ≡ none
      go none e = refl
      go (some r) e = absurd (shut (some_passes m s r e))

  -- the same for the allowed mover, if there is one
  some_allows : (s r : List ℕ) → allowed_route g s ≡ some r → LetsPass g g.allow s
  unfolding allowed_route LetsPass
  some_allows s r e = go g.allow e
    where
      go : (a : Option Mover) → ◌≡◌ {A = Option (List ℕ)} (elim a [ none ↦ some [] | some m ↦ route_past g m s ]) (some r) → LetsPass g a s
      go none e = tt
      go (some m) e = some_passes m s r e

  allows_some : (s : List ℕ) → LetsPass g g.allow s → (r : List ℕ) × (allowed_route g s ≡ some r)
  unfolding allowed_route LetsPass
  allows_some s h = go g.allow h
    where
      go : (a : Option Mover) → LetsPass g a s → (r : List ℕ) × (◌≡◌ {A = Option (List ℕ)} (elim a [ none ↦ some [] | some m ↦ route_past g m s ]) (some r))
      go none h = ([], refl)
      go (some m) h = passes_some m s h

  -- ---- the evaluation finds a wall exactly when the set is one
  pub walled_is : (s r : List ℕ) → Fits g.places s → Walled g s r → IsWall g s
  unfolding is_minimal_block
  walled_is s r f w = record {
    is_set = f.is_set;
    named = f.named;
    slotted = f.slotted;
    apart = f.apart;
    ends_open = w.ends_open;
    shut = none_shut g.block s w.no_route;
    minimal = λ i m. is_some_passes g.block (without i s) (all_member (λ (i : ℕ). is_some (route_past g g.block (without i s))) s w.minimal i m);
    allows = some_allows s r w.allowed;
  }

  pub wall_allowed : (s : List ℕ) → IsWall g s → (r : List ℕ) × (allowed_route g s ≡ some r)
  wall_allowed s w = allows_some s w.allows

  pub is_walled : (s r : List ℕ) → IsWall g s → allowed_route g s ≡ some r → Walled g s r
  unfolding is_minimal_block
  is_walled s r w e = record {
    ends_open = w.ends_open;
    no_route = shut_none g.block s w.shut;
    minimal = all_true (λ (i : ℕ). is_some (route_past g g.block (without i s))) s (λ i m. passes_is_some g.block (without i s) (w.minimal i m));
    allowed = e;
  }

  pub wall_iff_found : (s r : List ℕ) → Fits g.places s → (explore g s ≡ Wall r) ↔ (IsWall g s × (allowed_route g s ≡ some r))
  wall_iff_found s r f = (
    (λ e. let w = explore_wall g s r e in (walled_is s r f w, w.allowed)),
    (λ h. wall_explore g s r (is_walled s r h.0 h.1)),
  )

-- ---- the points of an allowed route: no more than there are nodes, none without an allowed mover
pub allowed_short : (g : Board) → Regular g → (s r : List ℕ) → allowed_route g s ≡ some r → length r ≤ g.nodes
unfolding allowed_route route_past
allowed_short g regular s r e = go g.allow e
  where
    go : (a : Option Mover) → ◌≡◌ {A = Option (List ℕ)} (elim a [ none ↦ some [] | some m ↦ route_past g m s ]) (some r) → length r ≤ g.nodes
    go none q = subst (λ (r : List ℕ). length r ≤ g.nodes) (some-injective [] r q) (omega arith)
    go (some m) q = (route_is_road g.edges g.nodes regular.within (leaves_open m s) g.start g.end regular.from r q).short

pub allowed_none : (g : Board) (s r : List ℕ) → allowed_route g s ≡ some r → g.allow ≡ none → r ≡ []
unfolding allowed_route
allowed_none g s r e n = sym (some-injective [] r (rw (allowed_route, n) at e))

-- ---- sets within a wall
module _ (g : Board) (regular : Regular g) (w : List ℕ) (h : IsWall g w) (s : List ℕ) (sub : (j : ℕ) → Memᴰ j s → Memᴰ j w) where
  -- a proper subset of a wall leaves open ends and a route
  pub subset_passes : (m : ℕ) → Memᴰ m w → (Memᴰ m s → ⊥) → Passes g g.block s
  subset_passes m k out =
      passes_within g g.block s (without m w) (λ j i. without_in m j w (sub j i) (λ e. out (Memᴰ.cast (sym e) i))) (h.minimal m k)

  module _ (r : List ℕ) (e : route_past g g.block s ≡ some r) where
    road : Road g.edges g.nodes (leaves_open g.block s) g.start g.end r
    unfolding route_past
    road = route_is_road g.edges g.nodes regular.within (leaves_open g.block s) g.start g.end regular.from r e

    start_open_lem : leaves_open g.block s g.start ≡ true
    unfolding Passes
    start_open_lem = (some_passes g regular g.block s r e).start_open

    -- what no member of the wall touches would stay open
    untouched : any_of (touches g r) w ≡ false → (c : ℕ) → Memᴰ c (leans_on g.edges r) → leaves_open g.block s c ≡ true → leaves_open g.block w c ≡ true
    unfolding leaves_open touches
    untouched q c m o =
        both_true (both (not (g.block.blocked c)) (not (any_of (λ (i : ℕ). g.block.kept_off i c) s)) o).0
        (ap not (any_false (λ (i : ℕ). g.block.kept_off i c) w
        (λ i k. none_member (λ (c : ℕ). g.block.kept_off i c) (leans_on g.edges r) (none_member (touches g r) w q i k) c m)))

    -- a member touches no centre that the set leaves open
    keeps_clear : (i : ℕ) → touches g r i ≡ true → Memᴰ i s → ⊥
    unfolding leaves_open touches
    keeps_clear i t m =
        let c = any_member (λ (c : ℕ). g.block.kept_off i c) (leans_on g.edges r) t in
        let o = leans_open g.edges regular.one_edge (leaves_open g.block s) start_open_lem road.walk c.0 c.1 in
        let n = not-true (any_of (λ (i : ℕ). g.block.kept_off i c.0) s) (both (not (g.block.blocked c.0)) (not (any_of (λ (i : ℕ). g.block.kept_off i c.0) s)) o).1 in
        false≢true (sym (none_member (λ (i : ℕ). g.block.kept_off i c.0) s n i m) ∙ c.2)

    -- some member of the wall that the set lacks touches the route
    pub wall_touches : (i : ℕ) × Memᴰ i w × (Memᴰ i s → ⊥) × (touches g r i ≡ true)
    unfolding Passes
    wall_touches =
        either (any_of (touches g r) w)
        (λ t. let i = any_member (touches g r) w t in (i.0, i.1, keeps_clear i.0 i.2, i.2))
        (λ q. absurd (h.shut (joined_untouched g.edges (leaves_open g.block s) (leaves_open g.block w) start_open_lem road.walk (untouched q))))

    -- a member of the wall that the set lacks may join it
    pub wall_joins : ascends s ≡ true → (i : ℕ) → Memᴰ i w → (Memᴰ i s → ⊥) → MayJoin g.places s i
    wall_joins a i m out = record {
      fresh = out;
      slot =
          omega (
            arith,
            used_insert g.places (g.places.group i) i s,
            used_own g.places i,
            used_within g.places (g.places.group i) (put_in i s) w (insert_ascends i s a out) inserted,
            h.slotted (g.places.group i),
          );
      apart = λ j k. h.apart i j m (sub j k) (λ q. out (Memᴰ.cast q k));
    }
      where
        inserted : (j : ℕ) → Memᴰ j (put_in i s) → Memᴰ j w
        inserted j k = ⊎_elim (λ (q : j ≡ i). Memᴰ.cast q m) (sub j) (insert_cases i j s k)

    -- so some extension of the set is in the wall
    pub wall_extends : ascends s ≡ true → (i : ℕ) × Memᴰ i (extensions g s r) × Memᴰ i w × (Memᴰ i s → ⊥)
    wall_extends a =
        let t = wall_touches in
        (t.0, extensions_in g s r t.0 (h.named t.0 t.1) (wall_joins a t.0 t.1 t.2) t.3, t.1, t.2)

  -- the evaluation of a proper subset leads on into the wall
  pub subset_leads : ascends s ≡ true → (m : ℕ) → Memᴰ m w → (Memᴰ m s → ⊥)
      → (es : List ℕ) × (explore g s ≡ Extend es) × ((i : ℕ) × Memᴰ i es × Memᴰ i w × (Memᴰ i s → ⊥))
  subset_leads a m k out =
      let j = subset_passes m k out in
      let r = passes_some g regular g.block s j in
      (extensions g s r.0, extend_explore g s r.0 (passes_ends g g.block s j) r.1, wall_extends r.0 r.1 a)
