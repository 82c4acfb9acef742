-- What is listed. Over any plan: each layout is a set that can be come to and whose evaluation found a wall; after Exhausted all such sets are listed.
-- Over a board: the layouts are walls, each once, and after Exhausted they are all the walls; for a wall can be come to, a member at a time.
use Prim.Native.Nat.{ℕ, zero, suc, ◌+◌, ◌≤◌, ◌<◌}
use mathlib.Core.Path.{◌≡◌, refl, sym, ◌∙◌, ap, subst}
use mathlib.Core.Bool.{true, false, false≢true}
use mathlib.Core.Logic.{⊎_elim, ◌↔◌}
use mathlib.Core.Option.{some}
use mathlib.Core.List.Memᴰ
use mathlib.Core.List.{List, [], map, Memᴰ}
use native.Mathlib.Omega.{arith}
use lib.ListN.{length}
use Rattle.base_laws.specs.Lists.{put_in, Distinct}
use Rattle.base_laws.proofs.Distinct.{sub_length}
use Rattle.base_laws.proofs.Sets.{ascends_distinct, sets_equal, lacks, length_insert, insert_cases, insert_ascends}
use Rattle.base_model.specs.declared.Position.{Position}
use Rattle.rule_layouts.specs.Boards.{Board}
use Rattle.rule_layouts.specs.Explore.{Outcome, Nothing, Extend, Wall, map_points, allowed_route, explore}
use Rattle.rule_layouts.specs.Walls.{IsWall}
use Rattle.rule_layouts.specs.Fits.{Fits, MayJoin}
use Rattle.rule_layouts.specs.Regular.{Regular}
use Rattle.rule_layouts.proofs.Fits.{fits_none, fits_insert, extensions_out}
use Rattle.rule_layouts.proofs.Explored.{Walled, Extended, explore_wall, explore_extend, wall_explore, walled_is, wall_allowed, is_walled, subset_leads}
use Rattle.rule_search.specs.State.{Reason, Exhausted, Layout, State, set_on}
use Rattle.rule_search.specs.Frames.{Plan, step, begun}
use Rattle.rule_search.specs.Formed.{PlanOn}
use Rattle.rule_search.proofs.Found.{Reach, Reach·none, Reach·more, sets, members_of, Core, After, Found, step_found, begun_found}

-- ---- any plan
module _ (p : Plan) (s : State) (f : Found p s) where
  pub layout_reached : (y : Layout) → Memᴰ y s.layouts → Reach p y.members × (p.evaluate y.members ≡ Wall y.route)
  layout_reached y m = let w = f.core.walls y m in (f.core.came y.members w.0, w.1)

  module _ (e : s.reason ≡ Exhausted) where
    ended : After Exhausted p s.pending s.lists s.visited s.layouts
    ended = subst (λ (r : Reason). After r p s.pending s.lists s.visited s.layouts) e f.after

    core : Core p false [] s.visited s.layouts
    core = rw (ended.1, ended.2) at f.core

    -- with no list and no pending set left, every set that can be come to has been visited
    pub all_visited : (m : List ℕ) → Reach p m → Memᴰ m s.visited
    all_visited _ Reach·none = ⊎_elim (λ (k : Memᴰ [] s.visited). k) (λ (k : (false ≡ true) × ([] ≡ set_on [])). absurd (false≢true k.0)) core.root
    all_visited _ (Reach·more {s = t} {es = es} {i = i} r q m) =
        ⊎_elim
        (λ (k : Memᴰ (put_in i t) s.visited). k)
        (⊎_elim (λ (k : ⊥). absurd k) (λ (k : (false ≡ true) × (put_in i t ≡ set_on [])). absurd (false≢true k.0)))
        (core.due t es i (all_visited t r) q m)

    pub all_listed : (m : List ℕ) (q : List Position) → Reach p m → p.evaluate m ≡ Wall q → Memᴰ m (sets s.layouts)
    all_listed m q r h = ended.0 m q (all_visited m r) h

-- ---- boards
mapped_extend : (at : ℕ → Position) (o : Outcome ℕ) (es : List ℕ) → map_points at o ≡ Extend es → o ≡ Extend es
unfolding map_points
mapped_extend at Nothing es e = absurd (let z : ◌≡◌ {A = ℕ} 0 1 = cc in let w : ⊥ = omega arith in w)
mapped_extend at (Extend fs) es e = cc
mapped_extend at (Wall r) es e = absurd (let z : ◌≡◌ {A = ℕ} 0 1 = cc in let w : ⊥ = omega arith in w)

mapped_wall : (at : ℕ → Position) (o : Outcome ℕ) (q : List Position) → map_points at o ≡ Wall q → (r : List ℕ) × (o ≡ Wall r) × (q ≡ map at r)
unfolding map_points
mapped_wall at Nothing q e = absurd (let z : ◌≡◌ {A = ℕ} 0 1 = cc in let w : ⊥ = omega arith in w)
mapped_wall at (Extend fs) q e = absurd (let z : ◌≡◌ {A = ℕ} 0 1 = cc in let w : ⊥ = omega arith in w)
mapped_wall at (Wall r) q e = (r, refl, (cc))

module _ (g : Board) (at : ℕ → Position) (p : Plan) (on : PlanOn g at p) where
  pub evaluates_extend : (s es : List ℕ) → p.evaluate s ≡ Extend es → Extended g s es
  evaluates_extend s es e = explore_extend g s es (mapped_extend at (explore g s) es (sym (on.evaluates s) ∙ e))

  pub evaluates_wall : (s : List ℕ) (q : List Position) → p.evaluate s ≡ Wall q → (r : List ℕ) × Walled g s r × (q ≡ map at r)
  evaluates_wall s q e =
      let m = mapped_wall at (explore g s) q (sym (on.evaluates s) ∙ e) in
      (m.0, explore_wall g s m.0 m.1, m.2)

  pub extend_evaluates : (s es : List ℕ) → explore g s ≡ Extend es → p.evaluate s ≡ Extend es
  unfolding map_points
  extend_evaluates s es e = on.evaluates s ∙ ap (map_points at) e

  pub wall_evaluates : (s r : List ℕ) → Walled g s r → p.evaluate s ≡ Wall (map at r)
  unfolding map_points
  wall_evaluates s r w = on.evaluates s ∙ ap (map_points at) (wall_explore g s r w)

  -- what the evaluation lets follow may join
  pub entry_joins : (s es : List ℕ) → p.evaluate s ≡ Extend es → (i : ℕ) → Memᴰ i es → (i < g.places.count) × MayJoin g.places s i
  entry_joins s es e i m =
      let x = evaluates_extend s es e in
      let o = extensions_out g s x.route i (rw x.are at m) in
      (o.0, o.1)

  module _ (regular : Regular g) where
    -- every set that can be come to fits
    pub reach_fits : (s : List ℕ) → Reach p s → Fits g.places s
    reach_fits _ Reach·none = fits_none g.places
    reach_fits _ (Reach·more {s = s} {es = es} {i = i} r e m) =
        let j = entry_joins s es e i m in
        fits_insert g.places regular.mutual_overlap s i (reach_fits s r) j.0 j.1

    -- ---- a wall can be come to
    module _ (w : List ℕ) (h : IsWall g w) where
      -- a set within the wall that can be come to, with a member more
      record Higher (s : List ℕ) : Type 0 where
        set : List ℕ
        reached : Reach p set
        inside : (j : ℕ) → Memᴰ j set → Memᴰ j w
        longer : length set ≡ suc (length s)
        fits : length set ≤ length w

      higher : (s : List ℕ) → ((j : ℕ) → Memᴰ j s → Memᴰ j w) → Reach p s → (m : ℕ) × Memᴰ m w × (Memᴰ m s → ⊥) → Higher s
      higher s sub r lack =
          let a = (reach_fits s r).is_set in
          let x = subset_leads g regular w h s sub a lack.0 lack.1 lack.2 in
          let i = x.2.0 in
          let inside : (j : ℕ) → Memᴰ j (put_in i s) → Memᴰ j w = λ j k. ⊎_elim (λ (e : j ≡ i). Memᴰ.cast e x.2.2) (sub j) (insert_cases i j s k) in
          record {
            set = put_in i s;
            reached = Reach·more r (extend_evaluates s x.0 x.1) x.2.1;
            inside = inside;
            longer = length_insert i s;
            fits = sub_length w (ascends_distinct (put_in i s) (insert_ascends i s a x.2.3)) inside;
          }

      whole : (s : List ℕ) → ((j : ℕ) → Memᴰ j s → Memᴰ j w) → Reach p s → ((j : ℕ) → Memᴰ j w → Memᴰ j s) → Reach p w
      whole s sub r all = subst (Reach p) (sets_equal s w (reach_fits s r).is_set h.is_set sub all) r

      climb : (n : ℕ) (s : List ℕ) → length w ≤ n + length s → ((j : ℕ) → Memᴰ j s → Memᴰ j w) → Reach p s → Reach p w
      climb zero s l sub r =
          ⊎_elim (λ (k : (m : ℕ) × Memᴰ m w × (Memᴰ m s → ⊥)). let t = higher s sub r k in absurd (omega (arith, t.longer, t.fits))) (whole s sub r) (lacks w s)
      climb (suc n) s l sub r =
          ⊎_elim
          (λ (k : (m : ℕ) × Memᴰ m w × (Memᴰ m s → ⊥)). let t = higher s sub r k in climb n t.set (omega (arith, t.longer)) t.inside t.reached)
          (whole s sub r) (lacks w s)

    pub wall_reached : (w : List ℕ) → IsWall g w → Reach p w
    wall_reached w h = climb w h (length w) [] (omega arith) (λ j m. absurd (Memᴰ.not-nil m)) Reach·none

    -- ---- what is listed
    pub layout_wall : (s : State) → Found p s → (y : Layout) → Memᴰ y s.layouts → IsWall g y.members
    layout_wall s f y m =
        let r = layout_reached p s f y m in
        let x = evaluates_wall y.members y.route r.1 in
        walled_is g regular y.members x.0 (reach_fits y.members r.0) x.1

    pub layout_route : (s : State) → Found p s → (y : Layout) → Memᴰ y s.layouts → (r : List ℕ) × (allowed_route g y.members ≡ some r) × (y.route ≡ map at r)
    layout_route s f y m =
        let x = evaluates_wall y.members y.route (layout_reached p s f y m).1 in
        (x.0, x.1.allowed, x.2)

    pub wall_listed : (s : State) → Found p s → s.reason ≡ Exhausted → (w : List ℕ) → IsWall g w → Memᴰ w (sets s.layouts)
    wall_listed s f e w h =
        let a = wall_allowed g regular w h in
        all_listed p s f e w (map at a.0) (wall_reached w h) (wall_evaluates w a.0 (is_walled g regular w a.0 h a.1))

-- The layouts are walls, each listed once, each with the allowed mover's route past it; and all walls where the search has stopped Exhausted.
pub record Exact (g : Board) (at : ℕ → Position) (s : State) : Type 0 where
  pub walls : (y : Layout) → Memᴰ y s.layouts → IsWall g y.members
  pub routes : (y : Layout) → Memᴰ y s.layouts → (r : List ℕ) × (allowed_route g y.members ≡ some r) × (y.route ≡ map at r)
  pub once : Distinct (sets s.layouts)
  pub all : s.reason ≡ Exhausted → (w : List ℕ) → Memᴰ w (sets s.layouts) ↔ IsWall g w

pub found_exact : (g : Board) (at : ℕ → Position) (p : Plan) → PlanOn g at p → Regular g → (s : State) → Found p s → Exact g at s
found_exact g at p on regular s f = record {
  walls = layout_wall g at p on regular s f;
  routes = layout_route g at p on regular s f;
  once = f.core.once_listed;
  all = λ e w. (
    (λ m. let y = Memᴰ.of_map members_of s.layouts m in subst (IsWall g) y.2 (layout_wall g at p on regular s f y.0 y.1)),
    wall_listed g at p on regular s f e w,
  );
}

pub search_exact : (g : Board) (at : ℕ → Position) (p : Plan) → PlanOn g at p → Regular g → (n : ℕ) → Exact g at (step p n begun)
search_exact g at p on regular n = found_exact g at p on regular (step p n begun) (step_found p n begun (begun_found p))
