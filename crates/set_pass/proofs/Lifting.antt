-- Members lifted in turn, as long as each leaves a route. The first that leaves none is the first test that holds, so it is the member last lifted; where all
-- have been lifted no test holds, and that is the last member.
use Prim.Native.Nat.{ℕ, zero, suc, ◌+◌, ◌-◌, ◌≤◌, ◌<◌}
use mathlib.Core.Path.{◌≡◌, refl, sym, ap, ◌∙◌}
use mathlib.Core.Bool.{Bool, true, false, not}
use mathlib.Core.List.{List, [], ◌∷◌, map}
use native.Mathlib.Numerals.{add-one}
use native.Mathlib.Nat.{not-suc-le-zero}
use native.Mathlib.Omega.{arith}
use native.Mathlib.Decide.{ℕ_discrete}
use lib.ListN.{length, get_or}
use Rattle.base_laws.specs.Lists.{below, is_some, without, ascends}
use Rattle.base_laws.proofs.Tables.{table_at, length_table}
use Rattle.base_laws.proofs.Tests.{all_true, all_false}
use Rattle.base_model.specs.declared.Rect.{Rect}
use Rattle.ground_rects.specs.Windows.{centres}
use Rattle.rule_routes.specs.Edges.{Step}
use Rattle.rule_layouts.specs.Boards.{Mover}
use Rattle.set_blocked.specs.Blocked.{blocked_map, without_at}
use Rattle.set_blocked.proofs.Members.{length_blocked}
use Rattle.set_blocked.proofs.Without.{without_at_without}
use Rattle.set_pass.specs.Pass.{RouteLent, AreasKept, passed, minimal}
use Rattle.set_pass.specs.Maps.{last_lifted, map_after_lifting}
use Rattle.set_pass.proofs.Passing.{lent_again}
use Rattle.base_laws.proofs.Firsts.{first_at, first_none}

-- the map over n centres after k members are lifted in turn
unfoldable pub map_after : Mover → ℕ → (s cells : List ℕ) → ℕ → List ℕ
map_after m n s cells zero = cells
map_after m n s cells (suc k) = blocked_map m n (without_at k s)

-- k members are lifted in turn, each giving a route
pub record Lifting (w : Rect) (steps : List Step) (start end : ℕ) (m : Mover) (s cells queue predecessors route cells' queue' predecessors' route' : List ℕ) (k : ℕ) : Type 0 where
  pub upto : k ≤ length s
  pub each : (j : ℕ) → j < k → is_some (passed w steps start end m (without_at j s)) ≡ true
  pub laid : cells' ≡ map_after m (centres w) s cells k
  pub size : length cells' ≡ centres w
  pub kept : AreasKept queue predecessors route queue' predecessors' route'

-- the map after lifting, by whether there is a member
module _ (w : Rect) (steps : List Step) (start end : ℕ) (m : Mover) where
  map_none : (s cells : List ℕ) → length s ≡ 0 → map_after_lifting w steps start end m s cells ≡ cells
  unfolding map_after_lifting
  map_none [] cells h = refl
  map_none (x ∷ s) cells h = absurd (omega arith)

  map_some : (s cells : List ℕ) → 0 < length s → map_after_lifting w steps start end m s cells ≡ blocked_map m (centres w) (without_at (last_lifted w steps start end m s) s)
  unfolding map_after_lifting
  map_some [] cells h = absurd (not-suc-le-zero h)
  map_some (x ∷ s) cells h = refl

module _ (w : Rect) (steps : List Step) (start end : ℕ) (m : Mover) (s : List ℕ) where
  abbrev leaves : ℕ → Bool
  leaves k = is_some (passed w steps start end m (without_at k s))

  -- ---- the member last lifted
  abbrev test : ℕ → Bool × ℕ
  test k = (not (leaves k), k)

  abbrev tests : List (Bool × ℕ)
  tests = map test (below (length s))

  test_at : (k : ℕ) → k < length s → get_or tests k (true, 0) ≡ test k
  test_at k h = table_at test (length s) k (true, 0) h

  holds_at : (b : Bool) (k : ℕ) → k < length s → leaves k ≡ b → (get_or tests k (true, 0)).0 ≡ not b
  holds_at b k h e = ap (λ (t : Bool × ℕ). t.0) (test_at k h) ∙ ap not e

  last_stop : (k : ℕ) → k < length s → leaves k ≡ false → ((j : ℕ) → j < k → leaves j ≡ true) → last_lifted w steps start end m s ≡ k
  unfolding last_lifted
  last_stop k h e n =
      let long = length_table test (length s) in
      first_at tests (true, 0) (length s - 1) k (omega arith) (holds_at false k h e) (λ j l. holds_at true j (omega arith) (n j l))
      ∙ ap (λ (t : Bool × ℕ). t.1) (test_at k h)

  last_all : ((j : ℕ) → j < length s → leaves j ≡ true) → last_lifted w steps start end m s ≡ length s - 1
  unfolding last_lifted
  last_all n =
      let long = length_table test (length s) in
      first_none tests (true, 0) (length s - 1) (λ j l. let h : j < length s = omega arith in holds_at true j h (n j h))

  -- ---- the map
  map_last : (cells cells' : List ℕ) (k : ℕ) → 0 < length s → last_lifted w steps start end m s ≡ k → cells' ≡ blocked_map m (centres w) (without_at k s)
      → cells' ≡ map_after_lifting w steps start end m s cells
  map_last cells cells' k h e l = l ∙ ap (λ (j : ℕ). blocked_map m (centres w) (without_at j s)) (sym e) ∙ sym (map_some w steps start end m s cells h)

  map_all : (cells cells' : List ℕ) (k : ℕ) → k ≡ length s → ((j : ℕ) → j < k → leaves j ≡ true) → cells' ≡ map_after m (centres w) s cells k
      → cells' ≡ map_after_lifting w steps start end m s cells
  unfolding map_after
  map_all cells cells' zero e n l = l ∙ sym (map_none w steps start end m s cells (sym e))
  map_all cells cells' (suc k) e n l =
      let z : length s - 1 ≡ k = omega arith in
      map_last cells cells' k (omega arith) (last_all (λ j h. n j (omega arith)) ∙ z) l

  -- ---- the loop
  pub lifting_start : (cells queue predecessors route : List ℕ) → length cells ≡ centres w → Lifting w steps start end m s cells queue predecessors route cells queue predecessors route 0
  unfolding map_after
  lifting_start cells queue predecessors route z = record {
    upto = omega arith;
    each = λ j h. absurd (not-suc-le-zero h);
    laid = refl;
    size = z;
    kept = record { queue_kept = refl; predecessors_kept = refl; route_kept = refl };
  }

  module _ {cells queue predecessors route cells' queue' predecessors' route' : List ℕ} {k : ℕ}
      (l : Lifting w steps start end m s cells queue predecessors route cells' queue' predecessors' route' k) where
    pub lifting_kept : {q₂ p₂ r₂ : List ℕ} → AreasKept queue' predecessors' route' q₂ p₂ r₂ → AreasKept queue predecessors route q₂ p₂ r₂
    lifting_kept t = record {
      queue_kept = t.queue_kept ∙ l.kept.queue_kept;
      predecessors_kept = t.predecessors_kept ∙ l.kept.predecessors_kept;
      route_kept = t.route_kept ∙ l.kept.route_kept;
    }

    each_more : leaves k ≡ true → (j : ℕ) → j < k + 1 → leaves j ≡ true
    each_more e j h = go (ℕ_discrete j k)
      where
        go : Dec (j ≡ k) → leaves j ≡ true
        go (yes q) = ap leaves q ∙ e
        go (no n) = let ne : j ≡ k → ⊥ = n in l.each j (omega arith)

    -- one more member, which gives a route
    pub lifting_more : (r : Bool) {c₂ q₂ p₂ r₂ : List ℕ} → k < length s → r ≡ leaves k → r ≡ true → c₂ ≡ blocked_map m (centres w) (without_at k s)
        → AreasKept queue' predecessors' route' q₂ p₂ r₂ → Lifting w steps start end m s cells queue predecessors route c₂ q₂ p₂ r₂ (k + 1)
    unfolding map_after
    lifting_more r h e t c q = record {
      upto = omega arith;
      each = each_more (sym e ∙ t);
      laid = rw add-one c;
      size = ap (λ (x : List ℕ). length x) c ∙ length_blocked m (centres w) (without_at k s);
      kept = lifting_kept q;
    }

    module _ (rising : ascends s ≡ true) where
      at_lift : (j : ℕ) → j < length s → is_some (passed w steps start end m (without (get_or s j 0) s)) ≡ leaves j
      at_lift j h = ap (λ (x : List ℕ). is_some (passed w steps start end m x)) (sym (without_at_without j s rising h))

      -- member number k gives none
      pub lifting_stop : (r : Bool) {c₂ : List ℕ} → k < length s → r ≡ leaves k → r ≡ false → c₂ ≡ blocked_map m (centres w) (without_at k s)
          → (false ≡ minimal w steps start end m s) × (c₂ ≡ map_after_lifting w steps start end m s cells)
      unfolding minimal
      lifting_stop r {c₂} h e f c = (
        sym (all_false (λ (i : ℕ). is_some (passed w steps start end m (without i s))) 0 s k h (at_lift k h ∙ sym e ∙ f)),
        map_last cells c₂ k (omega arith) (last_stop k h (sym e ∙ f) l.each) c,
      )

      -- no member is left
      pub lifting_all : length s ≤ k → (true ≡ minimal w steps start end m s) × (cells' ≡ map_after_lifting w steps start end m s cells)
      unfolding minimal
      lifting_all h = (
        sym (all_true (λ (i : ℕ). is_some (passed w steps start end m (without i s))) 0 s (λ j g. at_lift j g ∙ l.each j (omega arith))),
        map_all cells cells' k (omega arith) l.each l.laid,
      )

-- the areas can be lent again after lifting
length_lifting : (w : Rect) (steps : List Step) (start end : ℕ) (m : Mover) (s cells : List ℕ) → length cells ≡ centres w → length (map_after_lifting w steps start end m s cells) ≡ centres w
unfolding map_after_lifting
length_lifting w steps start end m [] cells z = z
length_lifting w steps start end m (x ∷ s) cells z = length_blocked m (centres w) (without_at (last_lifted w steps start end m (x ∷ s)) (x ∷ s))

pub lent_lifted : {w : Rect} {start end : ℕ} {map queue predecessors route map' queue' predecessors' route' : List ℕ} (steps : List Step) (m : Mover) (s : List ℕ)
    → RouteLent w start end map queue predecessors route → map' ≡ map_after_lifting w steps start end m s map
    → AreasKept queue predecessors route queue' predecessors' route' → RouteLent w start end map' queue' predecessors' route'
lent_lifted {w} {start} {end} {map} steps m s t e k =
    lent_again t (ap (λ (l : List ℕ). length l) e ∙ length_lifting w steps start end m s map t.bytes ∙ sym t.bytes) k
