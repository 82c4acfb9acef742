-- A selection is judged to be a wall exactly when it is one: each of the tests before it speaks of one part of what a wall is.
use Prim.Native.Nat.{ℕ, ◌≤◌, ◌<◌}
use mathlib.Core.Path.{◌≡◌, refl, sym, ◌∙◌, subst}
use mathlib.Core.Bool.{Bool, true, false, not, ◌&&◌, true≢false}
use mathlib.Core.Logic.{◌↔◌, ◌≢◌}
use mathlib.Core.Option.{Option, none, some}
use mathlib.Core.List.{List, [], ◌∷◌, Memᴰ}
use native.Mathlib.Omega.{arith}
use lib.Dec.{eqb, ltb}
use lib.ListN.{length}
use borrow.Author.Tests.{ltb-false, le-ltb, eqb-true, eq-eqb, ne_eqb, not-false}
use Rattle.base_laws.specs.Lists.{any_of, select, first_of, is_some, ascends}
use Rattle.base_laws.proofs.Members.{either, none_member, filter_out, is_some_true}
use Rattle.base_laws.proofs.Lists.{any_false}
use Rattle.base_model.specs.declared.Verdict.TheVariants.{Slots, Overlap, EndCovered, Open, Spare, Shut, Wall}
use Rattle.rule_layouts.specs.Boards.{Board, open_ends, route_past, used}
use Rattle.rule_layouts.specs.Explore.{is_minimal_block, allowed_route}
use Rattle.rule_layouts.specs.Judge.{over_slots, overlaps, verdict}
use Rattle.rule_layouts.specs.Walls.{IsWall}
use Rattle.rule_layouts.specs.Regular.{Regular}
use Rattle.rule_layouts.proofs.Explored.{Walled, walled_is, wall_allowed, is_walled}

-- the first test does not hold where its answer is not given
past : {A : Type 0} (b : Bool) (a : A) (cs : List (Bool × A)) (other x : A) → (a ≡ x → ⊥) → first_of ((b, a) ∷ cs) other ≡ x → (b ≡ false) × (first_of cs other ≡ x)
unfolding first_of
past true a cs other x n e = absurd (n e)
past false a cs other x n e = (refl, e)

none_some : {A : Type 0} (o : Option A) → is_some o ≡ false → o ≡ none
unfolding is_some
none_some none e = refl
none_some (some a) e = absurd (true≢false e)

module _ (g : Board) (s : List ℕ) where
  -- ---- within the slots, and apart
  pub slots_kept : over_slots g s ≡ false → (k : ℕ) → used g.places k s ≤ g.places.slots k
  unfolding over_slots used
  slots_kept e k = go (select (λ (i : ℕ). eqb (g.places.group i) k) s) refl
    where
      go : (f : List ℕ) → select (λ (i : ℕ). eqb (g.places.group i) k) s ≡ f → length (select (λ (i : ℕ). eqb (g.places.group i) k) s) ≤ g.places.slots k
      go [] q = rw q (omega arith)
      go (i ∷ f) q =
          let m = filter_out (λ (i : ℕ). eqb (g.places.group i) k) s i (rw q (Memᴰ.head refl)) in
          let l = none_member (λ (i : ℕ). ltb (g.places.slots (g.places.group i)) (used g.places (g.places.group i) s)) s e i m.0 in
          subst (λ (k : ℕ). length (select (λ (i : ℕ). eqb (g.places.group i) k) s) ≤ g.places.slots k) (eqb-true (g.places.group i) k m.1)
          (ltb-false (g.places.slots (g.places.group i)) (used g.places (g.places.group i) s) l)

  pub kept_slots : ((k : ℕ) → used g.places k s ≤ g.places.slots k) → over_slots g s ≡ false
  unfolding over_slots
  kept_slots h = any_false (λ (i : ℕ). ltb (g.places.slots (g.places.group i)) (used g.places (g.places.group i) s)) s
      (λ i m. le-ltb (g.places.slots (g.places.group i)) (used g.places (g.places.group i) s) (h (g.places.group i)))

  pub overlaps_none : overlaps g s ≡ false → (i j : ℕ) → Memᴰ i s → Memᴰ j s → i ≢ j → g.places.overlap i j ≡ false
  unfolding overlaps
  overlaps_none e i j m n d =
      let a = none_member (λ (i : ℕ). any_of (λ (j : ℕ). not (eqb i j) && g.places.overlap i j) s) s e i m in
      let b = none_member (λ (j : ℕ). not (eqb i j) && g.places.overlap i j) s a j n in
      rw (ne_eqb i j d) at b

  pub none_overlaps : ((i j : ℕ) → Memᴰ i s → Memᴰ j s → i ≢ j → g.places.overlap i j ≡ false) → overlaps g s ≡ false
  unfolding overlaps
  none_overlaps h =
      any_false (λ (i : ℕ). any_of (λ (j : ℕ). not (eqb i j) && g.places.overlap i j) s) s
      (λ i m. any_false (λ (j : ℕ). not (eqb i j) && g.places.overlap i j) s
      (λ j n. either (eqb i j) (λ t. rw t) (λ q. rw q (h i j m n (λ z. true≢false (sym (eq-eqb i j z) ∙ q))))))

  -- ---- the verdict
  judged_wall : verdict g s ≡ Wall → (over_slots g s ≡ false) × (overlaps g s ≡ false) × ((r : List ℕ) × Walled g s r)
  unfolding verdict
  judged_wall e =
      let a = past (over_slots g s) Slots _ Wall Wall (λ q. let z : ◌≡◌ {A = ℕ} 0 1 = cc in omega arith) e in
      let b = past (overlaps g s) Overlap _ Wall Wall (λ q. let z : ◌≡◌ {A = ℕ} 0 1 = cc in omega arith) a.1 in
      let c = past (not (open_ends g g.block s)) EndCovered _ Wall Wall (λ q. let z : ◌≡◌ {A = ℕ} 0 1 = cc in omega arith) b.1 in
      let d = past (is_some (route_past g g.block s)) Open _ Wall Wall (λ q. let z : ◌≡◌ {A = ℕ} 0 1 = cc in omega arith) c.1 in
      let f = past (not (is_minimal_block g s)) Spare _ Wall Wall (λ q. let z : ◌≡◌ {A = ℕ} 0 1 = cc in omega arith) d.1 in
      let h = past (not (is_some (allowed_route g s))) Shut _ Wall Wall (λ q. let z : ◌≡◌ {A = ℕ} 0 1 = cc in omega arith) f.1 in
      let r = is_some_true (allowed_route g s) (not-false (is_some (allowed_route g s)) h.0) in (
        a.0,
        b.0,
        (
          r.0,
          record {
            ends_open = not-false (open_ends g g.block s) c.0;
            no_route = none_some (route_past g g.block s) d.0;
            minimal = not-false (is_minimal_block g s) f.0;
            allowed = r.1;
          },
        ),
      )

  wall_judged : (r : List ℕ) → over_slots g s ≡ false → overlaps g s ≡ false → Walled g s r → verdict g s ≡ Wall
  unfolding verdict first_of is_some
  wall_judged r a b w = rw (verdict, a, b, w.ends_open, w.no_route, w.minimal, w.allowed)

  pub verdict_wall : Regular g → ascends s ≡ true → ((i : ℕ) → Memᴰ i s → i < g.places.count) → (verdict g s ≡ Wall) ↔ IsWall g s
  verdict_wall regular a named = (
    (λ e.
        let j = judged_wall e in
        walled_is g regular s j.2.0 (record { is_set = a; named = named; slotted = slots_kept j.0; apart = overlaps_none j.1 }) j.2.1),
    (λ h.
        let r = wall_allowed g regular s h in
        wall_judged r.0 (kept_slots h.slotted) (none_overlaps h.apart) (is_walled g regular s r.0 h r.1)),
  )
