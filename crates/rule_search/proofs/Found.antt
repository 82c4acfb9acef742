-- What holds of a begun search at every state. Each set that the evaluation lets follow on a visited one is visited too, waits in a list, or is pending;
-- so, where no list and no pending set is left, all that can be come to has been visited. Every visited wall is listed, unless the points ran out.
use Prim.Native.Nat.{ℕ, zero, suc, ◌≤◌, ◌<◌}
use mathlib.Core.Path.{◌≡◌, refl, sym}
use mathlib.Core.Bool.{Bool, true, false, false≢true}
use mathlib.Core.Logic.{◌⊎◌, inl, inr, ⊎_elim}
use mathlib.Core.List.Memᴰ
use mathlib.Core.List.{
  List,
  [],
  ◌∷◌,
  ◌++◌,
  map,
  map-append,
  Memᴰ,
}
use native.Mathlib.Omega.{arith}
use native.Mathlib.Nat.{not-suc-le-zero}
use lib.ListN.{length, get_or, drop, drop_of_length-le}
use lib.Seq.{drop-cons}
use Rattle.base_laws.specs.Lists.{put_in, Distinct, empty}
use Rattle.base_laws.proofs.Members.{get_d_member}
use Rattle.base_laws.proofs.Distinct.{distinct_snoc}
use Rattle.base_model.specs.declared.Position.{Position}
use Rattle.rule_layouts.specs.Explore.{Extend, Wall}
use Rattle.rule_search.specs.State.{Reason, Running, Exhausted, StateLimit, ResultLimit, Extensions, Layout, State, state, last_taken, set_on}
use Rattle.rule_search.specs.Frames.{Plan, push, step, begun}
use Rattle.rule_search.proofs.Moves.{
  held,
  taking,
  Looked,
  on,
  at_results,
  none_left,
  at_states,
  idle,
  limited,
  finished,
  repeated,
  spent,
  taken,
  nothing,
  extended,
  listed,
  overfull,
  Keeps,
  step_keeps,
}

-- the sets that a search can come to: the empty one, and a set with one of its extensions
pub data Reach (p : Plan) : List ℕ → Type 0 where
  Reach·none : Reach p []
  Reach·more : {s es : List ℕ} {i : ℕ} → Reach p s → p.evaluate s ≡ Extend es → Memᴰ i es → Reach p (put_in i s)

-- the sets of the layouts, in their order
abbrev pub members_of : Layout → List ℕ
members_of y = y.members

abbrev pub sets : List Layout → List (List ℕ)
sets ys = map members_of ys

-- ---- the lists
-- A list is what the evaluation of the set below it gave; no more is taken than there is, and some is where a list or a pending set stands on it.
pub record Stands (p : Plan) (b : Bool) (l : Extensions) (ls : List Extensions) : Type 0 where
  pub given : p.evaluate (set_on ls) ≡ Extend l.entries
  pub nonempty : 0 < length l.entries
  pub inside : l.next ≤ length l.entries
  pub used : b ≡ true → 0 < l.next

abbrev pub Stacked : Plan → Bool → List Extensions → Type 0
Stacked p b [] = Unit {0}
Stacked p b (l ∷ ls) = Stands p b l ls × Stacked p true ls

stacked_free : (p : Plan) (ls : List Extensions) → Stacked p true ls → Stacked p false ls
stacked_free p [] h = tt
stacked_free p (l ∷ ls) h = (record { given = h.0.given; nonempty = h.0.nonempty; inside = h.0.inside; used = λ e. absurd (false≢true e) }, h.1)

pub last_taken_member : (es : List ℕ) (n : ℕ) → 0 < n → n ≤ length es → Memᴰ (last_taken es n) es
unfolding last_taken
last_taken_member es zero h k = absurd (not-suc-le-zero h)
last_taken_member es (suc n) h k = get_d_member es n 0 k

pub stacked_reach : (p : Plan) (ls : List Extensions) → Stacked p true ls → Reach p (set_on ls)
unfolding set_on
stacked_reach p [] h = Reach·none
stacked_reach p (l ∷ ls) h = Reach·more (stacked_reach p ls h.1) h.0.given (last_taken_member l.entries l.next (h.0.used refl) h.0.inside)

set_on_taking : (l : Extensions) (ls : List Extensions) → set_on (taking l ∷ ls) ≡ put_in (get_or l.entries l.next 0) (set_on ls)
unfolding set_on last_taken
set_on_taking l ls = refl

-- ---- what is still to come
-- placement i has not been taken yet from the list that belongs to the set s
abbrev Waits : List ℕ → ℕ → List Extensions → Type 0
Waits s i [] = ⊥
Waits s i (l ∷ ls) = ((s ≡ set_on ls) × Memᴰ i (drop l.next l.entries)) ⊎ Waits s i ls

-- s with i is visited, or waits, or is pending
abbrev Due : List ℕ → ℕ → Bool → List Extensions → List (List ℕ) → Type 0
Due s i b ls v = Memᴰ (put_in i s) v ⊎ (Waits s i ls ⊎ ((b ≡ true) × (put_in i s ≡ set_on ls)))

pub record Core (p : Plan) (b : Bool) (ls : List Extensions) (v : List (List ℕ)) (ys : List Layout) : Type 0 where
  pub root : Memᴰ [] v ⊎ ((b ≡ true) × ([] ≡ set_on ls))
  pub due : (s es : List ℕ) (i : ℕ) → Memᴰ s v → p.evaluate s ≡ Extend es → Memᴰ i es → Due s i b ls v
  pub stacked : Stacked p b ls
  pub came : (s : List ℕ) → Memᴰ s v → Reach p s
  pub walls : (y : Layout) → Memᴰ y ys → Memᴰ y.members v × (p.evaluate y.members ≡ Wall y.route)
  pub once : Distinct v
  pub once_listed : Distinct (sets ys)

-- every visited wall is listed
abbrev Listed : Plan → List (List ℕ) → List Layout → Type 0
Listed p v ys = (s : List ℕ) (q : List Position) → Memᴰ s v → p.evaluate s ≡ Wall q → Memᴰ s (sets ys)

module _ (p : Plan) (ls : List Extensions) (v : List (List ℕ)) (ys : List Layout) where
  -- the pending set has been visited before
  core_repeated : Memᴰ (set_on ls) v → Core p true ls v ys → Core p false ls v ys
  core_repeated m c = record {
    root = ⊎_elim inl (λ (k : (true ≡ true) × ([] ≡ set_on ls)). inl (Memᴰ.cast k.1 m)) c.root;
    due = λ s es i k e h. due' s i (c.due s es i k e h);
    stacked = stacked_free p ls c.stacked;
    came = c.came;
    walls = c.walls;
    once = c.once;
    once_listed = c.once_listed;
  }
    where
      due' : (s : List ℕ) (i : ℕ) → Due s i true ls v → Due s i false ls v
      due' s i (inl k) = inl k
      due' s i (inr (inl k)) = inr (inl k)
      due' s i (inr (inr k)) = inl (Memᴰ.cast k.1 m)

  -- a spent list goes
  core_spent : (l : Extensions) → length l.entries ≤ l.next → Core p false (l ∷ ls) v ys → Core p false ls v ys
  core_spent l h c = record {
    root = ⊎_elim inl (λ (k : (false ≡ true) × ([] ≡ set_on (l ∷ ls))). absurd (false≢true k.0)) c.root;
    due = λ s es i k e m. due' s i (c.due s es i k e m);
    stacked = stacked_free p ls c.stacked.1;
    came = c.came;
    walls = c.walls;
    once = c.once;
    once_listed = c.once_listed;
  }
    where
      due' : (s : List ℕ) (i : ℕ) → Due s i false (l ∷ ls) v → Due s i false ls v
      due' s i (inl k) = inl k
      due' s i (inr (inl (inl k))) = absurd (Memᴰ.not-nil (rw (drop_of_length-le l.entries h) at k.1))
      due' s i (inr (inl (inr k))) = inr (inl k)
      due' s i (inr (inr k)) = absurd (false≢true k.0)

  -- the next placement of the last list is taken
  core_taken : (l : Extensions) → l.next < length l.entries → Core p false (l ∷ ls) v ys → Core p true (taking l ∷ ls) v ys
  core_taken l h c = record {
    root = ⊎_elim inl (λ (k : (false ≡ true) × ([] ≡ set_on (l ∷ ls))). absurd (false≢true k.0)) c.root;
    due = λ s es i k e m. due' s i (c.due s es i k e m);
    stacked = (record { given = c.stacked.0.given; nonempty = c.stacked.0.nonempty; inside = h; used = λ e. omega arith }, c.stacked.1);
    came = c.came;
    walls = c.walls;
    once = c.once;
    once_listed = c.once_listed;
  }
    where
      first : (s : List ℕ) (i : ℕ) → s ≡ set_on ls → (i ≡ get_or l.entries l.next 0) ⊎ Memᴰ i (drop (suc l.next) l.entries) → Due s i true (taking l ∷ ls) v
      first s i e (inl q) = inr (inr (refl, rw (e, q) (sym (set_on_taking l ls))))
      first s i e (inr m) = inr (inl (inl (e, m)))

      due' : (s : List ℕ) (i : ℕ) → Due s i false (l ∷ ls) v → Due s i true (taking l ∷ ls) v
      due' s i (inl k) = inl k
      due' s i (inr (inl (inl k))) = first s i k.0 (Memᴰ.cases_cons (rw (drop-cons l.entries l.next 0 h) at k.1))
      due' s i (inr (inl (inr k))) = inr (inl (inr k))
      due' s i (inr (inr k)) = absurd (false≢true k.0)

  -- the pending set enters the visited ones, and what may join it waits in the lists
  core_entered : (more : List Extensions) → ((s : List ℕ) (i : ℕ) → Waits s i ls → Waits s i more)
      → ((es : List ℕ) (i : ℕ) → p.evaluate (set_on ls) ≡ Extend es → Memᴰ i es → Waits (set_on ls) i more)
      → Stacked p false more → (Memᴰ (set_on ls) v → ⊥) → Core p true ls v ys → Core p false more (v ++ set_on ls ∷ []) ys
  core_entered more old new st out c = record {
    root = inl (⊎_elim (Memᴰ.append_left (set_on ls ∷ [])) (λ (k : (true ≡ true) × ([] ≡ set_on ls)). Memᴰ.cast k.1 here) c.root);
    due = λ s es i k e m. due' s es i e m (Memᴰ.append_cases v k);
    stacked = st;
    came = λ s k. ⊎_elim (c.came s) (λ (j : Memᴰ s (set_on ls ∷ [])). rw (Memᴰ.eq_of_singleton j) (stacked_reach p ls c.stacked)) (Memᴰ.append_cases v k);
    walls = λ y k. (Memᴰ.append_left (set_on ls ∷ []) (c.walls y k).0, (c.walls y k).1);
    once = distinct_snoc (set_on ls) c.once out;
    once_listed = c.once_listed;
  }
    where
      here : Memᴰ (set_on ls) (v ++ set_on ls ∷ [])
      here = Memᴰ.append_right v (Memᴰ.head refl)

      moved : (s : List ℕ) (i : ℕ) → Due s i true ls v → Due s i false more (v ++ set_on ls ∷ [])
      moved s i (inl k) = inl (Memᴰ.append_left (set_on ls ∷ []) k)
      moved s i (inr (inl k)) = inr (inl (old s i k))
      moved s i (inr (inr k)) = inl (Memᴰ.cast k.1 here)

      due' : (s es : List ℕ) (i : ℕ) → p.evaluate s ≡ Extend es → Memᴰ i es → Memᴰ s v ⊎ Memᴰ s (set_on ls ∷ []) → Due s i false more (v ++ set_on ls ∷ [])
      due' s es i e m (inl k) = moved s i (c.due s es i k e m)
      due' s es i e m (inr k) = let q : s ≡ set_on ls = Memᴰ.eq_of_singleton k in inr (inl (rw q (new es i (rw q at e) m)))

-- a visited wall is listed
core_listed : (p : Plan) (b : Bool) (ls : List Extensions) (v : List (List ℕ)) (ys : List Layout) (y : Layout)
    → Memᴰ y.members v → p.evaluate y.members ≡ Wall y.route → (Memᴰ y.members (sets ys) → ⊥)
    → Core p b ls v ys → Core p b ls v (ys ++ y ∷ [])
core_listed p b ls v ys y m e out c = record {
  root = c.root;
  due = c.due;
  stacked = c.stacked;
  came = c.came;
  walls = λ x k. ⊎_elim (c.walls x) (λ (j : Memᴰ x (y ∷ [])). rw (Memᴰ.eq_of_singleton j) (m, e)) (Memᴰ.append_cases ys k);
  once = c.once;
  once_listed = rw (map-append members_of ys (y ∷ [])) (distinct_snoc y.members c.once_listed out);
}

-- ---- the invariant of a begun search
abbrev pub After : Reason → Plan → Bool → List Extensions → List (List ℕ) → List Layout → Type 0
After Running p b ls v ys = Listed p v ys
After Exhausted p b ls v ys = Listed p v ys × (b ≡ false) × (ls ≡ [])
After StateLimit p b ls v ys = Unit {0}
After ResultLimit p b ls v ys = Unit {0}

pub record Found (p : Plan) (s : State) : Type 0 where
  pub core : Core p s.pending s.lists s.visited s.layouts
  pub after : After s.reason p s.pending s.lists s.visited s.layouts

looked_found : (p : Plan) (b : Bool) (ls : List Extensions) (v : List (List ℕ)) (ys : List Layout) (r : Reason) → Looked p b ls v ys r
    → Core p b ls v ys → Listed p v ys → Found p (held r b ls v ys)
looked_found p b ls v ys _ (on h i k) c l = record { core = c; after = l }
looked_found p b ls v ys _ (at_results h) c l = record { core = c; after = tt }
looked_found p b ls v ys _ (none_left h e q) c l = record { core = c; after = (l, e, q) }
looked_found p b ls v ys _ (at_states h i k) c l = record { core = c; after = tt }

module _ (p : Plan) (ls : List Extensions) (v : List (List ℕ)) (ys : List Layout) (c : Core p true ls v ys) (l : Listed p v ys) (new : Memᴰ (set_on ls) v → ⊥) where
  -- nothing may join
  closed : ((es : List ℕ) → p.evaluate (set_on ls) ≡ Extend es → ⊥) → Core p false ls (v ++ set_on ls ∷ []) ys
  closed n = core_entered p ls v ys ls (λ t i w. w) (λ es i e m. absurd (n es e)) (stacked_free p ls c.stacked) new c

  -- these may join
  opened : (es : List ℕ) → p.evaluate (set_on ls) ≡ Extend es → Core p false (push es ls) (v ++ set_on ls ∷ []) ys
  unfolding push
  opened [] e =
      core_entered p ls v ys ls (λ t i w. w) (λ es i q m. let z : [] ≡ es = cc in absurd (Memᴰ.not-nil (rw (← z) at m))) (stacked_free p ls c.stacked) new c
  opened (x ∷ es) e =
      core_entered p ls v ys (record { entries = x ∷ es; next = 0 } ∷ ls) (λ t i w. inr w) (λ es' i q m. let z : es' ≡ x ∷ es = cc in inl (refl, rw z at m))
      (record { given = e; nonempty = omega arith; inside = omega arith; used = λ k. absurd (false≢true k) }, c.stacked) new c

  no_wall : ((q : List Position) → p.evaluate (set_on ls) ≡ Wall q → ⊥) → Listed p (v ++ set_on ls ∷ []) ys
  no_wall n t q m e =
      ⊎_elim (λ (k : Memᴰ t v). l t q k e) (λ (k : Memᴰ t (set_on ls ∷ [])). absurd (n q (rw (Memᴰ.eq_of_singleton k) at e))) (Memᴰ.append_cases v m)

  -- a new set has not been listed
  unlisted : Memᴰ (set_on ls) (sets ys) → ⊥
  unlisted m = let y = Memᴰ.of_map members_of ys m in new (Memᴰ.cast (sym y.2) (c.walls y.0 y.1).0)

  wall_core : (q : List Position) → p.evaluate (set_on ls) ≡ Wall q → Core p false ls (v ++ set_on ls ∷ []) (ys ++ record { members = set_on ls; route = q } ∷ [])
  wall_core q e =
      core_listed p false ls (v ++ set_on ls ∷ []) ys (record { members = set_on ls; route = q }) (Memᴰ.append_right v (Memᴰ.head refl)) e unlisted
      (closed (λ es k. let z : ◌≡◌ {A = ℕ} 0 1 = cc in omega arith))

  wall_listed : (q : List Position) → Listed p (v ++ set_on ls ∷ []) (ys ++ record { members = set_on ls; route = q } ∷ [])
  wall_listed q t r m e =
      rw (map-append members_of ys (record { members = set_on ls; route = q } ∷ []))
      (⊎_elim (λ (k : Memᴰ t v). Memᴰ.append_left (set_on ls ∷ []) (l t r k e)) (λ (k : Memᴰ t (set_on ls ∷ [])). Memᴰ.append_right (sets ys) k) (Memᴰ.append_cases v m))

pub move_found : (p : Plan) → Keeps p (Found p)
move_found p _ _ (idle h) i = i
move_found p _ _ (limited h) i = record { core = i.core; after = tt }
move_found p _ _ (finished h) i = record { core = i.core; after = (i.after, refl, refl) }
move_found p _ _ (repeated {ls = ls} {v = v} {ys = ys} h m) i = record { core = core_repeated p ls v ys m i.core; after = i.after }
move_found p _ _ (spent {l = l} {ls = ls} {v = v} {ys = ys} h k) i = record { core = core_spent p ls v ys l k i.core; after = i.after }
move_found p _ _ (taken {l = l} {ls = ls} {v = v} {ys = ys} {r = r} h k o) i =
    looked_found p true (taking l ∷ ls) v ys r o (core_taken p ls v ys l k i.core) i.after
move_found p _ _ (nothing {ls = ls} {v = v} {ys = ys} {r = r} h e o) i =
    looked_found p false ls (v ++ set_on ls ∷ []) ys r o
    (closed p ls v ys i.core i.after h.new (λ es k. let z : ◌≡◌ {A = ℕ} 0 1 = cc in omega arith))
    (no_wall p ls v ys i.core i.after h.new (λ q k. let z : ◌≡◌ {A = ℕ} 0 1 = cc in omega arith))
move_found p _ _ (extended {ls = ls} {v = v} {ys = ys} {r = r} es h e o) i =
    looked_found p false (push es ls) (v ++ set_on ls ∷ []) ys r o
    (opened p ls v ys i.core i.after h.new es e)
    (no_wall p ls v ys i.core i.after h.new (λ q k. let z : ◌≡◌ {A = ℕ} 0 1 = cc in omega arith))
move_found p _ _ (listed {ls = ls} {v = v} {ys = ys} {r = r} q h e k o) i =
    looked_found p false ls (v ++ set_on ls ∷ []) (ys ++ record { members = set_on ls; route = q } ∷ []) r o
    (wall_core p ls v ys i.core i.after h.new q e)
    (wall_listed p ls v ys i.core i.after h.new q)
move_found p _ _ (overfull {ls = ls} {v = v} {ys = ys} q h e k) i =
    record { core = closed p ls v ys i.core i.after h.new (λ es k. let z : ◌≡◌ {A = ℕ} 0 1 = cc in omega arith); after = tt }

pub step_found : (p : Plan) (n : ℕ) (s : State) → Found p s → Found p (step p n s)
step_found p = step_keeps p (Found p) (move_found p)

pub begun_found : (p : Plan) → Found p begun
unfolding begun state set_on
begun_found p = record {
  core = record {
    root = inr (refl, refl);
    due = λ s es i m e h. absurd (Memᴰ.not-nil m);
    stacked = tt;
    came = λ s m. absurd (Memᴰ.not-nil m);
    walls = λ y m. absurd (Memᴰ.not-nil m);
    once = empty;
    once_listed = empty;
  };
  after = λ s q m e. absurd (Memᴰ.not-nil m);
}
