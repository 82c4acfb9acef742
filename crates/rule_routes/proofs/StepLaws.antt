-- Tables of steps: one that holds each of the eight steps exactly once has no other and no repeat, whatever its order. The opposite of each stands in it. Before that, a
-- table read two numbers at a time.
use Prim.Native.Nat.{ℕ, suc, ◌+◌, ◌≤◌, ◌<◌}
use mathlib.Core.Path.{◌≡◌, refl, sym, ap, ◌∙◌}
use mathlib.Core.Bool.{true, false, true≢false}
use mathlib.Core.List.Memᴰ
use mathlib.Core.List.{List, [], ◌∷◌, Memᴰ}
use native.Mathlib.Omega.{arith}
use lib.Dec.{eqb}
use lib.IntN.{ℤ, pos, neg_ℤ}
use lib.ListN.{length, get_or, drop}
use lib.Seq.{drop-cons}
use lib.Signed.{le_z}
use borrow.Author.Tests.{eqb-true}
use Rattle.base_laws.specs.Lists.{any_of, all_of, select, Distinct}
use Rattle.base_laws.proofs.Ints.{le_z_fact, eq_parts}
use Rattle.base_laws.proofs.Members.{both, any_member, none_member, all_member, filter_out}
use Rattle.base_laws.proofs.Distinct.{sub_fills}
use Rattle.rule_routes.specs.Edges.{Step, step_by, eight_steps, steps_of, eq_z, same_step, each_once}

-- the table from entry k on begins with one step, or has none left
pub steps_cons : (table : List ℤ) (k : ℕ) → k + 1 < length table
    → steps_of (drop k table) ≡ step_by (get_or table k (pos 0)) (get_or table (k + 1) (pos 0)) ∷ steps_of (drop (k + 2) table)
unfolding steps_of
steps_cons table k h =
    let one : suc k ≡ k + 1 = omega arith in
    let two : suc (k + 1) ≡ k + 2 = omega arith in
    ap steps_of
    (drop-cons table k (pos 0) (omega arith)
    ∙ ap (λ (n : ℕ). get_or table k (pos 0) ∷ drop n table) one
    ∙ ap (λ (l : List ℤ). get_or table k (pos 0) ∷ l) (drop-cons table (k + 1) (pos 0) (omega arith))
    ∙ ap (λ (n : ℕ). get_or table k (pos 0) ∷ get_or table (k + 1) (pos 0) ∷ drop n table) two)

pub steps_few : (l : List ℤ) → length l ≤ 1 → steps_of l ≡ []
unfolding steps_of
steps_few [] h = refl
steps_few (x ∷ []) h = refl
steps_few (x ∷ y ∷ l) h = absurd (omega arith)

pub eq_z_true : (a b : ℤ) → eq_z a b ≡ true → a ≡ b
unfolding eq_z
eq_z_true a b e = let h = both (le_z a b) (le_z b a) e in eq_parts a b (omega (arith, le_z_fact a b h.0, le_z_fact b a h.1))

pub same_step_true : (s t : Step) → same_step s t ≡ true → s ≡ t
unfolding same_step
same_step_true s t e =
    let h = both (eq_z s.dx t.dx) (eq_z s.dy t.dy) e in
    let p : s.dx ≡ t.dx = eq_z_true s.dx t.dx h.0 in
    let q : s.dy ≡ t.dy = eq_z_true s.dy t.dy h.1 in
    λ i. record { dx = p i; dy = q i }

pub any_step : (s : Step) (l : List Step) → any_of (same_step s) l ≡ true → Memᴰ s l
any_step s l e = let m = any_member (same_step s) l e in Memᴰ.cast (same_step_true s m.0 m.2) m.1

new : (s : Step) (l : List Step) → same_step s s ≡ true → any_of (same_step s) l ≡ false → Memᴰ s l → ⊥
new s l same e m = true≢false (sym same ∙ none_member (same_step s) l e s m)

eight_apart : Distinct eight_steps
unfolding eight_steps step_by same_step eq_z any_of
eight_apart =
    Distinct.fresh (new _ _ refl refl)
    (Distinct.fresh (new _ _ refl refl)
    (Distinct.fresh (new _ _ refl refl)
    (Distinct.fresh (new _ _ refl refl)
    (Distinct.fresh (new _ _ refl refl)
    (Distinct.fresh (new _ _ refl refl) (Distinct.fresh (new _ _ refl refl) (Distinct.fresh (new _ _ refl refl) Distinct.empty)))))))

-- the step back
unfoldable pub opposite : Step → Step
opposite s = step_by (neg_ℤ s.dx) (neg_ℤ s.dy)

eight_opposite : (s : Step) → Memᴰ s eight_steps → Memᴰ (opposite s) eight_steps
unfolding eight_steps step_by same_step eq_z any_of all_of opposite
eight_opposite s m = any_step (opposite s) eight_steps (all_member (λ (t : Step). any_of (same_step (opposite t)) eight_steps) eight_steps refl s m)

pub eight_once : each_once eight_steps ≡ true
unfolding each_once eight_steps step_by same_step eq_z all_of select
eight_once = refl

module _ (steps : List Step) (once : each_once steps ≡ true) where
  counts : (length steps ≡ 8) × (all_of (λ (s : Step). eqb (length (select (same_step s) steps)) 1) eight_steps ≡ true)
  unfolding each_once
  counts =
      let h = both (eqb (length steps) 8) (all_of (λ (s : Step). eqb (length (select (same_step s) steps)) 1) eight_steps) once in
      (eqb-true (length steps) 8 h.0, h.1)

  pub eight_in : (s : Step) → Memᴰ s eight_steps → Memᴰ s steps
  eight_in s m =
      go (select (same_step s) steps)
      (eqb-true (length (select (same_step s) steps)) 1 (all_member (λ (s : Step). eqb (length (select (same_step s) steps)) 1) eight_steps counts.1 s m))
      (λ t k. filter_out (same_step s) steps t k)
    where
      go : (l : List Step) → length l ≡ 1 → ((t : Step) → Memᴰ t l → Memᴰ t steps × (same_step s t ≡ true)) → Memᴰ s steps
      go [] e out = absurd (omega arith)
      go (t ∷ l) e out = let o = out t (Memᴰ.head refl) in Memᴰ.cast (same_step_true s t o.1) o.0

  full : Distinct steps × ((s : Step) → Memᴰ s steps → Memᴰ s eight_steps)
  unfolding eight_steps
  full = sub_fills steps eight_apart eight_in (omega (arith, counts.0))

  pub steps_apart : Distinct steps
  steps_apart = full.0

  pub in_eight : (s : Step) → Memᴰ s steps → Memᴰ s eight_steps
  in_eight = full.1

  pub opposite_in : (s : Step) → Memᴰ s steps → Memᴰ (opposite s) steps
  opposite_in s m = eight_in (opposite s) (eight_opposite s (in_eight s m))

-- two such tables hold the same steps
pub steps_agree : (a b : List Step) → each_once a ≡ true → each_once b ≡ true → (s : Step) → Memᴰ s a → Memᴰ s b
steps_agree a b p q s m = eight_in b q s (in_eight a p s m)
