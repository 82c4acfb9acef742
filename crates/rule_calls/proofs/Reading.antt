-- What an accepted reading has found: the layout is listed, and its points stand in the points area, after those of the layouts before it.
use Prim.Native.Nat.{ℕ, zero, suc, ◌+◌, ◌*◌, ◌≤◌, ◌<◌}
use mathlib.Core.Path.{◌≡◌, refl, sym}
use mathlib.Core.Bool.{true}
use mathlib.Core.Option.{Option, none, some, none-ne-some}
use mathlib.Core.List.{List, [], ◌∷◌, ◌++◌}
use native.Mathlib.Omega.{arith}
use lib.Dec.{ltb}
use lib.ListN.{length, take, get_or}
use borrow.Author.Tests.{ltb-true}
use Rattle.base_laws.specs.Lists.{total}
use Rattle.base_model.specs.Answers.{Said, ask, first}
use Rattle.base_model.proofs.Asking.{ask_passes, first_passes}
use Rattle.base_model.specs.declared.Limits.{Limits}
use Rattle.base_model.specs.declared.Record.{Record}
use Rattle.rule_layouts.specs.Inputs.{Inputs}
use Rattle.rule_calls.specs.Areas.{Store, store_fits, points_of}
use Rattle.rule_calls.specs.Checks.{group_checks, limit_checks, query_checks, place_checks}
use Rattle.rule_calls.specs.RecordCheck.{record_fits}
use Rattle.rule_calls.specs.Calls.{read_checks, read_call}
use Rattle.rule_calls.proofs.Sound.{sound, clauses, long}
use Rattle.rule_calls.proofs.Checked.{routes_sum}
use Rattle.rule_calls.proofs.StepLaws.{first_both, fair}

-- the first k and the next are among the first m
total_among : (xs : List ℕ) (k m : ℕ) → k < m → total (take k xs) + get_or xs k 0 ≤ total (take m xs)
unfolding total
total_among [] zero (suc m) h = omega arith
total_among [] (suc k) (suc m) h = omega arith
total_among (x ∷ xs) zero (suc m) h = omega arith
total_among (x ∷ xs) (suc k) (suc m) h = omega (arith, total_among xs k m (omega arith))
total_among xs k zero h = absurd (omega arith)

module _ (i : Inputs) (l : Limits) (r : Record) (k : ℕ) (a : Store) where
  pub read_checks_lem : (read_call i l r k a).answer ≡ none → first (read_checks i l r k a) ≡ none
  unfolding read_call
  read_checks_lem e = go (first (read_checks i l r k a)) refl
    where
      go : (o : Option Said) → first (read_checks i l r k a) ≡ o → first (read_checks i l r k a) ≡ none
      go none q = q
      go (some x) q = absurd (none-ne-some x (sym (rw (read_call, q) at e)))

  pub read_refused : (x : Said) → first (read_checks i l r k a) ≡ some x → read_call i l r k a ≡ record { answer = some x; points = [] }
  unfolding read_call
  read_refused x e = rw (read_call, e) refl

  module _ (yes : first (read_checks i l r k a) ≡ none) where
    pub read_is : read_call i l r k a ≡ record { answer = none; points = points_of r a.points k }
    unfolding read_call
    read_is = rw (read_call, yes) refl

    -- the checks before 16, 16 and 17
    parts : (first (group_checks i ++ limit_checks l ++ query_checks i (store_fits i l a)) ≡ none) × ((first (place_checks i) ≡ none) × ((record_fits i r a l ≡ true) × (k < r.layouts)))
    unfolding read_checks
    parts =
        let b = first_both (group_checks i ++ limit_checks l ++ query_checks i (store_fits i l a) ++ place_checks i) _ yes in
        let p = first_both (group_checks i ++ limit_checks l ++ query_checks i (store_fits i l a)) (place_checks i) b.0 in
        let t = first_passes (ask 16 (record_fits i r a l)) (ask 17 (ltb k r.layouts) ∷ []) b.1 in
        let u = first_passes (ask 17 (ltb k r.layouts)) [] t.1 in
        (p.0, (p.1, (ask_passes 16 (record_fits i r a l) t.0, ltb-true k r.layouts (ask_passes 17 (ltb k r.layouts) u.0))))

    pub read_among : k < r.layouts
    read_among = parts.1.1.1

    pub read_named : k < 32
    read_named =
        let f = fair i l (store_fits i l a) parts.0 parts.1.0 in
        let s = sound i r a l parts.1.1.0 in
        omega (arith, read_among, f.1.few, s.shown)

    pub read_few : total (take k r.routes) + get_or r.routes k 0 ≤ 1000000
    read_few =
        omega (arith, total_among r.routes k r.layouts read_among, routes_sum i (take r.layouts r.routes) (clauses i r a l parts.1.1.0).routes)

    pub read_inside : 2 * total (take k r.routes) + 2 * get_or r.routes k 0 ≤ length a.points
    read_inside =
        let f = fair i l (store_fits i l a) parts.0 parts.1.0 in
        omega (arith, total_among r.routes k r.layouts read_among, (sound i r a l parts.1.1.0).points, (long i l a f.0).points)
