-- The definition's search by its cases: which nodes are known, and what trying a neighbour does.
use mathlib.Core.Path.{◌≡◌, refl, sym, ap, ◌∙◌}
use mathlib.Core.Bool.{true, false, true≢false}
use mathlib.Core.Logic.{⊎_elim}
use mathlib.Core.List.Memᴰ
use mathlib.Core.List.{List, [], ◌∷◌, ◌++◌, Memᴰ}
use Prim.Native.Nat.{ℕ, zero, suc, ◌<◌}
use native.Mathlib.Nat.{le_of_suc-le-suc, not-suc-le-zero}
use lib.Dec.{eqb}
use borrow.Author.Tests.{eqb-true, eqb-false}
use lib.ListN.{length, get_or}
use Rattle.base_laws.specs.Lists.{any_of}
use Rattle.base_laws.proofs.Members.{either}
use Rattle.rule_routes.specs.Routes.{Route, onward, known, discover}

-- one of the routes ends at v
abbrev pub On : ℕ → List Route → Type 0
On v found = (r : Route) × Memᴰ r found × (v ≡ r.at)

pub known_on : (v : ℕ) (found : List Route) → known v found ≡ true → On v found
unfolding known any_of
known_on v [] e = absurd (true≢false (sym e))
known_on v (r ∷ found) e =
    either (eqb v r.at)
    (λ t. (r, Memᴰ.head refl, eqb-true v r.at t))
    (λ f. let o = known_on v found (rw (known, any_of, f) at e) in (o.0, Memᴰ.tail o.1, o.2))

pub known_not : (v : ℕ) (found : List Route) → known v found ≡ false → On v found → ⊥
unfolding known any_of
known_not v [] e o = Memᴰ.not-nil o.1
known_not v (s ∷ found) e o =
    either (eqb v s.at)
    (λ t. true≢false (rw (known, any_of, t) at e))
    (λ f.
    ⊎_elim
    (λ (h : o.0 ≡ s). eqb-false v s.at f (o.2 ∙ ap (λ (x : Route). x.at) h))
    (λ (h : Memᴰ o.0 found). known_not v found (rw (known, any_of, f) at e) (o.0, h, o.2))
    (Memᴰ.cases_cons o.1))

pub on_more : {v : ℕ} {found : List Route} (more : List Route) → On v found → On v (found ++ more)
on_more more o = (o.0, Memᴰ.append_left more o.1, o.2)

pub mem_at {ℓ} : {A : Type ℓ} (l : List A) (k : ℕ) (d : A) → k < length l → Memᴰ (get_or l k d) l
mem_at [] k d h = absurd (not-suc-le-zero h)
mem_at (x ∷ l) zero d h = Memᴰ.head refl
mem_at (x ∷ l) (suc k) d h = Memᴰ.tail (mem_at l k d (le_of_suc-le-suc h))

-- one neighbour
pub extend_old : (r : Route) (v : ℕ) (vs : List ℕ) (found : List Route) → known v found ≡ true → discover r (v ∷ vs) found ≡ discover r vs found
unfolding discover
extend_old r v vs found e = rw (discover, e)

pub extend_new : (r : Route) (v : ℕ) (vs : List ℕ) (found : List Route) → known v found ≡ false → discover r (v ∷ vs) found ≡ discover r vs (found ++ onward r v ∷ [])
unfolding discover
extend_new r v vs found e = rw (discover, e)
