-- The first that holds of a list of tests.
use Prim.Native.Nat.{ℕ, zero, suc, ◌<◌}
use mathlib.Core.Path.{◌≡◌, refl, ◌∙◌}
use mathlib.Core.Bool.{Bool, true, false, true≢false, false≢true}
use mathlib.Core.List.{List, [], ◌∷◌}
use native.Mathlib.Omega.{arith}
use native.Mathlib.Nat.{not-suc-le-zero, le_of_suc-le-suc}
use lib.ListN.{length, get_or}
use Rattle.base_laws.specs.Lists.{first_of}

module _ {A : Type 0} where
  pub picked : (b : Bool) (a : A) (cs : List (Bool × A)) (o : A) → b ≡ true → first_of ((b, a) ∷ cs) o ≡ a
  unfolding first_of
  picked true a cs o e = refl
  picked false a cs o e = absurd (false≢true e)

  pub passed_by : (b : Bool) (a : A) (cs : List (Bool × A)) (o : A) → b ≡ false → first_of ((b, a) ∷ cs) o ≡ first_of cs o
  unfolding first_of
  passed_by true a cs o e = absurd (true≢false e)
  passed_by false a cs o e = refl

  pub none_holds : (o : A) → first_of [] o ≡ o
  unfolding first_of
  none_holds o = refl

  -- test number k holds, and none before it
  pub first_at : (cs : List (Bool × A)) (d : Bool × A) (o : A) (k : ℕ) → k < length cs → (get_or cs k d).0 ≡ true → ((j : ℕ) → j < k → (get_or cs j d).0 ≡ false)
      → first_of cs o ≡ (get_or cs k d).1
  first_at [] d o k h e n = absurd (not-suc-le-zero h)
  first_at (c ∷ cs) d o zero h e n = picked c.0 c.1 cs o e
  first_at (c ∷ cs) d o (suc k) h e n =
      passed_by c.0 c.1 cs o (n 0 (omega arith)) ∙ first_at cs d o k (le_of_suc-le-suc h) e (λ j l. n (suc j) (omega arith))

  pub first_none : (cs : List (Bool × A)) (d : Bool × A) (o : A) → ((j : ℕ) → j < length cs → (get_or cs j d).0 ≡ false) → first_of cs o ≡ o
  first_none [] d o n = none_holds o
  first_none (c ∷ cs) d o n = passed_by c.0 c.1 cs o (n 0 (omega arith)) ∙ first_none cs d o (λ j l. n (suc j) (omega arith))
