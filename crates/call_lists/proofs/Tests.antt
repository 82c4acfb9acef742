-- Tests of the entries of a list that agree.
use mathlib.Core.Path.{◌≡◌, refl, ap₂}
use mathlib.Core.Bool.{Bool, ◌&&◌}
use mathlib.Core.List.{List, [], ◌∷◌}
use Rattle.base_laws.specs.Lists.{all_of}

module _ {A : Type 0} (f : A → Bool) where
  pub all_same : (g : A → Bool) (xs : List A) → ((x : A) → f x ≡ g x) → all_of f xs ≡ all_of g xs
  unfolding all_of
  all_same g [] h = refl
  all_same g (x ∷ xs) h = ap₂ ◌&&◌ (h x) (all_same g xs h)
