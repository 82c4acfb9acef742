-- A route laid into an area: whether there are points says whether there is a route.
use Rattle.std.specs.Prelude.{Some, None}
use Rattle.std.specs.Prelude as std
use Prim.Native.Nat.{ℕ}
use mathlib.Core.Path.{◌≡◌, refl, sym, ap, ap₂, ◌∙◌}
use mathlib.Core.Bool.{true, false}
use mathlib.Core.Option.{Option, none, some}
use mathlib.Core.List.{List}
use lib.ListN.{length, take, drop}
use lib.Seq.{take_at}
use Rattle.base_laws.specs.Lists.{is_some}
use Rattle.route_find.specs.Results.{Routed, counted, laid_into}
use Rattle.set_pass.specs.Allowed.{Allowed}

counted_none : (o : Option (List ℕ)) → counted o ≡ None → o ≡ none
unfolding counted
counted_none none e = refl
counted_none (some p) e = cc

counted_some : (o : Option (List ℕ)) (n : ℕ) → counted o ≡ Some n → is_some o ≡ true
unfolding counted is_some
counted_some none n e = cc
counted_some (some p) n e = refl

-- an answer that counts the points of a route that is laid
module _ {o : Option (List ℕ)} {r : std.Option ℕ} {route route' : List ℕ} where
  pub laid_by : Routed o route route' r → Allowed o r route route'
  laid_by t = record { count = t.count; laid = t.points }

  pub shut_none : Allowed o r route route' → r ≡ None → o ≡ none
  shut_none t e = counted_none o (sym t.count ∙ e)

  pub shut_is : Allowed o r route route' → r ≡ None → false ≡ is_some o
  unfolding is_some
  shut_is t e = sym (ap is_some (shut_none t e))

  pub free_is : Allowed o r route route' → (n : ℕ) → r ≡ Some n → true ≡ is_some o
  free_is t n e = sym (counted_some o n (sym t.count ∙ e))

  -- no points, no change
  pub shut_kept : Allowed o r route route' → r ≡ None → route' ≡ route
  unfolding laid_into
  shut_kept t e = t.laid ∙ ap (λ (x : Option (List ℕ)). laid_into x route) (shut_none t e)

-- a route with n points
pub record RouteWritten (o : Option (List ℕ)) (route' : List ℕ) (n : ℕ) : Type 0 where
  pub points : List ℕ
  pub is : o ≡ some points
  pub number : n ≡ length points
  pub first : take n route' ≡ points

pub routed_some : (o : Option (List ℕ)) (route route' : List ℕ) (n : ℕ) → counted o ≡ Some n → route' ≡ laid_into o route → RouteWritten o route' n
unfolding counted laid_into
routed_some none route route' n e t = cc
routed_some (some p) route route' n e t =
    let k : n ≡ length p = cc in record {
      points = p;
      is = refl;
      number = k;
      first = ap₂ take k t ∙ take_at p (drop (length p) route) (length p) refl;
    }

pub free_written : {o : Option (List ℕ)} {r : std.Option ℕ} {route route' : List ℕ} → Allowed o r route route' → (n : ℕ) → r ≡ Some n → RouteWritten o route' n
free_written {o} {r} {route} {route'} t n e = routed_some o route route' n (sym t.count ∙ e) t.laid
