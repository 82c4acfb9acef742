-- `ground_baseline::bytes_fit` meets its contract: what the iterator finds is what the definition says.
use mathlib.Core.Path.{◌≡◌, refl, ap, ◌∙◌}
use mathlib.Core.Bool.{Bool, ◌&&◌}
use mathlib.Core.List.{List, [], ◌∷◌}
use Prim.Native.Nat.{ℕ}
use lib.Dec.{leb}
use borrow.Author.Tests.{tests}
use Rattle.std.specs.List.{list_all}
use Rattle.std.proofs.Common.{rules}
use Rattle.std.proofs.lemmas.Iterator.{YieldsList-from_slice}
use Rattle.std.proofs.lemmas.Iterator.Search.{all_from_yields_List}
use Rattle.base_laws.specs.Lists.{all_of}
use Rattle.ground_baseline.proofs.bytes_fit.Goals as goal

-- the iterator's word and the definitions'
all_is : (f : ℕ → Bool) (s : List ℕ) → list_all f s ≡ all_of f s
unfolding all_of
all_is f [] = refl
all_is f (x ∷ s) = ap (λ (b : Bool). f x && b) (all_is f s)

pub returns : goal.returns
returns c =
    let cells = c.args.cells.now in
    all_from_yields_List (λ (b : ℕ). leb b 1) _ _ c.all.result c.all.ensures.ran (YieldsList-from_slice cells cc) (λ x b q k. search (rules, tests))
    ∙ all_is (λ (b : ℕ). leb b 1) cells
