-- `search_rows::position` meets its contract: what the iterator finds, and the end where it finds nothing.
use Prim.Native.Nat.{ℕ}
use mathlib.Core.Path.{◌≡◌, ◌∙◌, ap}
use mathlib.Core.Bool.{not}
use lib.Dec.{ltb}
use lib.ListN.{length}
use Rattle.std.proofs.Common.{rules, tests, refl}
use Rattle.std.proofs.lemmas.Iterator.{YieldsList-from_slice}
use Rattle.std.proofs.lemmas.Iterator.Search.{position_from_yields_List}
use Rattle.std.proofs.lemmas.List.Sums.{prefix_len-le-length}
use Rattle.std.specs.Option.{unwrap_or}
use Rattle.std.specs.List.{position, position_or_len}
use Rattle.search_rows.proofs.Sets.{or_len}
use Rattle.search_rows.proofs.position.Goals as goal

pub returns : goal.returns
returns c =
    let xs = c.args.members.now in
    let p = λ (x : ℕ). ltb c.args.v x in
    let f : c.position.result ≡ position p xs = position_from_yields_List p _ _ _ c.position.ensures.ran (YieldsList-from_slice xs (cc)) (λ x b q k. search (rules, tests)) in
    let e : c.unwrap_or.result ≡ position_or_len p xs = c.unwrap_or.ensures ∙ ap (λ o. unwrap_or o (length xs)) f ∙ or_len p xs (length xs) refl in
    record { within = rw e (prefix_len-le-length (λ (x : ℕ). not (ltb c.args.v x)) xs); first = e }
