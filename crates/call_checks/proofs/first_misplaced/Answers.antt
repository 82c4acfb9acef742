-- `call_checks::first_misplaced` meets its contract: the index found is the first at which a placement does not pass.
use mathlib.Core.Path.{◌≡◌}
use mathlib.Core.Bool.{true, false}
use Prim.Native.Nat.{ℕ}
use Rattle.std.proofs.Common.{rules}
use Rattle.std.proofs.lemmas.Iterator.{first_from_Range}
use Rattle.rule_layouts.specs.Flat.{placement_at}
use Rattle.rule_calls.specs.Checks.{placement_fits}
use Rattle.call_checks.proofs.Placed.{misplaced_at}
use Rattle.call_checks.proofs.first_misplaced.Goals as goal

pub returns : goal.returns
returns c =
    let p = c.args.places.now in
    let fits = λ (k : ℕ). placement_fits c.args.window p.groups.now (placement_at p.numbers.now p.edges.now k) in
    misplaced_at c.args.window p.groups.now p.numbers.now p.edges.now c.args.n c.find.result
    (first_from_Range _ _ _ c.find.result (λ (k : ℕ). fits k ≡ false) (λ (k : ℕ). fits k ≡ true) c.find.ensures.ran (λ x q k. search rules) (λ x q k. search rules))
