-- `call_checks::check_places` meets its contract.
use mathlib.Core.Path.{◌≡◌, refl, sym, subst}
use Prim.Native.Nat.{ℕ}
use native.Mathlib.Omega.{arith}
use lib.ListN.{length}
use Rattle.base_model.specs.Answers.{reply_of, said_of}
use Rattle.rule_layouts.specs.Flat.{wholes, placements_of}
use Rattle.call_checks.specs.Parts.{Misplaced}
use Rattle.call_checks.proofs.Placed.{places_many, place_refused, places_pass}
use Rattle.call_checks.proofs.check_places.Goals as goal

pub returns-then-n-gt-PLACES : goal.returns-then-n-gt-PLACES
unfolding reply_of said_of
returns-then-n-gt-PLACES c = λ i e f g.
    let p = c.args.places.now in
    let n : c.place_count-n.result ≡ length (placements_of p.numbers.now p.edges.now) = c.place_count-n.ensures p.numbers.now p.edges.now refl refl in
    places_many i c.args.window p.groups.now p.numbers.now p.edges.now e f g (omega (arith, n, c.if-n-gt-PLACES.true))

pub returns-then-at-n : goal.returns-then-at-n
unfolding reply_of said_of wholes
returns-then-at-n c = λ i e f g.
    let p = c.args.places.now in
    let n : c.place_count-n.result ≡ length (placements_of p.numbers.now p.edges.now) = c.place_count-n.ensures p.numbers.now p.edges.now refl refl in
    let m = subst (λ (k : ℕ). Misplaced c.args.window p.groups.now p.numbers.now p.edges.now k c.unwrap_or-at.result) c.whole_places-whole.ensures
    (subst (λ (r : ℕ). Misplaced c.args.window p.groups.now p.numbers.now p.edges.now c.whole_places-whole.result r) (sym c.unwrap_or-at.ensures)
    c.first_misplaced.ensures) in
    place_refused i c.args.window p.groups.now p.numbers.now p.edges.now e f g
    (omega (arith, n, c.if-n-gt-PLACES.false)) c.unwrap_or-at.result m (omega (arith, n, c.if-at-n.true))

pub returns : goal.returns
unfolding reply_of said_of wholes
returns c = λ i e f g.
    let p = c.args.places.now in
    let n : c.place_count-n.result ≡ length (placements_of p.numbers.now p.edges.now) = c.place_count-n.ensures p.numbers.now p.edges.now refl refl in
    let m = subst (λ (k : ℕ). Misplaced c.args.window p.groups.now p.numbers.now p.edges.now k c.unwrap_or-at.result) c.whole_places-whole.ensures
    (subst (λ (r : ℕ). Misplaced c.args.window p.groups.now p.numbers.now p.edges.now c.whole_places-whole.result r) (sym c.unwrap_or-at.ensures)
    c.first_misplaced.ensures) in
    places_pass i c.args.window p.groups.now p.numbers.now p.edges.now e f g
    (omega (arith, n, c.if-n-gt-PLACES.false)) c.unwrap_or-at.result m (omega (arith, n, c.if-at-n.false))
