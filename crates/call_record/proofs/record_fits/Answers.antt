-- `call_record::record_fits` meets its contract: the parts of 16, in the definition's order.
use mathlib.Core.Path.{◌≡◌, sym, ◌∙◌, ap, ap₂}
use mathlib.Core.Bool.{true, false}
use Prim.Native.Nat.{ℕ, ◌/◌}
use native.Mathlib.Omega.{arith}
use lib.Dec.{leb}
use lib.ListN.{length, take}
use borrow.Author.Tests.{le-leb, lt-leb}
use Rattle.base_laws.specs.Lists.{all_of, below}
use Rattle.rule_calls.specs.RecordCheck.{row_fits}
use Rattle.call_rows.specs.Figures.{figures_fit, cap_of, routes_pass}
use Rattle.call_lists.specs.Lent.{list_passes}
use Rattle.call_record.proofs.Parts.{fails_1, fails_2, fails_3, fails_4, fails_5, comes_to, numbers_tell, record_parts}
use Rattle.rule_layouts.specs.Flat.{places_in}
use Rattle.call_record.proofs.record_fits.Goals as goal

pub returns-then-not-numbers_fit : goal.returns-then-not-numbers_fit
returns-then-not-numbers_fit c block_base allow_base points =
    let a = c.args in
    let n : ℕ = length a.given.now.places.numbers.now / 4 in
    let p : figures_fit a.limits n a.rec ≡ false = sym c.numbers_fit.ensures ∙ c.if-not-numbers_fit.true in
    sym (record_parts a.given.now.query a.limits n a.given.now.places.groups.now a.given.now.places.numbers.now a.given.now.places.edges.now a.rec a.kept.now.lists.now a.kept.now.visited.now
    a.kept.now.layouts.now c.requires.rows.fours c.requires.rows.eights block_base allow_base points
    ∙ fails_1 (figures_fit a.limits n a.rec) (all_of (row_fits n a.kept.now.visited.now) (below a.rec.evaluations)) (all_of (row_fits n a.kept.now.layouts.now) (below a.rec.layouts))
    (routes_pass (cap_of a.given.now.query) (take a.rec.layouts a.rec.routes)) (leb a.rec.lists 6)
    (all_of (list_passes (places_in n a.given.now.places.groups.now a.given.now.places.numbers.now a.given.now.places.edges.now) a.rec a.kept.now.lists.now)
    (below a.rec.lists)) p)

pub rows_fit-requires : goal.rows_fit-requires
rows_fit-requires c =
    let a = c.args in
    let n : ℕ = length a.given.now.places.numbers.now / 4 in
    let p : figures_fit a.limits n a.rec ≡ true = sym c.numbers_fit.ensures ∙ c.if-not-numbers_fit.false in
    let t = numbers_tell a.limits n a.rec p in
    omega (arith, t.visits, c.requires.visited_long)

pub returns-then-not-rows_fit : goal.returns-then-not-rows_fit
returns-then-not-rows_fit c block_base allow_base points =
    let a = c.args in
    let n : ℕ = length a.given.now.places.numbers.now / 4 in
    let p : figures_fit a.limits n a.rec ≡ true = sym c.numbers_fit.ensures ∙ c.if-not-numbers_fit.false in
    let q : all_of (row_fits n a.kept.now.visited.now) (below a.rec.evaluations) ≡ false =
    sym c.rows_fit.ensures ∙ c.if-not-rows_fit.true in
    sym (record_parts a.given.now.query a.limits n a.given.now.places.groups.now a.given.now.places.numbers.now a.given.now.places.edges.now a.rec a.kept.now.lists.now a.kept.now.visited.now
    a.kept.now.layouts.now c.requires.rows.fours c.requires.rows.eights block_base allow_base points
    ∙ fails_2 (figures_fit a.limits n a.rec) (all_of (row_fits n a.kept.now.visited.now) (below a.rec.evaluations)) (all_of (row_fits n a.kept.now.layouts.now) (below a.rec.layouts))
    (routes_pass (cap_of a.given.now.query) (take a.rec.layouts a.rec.routes)) (leb a.rec.lists 6)
    (all_of (list_passes (places_in n a.given.now.places.groups.now a.given.now.places.numbers.now a.given.now.places.edges.now) a.rec a.kept.now.lists.now)
    (below a.rec.lists)) p q)

pub rows_fit-requires-2 : goal.rows_fit-requires-2
rows_fit-requires-2 c =
    let a = c.args in
    let n : ℕ = length a.given.now.places.numbers.now / 4 in
    let p : figures_fit a.limits n a.rec ≡ true = sym c.numbers_fit.ensures ∙ c.if-not-numbers_fit.false in
    let t = numbers_tell a.limits n a.rec p in
    omega (arith, t.shown, c.requires.layouts_long)

pub returns-then-not-rows_fit-2 : goal.returns-then-not-rows_fit-2
returns-then-not-rows_fit-2 c block_base allow_base points =
    let a = c.args in
    let n : ℕ = length a.given.now.places.numbers.now / 4 in
    let p : figures_fit a.limits n a.rec ≡ true = sym c.numbers_fit.ensures ∙ c.if-not-numbers_fit.false in
    let q : all_of (row_fits n a.kept.now.visited.now) (below a.rec.evaluations) ≡ true =
    sym c.rows_fit.ensures ∙ c.if-not-rows_fit.false in
    let r : all_of (row_fits n a.kept.now.layouts.now) (below a.rec.layouts) ≡ false =
    sym c.rows_fit-2.ensures ∙ c.if-not-rows_fit-2.true in
    sym (record_parts a.given.now.query a.limits n a.given.now.places.groups.now a.given.now.places.numbers.now a.given.now.places.edges.now a.rec a.kept.now.lists.now a.kept.now.visited.now
    a.kept.now.layouts.now c.requires.rows.fours c.requires.rows.eights block_base allow_base points
    ∙ fails_3 (figures_fit a.limits n a.rec) (all_of (row_fits n a.kept.now.visited.now) (below a.rec.evaluations)) (all_of (row_fits n a.kept.now.layouts.now) (below a.rec.layouts))
    (routes_pass (cap_of a.given.now.query) (take a.rec.layouts a.rec.routes)) (leb a.rec.lists 6)
    (all_of (list_passes (places_in n a.given.now.places.groups.now a.given.now.places.numbers.now a.given.now.places.edges.now) a.rec a.kept.now.lists.now)
    (below a.rec.lists)) p q r)

pub shared_ref_as_front-routes_fit : goal.shared_ref_as_front-routes_fit
shared_ref_as_front-routes_fit c =
    let a = c.args in
    let n : ℕ = length a.given.now.places.numbers.now / 4 in
    let t = numbers_tell a.limits n a.rec (sym c.numbers_fit.ensures ∙ c.if-not-numbers_fit.false) in
    omega (arith, t.shown, c.requires.results)

pub route_cap-requires : goal.route_cap-requires
route_cap-requires c = c.requires.window

pub routes_fit-requires : goal.routes_fit-requires
routes_fit-requires c =
    let a = c.args in
    let n : ℕ = length a.given.now.places.numbers.now / 4 in
    let p : figures_fit a.limits n a.rec ≡ true = sym c.numbers_fit.ensures ∙ c.if-not-numbers_fit.false in
    let t = numbers_tell a.limits n a.rec p in
    (omega (arith, t.shown, c.requires.results), c.route_cap.ensures.1)

pub returns-then-not-routes_fit : goal.returns-then-not-routes_fit
returns-then-not-routes_fit c block_base allow_base points =
    let a = c.args in
    let n : ℕ = length a.given.now.places.numbers.now / 4 in
    let p : figures_fit a.limits n a.rec ≡ true = sym c.numbers_fit.ensures ∙ c.if-not-numbers_fit.false in
    let q : all_of (row_fits n a.kept.now.visited.now) (below a.rec.evaluations) ≡ true =
    sym c.rows_fit.ensures ∙ c.if-not-rows_fit.false in
    let r : all_of (row_fits n a.kept.now.layouts.now) (below a.rec.layouts) ≡ true =
    sym c.rows_fit-2.ensures ∙ c.if-not-rows_fit-2.false in
    let s : routes_pass (cap_of a.given.now.query) (take a.rec.layouts a.rec.routes) ≡ false =
    ap (λ (x : ℕ). routes_pass x (take a.rec.layouts a.rec.routes)) (sym c.route_cap.ensures.0) ∙ sym c.routes_fit.ensures
    ∙ c.if-not-routes_fit.true in
    sym (record_parts a.given.now.query a.limits n a.given.now.places.groups.now a.given.now.places.numbers.now a.given.now.places.edges.now a.rec a.kept.now.lists.now a.kept.now.visited.now
    a.kept.now.layouts.now c.requires.rows.fours c.requires.rows.eights block_base allow_base points
    ∙ fails_4 (figures_fit a.limits n a.rec) (all_of (row_fits n a.kept.now.visited.now) (below a.rec.evaluations)) (all_of (row_fits n a.kept.now.layouts.now) (below a.rec.layouts))
    (routes_pass (cap_of a.given.now.query) (take a.rec.layouts a.rec.routes)) (leb a.rec.lists 6)
    (all_of (list_passes (places_in n a.given.now.places.groups.now a.given.now.places.numbers.now a.given.now.places.edges.now) a.rec a.kept.now.lists.now)
    (below a.rec.lists)) p q r s)

pub returns-then-rec-gt-MOST_LISTS : goal.returns-then-rec-gt-MOST_LISTS
returns-then-rec-gt-MOST_LISTS c block_base allow_base points =
    let a = c.args in
    let n : ℕ = length a.given.now.places.numbers.now / 4 in
    let p : figures_fit a.limits n a.rec ≡ true = sym c.numbers_fit.ensures ∙ c.if-not-numbers_fit.false in
    let q : all_of (row_fits n a.kept.now.visited.now) (below a.rec.evaluations) ≡ true =
    sym c.rows_fit.ensures ∙ c.if-not-rows_fit.false in
    let r : all_of (row_fits n a.kept.now.layouts.now) (below a.rec.layouts) ≡ true =
    sym c.rows_fit-2.ensures ∙ c.if-not-rows_fit-2.false in
    let s : routes_pass (cap_of a.given.now.query) (take a.rec.layouts a.rec.routes) ≡ true =
    ap (λ (x : ℕ). routes_pass x (take a.rec.layouts a.rec.routes)) (sym c.route_cap.ensures.0) ∙ sym c.routes_fit.ensures
    ∙ c.if-not-routes_fit.false in
    sym (record_parts a.given.now.query a.limits n a.given.now.places.groups.now a.given.now.places.numbers.now a.given.now.places.edges.now a.rec a.kept.now.lists.now a.kept.now.visited.now
    a.kept.now.layouts.now c.requires.rows.fours c.requires.rows.eights block_base allow_base points
    ∙ fails_5 (figures_fit a.limits n a.rec) (all_of (row_fits n a.kept.now.visited.now) (below a.rec.evaluations)) (all_of (row_fits n a.kept.now.layouts.now) (below a.rec.layouts))
    (routes_pass (cap_of a.given.now.query) (take a.rec.layouts a.rec.routes)) (leb a.rec.lists 6)
    (all_of (list_passes (places_in n a.given.now.places.groups.now a.given.now.places.numbers.now a.given.now.places.edges.now) a.rec a.kept.now.lists.now)
    (below a.rec.lists)) p q r s (lt-leb a.rec.lists 6 c.if-rec-gt-MOST_LISTS.true))

pub lists_fit-requires : goal.lists_fit-requires
lists_fit-requires c =
    let a = c.args in
    let n : ℕ = length a.given.now.places.numbers.now / 4 in
    let p : figures_fit a.limits n a.rec ≡ true = sym c.numbers_fit.ensures ∙ c.if-not-numbers_fit.false in
    let t = numbers_tell a.limits n a.rec p in
    record { rows = c.requires.rows; long = c.requires.lists_long; deep = c.if-rec-gt-MOST_LISTS.false; places = t.places }

pub returns : goal.returns
returns c block_base allow_base points =
    let a = c.args in
    let n : ℕ = length a.given.now.places.numbers.now / 4 in
    let p : figures_fit a.limits n a.rec ≡ true = sym c.numbers_fit.ensures ∙ c.if-not-numbers_fit.false in
    let q : all_of (row_fits n a.kept.now.visited.now) (below a.rec.evaluations) ≡ true =
    sym c.rows_fit.ensures ∙ c.if-not-rows_fit.false in
    let r : all_of (row_fits n a.kept.now.layouts.now) (below a.rec.layouts) ≡ true =
    sym c.rows_fit-2.ensures ∙ c.if-not-rows_fit-2.false in
    let s : routes_pass (cap_of a.given.now.query) (take a.rec.layouts a.rec.routes) ≡ true =
    ap (λ (x : ℕ). routes_pass x (take a.rec.layouts a.rec.routes)) (sym c.route_cap.ensures.0) ∙ sym c.routes_fit.ensures
    ∙ c.if-not-routes_fit.false in
    c.lists_fit.ensures
    ∙ sym (record_parts a.given.now.query a.limits n a.given.now.places.groups.now a.given.now.places.numbers.now a.given.now.places.edges.now a.rec a.kept.now.lists.now
    a.kept.now.visited.now a.kept.now.layouts.now c.requires.rows.fours c.requires.rows.eights block_base allow_base points
    ∙ comes_to (figures_fit a.limits n a.rec) (all_of (row_fits n a.kept.now.visited.now) (below a.rec.evaluations)) (all_of (row_fits n a.kept.now.layouts.now) (below a.rec.layouts))
    (routes_pass (cap_of a.given.now.query) (take a.rec.layouts a.rec.routes)) (leb a.rec.lists 6)
    (all_of (list_passes (places_in n a.given.now.places.groups.now a.given.now.places.numbers.now a.given.now.places.edges.now) a.rec a.kept.now.lists.now)
    (below a.rec.lists)) p q r s (le-leb a.rec.lists 6 c.if-rec-gt-MOST_LISTS.false))
