-- The answers to the goals of `call_lists::lists_fit`.
use mathlib.Core.Path.{◌≡◌, refl, sym, ◌∙◌}
use Prim.Native.Nat.{◌<◌}
use native.Mathlib.Omega.{arith}
use lib.ListN.{get_or}
use lib.Seq.{get_or-take, length-take-le}
use Rattle.call_lists.proofs.Built.{built_none}
use Rattle.call_lists.proofs.Turns.{head_turns_away, entries_turn_away, next_inside, entries_inside, last_passes, one_more}
use Rattle.rule_layouts.specs.Flat.{places_in}
use Rattle.set_places.specs.Given.{places_at}
use Rattle.call_lists.proofs.lists_fit.Goals as goal

pub loop-k-init : goal.loop-k-init
loop-k-init c =
    let a = c.args in built_none (places_at a.n a.places.now) a.rec a.lists.now _ refl

pub returns-then-not-head_fits : goal.returns-then-not-head_fits
unfolding places_in
returns-then-not-head_fits c =
    let a = c.args in
    let h = rw c.stood_on.ensures at c.head_fits.ensures in
    head_turns_away (places_at a.n a.places.now) a.rec a.lists.now c.loop-k.members c.loop-k.k c.loop-k.invariant c.requires.deep c.loop-k-test.true
    (sym h ∙ c.if-not-head_fits.true)

pub slice_bounds-entries_join-end-in-loop-k : goal.slice_bounds-entries_join-end-in-loop-k
unfolding places_in
slice_bounds-entries_join-end-in-loop-k c =
    let a = c.args in
    let h = rw c.stood_on.ensures at c.head_fits.ensures in
    omega (
      arith,
      entries_inside (places_at a.n a.places.now) a.rec a.lists.now c.loop-k.members c.loop-k.k c.loop-k.invariant c.requires.deep c.loop-k-test.true
          c.requires.places c.requires.long (sym h ∙ c.if-not-head_fits.false),
    )

pub entries_join-requires : goal.entries_join-requires
unfolding places_in
entries_join-requires c =
    let k = c.loop-k.k in
    let xs = c.loop-k.members in
    record {
      rows = c.requires.rows;
      set = record {
        named = λ j h.
            let i : j < k = omega (arith, length-take-le k xs (omega (arith, c.loop-k.invariant.size, c.requires.deep, c.loop-k-test.true))) in
            omega (arith, get_or-take k xs j 0 i, c.loop-k.invariant.placed j i);
      };
    }

pub returns-then-not-entries_join : goal.returns-then-not-entries_join
unfolding places_in
returns-then-not-entries_join c =
    let a = c.args in
    entries_turn_away (places_at a.n a.places.now) a.rec a.lists.now c.loop-k.members c.loop-k.k c.loop-k.invariant c.requires.deep c.loop-k-test.true
    c.requires.places (sym c.entries_join.ensures ∙ c.if-not-entries_join.true)

pub returns-then-next-eq0 : goal.returns-then-next-eq0
unfolding places_in
returns-then-next-eq0 c =
    let a = c.args in
    let h = rw c.stood_on.ensures at c.head_fits.ensures in
    last_passes (places_at a.n a.places.now) a.rec a.lists.now c.loop-k.members c.loop-k.k c.loop-k.invariant c.requires.deep c.loop-k-test.true
    c.requires.places c.requires.long (sym h ∙ c.if-not-head_fits.false) (sym c.entries_join.ensures ∙ c.if-not-entries_join.false) c.if-next-eq0.true

pub bounds-lists-at : goal.bounds-lists-at
unfolding places_in
bounds-lists-at c =
    let a = c.args in
    let h = rw c.stood_on.ensures at c.head_fits.ensures in
    let e = sym h ∙ c.if-not-head_fits.false in
    let next : get_or a.rec.nexts c.loop-k.k 0 ≡ 0 → ⊥ = c.if-next-eq0.false in
    omega (
      arith,
      entries_inside (places_at a.n a.places.now) a.rec a.lists.now c.loop-k.members c.loop-k.k c.loop-k.invariant c.requires.deep c.loop-k-test.true
          c.requires.places c.requires.long e,
      next_inside (places_at a.n a.places.now) a.rec a.lists.now c.loop-k.members c.loop-k.k c.loop-k.invariant c.requires.deep c.loop-k-test.true
          c.requires.places c.requires.long e,
    )

pub loop-k-preserved : goal.loop-k-preserved
unfolding places_in
loop-k-preserved c =
    let a = c.args in
    let h = rw c.stood_on.ensures at c.head_fits.ensures in
    one_more (places_at a.n a.places.now) a.rec a.lists.now c.loop-k.members c.loop-k.k c.loop-k.invariant c.requires.deep c.loop-k-test.true
    c.requires.places c.requires.long (sym h ∙ c.if-not-head_fits.false) (sym c.entries_join.ensures ∙ c.if-not-entries_join.false) c.if-next-eq0.false
