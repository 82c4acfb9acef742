-- The answers to the goals of `set_extend::extensions`.
use mathlib.Core.Path.{◌≡◌, sym, ap₂, ◌∙◌}
use mathlib.Core.List.{List}
use native.Mathlib.Omega.{arith}
use lib.ListN.{length, get_or}
use borrow.Author.Tests.{eq-eqb, ne_eqb}
use Rattle.base_laws.proofs.Members.{get_d_member}
use Rattle.ground_rects.specs.Rects.{intersects}
use Rattle.rule_routes.specs.Edges.{Step}
use Rattle.rule_layouts.specs.Flat.{places_in}
use Rattle.set_places.specs.Given.{places_at}
use Rattle.set_extend.specs.Touch.{Trail}
use Rattle.set_extend.specs.Join.{extending}
use Rattle.set_extend.proofs.Joining.{in_group, clear_start, clear_more, no_slot, is_member, in_the_way, joins, look_start, look_barred, look_untouched, look_add}
use Rattle.set_extend.proofs.extensions.Invariants.{touch}
use Rattle.set_extend.proofs.extensions.Goals as goal
use Rattle.set_extend.proofs.extensions.Goals.{then-candidate_touches_witness, else-candidate_touches_witness, then-i-m-via-then-i-m, then-i-m-via-else-i-m+then-intersects}

pub look-init : goal.look-init
look-init c =
    let a = c.args in
    look_start (places_at (length a.list.now) a.places.now) a.set.now
    (λ (steps : List Step). Trail a.window steps a.route.now) (touch a.places.now.edges.now a.mover a.window a.route.now) a.list.now

pub has_slot-requires : goal.has_slot-requires
has_slot-requires c = in_group c.requires.rowed c.look-test.true

pub look-preserved-then-not-has_slot : goal.look-preserved-then-not-has_slot
unfolding places_in
look-preserved-then-not-has_slot c =
    look_barred _ _ _ _ _ _ _ _ c.look.invariant c.look-test.true
    (no_slot _ _ c.look.i (sym (c.has_slot.ensures (length c.args.list.now)) ∙ c.if-not-has_slot.true))

pub loop-j-init : goal.loop-j-init
loop-j-init c = clear_start _ _ _

pub footprint-requires : goal.footprint-requires
footprint-requires c =
    let r = c.requires.rowed in
    let s = c.args.set.now in
    let j = c.loop-j.j in omega (arith, r.eights, r.named (get_or s j 0) (get_d_member s j 0 c.loop-j-test.true))

pub look-preserved-then-i-m : goal.look-preserved-then-i-m
unfolding places_in
look-preserved-then-i-m c =
    look_barred _ _ _ _ _ _ _ _ c.look.invariant c.look-test.true
    (elim c.then-i-m.branch [
      | then-i-m-via-then-i-m w ↦
          is_member _ _ c.look.i c.loop-j.j c.loop-j-test.true (eq-eqb c.look.i (get_or c.args.set.now c.loop-j.j 0) w.if-i-m.true)
      | then-i-m-via-else-i-m+then-intersects w ↦
          in_the_way _ _ c.look.i c.loop-j.j c.loop-j-test.true
          (sym (ap₂ intersects c.footprint-footprint.ensures w.footprint.ensures) ∙ sym w.intersects.ensures ∙ w.if-intersects.true)
    ])

pub loop-j-preserved : goal.loop-j-preserved
unfolding places_in
loop-j-preserved c =
    clear_more _ _ c.look.i c.loop-j.j c.loop-j.invariant c.loop-j-test.true
    (ne_eqb c.look.i (get_or c.args.set.now c.loop-j.j 0) c.if-i-m.false)
    (sym (ap₂ intersects c.footprint-footprint.ensures c.footprint.ensures) ∙ sym c.intersects.ensures ∙ c.if-intersects.false)

pub look-preserved : goal.look-preserved
unfolding places_in
look-preserved c =
    let a = c.args in
    let l = c.look.invariant in
    let touches = λ (steps : List Step) (t : Trail a.window steps a.route.now). rw c.collision.ensures at (sym (c.candidate_touches_witness.ensures steps t)) in
    elim c.if-candidate_touches_witness.branch [
      | then-candidate_touches_witness w ↦
          rw (w.list-is, w.k-is)
          (look_add _ _ _ _ _ _ _ _ l c.look-test.true (omega arith)
          (joins _ _ c.look.i c.loop-j.j c.loop-j.invariant c.loop-j-test.false (sym (c.has_slot.ensures (length a.list.now)) ∙ c.if-not-has_slot.false))
          (λ steps t. touches steps t ∙ w.if-candidate_touches_witness.true))
      | else-candidate_touches_witness w ↦
          rw (w.list-is, w.k-is) (look_untouched _ _ _ _ _ _ _ _ l c.look-test.true (λ steps t. touches steps t ∙ w.if-candidate_touches_witness.false))
    ]

pub returns : goal.returns
unfolding extending places_in
returns c =
    let a = c.args in
    let l = c.look.invariant in
    let e : c.look.i ≡ length a.list.now = omega (arith, l.upto, c.look-test.false) in
    λ steps t. rw e at (l.so steps t)
