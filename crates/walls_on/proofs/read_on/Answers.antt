-- `walls_on::read_on` meets its contract: refused, both numbers are 0; accepted, they tell where the route is.
use mathlib.Core.Path.{sym, ◌∙◌, ap}
use mathlib.Core.Bool.{not}
use native.Mathlib.Omega.{arith}
use Rattle.std.specs.Prelude.{Result}
use lib.ListN.{length, get_or, take}
use lib.Seq.{length-take-le}
use Rattle.base_laws.specs.Lists.{total, is_some}
use Rattle.base_model.specs.Answers.{first, reply_of}
use Rattle.base_model.specs.declared.Record.{Record}
use Rattle.base_model.specs.declared.Refusal.{Refusal}
use Rattle.rule_calls.specs.Areas.{Store, store_in}
use Rattle.rule_calls.specs.Calls.{read_checks}
use Rattle.set_places.specs.Given.{inputs_in}
use Rattle.call_checks.proofs.Passed.{done_passes}
use Rattle.call_read.specs.Told.{number_in}
use Rattle.call_read.proofs.Outcome.{stands_kept}
use Rattle.walls_numbers.specs.Lent.{record_in}
use Rattle.walls_numbers.proofs.Fifty.{lent_at_most}
use Rattle.walls_numbers.proofs.Left.{read_place, place_refused, place_accepted}
use Rattle.walls_on.proofs.read_on.Goals as goal

pub slice_bounds-lent-end : goal.slice_bounds-lent-end
slice_bounds-lent-end c =
    sym (length-take-le c.visited_lent-room.result c.args.kept.now.visited.now
    (omega (
      arith,
      c.visited_lent-room.ensures,
      lent_at_most (length c.args.rec.now) (length c.args.kept.now.visited.now),
    )))

pub returns-in-Err : goal.returns-in-Err
unfolding reply_of is_some number_in
returns-in-Err c =
    let a = c.args in
    let i = inputs_in a.given.now in
    let k = a.kept.now in
    let s : Store = store_in k.lists.now (take c.visited_lent-room.result k.visited.now) k.layouts.now k.points.now in
    let o = reply_of c.read_checks-answer.result in
    read_place i a.limits a.rec.now a.k k.lists.now k.visited.now k.layouts.now k.points.now c.visited_lent-room.result c.visited_lent-room.ensures o
    (c.read_checks-answer.ensures ∙ ap (λ (x : Record). first (read_checks i a.limits x a.k s)) c.record_in-held.ensures)
    ∙ place_refused o (record_in a.rec.now) a.k _ _ (ap (λ (x : Result _ Refusal). not (is_some (reply_of x))) c.in-Err.is)
    (c.from.ensures ∙ sym (ap (λ (x : Result _ Refusal). number_in (reply_of x)) c.in-Err.is)) c.index_of.ensures

pub first_point-requires : goal.first_point-requires
first_point-requires c =
    let a = c.args in
    let k = a.kept.now in
    let s : Store = store_in k.lists.now (take c.visited_lent-room.result k.visited.now) k.layouts.now k.points.now in
    let kept = stands_kept (inputs_in a.given.now) a.limits c.record_in-held.result a.k s (done_passes c.read_checks-answer.ensures c.in_default.is) in
    (kept.named, omega (arith, kept.few))

pub point_count-requires : goal.point_count-requires
point_count-requires c =
    let a = c.args in
    let k = a.kept.now in
    let s : Store = store_in k.lists.now (take c.visited_lent-room.result k.visited.now) k.layouts.now k.points.now in
    (stands_kept (inputs_in a.given.now) a.limits c.record_in-held.result a.k s (done_passes c.read_checks-answer.ensures c.in_default.is)).named

pub returns : goal.returns
unfolding reply_of is_some
returns c =
    let a = c.args in
    let i = inputs_in a.given.now in
    let k = a.kept.now in
    let s : Store = store_in k.lists.now (take c.visited_lent-room.result k.visited.now) k.layouts.now k.points.now in
    let o = reply_of c.read_checks-answer.result in
    read_place i a.limits a.rec.now a.k k.lists.now k.visited.now k.layouts.now k.points.now c.visited_lent-room.result c.visited_lent-room.ensures o
    (c.read_checks-answer.ensures ∙ ap (λ (x : Record). first (read_checks i a.limits x a.k s)) c.record_in-held.ensures)
    ∙ place_accepted o (record_in a.rec.now) a.k _ _ _ (ap (λ (x : Result _ Refusal). not (is_some (reply_of x))) c.in_default.is) c.index_of.ensures
    (c.first_point.ensures ∙ ap (λ (x : Record). total (take a.k x.routes)) c.record_in-held.ensures)
    (c.point_count.ensures ∙ ap (λ (x : Record). get_or x.routes a.k 0) c.record_in-held.ensures)
