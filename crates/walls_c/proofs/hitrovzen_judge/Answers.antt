-- `walls_c::hitrovzen_judge` meets its contract: the judgement is told as four numbers.
use mathlib.Core.Path.{◌≡◌, refl, sym, ◌∙◌, ap}
use Rattle.std.specs.Prelude.{Result, Ok, Err}
use Rattle.base_model.specs.Answers.{reply_of}
use Rattle.base_model.specs.declared.Judged.{Judged}
use Rattle.base_model.specs.declared.Refusal.{Refusal}
use Rattle.base_model.specs.declared.Query.{Query}
use Rattle.rule_layouts.specs.Flat.{inputs_of}
use Rattle.rule_calls.specs.Areas.{Work, work_in}
use Rattle.rule_calls.specs.Calls.{judge_call, judgement_of}
use Rattle.call_read.specs.Told.{number_in, index_in}
use Rattle.walls_numbers.specs.Numbers.{judged_answer, judged_index}
use Rattle.walls_numbers.proofs.Left.{judge_left}
use Rattle.walls_numbers.proofs.Signed.{query_back}
use Rattle.walls_c.proofs.hitrovzen_judge.Goals as goal

-- the number and the index of a judgement are those of its answer
judged_number : (r : Result Judged Refusal) → number_in (reply_of r) ≡ judged_answer (judgement_of r)
unfolding number_in reply_of judged_answer judgement_of
judged_number (Ok j) = refl
judged_number (Err e) = refl

judged_index_is : (r : Result Judged Refusal) → index_in (reply_of r) ≡ judged_index (judgement_of r)
unfolding index_in reply_of judged_index judgement_of
judged_index_is (Ok j) = refl
judged_index_is (Err e) = refl

pub returns : goal.returns
returns c =
    let a = c.args in
    let f = c.ranges in
    let q = c.query_from-query.ensures
    ∙ query_back a.window_left a.window_top a.window_right a.window_bottom f.window_left f.window_top
    f.window_right f.window_bottom
    a.start_x a.start_y a.end_x a.end_y a.block_left a.block_top a.block_right a.block_bottom
    a.allow_given a.allow_left a.allow_top a.allow_right a.allow_bottom in
    let w : Work = work_in a.counts.now a.map.now a.queue.now a.predecessors.now a.route.now in
    judge_left a.steps.now _ a.selection.now w _ _ _ _ _
    (ap (λ (x : Query). judge_call a.steps.now
    (inputs_of (x) a.groups.now a.numbers.now a.edges.now a.block_base.now a.allow_base.now) a.selection.now w)
    (sym q) ∙ c.judge_in-judged.ensures)
    (c.number_of.ensures ∙ judged_number c.judge_in-judged.result) (c.index_of.ensures ∙ judged_index_is c.judge_in-judged.result) c.verdict_in.ensures c.ground_in.ensures
