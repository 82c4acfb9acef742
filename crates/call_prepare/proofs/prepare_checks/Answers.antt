-- `call_prepare::prepare_checks` meets its contract: each test is the definition's, in its order.
use Rattle.std.proofs.Common.{◌≡◌, ◌*◌, true, arith}
use Rattle.std.proofs.lemmas.Grind.{common_steps}
use Rattle.base_model.specs.Answers.{reply_of, said_of, ask, first}
use Rattle.ground_rects.specs.Windows.{window_fits}
use Rattle.ground_baseline.specs.Baseline.{map_fits}
use Rattle.ground_baseline.proofs.Marks.{mapped}
use Rattle.rule_calls.specs.Calls.{prepare_checks}
use Rattle.call_prepare.specs.Prepare.{preparation_in}
use Rattle.call_prepare.proofs.Marking.{window_wide}
use Rattle.call_prepare.proofs.prepare_checks.Goals as goal

pub returns-in_err-ask : goal.returns-in_err-ask
unfolding prepare_checks reply_of said_of ask first
returns-in_err-ask c = λ b a e h. grind (arith, common_steps, c.from_residual.ensures, c.in_err-ask.was, c.ask.ensures)

pub returns-in_err-ask-2 : goal.returns-in_err-ask-2
unfolding prepare_checks reply_of said_of ask first
returns-in_err-ask-2 c = λ b a e h. grind (arith, common_steps, c.from_residual-in_err-ask-2.ensures, c.in_err-ask-2.was, c.ask-2.ensures, c.ask.ensures, c.in_ok-ask.was)

pub returns-in_err-ask-3 : goal.returns-in_err-ask-3
unfolding prepare_checks reply_of said_of ask first
returns-in_err-ask-3 c = λ b a e h. grind (
  arith,
  common_steps,
  c.from_residual-in_err-ask-3.ensures,
  c.in_err-ask-3.was,
  c.ask-3.ensures,
  c.ask.ensures,
  c.in_ok-ask.was,
  c.ask-2.ensures,
  c.in_ok-ask-2.was,
)

pub returns-in_err-ask-4 : goal.returns-in_err-ask-4
unfolding prepare_checks reply_of said_of ask first
returns-in_err-ask-4 c = λ b a e h. grind (
  arith,
  common_steps,
  c.from_residual-in_err-ask-4.ensures,
  c.in_err-ask-4.was,
  c.ask-4.ensures,
  c.ask.ensures,
  c.in_ok-ask.was,
  c.ask-2.ensures,
  c.in_ok-ask-2.was,
  c.ask-3.ensures,
  c.in_ok-ask-3.was,
)

pub returns-in_err-ask-5 : goal.returns-in_err-ask-5
unfolding prepare_checks reply_of said_of ask first
returns-in_err-ask-5 c = λ b a e h. grind (
  arith,
  common_steps,
  c.from_residual-in_err-ask-5.ensures,
  c.in_err-ask-5.was,
  c.ask-5.ensures,
  c.ask.ensures,
  c.in_ok-ask.was,
  c.ask-2.ensures,
  c.in_ok-ask-2.was,
  c.ask-3.ensures,
  c.in_ok-ask-3.was,
  c.ask-4.ensures,
  c.in_ok-ask-4.was,
)

pub overflow_mul-asked : goal.overflow_mul-asked
overflow_mul-asked c =
    let m : map_fits (preparation_in c.args.asked.now).map ≡ true = grind (arith, common_steps, c.map_fits-mapped.ensures, c.ask.ensures, c.in_ok-ask.was) in
    let k = mapped (preparation_in c.args.asked.now).map m in omega arith

pub overflow_mul-asked-2 : goal.overflow_mul-asked-2
overflow_mul-asked-2 c =
    let m : map_fits (preparation_in c.args.asked.now).map ≡ true = grind (arith, common_steps, c.map_fits-mapped.ensures, c.ask.ensures, c.in_ok-ask.was) in
    let k = mapped (preparation_in c.args.asked.now).map m in omega arith

pub centres-requires : goal.centres-requires
centres-requires c =
    let q = preparation_in c.args.asked.now in
    let m : map_fits q.map ≡ true = grind (arith, common_steps, c.map_fits-mapped.ensures, c.ask.ensures, c.in_ok-ask.was) in
    let f : window_fits (8 * q.map.across) (8 * q.map.down) q.window ≡ true = grind (arith, common_steps, c.window_fits-wide.ensures, c.ask-2.ensures, c.in_ok-ask-2.was) in
    window_wide q.map q.window m f

pub work_fits-long-requires : goal.work_fits-long-requires
work_fits-long-requires c =
    let q = preparation_in c.args.asked.now in
    let m : map_fits q.map ≡ true = grind (arith, common_steps, c.map_fits-mapped.ensures, c.ask.ensures, c.in_ok-ask.was) in
    let f : window_fits (8 * q.map.across) (8 * q.map.down) q.window ≡ true = grind (arith, common_steps, c.window_fits-wide.ensures, c.ask-2.ensures, c.in_ok-ask-2.was) in
    window_wide q.map q.window m f

pub returns : goal.returns
unfolding prepare_checks reply_of said_of ask first
returns c = λ b a e h. grind (
  arith,
  common_steps,
  e,
  c.ask-6.ensures,
  c.ask.ensures,
  c.in_ok-ask.was,
  c.ask-2.ensures,
  c.in_ok-ask-2.was,
  c.ask-3.ensures,
  c.in_ok-ask-3.was,
  c.ask-4.ensures,
  c.in_ok-ask-4.was,
  c.ask-5.ensures,
  c.in_ok-ask-5.was,
)
