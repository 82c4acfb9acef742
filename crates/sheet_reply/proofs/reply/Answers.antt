-- `reply`: no whole text that stands in the area, and the answer to one that does.
use Prim.Native.Nat.{◌≤◌}
use mathlib.Core.Path.{◌≡◌}
use mathlib.Core.Option.{none}
use lib.ListN.{length}
use Rattle.sheet_texts.specs.Parts.{enough}
use borrow.Author.Rules.{rules}
use Rattle.sheet_reply.specs.Replies.{text_in}
use Rattle.sheet_reply.proofs.Replying.{no_text, beyond, refused, answered_whole}
use Rattle.sheet_reply.proofs.reply.Goals.{in_default-via-in-Whole+else-n-area, in_default-via-in_default}
use Rattle.sheet_reply.proofs.reply.Goals as goal

pub returns-in-Whole-clause-replies : goal.returns-in-Whole-clause-replies
returns-in-Whole-clause-replies c =
    (answered_whole c.args.input c.args.area.now c.args.out.now c.answer.new.out c.unwrap.result
    _ c.answer.result c.in-Whole.is c.if-n-area.true c.unwrap.ensures c.answer.ensures).0

pub returns-in_default : goal.returns-in_default
returns-in_default c =
    let room : enough ≤ length c.args.out.now = search rules in
    let nothing : text_in c.args.input c.args.area.now ≡ none = elim c.in_default.branch [
      | in_default-via-in-Whole+else-n-area w ↦ beyond _ _ _ w.in-Whole.is w.if-n-area.false
      | in_default-via-in_default w ↦ no_text _ _ w.in_default.not-Whole
    ] in
    let x = refused c.args.input c.args.area.now c.args.out.now c.write_refused.new.out c.write_refused.result nothing room c.write_refused.ensures in
    record { replies = x.0; in_front = x.1 }
