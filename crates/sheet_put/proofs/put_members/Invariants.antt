-- `put_members`: the first k members are written.
use mathlib.Core.List.{map}
use lib.ListN.{length}
use Rattle.text_forms.specs.Forms.{decimal}
use Rattle.sheet_texts.specs.Texts.{spaced}
use Rattle.sheet_put.proofs.Left.{Reached}
use Rattle.sheet_texts.proofs.Texts.{member_text}
use Rattle.sheet_put.proofs.put_members.Given as goal

abbrev pub invariant-loop-k : goal.invariant-loop-k
invariant-loop-k l = Reached (spaced (map decimal l.row)) (member_text l.row) (length l.row) l.initial.out l.at l.out l.i l.k
