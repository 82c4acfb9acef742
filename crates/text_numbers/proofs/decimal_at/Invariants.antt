-- `decimal_at`: what has been read up to i is a number up to max, and its digits are the text so far. It stops where no digit goes on.
use Rattle.text_forms.proofs.Places.{Taking}
use Rattle.text_numbers.proofs.decimal_at.Given as goal

abbrev pub invariant-loop-i : goal.invariant-loop-i
invariant-loop-i l = Taking l.s l.at l.max l.v l.i
