-- `digit_count`: the digits counted and those of the front are one more than all. The measure is the front.
use Rattle.text_forms.proofs.Puts.{Counted}
use Rattle.text_fields.proofs.digit_count.Given as goal

abbrev pub invariant-loop-v : goal.invariant-loop-v
invariant-loop-v l = Counted l.n l.v l.k

abbrev pub decreases-loop-v : goal.decreases-loop-v
decreases-loop-v l = l.v
