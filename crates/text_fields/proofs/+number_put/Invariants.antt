-- `number_put`: the front is written first, the last digit after it. It ends because the front is smaller.
use Rattle.text_fields.proofs.+number_put.Given as goal

abbrev pub decreases-number_put : goal.decreases-number_put
decreases-number_put l = l.n
