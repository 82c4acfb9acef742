-- `within_caps`: states first, then the window.
use Rattle.std.proofs.Common.{rules}
use Rattle.sheet_words.specs.Caps.{caps_left}
use Rattle.sheet_words.proofs.within_caps.Goals as goal

pub returns-then-fixed-le-STATES : goal.returns-then-fixed-le-STATES
unfolding caps_left
returns-then-fixed-le-STATES c = search rules

pub returns-else-fixed-le-STATES : goal.returns-else-fixed-le-STATES
unfolding caps_left
returns-else-fixed-le-STATES c = search rules
