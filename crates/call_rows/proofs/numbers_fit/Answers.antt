-- `call_rows::numbers_fit` meets its contract: RUNNING is the number of the reason Running.
use Rattle.std.proofs.Common.{rules}
use Rattle.rule_calls.specs.Areas.{number_of}
use Rattle.rule_calls.specs.RecordCheck.{layouts_fit}
use Rattle.call_rows.specs.Figures.{figures_fit}
use Rattle.call_rows.proofs.numbers_fit.Goals as goal

pub returns-else-rec-limits-3 : goal.returns-else-rec-limits-3
unfolding figures_fit layouts_fit number_of
returns-else-rec-limits-3 c = search rules
