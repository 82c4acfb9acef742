-- What the calls of this crate come to: from a state that record and areas hold to one that they hold after.
use Rattle.std.specs.Prelude.{ℕ}
use Rattle.base_model.specs.declared.Record.{Record}
use Rattle.rule_search.specs.State.{State}
use Rattle.rule_search.specs.Frames.{step, advance}
use Rattle.rule_calls.specs.Areas.{Store}
use Rattle.search_turn.specs.Portion.{Ripe}
use Rattle.search_steps.specs.Terms.{Terms, plan_in, Holds}

-- n portions lead from record r and areas a to record r' and areas a'
abbrev pub StepsTo : Terms → ℕ → Record → Store → Record → Store → Type 0
StepsTo t n r a r' a' = (s : State) (a₀ : Store) → Holds t a₀ s r a → Holds t a₀ (step (plan_in t) n s) r' a'

-- the same for one evaluation of the pending set
abbrev pub VisitsTo : Terms → Record → Store → Record → Store → Type 0
VisitsTo t r a r' a' = (s : State) (a₀ : Store) → Holds t a₀ s r a → Ripe (plan_in t) s → Holds t a₀ (advance (plan_in t) s) r' a'
