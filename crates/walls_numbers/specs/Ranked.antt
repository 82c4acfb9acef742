-- What ranking gives where every value is a number (RULES 7.12).
use Rattle.std.specs.Prelude.{ℕ}
use Rattle.base_model.specs.declared.Rect.{Rect}
use Rattle.base_model.specs.declared.Site.{Site}
use Rattle.base_model.specs.declared.Rank.{Rank}
use Rattle.rule_ranks.specs.Ranks.{Ranking, refuses, beyond, ranks, rank_call}
use Rattle.rule_ranks.specs.Orders.{closer_rank}
use Rattle.walls_numbers.specs.Numbers.{one_where}

-- 0 where there is a rank, and where there is none
unfoldable pub ranked_answer : Ranking → ℕ
ranked_answer (refuses e) = e.number
ranked_answer beyond = 0
ranked_answer (ranks k) = 0

-- three zeros where there is none: a rank's divisor is never 0
unfoldable pub no_rank : Rank
no_rank = record { quotient = 0; remainder = 0; divisor = 0 }

unfoldable pub ranked_numbers : Ranking → Rank
ranked_numbers (refuses e) = no_rank
ranked_numbers beyond = no_rank
ranked_numbers (ranks k) = k

pub record LeftRanked : Type 0 where
  pub answer : ℕ
  pub rank : Rank

unfoldable pub rank_on : (across down : ℕ) → Site → Rect → LeftRanked
rank_on across down s r = let o = rank_call across down s r in record { answer = ranked_answer o; rank = ranked_numbers o }

-- 1 where the first is closer
unfoldable pub closer_on : Rank → Rank → ℕ
closer_on a b = one_where (closer_rank a b)
