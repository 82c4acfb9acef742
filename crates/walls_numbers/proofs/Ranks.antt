-- Ranks as numbers, computed: a rank, no rank and each refusal leave an answer and three numbers, and closer is 1 or 0.
use Prim.Native.Nat.{ℕ}
use mathlib.Core.Path.{◌≡◌, refl}
use mathlib.Core.List.{List, [], ◌∷◌, map}
use Rattle.base_model.specs.declared.Rank.{Rank}
use Rattle.rule_ranks.proofs.Rows.{computing, site, box, three}
use Rattle.walls_numbers.specs.Numbers.{one_where}
use Rattle.walls_numbers.specs.Ranked.{ranked_answer, no_rank, ranked_numbers, LeftRanked, rank_on, closer_on}

unfoldable pub leaves : (answer quotient remainder divisor : ℕ) → LeftRanked
leaves a q r d = record { answer = a; rank = three q r d }

-- what is got beside what is wanted
unfoldable pub ranking : List (LeftRanked × LeftRanked)
unfolding computing
ranking =
    -- between the ends of an entrance ten pixels long, and beside its first end
    (rank_on 4 4 (site 12 12 20 18 6) (box 15 12 20 15), leaves 0 4 164 400)
    ∷ (rank_on 4 4 (site 12 12 20 18 6) (box 8 9 13 12), leaves 0 4 2 4)
    -- beyond the radius: accepted, and three zeros
    ∷ (rank_on 4 4 (site 12 12 20 18 6) (box 26 4 31 7), leaves 0 0 0 0)
    -- refused: the number, and three zeros
    ∷ (rank_on 0 4 (site 12 12 20 18 6) (box 15 12 20 15), leaves 1 0 0 0)
    ∷ (rank_on 4 4 (site 12 12 12 12 6) (box 15 12 20 15), leaves 22 0 0 0)
    ∷ (rank_on 4 4 (site 12 12 20 18 6) (box 15 12 15 15), leaves 15 0 0 0)
    ∷ []

pub ranked : map (λ (r : LeftRanked × LeftRanked). r.0) ranking ≡ map (λ (r : LeftRanked × LeftRanked). r.1) ranking
unfolding computing leaves ranking ranked_answer no_rank ranked_numbers rank_on
ranked = refl

-- 4 164/400 is closer than 4 2/4, not the other way round, and not than itself; zeros are farthest
pub compared : map (λ (r : Rank × Rank). closer_on r.0 r.1) (
    (three 4 164 400, three 4 2 4) ∷ (three 4 2 4, three 4 164 400) ∷ (three 4 2 4, three 4 2 4) ∷ (three 4 2 4, three 0 0 0) ∷ (three 0 0 0, three 4 2 4) ∷ []
    ) ≡ 1 ∷ 0 ∷ 0 ∷ 1 ∷ 0 ∷ []
unfolding computing one_where closer_on
compared = refl
