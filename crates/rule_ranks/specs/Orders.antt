-- Which of two ranks is closer, and that this is an order to sort by (RULES 15.8, 15.9).
use Rattle.std.specs.Prelude.{ℕ, ◌+◌, ◌*◌, ◌≡◌, Bool, true, false, not, ◌&&◌, ◌||◌, leb, ltb, eqb}
use Rattle.base_model.specs.declared.Rect.{Rect}
use Rattle.base_model.specs.declared.Site.{Site}
use Rattle.base_model.specs.declared.Rank.{Rank}
use Rattle.rule_ranks.specs.Ranks.{ranks, rank_call}

-- the remainder is below the divisor, and the divisor is no larger than on the largest map: 4 times the squared length of its diagonal
unfoldable pub is_rank : Rank → Bool
is_rank k = ltb k.remainder k.divisor && leb k.divisor 536870912

-- by the whole numbers, and where those are equal by the rests, each times the other's divisor
unfoldable pub lower : Rank → Rank → Bool
lower a b =
    ltb a.quotient b.quotient
    || eqb a.quotient b.quotient && ltb (a.remainder * b.divisor) (b.remainder * a.divisor)

-- three numbers that are no rank count as farther than every rank
unfoldable pub closer_rank : Rank → Rank → Bool
closer_rank a b = is_rank a && (not (is_rank b) || lower a b)

-- ---- what holds of it
-- what the call gives is a rank
unfoldable pub RankIsRank : Type 0
RankIsRank = (across down : ℕ) (s : Site) (r : Rect) (k : Rank) → rank_call across down s r ≡ ranks k → is_rank k ≡ true

-- the fraction times its divisor
unfoldable pub whole : Rank → ℕ
whole k = k.quotient * k.divisor + k.remainder

-- of two ranks the first is closer exactly when its fraction is the lower one: whole a / divisor a < whole b / divisor b
unfoldable pub ByFraction : Type 0
ByFraction = (a b : Rank) → is_rank a ≡ true → is_rank b ≡ true → closer_rank a b ≡ ltb (whole a * b.divisor) (whole b * a.divisor)

-- none is closer than itself
unfoldable pub Irreflexive : Type 0
Irreflexive = (a : Rank) → closer_rank a a ≡ false

unfoldable pub Transitive : Type 0
Transitive = (a b c : Rank) → closer_rank a b ≡ true → closer_rank b c ≡ true → closer_rank a c ≡ true

-- where neither of two is closer they sort alike: whatever is closer than the one, or farther, is so with the other
unfoldable pub Ties : Type 0
Ties =
    (a b : Rank) → closer_rank a b ≡ false → closer_rank b a ≡ false
    → (c : Rank) → (closer_rank a c ≡ closer_rank b c) × (closer_rank c a ≡ closer_rank c b)

-- and they are at the same distance, or neither is a rank
unfoldable pub TiesEqual : Type 0
TiesEqual =
    (a b : Rank) → closer_rank a b ≡ false → closer_rank b a ≡ false
    → (is_rank a ≡ is_rank b) × (is_rank a ≡ true → whole a * b.divisor ≡ whole b * a.divisor)
