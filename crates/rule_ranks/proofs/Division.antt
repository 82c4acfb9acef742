-- A rank is its measure's numerator, divided with a remainder, and its three numbers count as a rank.
use mathlib.Core.Path.{refl}
use native.Mathlib.Nat.{mod-lt, div-add-mod'}
use borrow.Author.Tests.{lt-ltb, le-leb}
use Rattle.base_laws.proofs.Members.{both_true}
use Rattle.rule_ranks.specs.Measures.{measure_of}
use Rattle.rule_ranks.specs.Ranks.{rank_of, RankDivides}
use Rattle.rule_ranks.specs.Sizes.{FitsWords}
use Rattle.rule_ranks.specs.Orders.{is_rank, RankIsRank}
use Rattle.rule_ranks.proofs.Given.{given_rank}
use Rattle.rule_ranks.proofs.Ends.{divisor_positive}
use Rattle.rule_ranks.proofs.Sizes.{fits_words}

pub rank_divides : RankDivides
unfolding RankDivides rank_of
rank_divides across down s r k e =
    let m = measure_of s r in
    rw (given_rank across down s r k e).rank (record {
      divisor = refl;
      remainder = mod-lt m.numerator (divisor_positive s r);
      numerator = div-add-mod' m.numerator m.divisor;
    })

-- the largest divisor is that of the largest map
pub rank_is_rank : RankIsRank
unfolding RankIsRank is_rank RankDivides FitsWords
rank_is_rank across down s r k e =
    let d = rank_divides across down s r k e in
    let size = fits_words across down s r (given_rank across down s r k e).checks in
    both_true (lt-ltb k.remainder k.divisor d.remainder) (le-leb k.divisor 536870912 (rw d.divisor size.divisor))
