-- `closer` goes by the fraction, and is a strict weak order on all triples: those that are no rank come last and sort alike.
use Prim.Native.Nat.{◌*◌, ◌≤◌, ◌<◌}
use mathlib.Core.Path.{◌≡◌, sym, ◌∙◌}
use mathlib.Core.Bool.{true, false}
use native.Mathlib.Omega.{arith}
use lib.Dec.{ltb}
use borrow.Author.Tests.{ltb-true, ltb-false, lt-ltb, le-ltb}
use Rattle.base_laws.proofs.Members.{either, both, same_truth}
use Rattle.base_model.specs.declared.Rank.{Rank}
use Rattle.rule_ranks.specs.Orders.{is_rank, lower, closer_rank, whole, ByFraction, Irreflexive, Transitive, Ties, TiesEqual}
use Rattle.rule_ranks.proofs.Fractions.{at_most_below, below_at_most, compared}

-- ---- three numbers that are a rank, and three that are none
rest_below : (a : Rank) → is_rank a ≡ true → a.remainder < a.divisor
unfolding is_rank
rest_below a h = ltb-true a.remainder a.divisor (both (ltb a.remainder a.divisor) _ h).0

positive : (a : Rank) → is_rank a ≡ true → 0 < a.divisor
positive a h = omega (arith, rest_below a h)

module _ (a b : Rank) where
  closer_ranks : is_rank a ≡ true → is_rank b ≡ true → closer_rank a b ≡ lower a b
  unfolding closer_rank
  closer_ranks h k = rw (closer_rank, h, k)

  closer_last : is_rank a ≡ true → is_rank b ≡ false → closer_rank a b ≡ true
  unfolding closer_rank
  closer_last h k = rw (closer_rank, h, k)

  closer_none : is_rank a ≡ false → closer_rank a b ≡ false
  unfolding closer_rank
  closer_none h = rw (closer_rank, h)

  closer_rank_lem : closer_rank a b ≡ true → is_rank a ≡ true
  unfolding closer_rank
  closer_rank_lem e = (both (is_rank a) _ e).0

-- ---- ranks by their fractions
pub by_fraction : ByFraction
unfolding ByFraction lower whole
by_fraction a b h k = closer_ranks a b h k ∙ compared a.quotient b.quotient a.remainder b.remainder a.divisor b.divisor (rest_below a h) (rest_below b k)

module _ (a b : Rank) (h : is_rank a ≡ true) (k : is_rank b ≡ true) where
  below : closer_rank a b ≡ true → whole a * b.divisor < whole b * a.divisor
  unfolding ByFraction
  below e = ltb-true _ _ (sym (by_fraction a b h k) ∙ e)

  not_below : closer_rank a b ≡ false → whole b * a.divisor ≤ whole a * b.divisor
  unfolding ByFraction
  not_below e = ltb-false _ _ (sym (by_fraction a b h k) ∙ e)

  is_closer : whole a * b.divisor < whole b * a.divisor → closer_rank a b ≡ true
  unfolding ByFraction
  is_closer l = by_fraction a b h k ∙ lt-ltb _ _ l

-- ---- all triples
asymmetric : (a b : Rank) → closer_rank a b ≡ true → closer_rank b a ≡ false
unfolding ByFraction
asymmetric a b e =
    either (is_rank b)
    (λ k. by_fraction b a k (closer_rank_lem a b e) ∙ le-ltb (whole b * a.divisor) (whole a * b.divisor) (omega (arith, below a b (closer_rank_lem a b e) k e)))
    (λ k. closer_none b a k)

-- a that is not closer than b: b is closer than whatever a is closer than
module _ (a b c : Rank) (e : closer_rank a b ≡ false) where
  found_rank : is_rank a ≡ true → is_rank b ≡ true
  found_rank h = either (is_rank b) (λ k. k) (λ k. cc (closer_last a b h k))

  closer_too : closer_rank a c ≡ true → closer_rank b c ≡ true
  closer_too g =
      let h : is_rank a ≡ true = closer_rank_lem a c g in
      let k : is_rank b ≡ true = found_rank h in
      either (is_rank c)
      (λ l. is_closer b c k l (at_most_below (whole b) (whole a) (whole c) b.divisor a.divisor c.divisor (positive b k) (not_below a b h k e) (below a c h l g)))
      (λ l. closer_last b c k l)

  -- and whatever is closer than b is closer than a
  farther_too : closer_rank c b ≡ true → closer_rank c a ≡ true
  farther_too g =
      let l : is_rank c ≡ true = closer_rank_lem c b g in
      either (is_rank a)
      (λ h.
      let k : is_rank b ≡ true = found_rank h in
      is_closer c a l h (below_at_most (whole c) (whole b) (whole a) c.divisor b.divisor a.divisor (positive a h) (below c b l k g) (not_below a b h k e)))
      (λ h. closer_last c a l h)

-- ---- the order
pub irreflexive : Irreflexive
unfolding Irreflexive
irreflexive a = either (closer_rank a a) (λ t. asymmetric a a t) (λ f. f)

pub transitive : Transitive
unfolding Transitive
transitive a b c p q = closer_too b a c (asymmetric a b p) q

pub ties : Ties
unfolding Ties
ties a b p q c = (
  same_truth (closer_rank a c) (closer_rank b c) (closer_too a b c p) (closer_too b a c q),
  same_truth (closer_rank c a) (closer_rank c b) (farther_too b a c q) (farther_too a b c p),
)

pub ties_equal : TiesEqual
unfolding TiesEqual
ties_equal a b p q = (
  same_truth (is_rank a) (is_rank b) (found_rank a b a p) (found_rank b a b q),
  λ h. let k = found_rank a b a p h in omega (arith, not_below a b h k p, not_below b a k h q),
)
