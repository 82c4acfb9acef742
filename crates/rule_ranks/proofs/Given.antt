-- What an answer of `rank` tells: the checks pass, and the numerator is at most the limit, with the rank that follows, or above it.
use Prim.Native.Nat.{ℕ, ◌<◌, ◌≤◌}
use mathlib.Core.Path.{◌≡◌, refl, sym, ◌∙◌}
use mathlib.Core.Bool.{true, false}
use mathlib.Core.Option.{Option, none, some}
use lib.Dec.{leb}
use borrow.Author.Tests.{leb-true, leb-false}
use Rattle.base_laws.proofs.Members.{either}
use Rattle.base_model.specs.Answers.{Said, first}
use Rattle.base_model.specs.declared.Rect.{Rect}
use Rattle.base_model.specs.declared.Site.{Site}
use Rattle.base_model.specs.declared.Rank.{Rank}
use Rattle.rule_ranks.specs.declared.Measure.{Measure}
use Rattle.rule_ranks.specs.Measures.{measure_of}
use Rattle.rule_ranks.specs.Ranks.{refuses, beyond, ranks, rank_checks, rank_of, ranking, rank_call}

-- ---- a measure
module _ (m : Measure) where
  pub ranking_within : leb m.numerator m.limit ≡ true → ranking m ≡ ranks (rank_of m)
  unfolding ranking
  ranking_within h = rw (ranking, h)

  pub ranking_above : leb m.numerator m.limit ≡ false → ranking m ≡ beyond
  unfolding ranking
  ranking_above h = rw (ranking, h)

  ranked_within : (k : Rank) → ranking m ≡ ranks k → leb m.numerator m.limit ≡ true
  ranked_within k e = either (leb m.numerator m.limit) (λ h. h) (λ h. cc (ranking_above h))

  ranked_as : (k : Rank) → ranking m ≡ ranks k → k ≡ rank_of m
  ranked_as k e = cc (ranking_within (ranked_within k e))

  beyond_above : ranking m ≡ beyond → leb m.numerator m.limit ≡ false
  beyond_above e = either (leb m.numerator m.limit) (λ h. cc (ranking_within h)) (λ h. h)

-- ---- the call
module _ (across down : ℕ) (s : Site) (r : Rect) where
  pub call_passes : first (rank_checks across down s r) ≡ none → rank_call across down s r ≡ ranking (measure_of s r)
  unfolding rank_call
  call_passes e = rw (rank_call, e)

  pub call_stops : (d : Said) → first (rank_checks across down s r) ≡ some d → rank_call across down s r ≡ refuses d
  unfolding rank_call
  call_stops d e = rw (rank_call, e)

  rank_passes : (k : Rank) → rank_call across down s r ≡ ranks k → (o : Option Said) → first (rank_checks across down s r) ≡ o → first (rank_checks across down s r) ≡ none
  rank_passes k e none h = h
  rank_passes k e (some d) h = cc (call_stops d h)

  none_passes : rank_call across down s r ≡ beyond → (o : Option Said) → first (rank_checks across down s r) ≡ o → first (rank_checks across down s r) ≡ none
  none_passes e none h = h
  none_passes e (some d) h = cc (call_stops d h)

  pub record RankGiven (k : Rank) : Type 0 where
    pub checks : first (rank_checks across down s r) ≡ none
    pub within : (measure_of s r).numerator ≤ (measure_of s r).limit
    pub rank : k ≡ rank_of (measure_of s r)

  pub record NoneGiven : Type 0 where
    pub checks : first (rank_checks across down s r) ≡ none
    pub above : (measure_of s r).limit < (measure_of s r).numerator

  pub given_rank : (k : Rank) → rank_call across down s r ≡ ranks k → RankGiven k
  given_rank k e =
      let pass = rank_passes k e (first (rank_checks across down s r)) refl in
      let f : ranking (measure_of s r) ≡ ranks k = sym (call_passes pass) ∙ e in
      record { checks = pass; within = leb-true _ _ (ranked_within (measure_of s r) k f); rank = ranked_as (measure_of s r) k f }

  pub given_none : rank_call across down s r ≡ beyond → NoneGiven
  given_none e =
      let pass = none_passes e (first (rank_checks across down s r)) refl in
      record { checks = pass; above = leb-false _ _ (beyond_above (measure_of s r) (sym (call_passes pass) ∙ e)) }
