-- `call_rank::rank` meets its contract: each refusal is that of the first check that fails; what passes the checks has a measure within the sizes,
-- whose divisor is above zero.
use mathlib.Core.Path.{sym, ◌∙◌}
use native.Mathlib.Omega.{arith}
use Rattle.std.proofs.lemmas.Grind.{common_steps}
use Rattle.base_model.specs.Answers.{ask, first, said_of}
use Rattle.rule_ranks.specs.Ranks.{rank_checks, ranking_of, rank_of, ranking, rank_call}
use Rattle.rule_ranks.proofs.Passed.{passed}
use Rattle.rule_ranks.proofs.Sizes.{sizes}
use Rattle.call_rank.proofs.rank.Goals as goal

pub measure-m-requires : goal.measure-m-requires
measure-m-requires c =
    let a = c.args in
    let p = passed a.across a.down a.site a.footprint (sym c.size_fits.ensures ∙ c.if-not-size_fits.false)
    (sym c.site_fits.ensures ∙ c.if-not-site_fits.false) (sym c.footprint_fits.ensures ∙ c.if-not-footprint_fits.false) in
    (p.radius, sizes a.site a.footprint p)

pub nonzero_div-result : goal.nonzero_div-result
nonzero_div-result c =
    let a = c.args in
    let p = passed a.across a.down a.site a.footprint (sym c.size_fits.ensures ∙ c.if-not-size_fits.false)
    (sym c.site_fits.ensures ∙ c.if-not-site_fits.false) (sym c.footprint_fits.ensures ∙ c.if-not-footprint_fits.false) in
    rw c.measure-m.ensures (sizes a.site a.footprint p).divided

pub nonzero_rem-result : goal.nonzero_rem-result
nonzero_rem-result c =
    let a = c.args in
    let p = passed a.across a.down a.site a.footprint (sym c.size_fits.ensures ∙ c.if-not-size_fits.false)
    (sym c.site_fits.ensures ∙ c.if-not-site_fits.false) (sym c.footprint_fits.ensures ∙ c.if-not-footprint_fits.false) in
    rw c.measure-m.ensures (sizes a.site a.footprint p).divided

pub returns-then-not-size_fits : goal.returns-then-not-size_fits
unfolding rank_call rank_checks ranking_of ranking rank_of ask first said_of
returns-then-not-size_fits c = grind (arith, common_steps)

pub returns-then-not-site_fits : goal.returns-then-not-site_fits
unfolding rank_call rank_checks ranking_of ranking rank_of ask first said_of
returns-then-not-site_fits c = grind (arith, common_steps)

pub returns-then-not-footprint_fits : goal.returns-then-not-footprint_fits
unfolding rank_call rank_checks ranking_of ranking rank_of ask first said_of
returns-then-not-footprint_fits c = grind (arith, common_steps)

pub returns-then-m : goal.returns-then-m
unfolding rank_call rank_checks ranking_of ranking rank_of ask first said_of
returns-then-m c = grind (arith, common_steps)

pub returns : goal.returns
unfolding rank_call rank_checks ranking_of ranking rank_of ask first said_of
returns c = grind (arith, common_steps)
