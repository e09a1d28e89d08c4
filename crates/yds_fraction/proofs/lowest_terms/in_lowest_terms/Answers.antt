use Rattle.yds_model.proofs.Common.{subst, IsSame}
use Rattle.yds_fraction.proofs.OverDivisor.{reduced_is}
use Rattle.yds_fraction.proofs.lowest_terms.in_lowest_terms.Goals as goal

pub returns : goal.returns
returns c =
    let x = c.reduced.result in
    reduced_is c.args.parts c.args.den x c.requires.some (subst (λ first. IsSame first x) c.of_parts.ensures.value c.reduced.ensures.same)
    c.reduced.ensures.lowest c.reduced.ensures.kept.fraction.below_one
