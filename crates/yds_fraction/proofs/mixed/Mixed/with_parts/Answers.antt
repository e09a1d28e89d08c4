use Rattle.yds_model.proofs.Common.{◌∙◌}
use Rattle.yds_fraction.proofs.OverDivisor.{with_parts}
use Rattle.yds_fraction.proofs.mixed.Mixed.with_parts.Goals as goal

pub returns-clause-value : goal.returns-clause-value
returns-clause-value g c =
    rw (c.divided-more.ensures.quotient, c.divided-more.ensures.rest) at c.new.ensures.value ∙ with_parts c.args.whole c.args.parts c.args.den c.requires.some
