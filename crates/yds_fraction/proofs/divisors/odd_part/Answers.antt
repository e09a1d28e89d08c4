use Rattle.yds_fraction.proofs.Halves.{is_odd_part}
use Rattle.yds_fraction.proofs.divisors.odd_part.Goals as goal

pub returns-clause-odd : goal.returns-clause-odd
returns-clause-odd c = (is_odd_part c.args.number c.requires c.ranges.number.fits).1

pub returns-clause-parts : goal.returns-clause-parts
returns-clause-parts c = (is_odd_part c.args.number c.requires c.ranges.number.fits).0
