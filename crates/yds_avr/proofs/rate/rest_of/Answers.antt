use Rattle.yds_model.proofs.Common.{arith}
use Rattle.yds_avr.proofs.Rounded.{rest_told, rest_few}
use Rattle.yds_avr.proofs.rate.rest_of.Goals as goal

pub returns-clause-rounded_up : goal.returns-clause-rounded_up
returns-clause-rounded_up c = rest_told c.args.rate.now c.requires.rate c.args.length c.requires.within c.from.result c.from-2.result (omega arith) (omega arith)

pub returns-clause-few : goal.returns-clause-few
returns-clause-few c = omega (
  arith,
  rest_told c.args.rate.now c.requires.rate c.args.length c.requires.within c.from.result c.from-2.result (omega arith) (omega arith),
  rest_few c.args.rate.now c.requires.rate c.args.length c.requires.within,
)
