use Rattle.yds_model.proofs.Common.{arith}
use Rattle.yds_avr.proofs.Rounded.{rest_rounds}
use Rattle.yds_avr.proofs.rate.rounds.Goals as goal

pub returns : goal.returns
returns c = rest_rounds c.args.rate.now c.requires.rate c.args.length c.requires.within c.rest_of.result c.from-window.result c.rest_of.ensures.rounded_up (omega arith)
