use Rattle.base.proofs.Common.{ap}
use Rattle.yds_trace.specs.Asked.{on}
use Rattle.yds_trace.specs.Past.{up_to}
use Rattle.yds_trace.proofs.OnProcessor.{lines_on, counted_on}
use Rattle.yds_trace.proofs.pass.Pass.turn_to.Goals as goal

pub returns-clause-stands : goal.returns-clause-stands
returns-clause-stands c = λ asked past boundary at. record {
  same_asked = ap (on c.args.processor) at.same_asked;
  lines = lines_on asked c.args.processor past _ at.lines;
  counted = counted_on asked c.args.processor (up_to asked.to past) _ at.counted;
  within = at.within;
}
