use Rattle.base.proofs.Common.{arith, sym, take_all}
use Rattle.yds_trace_threads.specs.declared.limits.TheConstants.{MOST_NAME}
use Rattle.yds_trace_threads.proofs.kept.front_of.Goals as goal

pub returns-then-name-le-MOST_NAME : goal.returns-then-name-le-MOST_NAME
returns-then-name-le-MOST_NAME c = sym (take_all MOST_NAME c.args.name.now (omega (arith, c.if-name-le-MOST_NAME.true)))
