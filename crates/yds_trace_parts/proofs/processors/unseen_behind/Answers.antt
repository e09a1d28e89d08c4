use Rattle.yds_trace_parts.proofs.Loops.{turned_first}
use Rattle.yds_trace_parts.proofs.processors.unseen_behind.Goals as goal

pub returns-in_ok-next-in-Some-clause-turned : goal.returns-in_ok-next-in-Some-clause-turned
returns-in_ok-next-in-Some-clause-turned c asked past boundary at = record { processor = c.args.processor; stands = c.unseen_on.ensures.turned asked past boundary at }

pub returns-in-None-clause-turned : goal.returns-in-None-clause-turned
returns-in-None-clause-turned c asked past boundary at = turned_first asked past boundary c.args.pass.now at
