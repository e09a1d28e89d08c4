use Rattle.base.proofs.Common.{◌∙◌, arith, refl, err_from_is_err_and}
use Rattle.yds_kernel_order.specs.Order.{said_in}
use Rattle.yds_trace_reading.proofs.Giving.{counts_on, none_left, none_said}
use Rattle.yds_trace_reading.proofs.Draining.{rest_same, rest_of}
use Rattle.yds_trace_threads.proofs.Passing.{at_begin, one_more, not_taken, not_formed, made_whole, halted_whole, too_many_bytes, too_many_lines}
use Rattle.yds_trace_threads.proofs.driver.read_table.Goals as goal

-- # Lines

pub loop-lines-init : goal.loop-lines-init
loop-lines-init g c = record {
  ahead = at_begin (g.S.Source.left c.args.source.now) _ _ c.in_ok-reader.ensures c.in_ok-tally.ensures;
  faults = refl;
}

pub loop-lines-preserved : goal.loop-lines-preserved
loop-lines-preserved g c = record {
  ahead = one_more _ _ _ _ _ _ _ _ _ _ c.loop-lines.invariant.ahead c.in-Line.ensures.advances c.in-Line.ensures.counts
      (c.in_ok-take_line-in-Line.ensures.taken (said_in c.loop-lines.invariant.ahead.given) c.loop-lines.invariant.ahead.stands);
  faults = c.in-Line.ensures.advances.no_fault ∙ c.loop-lines.invariant.faults;
}

-- # How it ends

pub returns-in_err-take_line-in-Line-clause-halted : goal.returns-in_err-take_line-in-Line-clause-halted
returns-in_err-take_line-in-Line-clause-halted g c =
    let told = err_from_is_err_and c.from_residual-in_err-take_line-in-Line.result c.from_residual-in_err-take_line-in-Line.ensures.1 in
    rw (told.1, told.2)
    (not_taken _ _ _ _ _ _ _ _ _ _ c.loop-lines.invariant.ahead c.in-Line.ensures.advances c.in-Line.ensures.counts
    (c.in_err-take_line-in-Line.ensures.refused (said_in c.loop-lines.invariant.ahead.given) c.loop-lines.invariant.ahead.stands))

pub returns-in-Refused-clause-halted : goal.returns-in-Refused-clause-halted
returns-in-Refused-clause-halted g c = not_formed _ _ _ _ _ _ _ _ _ _ _ c.loop-lines.invariant.ahead c.in-Refused.ensures.advances

pub returns-in-End-clause-made : goal.returns-in-End-clause-made
returns-in-End-clause-made g c =
    made_whole _ _ c.loop-lines.reader _ _ _ _ _ _ _ c.loop-lines.invariant.ahead c.in-End.ensures.advances
    (c.table.ensures.made (said_in c.loop-lines.invariant.ahead.given) c.loop-lines.invariant.ahead.stands)

pub returns-in-End-clause-halted : goal.returns-in-End-clause-halted
returns-in-End-clause-halted g c =
    halted_whole _ _ c.loop-lines.reader _ _ _ _ _ _ _ c.loop-lines.invariant.ahead c.in-End.ensures.advances
    (rw (← c.number.ensures) (c.table.ensures.refused (said_in c.loop-lines.invariant.ahead.given) c.loop-lines.invariant.ahead.stands))

pub returns-clause-halted : goal.returns-clause-halted
returns-clause-halted g c = too_many_lines _ _ _ _ _ c.loop-lines.invariant.ahead (omega (arith, c.loop-lines-test.false))

pub returns-in-TooLong-clause-halted : goal.returns-in-TooLong-clause-halted
returns-in-TooLong-clause-halted g c =
    too_many_bytes _ _ _ _ _ _ _ c.loop-lines.invariant.ahead c.in-TooLong.ensures.counts c.in-TooLong.ensures.advances.counted

pub returns-in_err-take_line-in-Line-clause-made : goal.returns-in_err-take_line-in-Line-clause-made
returns-in_err-take_line-in-Line-clause-made g c =
    let told = err_from_is_err_and c.from_residual-in_err-take_line-in-Line.result c.from_residual-in_err-take_line-in-Line.ensures.1 in
    rw told.1 (none_said (g.S.Source.left c.args.source.now))

pub returns-in_err-take_line-in-Line-clause-none_left : goal.returns-in_err-take_line-in-Line-clause-none_left
returns-in_err-take_line-in-Line-clause-none_left g c =
    let told = err_from_is_err_and c.from_residual-in_err-take_line-in-Line.result c.from_residual-in_err-take_line-in-Line.ensures.1 in
    rw told.1 (none_said (g.S.Source.left c.args.source.now))

-- # What is left

pub returns-in_err-reader-clause-rest : goal.returns-in_err-reader-clause-rest
returns-in_err-reader-clause-rest g c = rest_same (g.S.Source.left c.args.source.now)

pub returns-in_err-tally-clause-rest : goal.returns-in_err-tally-clause-rest
returns-in_err-tally-clause-rest g c = rest_same (g.S.Source.left c.args.source.now)

pub returns-in_err-take_line-in-Line-clause-rest : goal.returns-in_err-take_line-in-Line-clause-rest
returns-in_err-take_line-in-Line-clause-rest g c = rest_of _ _ _ (counts_on (g.S.Source.left c.args.source.now) _ _ _ _ c.loop-lines.invariant.ahead.known.counts c.in-Line.ensures.counts)

pub returns-in-End-clause-rest : goal.returns-in-End-clause-rest
returns-in-End-clause-rest g c = rest_of _ _ _ (counts_on (g.S.Source.left c.args.source.now) _ _ _ _ c.loop-lines.invariant.ahead.known.counts c.in-End.ensures.counts)

pub returns-in-End-clause-none_left : goal.returns-in-End-clause-none_left
returns-in-End-clause-none_left g c = none_left (g.S.Source.left c.args.source.now) _ _ _ _ _ _ _ _ c.loop-lines.invariant.ahead.known c.in-End.ensures.advances

pub returns-in-Refused-clause-rest : goal.returns-in-Refused-clause-rest
returns-in-Refused-clause-rest g c = rest_of _ _ _ (counts_on (g.S.Source.left c.args.source.now) _ _ _ _ c.loop-lines.invariant.ahead.known.counts c.in-Refused.ensures.counts)

pub returns-in-Failed-clause-rest : goal.returns-in-Failed-clause-rest
returns-in-Failed-clause-rest g c = rest_of _ _ _ (counts_on (g.S.Source.left c.args.source.now) _ _ _ _ c.loop-lines.invariant.ahead.known.counts c.in-Failed.ensures.counts)

pub returns-in-TooLong-clause-rest : goal.returns-in-TooLong-clause-rest
returns-in-TooLong-clause-rest g c = rest_of _ _ _ (counts_on (g.S.Source.left c.args.source.now) _ _ _ _ c.loop-lines.invariant.ahead.known.counts c.in-TooLong.ensures.counts)

pub returns-in-Memory-clause-rest : goal.returns-in-Memory-clause-rest
returns-in-Memory-clause-rest g c = rest_of _ _ _ (counts_on (g.S.Source.left c.args.source.now) _ _ _ _ c.loop-lines.invariant.ahead.known.counts c.in-Memory.ensures.counts)

pub returns-clause-rest : goal.returns-clause-rest
returns-clause-rest g c = rest_of _ _ _ c.loop-lines.invariant.ahead.known.counts
