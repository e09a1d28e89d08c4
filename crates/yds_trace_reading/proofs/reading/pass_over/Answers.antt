use Rattle.base.proofs.Common.{◌∙◌, arith, ap, subst, [], err_from_is_err_and}
use Rattle.yds_kernel_order.specs.Order.{said_in}
use Rattle.yds_kernel_order.specs.Ordering.{Ordering}
use Rattle.yds_trace.specs.Asked.{Asked}
use Rattle.yds_trace.specs.Kept.{IsAt}
use Rattle.yds_trace_reading.proofs.Beginning.{known_first, none_given, counted_since, read_in, stopped_in, err_in, end_within, not_begun}
use Rattle.yds_trace.specs.Views.{asked_read}
use Rattle.yds_trace_bounds.specs.Bounds.{asked_from}
use Rattle.yds_trace_reading.proofs.Giving.{counts_on, none_left, none_said}
use Rattle.yds_trace_reading.proofs.Passing.{at_begin, one_more, not_taken, not_formed, known_whole, read_whole, stopped_whole, too_many_bytes, too_many_lines}
use Rattle.yds_trace_reading.proofs.Draining.{rest_same, rest_of}
use Rattle.yds_trace_reading.proofs.reading.pass_over.Goals as goal

pub returns-in_err-take_line-in-Line-clause-stopped : goal.returns-in_err-take_line-in-Line-clause-stopped
returns-in_err-take_line-in-Line-clause-stopped g c =
    let told = err_from_is_err_and c.from_residual-in_err-take_line-in-Line.result c.from_residual-in_err-take_line-in-Line.ensures.1 in
    rw (told.1, told.2)
    (stopped_in c.args.bounds (asked_read c.args.asked) c.in_ok-first.first (g.S.Source.left c.args.source.now) _ (known_first c.args.bounds (g.S.Source.left c.args.source.now) _ _ _ _ c.in_ok-reader.ensures c.in_ok-first.ensures.begun)
    (not_taken (asked_from c.in_ok-first.first c.args.bounds (asked_read c.args.asked)) _ _ _ _ _ _ _ _ _ _ c.loop-lines.invariant.ahead c.in-Line.ensures.advances c.in-Line.ensures.counts
    (c.in_err-take_line-in-Line.ensures.refused (asked_from c.in_ok-first.first c.args.bounds (asked_read c.args.asked)) (said_in c.loop-lines.invariant.ahead.given) c.loop-lines.invariant.ahead.stands)))

pub returns-in-Refused-clause-stopped : goal.returns-in-Refused-clause-stopped
returns-in-Refused-clause-stopped g c =
    stopped_in c.args.bounds (asked_read c.args.asked) c.in_ok-first.first (g.S.Source.left c.args.source.now) _ (known_first c.args.bounds (g.S.Source.left c.args.source.now) _ _ _ _ c.in_ok-reader.ensures c.in_ok-first.ensures.begun)
    (not_formed (asked_from c.in_ok-first.first c.args.bounds (asked_read c.args.asked)) _ _ _ _ _ _ _ _ _ _ _ c.loop-lines.invariant.ahead c.in-Refused.ensures.advances)

pub returns-in-End-clause-read : goal.returns-in-End-clause-read
returns-in-End-clause-read g c =
    read_in c.args.bounds (asked_read c.args.asked) c.in_ok-first.first (g.S.Source.left c.args.source.now) _ (known_first c.args.bounds (g.S.Source.left c.args.source.now) _ _ _ _ c.in_ok-reader.ensures c.in_ok-first.ensures.begun)
    (read_whole (asked_from c.in_ok-first.first c.args.bounds (asked_read c.args.asked)) _ _ c.loop-lines.reader _ _ _ _ _ _ _ c.loop-lines.invariant.ahead c.in-End.ensures.advances
    (c.end.ensures.known (asked_from c.in_ok-first.first c.args.bounds (asked_read c.args.asked)) (said_in c.loop-lines.invariant.ahead.given) c.loop-lines.invariant.ahead.stands))

pub returns-in-End-clause-stopped : goal.returns-in-End-clause-stopped
returns-in-End-clause-stopped g c =
    err_in c.args.bounds (asked_read c.args.asked) c.in_ok-first.first (g.S.Source.left c.args.source.now) _ (known_first c.args.bounds (g.S.Source.left c.args.source.now) _ _ _ _ c.in_ok-reader.ensures c.in_ok-first.ensures.begun)
    (stopped_whole (asked_from c.in_ok-first.first c.args.bounds (asked_read c.args.asked)) _ _ c.loop-lines.reader _ _ _ _ _ _ _ c.loop-lines.invariant.ahead c.in-End.ensures.advances
    (rw (← c.number.ensures) (c.end.ensures.refused (asked_from c.in_ok-first.first c.args.bounds (asked_read c.args.asked)) (said_in c.loop-lines.invariant.ahead.given) c.loop-lines.invariant.ahead.stands)))

pub loop-lines-init : goal.loop-lines-init
loop-lines-init g c = record {
  ahead = at_begin (asked_from c.in_ok-first.first c.args.bounds (asked_read c.args.asked)) (g.S.Source.left c.args.source.now) _ _ _
      (none_given c.args.bounds (g.S.Source.left c.args.source.now) _ _ _ _ c.in_ok-reader.ensures
      (c.in_ok-first.ensures.given (ap (λ (ordering : Ordering). ordering.given) c.in_ok-reader.ensures)) c.in_ok-first.ensures.begun c.in_ok-first.ensures.counts)
      (subst (λ (asked : Asked). IsAt asked [] c.in_ok-pass.pass) c.within.ensures c.in_ok-pass.ensures);
  faults = c.in_ok-first.ensures.no_fault;
}

pub loop-lines-preserved : goal.loop-lines-preserved
loop-lines-preserved g c = record {
  ahead = one_more (asked_from c.in_ok-first.first c.args.bounds (asked_read c.args.asked)) _ _ _ _ _ _ _ _ _ _ c.loop-lines.invariant.ahead c.in-Line.ensures.advances c.in-Line.ensures.counts
      (c.in_ok-take_line-in-Line.ensures.taken (asked_from c.in_ok-first.first c.args.bounds (asked_read c.args.asked)) (said_in c.loop-lines.invariant.ahead.given) c.loop-lines.invariant.ahead.stands);
  faults = c.in-Line.ensures.advances.no_fault ∙ c.loop-lines.invariant.faults;
}

pub returns-clause-stopped : goal.returns-clause-stopped
returns-clause-stopped g c =
    stopped_in c.args.bounds (asked_read c.args.asked) c.in_ok-first.first (g.S.Source.left c.args.source.now) _ (known_first c.args.bounds (g.S.Source.left c.args.source.now) _ _ _ _ c.in_ok-reader.ensures c.in_ok-first.ensures.begun)
    (too_many_lines (asked_from c.in_ok-first.first c.args.bounds (asked_read c.args.asked)) _ _ _ _ _ c.loop-lines.invariant.ahead (omega (arith, c.loop-lines-test.false)))

pub returns-in-TooLong-clause-stopped : goal.returns-in-TooLong-clause-stopped
returns-in-TooLong-clause-stopped g c =
    stopped_in c.args.bounds (asked_read c.args.asked) c.in_ok-first.first (g.S.Source.left c.args.source.now) _ (known_first c.args.bounds (g.S.Source.left c.args.source.now) _ _ _ _ c.in_ok-reader.ensures c.in_ok-first.ensures.begun)
    (too_many_bytes (asked_from c.in_ok-first.first c.args.bounds (asked_read c.args.asked)) _ _ _ _ _ _ _ c.loop-lines.invariant.ahead c.in-TooLong.ensures.counts c.in-TooLong.ensures.advances.counted)

pub returns-in-End-clause-known : goal.returns-in-End-clause-known
returns-in-End-clause-known g c =
    end_within c.args.bounds (asked_read c.args.asked) c.in_ok-first.first _
    (known_whole (asked_from c.in_ok-first.first c.args.bounds (asked_read c.args.asked)) _ _ c.loop-lines.reader _ _ _ c.loop-lines.invariant.ahead
    (c.end.ensures.known (asked_from c.in_ok-first.first c.args.bounds (asked_read c.args.asked)) (said_in c.loop-lines.invariant.ahead.given) c.loop-lines.invariant.ahead.stands))

-- # A trace that isn't begun

pub returns-in_err-first-clause-stopped : goal.returns-in_err-first-clause-stopped
returns-in_err-first-clause-stopped g c =
    let told = err_from_is_err_and c.from_residual-in_err-first.result c.from_residual-in_err-first.ensures.1 in
    rw (told.1, told.2)
    (not_begun c.args.bounds (asked_read c.args.asked) (g.S.Source.left c.args.source.now) _ c.in_ok-reader.reader c.begin.new.reader _ _ _ c.in_ok-reader.ensures c.in_err-first.ensures.not_begun c.begin.ensures.counts)

pub returns-in_err-first-clause-rest : goal.returns-in_err-first-clause-rest
returns-in_err-first-clause-rest g c = rest_of _ _ _ (counted_since (g.S.Source.left c.args.source.now) _ _ _ c.in_ok-reader.ensures c.begin.ensures.counts)

pub returns-in_err-take_line-in-Line-clause-read : goal.returns-in_err-take_line-in-Line-clause-read
returns-in_err-take_line-in-Line-clause-read g c =
    let told = err_from_is_err_and c.from_residual-in_err-take_line-in-Line.result c.from_residual-in_err-take_line-in-Line.ensures.1 in
    rw told.1 (none_said (g.S.Source.left c.args.source.now))

pub returns-in_err-take_line-in-Line-clause-none_left : goal.returns-in_err-take_line-in-Line-clause-none_left
returns-in_err-take_line-in-Line-clause-none_left g c =
    let told = err_from_is_err_and c.from_residual-in_err-take_line-in-Line.result c.from_residual-in_err-take_line-in-Line.ensures.1 in
    rw told.1 (none_said (g.S.Source.left c.args.source.now))

-- # What is left

pub returns-in_err-reader-clause-rest : goal.returns-in_err-reader-clause-rest
returns-in_err-reader-clause-rest g c = rest_same (g.S.Source.left c.args.source.now)

pub returns-in_err-pass-clause-rest : goal.returns-in_err-pass-clause-rest
returns-in_err-pass-clause-rest g c = rest_of _ _ _ (counted_since (g.S.Source.left c.args.source.now) _ _ _ c.in_ok-reader.ensures c.in_ok-first.ensures.counts)

pub returns-in_err-take_line-in-Line-clause-rest : goal.returns-in_err-take_line-in-Line-clause-rest
returns-in_err-take_line-in-Line-clause-rest g c = rest_of _ _ _ (counts_on (g.S.Source.left c.args.source.now) _ _ _ _ c.loop-lines.invariant.ahead.known.counts c.in-Line.ensures.counts)

pub returns-in-End-clause-rest : goal.returns-in-End-clause-rest
returns-in-End-clause-rest g c = rest_of _ _ _ (counts_on (g.S.Source.left c.args.source.now) _ _ _ _ c.loop-lines.invariant.ahead.known.counts c.in-End.ensures.counts)

pub returns-in-End-clause-none_left : goal.returns-in-End-clause-none_left
returns-in-End-clause-none_left g c =
    none_left (g.S.Source.left c.args.source.now) _ _ _ _ _ _ _ _ c.loop-lines.invariant.ahead.known c.in-End.ensures.advances

pub returns-in-Refused-clause-rest : goal.returns-in-Refused-clause-rest
returns-in-Refused-clause-rest g c = rest_of _ _ _ (counts_on (g.S.Source.left c.args.source.now) _ _ _ _ c.loop-lines.invariant.ahead.known.counts c.in-Refused.ensures.counts)

pub returns-in-Failed-clause-rest : goal.returns-in-Failed-clause-rest
returns-in-Failed-clause-rest g c = rest_of _ _ _ (counts_on (g.S.Source.left c.args.source.now) _ _ _ _ c.loop-lines.invariant.ahead.known.counts c.in-Failed.ensures.counts)

pub returns-in-TooLong-clause-rest : goal.returns-in-TooLong-clause-rest
returns-in-TooLong-clause-rest g c = rest_of _ _ _ (counts_on (g.S.Source.left c.args.source.now) _ _ _ _ c.loop-lines.invariant.ahead.known.counts c.in-TooLong.ensures.counts)

pub returns-in-Memory-clause-rest : goal.returns-in-Memory-clause-rest
returns-in-Memory-clause-rest g c = rest_of _ _ _ (counts_on (g.S.Source.left c.args.source.now) _ _ _ _ c.loop-lines.invariant.ahead.known.counts c.in-Memory.ensures.counts)

pub returns-clause-rest : goal.returns-clause-rest
returns-clause-rest g c = rest_of _ _ _ c.loop-lines.invariant.ahead.known.counts
