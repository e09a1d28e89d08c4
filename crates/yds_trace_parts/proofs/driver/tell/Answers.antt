use Rattle.base.proofs.Common.{ℕ, ◌+◌, ◌∙◌, inr, [], Ok, refl, sym, ap, subst, arith, err_from_is_err_and}
use Rattle.yds_kernel_order.specs.Order.{said_in}
use Rattle.yds_kernel_order.specs.Ordering.{Ordering}
use Rattle.yds_trace.specs.Asked.{Asked}
use Rattle.yds_trace.specs.Views.{asked_read}
use Rattle.yds_trace_bounds.specs.Bounds.{asked_from}
use Rattle.yds_trace_reading.proofs.Beginning.{known_first, none_given, counted_since}
use Rattle.yds_trace_reading.proofs.Draining.{rest_same, rest_of}
use Rattle.yds_trace_reading.proofs.Giving.{counts_on, none_left}
use Rattle.yds_trace_parts.specs.declared.halt.Halt.{Halt as HaltKept}
use Rattle.yds_trace_parts.specs.Telling.{IsTelling}
use Rattle.yds_trace_parts.proofs.Driven.{at_begin, one_more, not_taken, not_in_form, piece_cut, end_not_told, end_told, end_cut, read_failed, no_memory, too_many_bytes, too_many_lines, past_length, room_behind, plain_behind}
use Rattle.yds_trace_parts.proofs.Flushed.{counted_whole, counted_end, flushed_on}
use Rattle.yds_trace_parts.proofs.Ending.{own_halt, tells_halt, tells_read_fault, tells_write_fault, tells_all}
use Rattle.yds_trace_parts.proofs.Begun.{writes_in, flushed_in, no_memory_yet, tells_not_begun}
use Rattle.yds_trace_parts.proofs.driver.tell.Goals as goal

-- # What the calls need

pub take_line-requires : goal.take_line-requires
take_line-requires g c =
    room_behind (asked_from c.in_ok-first.first c.args.bounds (asked_read c.args.asked)) c.args.strict (g.S.Source.left c.args.source.now) _ _ _ _ _ _ (c.requires c.in_ok-first.first) c.loop-lines.invariant.told.behind
    (omega (arith, c.loop-lines-test.true))

pub end-requires : goal.end-requires
end-requires g c =
    plain_behind (asked_from c.in_ok-first.first c.args.bounds (asked_read c.args.asked)) c.args.strict (g.S.Source.left c.args.source.now) _ _ _ _ _ _ (c.requires c.in_ok-first.first) c.loop-lines.invariant.told.behind
    (omega (arith, c.loop-lines-test.true))

-- # Lines

pub loop-lines-init : goal.loop-lines-init
loop-lines-init g c = record {
  known = known_first c.args.bounds (g.S.Source.left c.args.source.now) _ _ _ c.in_ok-first.first c.in_ok-reader.ensures c.in_ok-first.ensures.begun;
  told = at_begin (asked_from c.in_ok-first.first c.args.bounds (asked_read c.args.asked)) c.args.strict (g.S.Source.left c.args.source.now) _ _ _ (g.K.Sink.written c.args.sink.now) (g.K.Sink.flushes c.args.sink.now)
      (none_given c.args.bounds (g.S.Source.left c.args.source.now) _ _ _ c.in_ok-first.first c.in_ok-reader.ensures
      (c.in_ok-first.ensures.given (ap (λ (ordering : Ordering). ordering.given) c.in_ok-reader.ensures)) c.in_ok-first.ensures.begun c.in_ok-first.ensures.counts)
      (subst (λ (asked : Asked). IsTelling asked c.args.strict [] c.in_ok-telling.telling) c.within.ensures c.in_ok-telling.ensures);
  read = c.in_ok-first.ensures.no_fault;
  wrote = refl;
  flushed = inr (refl, refl);
}

pub loop-lines-preserved : goal.loop-lines-preserved
loop-lines-preserved g c =
    let told = c.loop-lines.invariant.told in
    let place = ap (λ (n : ℕ). n + 1) (sym (past_length _ _ _ _ _ _ _ _ _ told.behind)) in
    record {
      known = c.loop-lines.invariant.known;
      told = one_more (asked_from c.in_ok-first.first c.args.bounds (asked_read c.args.asked)) c.args.strict _ _ _ _ _ _ _ _ _ _ _ _ _ _ _ _ _ told c.in-Line.ensures.advances c.in-Line.ensures.counts
          (c.in_ok-pieces-in-Line.ensures.told (asked_from c.in_ok-first.first c.args.bounds (asked_read c.args.asked)) c.args.strict (said_in told.behind.given) told.behind.stands place)
          (c.in_ok-pieces-in-Line.ensures.adds (asked_from c.in_ok-first.first c.args.bounds (asked_read c.args.asked)) c.args.strict (said_in told.behind.given) told.behind.stands place)
          (rw c.deref.ensures.value at c.in_ok-pass_on-in-Line.ensures.delivers.0) (rw c.deref.ensures.value at c.in_ok-pass_on-in-Line.ensures.counted);
      read = c.in-Line.ensures.advances.no_fault ∙ c.loop-lines.invariant.read;
      wrote = c.in_ok-pass_on-in-Line.ensures.delivers.1 ∙ c.loop-lines.invariant.wrote;
      flushed = flushed_on g.K.Sink.written g.K.Sink.flushed _ _ _ c.loop-lines.invariant.flushed c.in_ok-pass_on-in-Line.ensures.all_flushed;
    }

-- # How it ends

pub returns-in_err-reader : goal.returns-in_err-reader
returns-in_err-reader g c =
    let told = err_from_is_err_and c.from_residual.result c.from_residual.ensures.1 in
    rw (told.1, told.2)
    (tells_halt g.S.Source.left g.S.Source.faults g.K.Sink.written g.K.Sink.flushed g.K.Sink.flushes g.K.Sink.faults c.args.bounds (asked_read c.args.asked) c.args.strict _ _ _ _ _ tt refl refl (inr (refl, refl)) 0 refl
    (no_memory_yet c.args.bounds (asked_read c.args.asked) c.args.strict (g.S.Source.left c.args.source.now) (g.K.Sink.written c.args.sink.now)) (rest_same (g.S.Source.left c.args.source.now)))

pub returns-in_err-first : goal.returns-in_err-first
returns-in_err-first g c =
    let told = err_from_is_err_and c.from_residual-in_err-first.result c.from_residual-in_err-first.ensures.1 in
    rw (told.1, told.2)
    (tells_not_begun g.S.Source.left g.S.Source.faults g.K.Sink.written g.K.Sink.flushed g.K.Sink.flushes g.K.Sink.faults c.args.bounds (asked_read c.args.asked) c.args.strict _ _ _ _ c.in_ok-reader.reader c.begin.new.reader
    c.in_ok-reader.ensures c.begin.ensures.counts c.in_err-first.ensures.not_begun)

pub returns-in_err-telling : goal.returns-in_err-telling
returns-in_err-telling g c =
    let told = err_from_is_err_and c.from_residual-in_err-telling.result c.from_residual-in_err-telling.ensures.1 in
    rw (told.1, told.2)
    (tells_halt g.S.Source.left g.S.Source.faults g.K.Sink.written g.K.Sink.flushed g.K.Sink.flushes g.K.Sink.faults c.args.bounds (asked_read c.args.asked) c.args.strict _ _ _ _ _ tt c.in_ok-first.ensures.no_fault refl (inr (refl, refl)) 0 refl
    (no_memory_yet c.args.bounds (asked_read c.args.asked) c.args.strict (g.S.Source.left c.args.source.now) (g.K.Sink.written c.args.sink.now))
    (rest_of _ _ _ (counted_since (g.S.Source.left c.args.source.now) _ _ _ c.in_ok-reader.ensures c.in_ok-first.ensures.counts)))

pub returns-in_err-pieces-in-Line : goal.returns-in_err-pieces-in-Line
returns-in_err-pieces-in-Line g c =
    let told = err_from_is_err_and c.from_residual-in_err-pieces-in-Line.result c.from_residual-in_err-pieces-in-Line.ensures.1 in
    let known = c.loop-lines.invariant.told.behind in
    let place = ap (λ (n : ℕ). n + 1) (sym (past_length _ _ _ _ _ _ _ _ _ known)) in
    let why = c.in_err-pieces-in-Line.ensures.halts (asked_from c.in_ok-first.first c.args.bounds (asked_read c.args.asked)) c.args.strict _ known.stands place in
    rw (told.1, told.2)
    (tells_halt g.S.Source.left g.S.Source.faults g.K.Sink.written g.K.Sink.flushed g.K.Sink.flushes g.K.Sink.faults c.args.bounds (asked_read c.args.asked) c.args.strict _ _ _ _ _ (own_halt _ _ why)
    (c.in-Line.ensures.advances.no_fault ∙ c.loop-lines.invariant.read) c.loop-lines.invariant.wrote c.loop-lines.invariant.flushed _ c.loop-lines.invariant.told.counted
    (writes_in c.args.bounds (asked_read c.args.asked) c.in_ok-first.first _ _ _ _ _ c.loop-lines.invariant.known (not_taken (asked_from c.in_ok-first.first c.args.bounds (asked_read c.args.asked)) c.args.strict (g.S.Source.left c.args.source.now) _ _ _ _ _ _ _ _ _ _ _ known c.in-Line.ensures.advances c.in-Line.ensures.counts why))
    (rest_of _ _ _ (counts_on (g.S.Source.left c.args.source.now) _ _ _ _ c.loop-lines.invariant.told.behind.known.counts c.in-Line.ensures.counts)))

pub returns-in_err-pass_on-in-Line : goal.returns-in_err-pass_on-in-Line
returns-in_err-pass_on-in-Line g c =
    let told = err_from_is_err_and c.from_residual-in_err-pass_on-in-Line.result c.from_residual-in_err-pass_on-in-Line.ensures.1 in
    let known = c.loop-lines.invariant.told.behind in
    let place = ap (λ (n : ℕ). n + 1) (sym (past_length _ _ _ _ _ _ _ _ _ known)) in
    rw (told.1, told.2, c.in_err-pass_on-in-Line.ensures.by_fault)
    (tells_write_fault g.S.Source.left g.S.Source.faults g.K.Sink.written g.K.Sink.flushed g.K.Sink.flushes g.K.Sink.faults c.args.bounds (asked_read c.args.asked) c.args.strict _ _ _ _ _ c.loop-lines.invariant.wrote c.in_err-pass_on-in-Line.ensures.delivers.1
    (c.in-Line.ensures.advances.no_fault ∙ c.loop-lines.invariant.read)
    (writes_in c.args.bounds (asked_read c.args.asked) c.in_ok-first.first _ _ _ _ _ c.loop-lines.invariant.known (piece_cut (asked_from c.in_ok-first.first c.args.bounds (asked_read c.args.asked)) c.args.strict (g.S.Source.left c.args.source.now) _ _ _ _ _ _ _ _ _ _ _ _ known c.in-Line.ensures.advances c.in-Line.ensures.counts
    (c.in_ok-pieces-in-Line.ensures.adds (asked_from c.in_ok-first.first c.args.bounds (asked_read c.args.asked)) c.args.strict (said_in known.given) known.stands place) (rw c.deref.ensures.value at c.in_err-pass_on-in-Line.ensures.delivers.0)))
    (rest_of _ _ _ (counts_on (g.S.Source.left c.args.source.now) _ _ _ _ c.loop-lines.invariant.told.behind.known.counts c.in-Line.ensures.counts)))

pub returns-in_err-text-in-End : goal.returns-in_err-text-in-End
returns-in_err-text-in-End g c =
    let told = err_from_is_err_and c.from_residual-in_err-text-in-End.result c.from_residual-in_err-text-in-End.ensures.1 in
    let known = c.loop-lines.invariant.told.behind in
    let place = sym (past_length _ _ _ _ _ _ _ _ _ known) in
    let why = c.in_err-text-in-End.ensures.halts (asked_from c.in_ok-first.first c.args.bounds (asked_read c.args.asked)) c.args.strict _ known.stands place in
    rw (told.1, told.2)
    (tells_halt g.S.Source.left g.S.Source.faults g.K.Sink.written g.K.Sink.flushed g.K.Sink.flushes g.K.Sink.faults c.args.bounds (asked_read c.args.asked) c.args.strict _ _ _ _ _ (own_halt _ _ why)
    (c.in-End.ensures.advances.no_fault ∙ c.loop-lines.invariant.read) c.loop-lines.invariant.wrote c.loop-lines.invariant.flushed _ c.loop-lines.invariant.told.counted
    (writes_in c.args.bounds (asked_read c.args.asked) c.in_ok-first.first _ _ _ _ _ c.loop-lines.invariant.known (end_not_told (asked_from c.in_ok-first.first c.args.bounds (asked_read c.args.asked)) c.args.strict (g.S.Source.left c.args.source.now) _ _ _ _ _ _ _ _ _ _ _ known c.in-End.ensures.advances why))
    (rest_of _ _ _ (counts_on (g.S.Source.left c.args.source.now) _ _ _ _ c.loop-lines.invariant.told.behind.known.counts c.in-End.ensures.counts)))

pub returns-in_err-write_all-in-End : goal.returns-in_err-write_all-in-End
returns-in_err-write_all-in-End g c =
    let told = err_from_is_err_and c.from_residual-in_err-write_all-in-End.result c.from_residual-in_err-write_all-in-End.ensures.1 in
    let known = c.loop-lines.invariant.told.behind in
    let place = sym (past_length _ _ _ _ _ _ _ _ _ known) in
    rw (told.1, told.2)
    (tells_write_fault g.S.Source.left g.S.Source.faults g.K.Sink.written g.K.Sink.flushed g.K.Sink.flushes g.K.Sink.faults c.args.bounds (asked_read c.args.asked) c.args.strict _ _ _ _ _ c.loop-lines.invariant.wrote c.in_err-write_all-in-End.ensures.puts.delivers.1
    (c.in-End.ensures.advances.no_fault ∙ c.loop-lines.invariant.read)
    (writes_in c.args.bounds (asked_read c.args.asked) c.in_ok-first.first _ _ _ _ _ c.loop-lines.invariant.known (end_cut (asked_from c.in_ok-first.first c.args.bounds (asked_read c.args.asked)) c.args.strict (g.S.Source.left c.args.source.now) _ _ _ _ _ _ _ _ _ _ _ _ known c.in-End.ensures.advances
    (c.in_ok-text-in-End.ensures.sound (asked_from c.in_ok-first.first c.args.bounds (asked_read c.args.asked)) c.args.strict _ known.stands place) (c.in_ok-text-in-End.ensures.told (asked_from c.in_ok-first.first c.args.bounds (asked_read c.args.asked)) c.args.strict _ known.stands place)
    (rw c.deref-in-End.ensures.value at c.in_err-write_all-in-End.ensures.puts.delivers.0)))
    (rest_of _ _ _ (counts_on (g.S.Source.left c.args.source.now) _ _ _ _ c.loop-lines.invariant.told.behind.known.counts c.in-End.ensures.counts)))

pub returns-in-End : goal.returns-in-End
returns-in-End g c =
    let known = c.loop-lines.invariant.told.behind in
    let place = sym (past_length _ _ _ _ _ _ _ _ _ known) in
    tells_all g.S.Source.left g.S.Source.faults g.K.Sink.written g.K.Sink.flushed g.K.Sink.flushes g.K.Sink.faults c.args.bounds (asked_read c.args.asked) c.args.strict _ _ _ _
    (c.in-End.ensures.advances.no_fault ∙ c.loop-lines.invariant.read) (c.in_ok-write_all-in-End.ensures.puts.delivers.1 ∙ c.loop-lines.invariant.wrote)
    _ (c.in_ok-write_all-in-End.ensures.puts.flushes_stay ∙ c.loop-lines.invariant.told.counted)
    (flushed_in c.args.bounds (asked_read c.args.asked) c.in_ok-first.first _ _ _ _ c.loop-lines.invariant.known (counted_end (g.S.Source.left c.args.source.now) (asked_from c.in_ok-first.first c.args.bounds (asked_read c.args.asked)) c.args.strict (g.K.Sink.flushes c.args.sink.now) _ _ c.in_ok-write_all-in-End.ensures.puts.flushes_stay
    (counted_whole (asked_from c.in_ok-first.first c.args.bounds (asked_read c.args.asked)) c.args.strict (g.S.Source.left c.args.source.now) _ _ _ _ _ _ _ _ _ _ _ _ c.loop-lines.invariant.told c.in-End.ensures.advances)))
    (writes_in c.args.bounds (asked_read c.args.asked) c.in_ok-first.first _ _ _ _ _ c.loop-lines.invariant.known (end_told (asked_from c.in_ok-first.first c.args.bounds (asked_read c.args.asked)) c.args.strict (g.S.Source.left c.args.source.now) _ _ _ _ _ _ _ _ _ _ _ _ known c.in-End.ensures.advances
    (c.in_ok-text-in-End.ensures.sound (asked_from c.in_ok-first.first c.args.bounds (asked_read c.args.asked)) c.args.strict _ known.stands place) (c.in_ok-text-in-End.ensures.told (asked_from c.in_ok-first.first c.args.bounds (asked_read c.args.asked)) c.args.strict _ known.stands place)
    (rw c.deref-in-End.ensures.value at c.in_ok-write_all-in-End.ensures.puts.delivers.0)))
    (none_left {A = Unit {0}} {E = HaltKept} (g.S.Source.left c.args.source.now) _ _ _ _ _ _ _ (Ok tt) known.known c.in-End.ensures.advances)
    (rest_of _ _ _ (counts_on (g.S.Source.left c.args.source.now) _ _ _ _ c.loop-lines.invariant.told.behind.known.counts c.in-End.ensures.counts))

pub returns-in-Refused : goal.returns-in-Refused
returns-in-Refused g c =
    tells_halt g.S.Source.left g.S.Source.faults g.K.Sink.written g.K.Sink.flushed g.K.Sink.flushes g.K.Sink.faults c.args.bounds (asked_read c.args.asked) c.args.strict _ _ _ _ _ tt
    (c.in-Refused.ensures.advances.no_fault ∙ c.loop-lines.invariant.read) c.loop-lines.invariant.wrote c.loop-lines.invariant.flushed _ c.loop-lines.invariant.told.counted
    (writes_in c.args.bounds (asked_read c.args.asked) c.in_ok-first.first _ _ _ _ _ c.loop-lines.invariant.known (not_in_form (asked_from c.in_ok-first.first c.args.bounds (asked_read c.args.asked)) c.args.strict (g.S.Source.left c.args.source.now) _ _ _ _ _ _ _ _ _ _ _ _ c.loop-lines.invariant.told.behind c.in-Refused.ensures.advances))
    (rest_of _ _ _ (counts_on (g.S.Source.left c.args.source.now) _ _ _ _ c.loop-lines.invariant.told.behind.known.counts c.in-Refused.ensures.counts))

pub returns-in-Failed : goal.returns-in-Failed
returns-in-Failed g c =
    tells_read_fault g.S.Source.left g.S.Source.faults g.K.Sink.written g.K.Sink.flushed g.K.Sink.flushes g.K.Sink.faults c.args.bounds (asked_read c.args.asked) c.args.strict _ _ _ _ _ c.loop-lines.invariant.read c.in-Failed.ensures.advances c.loop-lines.invariant.wrote c.loop-lines.invariant.flushed _ c.loop-lines.invariant.told.counted
    (writes_in c.args.bounds (asked_read c.args.asked) c.in_ok-first.first _ _ _ _ _ c.loop-lines.invariant.known (read_failed (asked_from c.in_ok-first.first c.args.bounds (asked_read c.args.asked)) c.args.strict (g.S.Source.left c.args.source.now) _ _ _ _ _ _ c.loop-lines.invariant.told.behind))
    (rest_of _ _ _ (counts_on (g.S.Source.left c.args.source.now) _ _ _ _ c.loop-lines.invariant.told.behind.known.counts c.in-Failed.ensures.counts))

pub returns-in-TooLong : goal.returns-in-TooLong
returns-in-TooLong g c =
    tells_halt g.S.Source.left g.S.Source.faults g.K.Sink.written g.K.Sink.flushed g.K.Sink.flushes g.K.Sink.faults c.args.bounds (asked_read c.args.asked) c.args.strict _ _ _ _ _ tt
    (c.in-TooLong.ensures.advances.no_fault ∙ c.loop-lines.invariant.read) c.loop-lines.invariant.wrote c.loop-lines.invariant.flushed _ c.loop-lines.invariant.told.counted
    (writes_in c.args.bounds (asked_read c.args.asked) c.in_ok-first.first _ _ _ _ _ c.loop-lines.invariant.known (too_many_bytes (asked_from c.in_ok-first.first c.args.bounds (asked_read c.args.asked)) c.args.strict (g.S.Source.left c.args.source.now) _ _ _ _ _ _ _ _ c.loop-lines.invariant.told.behind c.in-TooLong.ensures.counts c.in-TooLong.ensures.advances.counted))
    (rest_of _ _ _ (counts_on (g.S.Source.left c.args.source.now) _ _ _ _ c.loop-lines.invariant.told.behind.known.counts c.in-TooLong.ensures.counts))

pub returns-in-Memory : goal.returns-in-Memory
returns-in-Memory g c =
    tells_halt g.S.Source.left g.S.Source.faults g.K.Sink.written g.K.Sink.flushed g.K.Sink.flushes g.K.Sink.faults c.args.bounds (asked_read c.args.asked) c.args.strict _ _ _ _ _ tt
    (c.in-Memory.ensures.advances ∙ c.loop-lines.invariant.read) c.loop-lines.invariant.wrote c.loop-lines.invariant.flushed _ c.loop-lines.invariant.told.counted
    (writes_in c.args.bounds (asked_read c.args.asked) c.in_ok-first.first _ _ _ _ _ c.loop-lines.invariant.known (no_memory (asked_from c.in_ok-first.first c.args.bounds (asked_read c.args.asked)) c.args.strict (g.S.Source.left c.args.source.now) _ _ _ _ _ _ c.loop-lines.invariant.told.behind))
    (rest_of _ _ _ (counts_on (g.S.Source.left c.args.source.now) _ _ _ _ c.loop-lines.invariant.told.behind.known.counts c.in-Memory.ensures.counts))

pub returns : goal.returns
returns g c =
    tells_halt g.S.Source.left g.S.Source.faults g.K.Sink.written g.K.Sink.flushed g.K.Sink.flushes g.K.Sink.faults c.args.bounds (asked_read c.args.asked) c.args.strict _ _ _ _ _ tt c.loop-lines.invariant.read c.loop-lines.invariant.wrote c.loop-lines.invariant.flushed _ c.loop-lines.invariant.told.counted
    (writes_in c.args.bounds (asked_read c.args.asked) c.in_ok-first.first _ _ _ _ _ c.loop-lines.invariant.known (too_many_lines (asked_from c.in_ok-first.first c.args.bounds (asked_read c.args.asked)) c.args.strict (g.S.Source.left c.args.source.now) _ _ _ _ _ _ c.loop-lines.invariant.told.behind (omega (arith, c.loop-lines-test.false))))
    (rest_of _ _ _ c.loop-lines.invariant.told.behind.known.counts)
