use Rattle.yds_model.proofs.Common.{◌≡◌, [], Result, Ok, Err, subst}
use Rattle.base.specs.declared.status.Status.TheVariants as statuses
use Rattle.yds_trace.specs.Views.{asked_read}
use Rattle.yds_trace_bounds.specs.Bounds.{asked_from}
use Rattle.yds_trace_parts.specs.declared.halt.Halt.{Halt as HaltKept}
use Rattle.yds_trace_parts.specs.declared.halt.Halt.TheVariants as halts
use Rattle.yds_trace_files.specs.Unread.{Unread, unread_read}
use Rattle.yds_trace_run.specs.Endings.{TellsHalt}
use Rattle.yds_trace_run.proofs.Left.{leaves_nothing}
use Rattle.yds_trace_run.proofs.Plain.{granted}
use Rattle.yds_trace_run.proofs.Parted.{done_writes, halted_writes, delivered_behind, halted_ended, halted_not_done, halted_read_fault, halted_leaves, flushed_last, never_done}
use Rattle.yds_trace_run.proofs.running.run_in_parts.Goals as goal

abbrev done : Result (Unit {0}) HaltKept
done = Ok tt

abbrev ended : HaltKept → Result (Unit {0}) HaltKept
ended halt = Err halt

not_failed : (halt : HaltKept) → done ≡ ended halt → ⊥
not_failed halt same = cc

same_halt : (one other : HaltKept) → ended one ≡ ended other → one ≡ other
same_halt one other same = cc

same_end : (one other : HaltKept) → one ≡ other → ended one ≡ ended other
same_end one other same = cc

pub tell_parts-requires : goal.tell_parts-requires
tell_parts-requires g c = λ first. granted (asked_from first c.args.bounds (asked_read c.args.asked)) (c.requires.fit first)

pub returns-in-Ok-clause-answer : goal.returns-in-Ok-clause-answer
returns-in-Ok-clause-answer g c =
    done_writes g.K.Sink.written g.K.Sink.flushed g.K.Sink.flushes g.K.Sink.faults (g.S.Input.unread c.tell_parts.new.source) (asked_read c.args.asked) c.args.bounds c.args.strict (g.S.Source.left c.args.source.now) c.finish.result
    c.args.sink.now c.tell_parts.new.sink c.finish.new.sink c.requires.in_parts c.in-Ok.ensures.told c.finish.ensures

pub returns-in-Err-clause-answer : goal.returns-in-Err-clause-answer
returns-in-Err-clause-answer g c =
    let tells = subst (λ (unread : Unread). TellsHalt g.K.Sink.written g.K.Sink.flushed g.K.Sink.flushes g.K.Sink.faults unread c.in-Err.halt c.tell_halt.result c.tell_parts.new.sink
    c.tell_halt.new.sink) c.unread.ensures c.tell_halt.ensures in
    halted_writes g.K.Sink.written g.K.Sink.flushed g.K.Sink.flushes g.K.Sink.faults (g.S.Input.unread c.tell_parts.new.source) (asked_read c.args.asked) c.args.bounds c.args.strict (g.S.Source.left c.args.source.now) c.in-Err.halt c.tell_halt.result
    c.args.sink.now c.tell_parts.new.sink c.tell_halt.new.sink c.requires.in_parts c.in-Err.ensures.told tells

pub returns-in-Ok-clause-sink : goal.returns-in-Ok-clause-sink
returns-in-Ok-clause-sink g c =
    let often = c.in-Ok.ensures.flushed_so_often (not_failed halts.WriteFault) in
    delivered_behind g.K.Sink.written g.K.Sink.flushed g.K.Sink.flushes g.K.Sink.faults [] statuses.Done c.finish.result often.0 c.args.sink.now c.tell_parts.new.sink c.finish.new.sink
    c.in-Ok.ensures.sink_later (λ more. not_failed halts.WriteFault (c.in-Ok.ensures.sink_rose more)) often.1 c.finish.ensures

pub returns-in-Err-clause-sink : goal.returns-in-Err-clause-sink
returns-in-Err-clause-sink g c =
    halted_ended g.K.Sink.written g.K.Sink.flushed g.K.Sink.flushes g.K.Sink.faults (unread_read c.unread.result) c.in-Err.halt c.tell_halt.result c.args.sink.now c.tell_parts.new.sink c.tell_halt.new.sink
    c.in-Err.ensures.sink_later (λ failed. c.in-Err.ensures.write_fault (same_end c.in-Err.halt halts.WriteFault failed)) (λ more. same_halt c.in-Err.halt halts.WriteFault (c.in-Err.ensures.sink_rose more))
    (λ other. c.in-Err.ensures.flushed_so_often (λ same. other (same_halt c.in-Err.halt halts.WriteFault same))) c.tell_halt.ensures

-- Behind the last parts there is one flush more.
pub returns-in-Ok-clause-flushed_behind_each : goal.returns-in-Ok-clause-flushed_behind_each
returns-in-Ok-clause-flushed_behind_each g c =
    flushed_last (asked_read c.args.asked) c.args.bounds c.args.strict (g.S.Source.left c.args.source.now) (g.K.Sink.written c.args.sink.now) (g.K.Sink.written c.tell_parts.new.sink) c.finish.result
    (g.K.Sink.flushes c.args.sink.now) (g.K.Sink.flushes c.tell_parts.new.sink) (g.K.Sink.flushes c.finish.new.sink) c.in-Ok.ensures.told c.in-Ok.ensures.flushed_behind_each
    c.finish.ensures.flushed_once

pub returns-in-Err-clause-flushed_behind_each : goal.returns-in-Err-clause-flushed_behind_each
returns-in-Err-clause-flushed_behind_each g c =
    never_done (asked_read c.args.asked) c.args.bounds c.args.strict (g.S.Source.left c.args.source.now) c.tell_halt.result (g.K.Sink.flushes c.args.sink.now) (g.K.Sink.flushes c.tell_halt.new.sink)
    (halted_not_done g.K.Sink.written g.K.Sink.flushed g.K.Sink.flushes g.K.Sink.faults (unread_read c.unread.result) c.in-Err.halt c.tell_halt.result c.tell_parts.new.sink c.tell_halt.new.sink c.tell_halt.ensures)

pub returns-in-Ok-clause-read_to_its_end : goal.returns-in-Ok-clause-read_to_its_end
returns-in-Ok-clause-read_to_its_end g c =
    leaves_nothing (g.S.Source.left c.args.source.now) (g.S.Source.left c.tell_parts.new.source) c.finish.result _ _ c.in-Ok.ensures.none_left

pub returns-in-Err-clause-read_to_its_end : goal.returns-in-Err-clause-read_to_its_end
returns-in-Err-clause-read_to_its_end g c =
    halted_leaves g.K.Sink.written g.K.Sink.flushed g.K.Sink.flushes g.K.Sink.faults (unread_read c.unread.result) (g.S.Source.left c.args.source.now) (g.S.Source.left c.tell_parts.new.source) c.in-Err.halt
    c.tell_halt.result c.tell_parts.new.sink c.tell_halt.new.sink _ _
    (λ other. c.in-Err.ensures.read_out (λ same. other (same_halt c.in-Err.halt halts.WriteFault same))) c.tell_halt.ensures

pub returns-in-Err-clause-read_fault : goal.returns-in-Err-clause-read_fault
returns-in-Err-clause-read_fault g c = λ fault.
    c.in-Err.ensures.read_fault (same_end c.in-Err.halt halts.ReadFault (halted_read_fault g.K.Sink.written g.K.Sink.flushed g.K.Sink.flushes g.K.Sink.faults (unread_read c.unread.result) c.in-Err.halt c.tell_halt.result
    c.tell_parts.new.sink c.tell_halt.new.sink c.tell_halt.ensures fault))

pub returns-in-Err-clause-no_fault_passed_over : goal.returns-in-Err-clause-no_fault_passed_over
returns-in-Err-clause-no_fault_passed_over g c = λ done.
    absurd (halted_not_done g.K.Sink.written g.K.Sink.flushed g.K.Sink.flushes g.K.Sink.faults (unread_read c.unread.result) c.in-Err.halt c.tell_halt.result c.tell_parts.new.sink c.tell_halt.new.sink c.tell_halt.ensures done)
