use Rattle.yds_model.proofs.Common.{◌≡◌, [], Result, Ok, Err, subst}
use Rattle.base.specs.declared.status.Status.TheVariants as statuses
use Rattle.yds_trace_threads.specs.declared.halt.Halt.{Halt}
use Rattle.yds_trace_threads.specs.declared.halt.Halt.TheVariants as halts
use Rattle.yds_trace_files.specs.Unread.{Unread, unread_read}
use Rattle.yds_trace_run.specs.Endings.{stopped_of, TellsStop}
use Rattle.yds_trace_run.proofs.Left.{leaves_nothing}
use Rattle.yds_trace_run.proofs.Parted.{delivered_behind, once_behind}
use Rattle.yds_trace_run.proofs.Threads.{threads_write, no_threads_write, no_threads_ended, no_threads_once, no_threads_not_done, no_threads_read_fault, no_threads_leave}
use Rattle.yds_trace_run.proofs.running.run_threads.Goals as goal

abbrev done : Result (Unit {0}) Halt
done = Ok tt

abbrev ended : Halt → Result (Unit {0}) Halt
ended halt = Err halt

not_failed : (halt : Halt) → done ≡ ended halt → ⊥
not_failed halt same = cc

same_halt : (one other : Halt) → ended one ≡ ended other → one ≡ other
same_halt one other same = cc

same_end : (one other : Halt) → one ≡ other → ended one ≡ ended other
same_end one other same = cc

pub returns-in-Ok-clause-answer : goal.returns-in-Ok-clause-answer
returns-in-Ok-clause-answer g c =
    threads_write g.K.Sink.written g.K.Sink.flushed g.K.Sink.flushes g.K.Sink.faults (g.S.Input.unread c.tell_threads.new.source) (g.S.Source.left c.args.source.now) c.finish.result
    c.args.sink.now c.tell_threads.new.sink c.finish.new.sink c.in-Ok.ensures.told c.finish.ensures

pub returns-in-Err-clause-answer : goal.returns-in-Err-clause-answer
returns-in-Err-clause-answer g c =
    let tells = subst (λ (unread : Unread). TellsStop g.K.Sink.written g.K.Sink.flushed g.K.Sink.flushes g.K.Sink.faults unread (stopped_of c.in-Err.halt) c.tell_no_threads.result
    c.tell_threads.new.sink c.tell_no_threads.new.sink) c.unread.ensures c.tell_no_threads.ensures in
    no_threads_write g.K.Sink.written g.K.Sink.flushed g.K.Sink.flushes g.K.Sink.faults (g.S.Input.unread c.tell_threads.new.source) (g.S.Source.left c.args.source.now) c.in-Err.halt c.tell_no_threads.result
    c.args.sink.now c.tell_threads.new.sink c.tell_no_threads.new.sink c.in-Err.ensures.told tells

pub returns-in-Ok-clause-sink : goal.returns-in-Ok-clause-sink
returns-in-Ok-clause-sink g c =
    delivered_behind g.K.Sink.written g.K.Sink.flushed g.K.Sink.flushes g.K.Sink.faults [] statuses.Done c.finish.result 0 c.args.sink.now c.tell_threads.new.sink c.finish.new.sink
    c.in-Ok.ensures.sink_later (λ more. not_failed halts.WriteFault (c.in-Ok.ensures.sink_rose more)) c.in-Ok.ensures.flushes_stay c.finish.ensures

pub returns-in-Err-clause-sink : goal.returns-in-Err-clause-sink
returns-in-Err-clause-sink g c =
    no_threads_ended g.K.Sink.written g.K.Sink.flushed g.K.Sink.flushes g.K.Sink.faults (unread_read c.unread.result) c.in-Err.halt c.tell_no_threads.result c.args.sink.now c.tell_threads.new.sink
    c.tell_no_threads.new.sink c.in-Err.ensures.sink_later (λ failed. c.in-Err.ensures.write_fault (same_end c.in-Err.halt halts.WriteFault failed))
    (λ more. same_halt c.in-Err.halt halts.WriteFault (c.in-Err.ensures.sink_rose more)) c.in-Err.ensures.flushes_stay c.tell_no_threads.ensures

pub returns-in-Ok-clause-flushed_once : goal.returns-in-Ok-clause-flushed_once
returns-in-Ok-clause-flushed_once g c = λ whole.
    once_behind (g.K.Sink.flushes c.args.sink.now) (g.K.Sink.flushes c.tell_threads.new.sink) (g.K.Sink.flushes c.finish.new.sink) 0 c.in-Ok.ensures.flushes_stay
    (c.finish.ensures.flushed_once whole)

pub returns-in-Err-clause-flushed_once : goal.returns-in-Err-clause-flushed_once
returns-in-Err-clause-flushed_once g c =
    no_threads_once g.K.Sink.written g.K.Sink.flushed g.K.Sink.flushes g.K.Sink.faults (unread_read c.unread.result) c.in-Err.halt c.tell_no_threads.result c.args.sink.now c.tell_threads.new.sink
    c.tell_no_threads.new.sink c.in-Err.ensures.flushes_stay c.tell_no_threads.ensures

pub returns-in-Ok-clause-read_to_its_end : goal.returns-in-Ok-clause-read_to_its_end
returns-in-Ok-clause-read_to_its_end g c =
    leaves_nothing (g.S.Source.left c.args.source.now) (g.S.Source.left c.tell_threads.new.source) c.finish.result _ _ c.in-Ok.ensures.none_left

pub returns-in-Err-clause-read_to_its_end : goal.returns-in-Err-clause-read_to_its_end
returns-in-Err-clause-read_to_its_end g c =
    no_threads_leave g.K.Sink.written g.K.Sink.flushed g.K.Sink.flushes g.K.Sink.faults (unread_read c.unread.result) (g.S.Source.left c.args.source.now) (g.S.Source.left c.tell_threads.new.source)
    (stopped_of c.in-Err.halt) c.tell_no_threads.result c.tell_threads.new.sink c.tell_no_threads.new.sink _ _ c.in-Err.ensures.read_out c.tell_no_threads.ensures

pub returns-in-Err-clause-read_fault : goal.returns-in-Err-clause-read_fault
returns-in-Err-clause-read_fault g c = λ fault.
    c.in-Err.ensures.read_fault (same_end c.in-Err.halt halts.ReadFault (no_threads_read_fault g.K.Sink.written g.K.Sink.flushed g.K.Sink.flushes g.K.Sink.faults (unread_read c.unread.result) c.in-Err.halt
    c.tell_no_threads.result c.tell_threads.new.sink c.tell_no_threads.new.sink c.tell_no_threads.ensures fault))

pub returns-in-Err-clause-no_fault_passed_over : goal.returns-in-Err-clause-no_fault_passed_over
returns-in-Err-clause-no_fault_passed_over g c = λ done.
    absurd (no_threads_not_done g.K.Sink.written g.K.Sink.flushed g.K.Sink.flushes g.K.Sink.faults (unread_read c.unread.result) c.in-Err.halt c.tell_no_threads.result c.tell_threads.new.sink
    c.tell_no_threads.new.sink c.tell_no_threads.ensures done)
