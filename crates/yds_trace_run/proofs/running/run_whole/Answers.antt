use Rattle.yds_model.proofs.Common.{subst}
use Rattle.yds_trace.specs.Views.{asked_read}
use Rattle.yds_trace_bounds.specs.Bounds.{asked_from}
use Rattle.yds_trace_files.specs.Unread.{Unread}
use Rattle.yds_trace_run.specs.Endings.{IsDelivered, stopped_text, stopped_status}
use Rattle.yds_trace_run.proofs.Told.{told_writes, stopped_writes, no_read_fault}
use Rattle.yds_trace_run.proofs.Plain.{plain}
use Rattle.yds_trace_run.proofs.Left.{leaves_nothing, leaves_as_stopped}
use Rattle.yds_trace_run.proofs.running.run_whole.Goals as goal

pub tell-requires : goal.tell-requires
tell-requires g c =
    let known = c.in-Ok.ensures.known in
    plain (asked_from known.first c.args.bounds (asked_read c.args.asked)) c.in-Ok.ended (c.requires.fit known.first) known.of_some

pub returns-in-Ok-clause-read_fault : goal.returns-in-Ok-clause-read_fault
returns-in-Ok-clause-read_fault g c = λ fault.
    let known = c.in-Ok.ensures.known in
    absurd (no_read_fault g.K.Sink.written g.K.Sink.flushed g.K.Sink.flushes g.K.Sink.faults (asked_from known.first c.args.bounds (asked_read c.args.asked)) c.args.strict c.in-Ok.ended c.tell.result
    c.args.sink.now c.tell.new.sink known.of_some c.tell.ensures fault)

pub returns-in-Ok-clause-answer : goal.returns-in-Ok-clause-answer
returns-in-Ok-clause-answer g c =
    told_writes (g.S.Input.unread c.read_trace.new.source) g.K.Sink.written g.K.Sink.flushed g.K.Sink.flushes g.K.Sink.faults (asked_read c.args.asked) c.args.bounds c.args.strict (g.S.Source.left c.args.source.now) c.in-Ok.ended
    c.tell.result c.args.sink.now c.tell.new.sink c.requires.whole c.in-Ok.ensures.read c.tell.ensures

pub returns-in-Err-clause-answer : goal.returns-in-Err-clause-answer
returns-in-Err-clause-answer g c =
    let delivered = subst (λ (unread : Unread). IsDelivered g.K.Sink.written g.K.Sink.flushed g.K.Sink.flushes g.K.Sink.faults (stopped_text unread c.in-Err.stopped)
    (stopped_status c.in-Err.stopped) c.tell_stopped.result c.args.sink.now c.tell_stopped.new.sink) c.unread.ensures c.tell_stopped.ensures in
    stopped_writes (g.S.Input.unread c.read_trace.new.source) g.K.Sink.written g.K.Sink.flushed g.K.Sink.flushes g.K.Sink.faults (asked_read c.args.asked) c.args.bounds c.args.strict (g.S.Source.left c.args.source.now) c.in-Err.stopped
    c.tell_stopped.result c.args.sink.now c.tell_stopped.new.sink c.requires.whole c.in-Err.ensures.stopped delivered

pub returns-in-Ok-clause-read_to_its_end : goal.returns-in-Ok-clause-read_to_its_end
returns-in-Ok-clause-read_to_its_end g c =
    leaves_nothing (g.S.Source.left c.args.source.now) (g.S.Source.left c.read_trace.new.source) c.tell.result _ _ c.in-Ok.ensures.none_left

pub returns-in-Err-clause-read_to_its_end : goal.returns-in-Err-clause-read_to_its_end
returns-in-Err-clause-read_to_its_end g c =
    leaves_as_stopped (g.S.Source.left c.args.source.now) (g.S.Source.left c.read_trace.new.source) c.in-Err.stopped c.tell_stopped.result _ _ c.tell_stopped.ensures.said
    c.in-Err.ensures.read_out
