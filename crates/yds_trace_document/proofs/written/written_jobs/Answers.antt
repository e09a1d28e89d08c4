use Rattle.base.proofs.Common.{◌∙◌, ◌<◌, length, arith, ap}
use Rattle.yds_trace_document.specs.declared.judged.Judged.{Judged as JudgedKept}
use Rattle.yds_trace_document.specs.Kept.{capped_of}
use Rattle.yds_trace_document.specs.Views.{units_read, judged_read, written_read}
use Rattle.yds_trace_document.proofs.Steps.{made_step}
use Rattle.yds_trace_document.proofs.written.written_jobs.Goals as goal

pub loop-one-preserved : goal.loop-one-preserved
loop-one-preserved c =
    let inside : c.loop-one.one-index < length c.args.judged.now = omega arith in
    made_step judged_read (capped_of (units_read c.args.units)) written_read c.args.judged.now c.loop-one.one-index c.one-item.result
    c.loop-one.jobs.items c.put_job.new.jobs.items c.in_ok-written_of.field-0 inside c.loop-one.invariant
    (c.in_ok-written_of.ensures ∙ ap (λ (one : JudgedKept). capped_of (units_read c.args.units) (judged_read one)) c.one-item.is)
    c.in_ok-put_job.ensures
