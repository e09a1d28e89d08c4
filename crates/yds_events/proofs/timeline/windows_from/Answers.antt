use Rattle.yds_model.proofs.Common.{◌∙◌, sym, arith, map-range_with_len_more}
use Rattle.yds_events.specs.Keys.{window_from}
use Rattle.yds_events.proofs.timeline.windows_from.Goals as goal

pub loop-job-preserved : goal.loop-job-preserved
loop-job-preserved c = c.in_ok-push.ensures.items
    ∙ rw c.loop-job.invariant (sym (map-range_with_len_more (window_from c.args.places.now) 0 c.loop-job.job c.loop-job.job (omega arith)))
