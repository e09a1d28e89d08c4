use Rattle.base.proofs.Common.{◌∙◌, ℕ, List, ap}
use Rattle.yds_kernel.specs.Event.{Thread}
use Rattle.yds_trace.specs.declared.limits.TheConstants.{MAX_OTHER_NAME}
use Rattle.yds_trace.proofs.Spans.{first_bytes}
use Rattle.yds_trace.proofs.others.Another.new.Goals as goal

pub returns : goal.returns
returns c =
    ap {B = Thread} (λ (name : List ℕ). record { name = name; pid = c.args.thread.pid })
    (c.in_ok-name.ensures ∙ first_bytes MAX_OTHER_NAME c.min-count.result c.args.thread.name.now c.min-count.ensures)
