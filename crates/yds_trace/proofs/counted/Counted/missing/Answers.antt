use Rattle.base.proofs.Common.{◌∙◌, ap, ap₂, arith, Bool, List}
use Rattle.yds_trace.specs.declared.followed.Followed.{Followed}
use Rattle.yds_trace.specs.Following.{missing_among}
use Rattle.yds_trace.proofs.Counting.{missing_is}
use Rattle.yds_trace.proofs.counted.Counted.missing.Goals as goal

pub returns : goal.returns
returns c = λ asked counting previous next is wakes first second.
    c.missing_among.ensures
    ∙ ap₂ (λ (b : Bool) (tasks : List Followed). missing_among b c.args.first c.args.second c.args.leaving 0 tasks) wakes c.deref.ensures.value
    ∙ missing_is asked counting c.args.self.now.boundary previous next c.args.first c.args.second c.args.leaving c.args.self.now.tasks.items first second
    (omega (arith, is.as_many, c.args.self.now.tasks.ok.0)) is.tasks
