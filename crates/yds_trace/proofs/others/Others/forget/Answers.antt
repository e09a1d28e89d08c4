use Rattle.base.proofs.Common.{refl}
use Rattle.yds_trace.proofs.Spans.{others_forget}
use Rattle.yds_trace.proofs.others.Others.forget.Goals as goal

pub returns : goal.returns
returns c = λ asked counting before processor is later.
    others_forget asked counting before c.args.boundary processor c.early-count.result c.args.self.now _ is later
    (rw c.deref.ensures.value at c.early-count.ensures.earlier) refl refl c.drop_first.ensures
