use Rattle.base.proofs.Common.{ℕ, nat_lt, ap}
use Rattle.yds_trace.specs.Views.{start_read}
use Rattle.yds_trace.proofs.check.changes_parts.Goals as goal

pub returns-in-Lost : goal.returns-in-Lost
returns-in-Lost c = λ past lines is.
    rw c.in-Lost.is (ap (λ (time : ℕ). nat_lt time c.args.cut.decided) (c.lost_since.ensures (start_read c.args.asked.now.start) past lines.times))
