use Rattle.base.proofs.Common.{ℕ, ap, nat_lt}
use Rattle.yds_trace.proofs.counted.counts.Goals as goal

pub returns-in-Loss : goal.returns-in-Loss
returns-in-Loss c = λ asked past is.
    rw c.in-Loss.is (ap (λ (time : ℕ). nat_lt time c.args.to) (c.lost_since.ensures asked.start past is.times))
