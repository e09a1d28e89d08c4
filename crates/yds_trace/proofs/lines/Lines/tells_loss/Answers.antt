use Rattle.base.proofs.Common.{◌∙◌, ℕ, ap}
use Rattle.yds_trace.specs.Asked.{is_within_to}
use Rattle.yds_trace.proofs.lines.Lines.tells_loss.Goals as goal

pub returns-in-Loss : goal.returns-in-Loss
returns-in-Loss c = λ asked past is.
    rw c.in-Loss.is (c.is_within_to.ensures ∙ ap (λ (time : ℕ). is_within_to c.args.to time) (c.lost_since.ensures asked.start past is.times))
