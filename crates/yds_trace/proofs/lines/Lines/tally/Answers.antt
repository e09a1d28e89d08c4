use Rattle.base.proofs.Common.{sym, ap}
use Rattle.yds_trace.specs.Asked.{Asked}
use Rattle.yds_trace.proofs.lines.Lines.tally.Goals as goal

pub returns : goal.returns
returns c = λ asked past same is.
    c.ended.ensures asked past is.lost
    (c.silence.ensures asked past is.times is.came
    (sym (c.last_asked-until.ensures asked past (ap (λ (read : Asked). read.to) (sym same)) is.times.last))) is.tallied
