use Rattle.base.proofs.Common.{refl}
use Rattle.yds_trace.proofs.Spans.{others_lost}
use Rattle.yds_trace.proofs.others.Others.lose.Goals as goal

pub returns : goal.returns
returns c = λ asked counting boundary processor other since is time_is.
    others_lost asked counting other since boundary processor c.args.time c.args.self.now _ is time_is refl c.in_ok-stop.ensures.spans
