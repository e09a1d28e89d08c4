use Rattle.yds_model.proofs.Common.{take}
use Rattle.yds_round.proofs.Serving.{IsServed}
use Rattle.yds_round.proofs.cut.Cut.serve.Given as goal

abbrev pub invariant-loop-share : goal.invariant-loop-share
invariant-loop-share l = IsServed l.self l.fn.rounded (take l.share-index l.shares) l.reached l.rounded
