use Rattle.yds_model.proofs.Common.{◌-◌, length}
use Rattle.yds_admit.specs.Chain.{AreLinks}
use Rattle.yds_admit.proofs.Fitting.{Walking}
use Rattle.yds_admit.proofs.batch.fit.Given as goal

abbrev pub invariant-loop-spot : goal.invariant-loop-spot
invariant-loop-spot l = record {
  walking : Walking l.board.top l.board.times.items l.board.gaps.items l.board.spots.items l.marks (length l.board.times.items - 1) l.spot-index l.gaps;
  links : AreLinks l.gaps l.links;
}
