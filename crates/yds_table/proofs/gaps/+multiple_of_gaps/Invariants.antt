use Rattle.yds_model.proofs.Common.{length}
use Rattle.yds_table.proofs.gaps.+multiple_of_gaps.Given as goal

abbrev pub decreases-multiple_of_gaps : goal.decreases-multiple_of_gaps
decreases-multiple_of_gaps l = length l.points.now
