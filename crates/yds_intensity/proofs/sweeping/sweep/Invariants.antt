use Rattle.yds_model.proofs.Common.{map, take, job_at}
use Rattle.yds_intensity.proofs.Sweeps.{SweptSoFar}
use Rattle.yds_intensity.proofs.sweeping.sweep.Given as goal

abbrev pub invariant-loop-number : goal.invariant-loop-number
invariant-loop-number l = SweptSoFar (map (job_at l.rows) (take l.number-index l.order)) l.start l.work l.sums.items
