use Rattle.yds_model.proofs.Common.{◌≡◌, ℕ, ◌<◌, length, get_or, take, All, IsJob, job_at}
use Rattle.yds_admit.specs.Chain.{IsEnd}
use Rattle.yds_admit.proofs.board.ends.Given as goal

abbrev pub invariant-loop-row : goal.invariant-loop-row
invariant-loop-row l = record {
  as_long : length l.ends.items ≡ l.row-index;
  each : (k : ℕ) → k < l.row-index → IsEnd l.times (job_at l.rows k).deadline (get_or l.ends.items k 0);
  jobs : All IsJob (take l.row-index l.rows);
}
