use Rattle.yds_model.proofs.Common.{◌≡◌, ℕ, ◌<◌, map, range_with_len, IsJob, job_at}
use Rattle.yds_edf.specs.DueOrder.{due_job}
use Rattle.yds_edf.proofs.due_order.in_list_order.Given as goal

abbrev pub invariant-loop-number : goal.invariant-loop-number
invariant-loop-number l = record {
  jobs : (number : ℕ) → number < l.number → IsJob (job_at l.rows number);
  order : l.order.items ≡ map (due_job l.rows l.ties) (range_with_len 0 l.number);
}
