use Rattle.yds_model.proofs.Common.{◌≡◌, ◌*◌, ◌≤◌, take, sum_by}
use Rattle.yds_search.proofs.own.work_of.Given as goal

abbrev pub invariant-loop-own : goal.invariant-loop-own
invariant-loop-own l = record { sum : l.work ≡ sum_by (λ own. own.work) (take l.own-index l.jobs); small : l.work ≤ l.own-index * 4294967296 }
