use Rattle.yds_model.proofs.Common.{◌≡◌, ◌*◌, ◌≤◌, take, sum_by}
use Rattle.yds_search.proofs.own.length_of.Given as goal

abbrev pub invariant-loop-own : goal.invariant-loop-own
invariant-loop-own l = record { sum : l.length ≡ sum_by (λ own. own.length) (take l.own-index l.stretches); small : l.length ≤ l.own-index * 4294967296 }
