use Rattle.yds_model.proofs.Common.{◌≡◌, ◌++◌, length, take, drop}
use Rattle.yds_search.specs.Stack.{staying_jobs, moving_jobs}
use Rattle.yds_search.proofs.Partings.{IsParting}
use Rattle.yds_search.proofs.stack.part_jobs.Given as goal

abbrev pub invariant-loop-at : goal.invariant-loop-at
invariant-loop-at l = record {
  parting : IsParting l.ranks (take l.start l.initial.jobs.items ++ staying_jobs l.ranks (drop l.start l.initial.jobs.items))
      (moving_jobs l.ranks (drop l.start l.initial.jobs.items)) l.jobs.items l.moving.items l.start l.staying l.at;
  count : length l.jobs.items ≡ l.at-end;
}
