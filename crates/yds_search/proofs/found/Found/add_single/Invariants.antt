use Rattle.yds_model.proofs.Common.{◌≡◌, ◌++◌, take}
use Rattle.yds_search.specs.Own.{full_shares}
use Rattle.yds_search.proofs.found.Found.add_single.Given as goal

abbrev pub invariant-loop-one : goal.invariant-loop-one
invariant-loop-one l = record {
  shares : l.self.shares.items ≡ l.initial.self.shares.items ++ full_shares l.per_time l.own.jobs.now (take l.one-index l.own.stretches.now);
  groups : l.self.groups.items ≡ l.initial.self.groups.items;
  jobs : l.self.group_of_job.items ≡ l.initial.self.group_of_job.items;
  stretches : l.self.group_of_stretch.items ≡ l.initial.self.group_of_stretch.items;
}
