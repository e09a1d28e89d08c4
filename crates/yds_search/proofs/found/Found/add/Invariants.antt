use Rattle.yds_model.proofs.Common.{◌≡◌, ◌++◌, take}
use Rattle.yds_search.specs.Own.{shares_by_number}
use Rattle.yds_search.proofs.found.Found.add.Given as goal

abbrev pub invariant-loop-share : goal.invariant-loop-share
invariant-loop-share l = record {
  shares : l.self.shares.items
      ≡ l.initial.self.shares.items ++ shares_by_number l.own.jobs.now l.own.stretches.now ((take l.share-index l.shares));
  groups : l.self.groups.items ≡ l.initial.self.groups.items;
  jobs : l.self.group_of_job.items ≡ l.initial.self.group_of_job.items;
  stretches : l.self.group_of_stretch.items ≡ l.initial.self.group_of_stretch.items;
}
