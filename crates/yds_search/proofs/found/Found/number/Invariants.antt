use Rattle.yds_model.proofs.Common.{◌≡◌}
use Rattle.yds_search.specs.Numbers.{AreWritten}
use Rattle.yds_search.specs.Own.{job_numbers, stretch_numbers}
use Rattle.yds_search.proofs.found.Found.number.Given as goal

abbrev pub invariant-loop-one : goal.invariant-loop-one
invariant-loop-one l = record {
  written : AreWritten (λ j number. number ≡ l.number) (job_numbers l.own.jobs.now) l.one-index l.initial.self.group_of_job.items l.self.group_of_job.items;
  shares : l.self.shares.items ≡ l.initial.self.shares.items;
  groups : l.self.groups.items ≡ l.initial.self.groups.items;
  stretches : l.self.group_of_stretch.items ≡ l.initial.self.group_of_stretch.items;
}

abbrev pub invariant-loop-one-2 : goal.invariant-loop-one-2
invariant-loop-one-2 l = record {
  written : AreWritten (λ k number. number ≡ l.number) (stretch_numbers l.own.stretches.now) l.one-index l.initial.self.group_of_stretch.items l.self.group_of_stretch.items;
  shares : l.self.shares.items ≡ l.initial.self.shares.items;
  groups : l.self.groups.items ≡ l.initial.self.groups.items;
  jobs : l.self.group_of_job.items ≡ l.initial.self.group_of_job.items;
}
