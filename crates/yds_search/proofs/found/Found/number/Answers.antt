use Rattle.yds_model.proofs.Common.{ℕ, List, length, ap, refl}
use Rattle.yds_search.proofs.Members.{written_more}
use Rattle.yds_search.proofs.found.Found.number.Goals as goal

pub loop-one-preserved : goal.loop-one-preserved
loop-one-preserved c = record {
  written = written_more (λ one. one.job) c.args.own.now.jobs.now c.loop-one.one-index c.len-number.result (length c.args.self.now.group_of_job.items) _ _ c.loop-one.self.group_of_job.items
      c.loop-one.invariant.written c.loop-one-test.true c.requires.jobs refl;
  shares = c.loop-one.invariant.shares;
  groups = c.loop-one.invariant.groups;
  stretches = c.loop-one.invariant.stretches;
}

pub loop-one-2-preserved : goal.loop-one-2-preserved
loop-one-2-preserved c = record {
  written = written_more (λ one. one.stretch) c.args.own.now.stretches.now c.loop-one-2.one-index c.len-number.result (length c.args.self.now.group_of_stretch.items) _ _
      c.loop-one-2.self.group_of_stretch.items c.loop-one-2.invariant.written c.loop-one-2-test.true c.requires.stretches (ap (λ (xs : List ℕ). length xs) c.loop-one.invariant.stretches);
  shares = c.loop-one-2.invariant.shares;
  groups = c.loop-one-2.invariant.groups;
  jobs = c.loop-one-2.invariant.jobs;
}
