use Rattle.yds_model.proofs.Common.{below_more, refl, arith, false≢true}
use Rattle.yds_checker.proofs.windows.first_uncovered.Goals as goal

pub returns-then-not-is_covered : goal.returns-then-not-is_covered
returns-then-not-is_covered c = λ levels settled run. record {
  within = omega (arith, c.loop-job-test.true);
  before = c.loop-job.invariant levels settled run;
  fails = λ covered. false≢true ((c.if-not-is_covered.ensures levels settled run).1 covered);
}

pub loop-job-preserved : goal.loop-job-preserved
loop-job-preserved c = λ levels settled run.
    below_more _ _ (c.loop-job.invariant levels settled run) ((c.if-not-is_covered.ensures levels settled run).0 refl)

pub returns : goal.returns
returns c = λ levels settled run job within. c.loop-job.invariant levels settled run job (omega arith)
