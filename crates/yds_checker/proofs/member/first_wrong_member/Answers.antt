use Rattle.yds_model.proofs.Common.{below_more, refl, arith, false≢true}
use Rattle.yds_checker.proofs.member.first_wrong_member.Goals as goal

pub returns-then-not-stands_once : goal.returns-then-not-stands_once
returns-then-not-stands_once c = λ levels are. record {
  within = c.loop-job-test.true;
  before = c.loop-job.invariant levels are;
  fails = λ stands. false≢true ((c.if-not-stands_once.ensures levels are).1 stands);
}

pub loop-job-preserved : goal.loop-job-preserved
loop-job-preserved c = λ levels are. below_more _ _ (c.loop-job.invariant levels are) ((c.if-not-stands_once.ensures levels are).0 refl)

pub returns : goal.returns
returns c = λ levels are i within. c.loop-job.invariant levels are i (omega arith)
