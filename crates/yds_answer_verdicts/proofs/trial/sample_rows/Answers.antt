use Rattle.yds_model.proofs.Common.{drawn_jobs}
use Rattle.yds_answer_verdicts.proofs.Drawn.{drawn_more, drawn_all}
use Rattle.yds_answer_verdicts.proofs.trial.sample_rows.Goals as goal

pub loop-preserved : goal.loop-preserved
loop-preserved c =
    drawn_more c.args.jobs c.loop.counter c.loop.generator.state c.job.new.self.state c.job.result c.loop.rows.items c.push.new.self.items (drawn_jobs c.args.jobs c.args.seed)
    c.loop-test.true c.job.ensures.job c.job.ensures.state c.in_ok-push.ensures.items c.loop.invariant

pub returns : goal.returns
returns c = drawn_all c.args.jobs c.loop.counter c.loop.generator.state c.loop.rows.items (drawn_jobs c.args.jobs c.args.seed) c.loop-test.false c.loop.invariant
