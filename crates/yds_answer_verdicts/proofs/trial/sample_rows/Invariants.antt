use Rattle.yds_model.proofs.Common.{◌≡◌, ◌-◌, ◌++◌, drawn_jobs}
use Rattle.yds_answer_verdicts.proofs.trial.sample_rows.Given as goal

-- the jobs so far, and those that are still drawn from this state
abbrev pub invariant-loop : goal.invariant-loop
invariant-loop l = l.rows.items ++ drawn_jobs (l.jobs - l.counter) l.generator.state ≡ drawn_jobs l.jobs l.seed
