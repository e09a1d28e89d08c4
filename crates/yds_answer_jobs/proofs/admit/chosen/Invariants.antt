use Rattle.yds_model.proofs.Common.{◌≡◌, map, take, name_at, jobs_with}
use Rattle.yds_answer_jobs.proofs.admit.chosen.Given as goal

-- the jobs with the first numbers
abbrev pub invariant-loop-number : goal.invariant-loop-number
invariant-loop-number l = l.chosen ≡ record {
  names = map (name_at l.instance.names) (take l.number-index l.numbers);
  jobs = jobs_with l.instance.jobs (take l.number-index l.numbers);
}
