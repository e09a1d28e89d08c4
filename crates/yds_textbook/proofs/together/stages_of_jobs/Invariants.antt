use Rattle.yds_model.proofs.Common.{◌≡◌, map, range_with_len}
use Rattle.yds_textbook.specs.Together.{stage_of_job}
use Rattle.yds_textbook.proofs.together.stages_of_jobs.Given as goal

abbrev pub invariant-loop-job : goal.invariant-loop-job
invariant-loop-job l = l.places.items ≡ map (stage_of_job l.stages) (range_with_len 0 l.job)
