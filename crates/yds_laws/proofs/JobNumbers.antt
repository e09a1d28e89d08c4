-- Jobs by their numbers: the jobs with all numbers are the jobs, so a sum over them is one over their numbers.
use Rattle.yds_model.proofs.Common.{◌≡◌, ℕ, ◌<◌, List, length, get_or, ◌∙◌, sym, arith, ap, sum_by, same_lists, get_or-map, get_or_default, length-map, get_or-range_with_len, length-range_with_len, Job, no_job, job_at, numbers_of, jobs_with, sum_by-map}

-- the jobs with the numbers of all jobs are the jobs
pub all_jobs : (jobs : List Job) → jobs_with jobs (numbers_of jobs) ≡ jobs
all_jobs jobs =
    same_lists (jobs_with jobs (numbers_of jobs)) jobs
    (length-map (numbers_of jobs) (job_at jobs) ∙ length-range_with_len 0 (length jobs))
    (λ k d within.
    let below : k < length jobs = omega (arith, length-map (numbers_of jobs) (job_at jobs), length-range_with_len 0 (length jobs)) in
    get_or-map (job_at jobs) (numbers_of jobs) k 0 d (omega (arith, length-range_with_len 0 (length jobs)))
    ∙ (ap (job_at jobs) (let it : get_or (numbers_of jobs) k 0 ≡ k = omega (arith, get_or-range_with_len 0 (length jobs) k 0 below) in it)
    ∙ get_or_default jobs k no_job d below))

-- a sum over the jobs, by their numbers
pub sum_by_number : (f : Job → ℕ) (jobs : List Job) → sum_by (λ number. f (job_at jobs number)) (numbers_of jobs) ≡ sum_by f jobs
sum_by_number f jobs = sym (sum_by-map (job_at jobs) f (numbers_of jobs)) ∙ ap (λ (all : List Job). sum_by f all) (all_jobs jobs)
