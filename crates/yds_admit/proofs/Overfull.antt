-- Overfull intervals of jobs, of their numbers, and of the jobs in another order.
use Rattle.yds_model.proofs.Common.{◌≡◌, ℕ, ◌<◌, List, ◌++◌, length, get_or, ◌∙◌, sym, subst, arith, ap, Any, get_or-map, get_or_default, length-map, sum_by-append, Job, job_at, numbers_of, jobs_with, confined_work, IsOverfull, IsFirstOverfull, Any-append_left, sum_by-map, work_within}
use Rattle.model_lemmas.proofs.Confined.{part_within}
use Rattle.yds_laws.specs.AdmissionLaws.{HasRoom}
use Rattle.yds_laws.proofs.JobNumbers.{all_jobs}
use Rattle.yds_laws.proofs.Served.{confined_sum}

-- # The work confined to an interval

pub numbers_work : (jobs : List Job) (numbers : List ℕ) (from to : ℕ) → confined_work jobs numbers from to ≡ work_within (jobs_with jobs numbers) from to
numbers_work jobs numbers from to = confined_sum jobs numbers from to ∙ sym (sum_by-map (job_at jobs) (part_within from to) numbers)

pub jobs_work : (jobs : List Job) (from to : ℕ) → confined_work jobs (numbers_of jobs) from to ≡ work_within jobs from to
jobs_work jobs from to = numbers_work jobs (numbers_of jobs) from to ∙ ap (λ (some : List Job). work_within some from to) (all_jobs jobs)

-- # Some job, and some number of a job

pub any_job : (P : Job → Type 0) (jobs : List Job) (numbers : List ℕ) → Any (λ number. P (job_at jobs number)) numbers → Any P (jobs_with jobs numbers)
any_job P jobs numbers (k, number, within, is, holds) = (
  k,
  job_at jobs number,
  omega (arith, length-map numbers (job_at jobs)),
  get_or-map (job_at jobs) numbers k number (job_at jobs number) within ∙ ap (job_at jobs) is,
  holds,
)

pub any_number : (P : Job → Type 0) (jobs : List Job) (numbers : List ℕ) → Any P (jobs_with jobs numbers) → Any (λ number. P (job_at jobs number)) numbers
any_number P jobs numbers (k, job, within, is, holds) =
    let below : k < length numbers = omega (arith, length-map numbers (job_at jobs)) in (
      k,
      get_or numbers k 0,
      below,
      get_or_default numbers k (get_or numbers k 0) 0 below,
      subst P (sym is ∙ get_or-map (job_at jobs) numbers k 0 job below) holds,
    )

pub any_of_all : (P : Job → Type 0) (jobs : List Job) → Any (λ number. P (job_at jobs number)) (numbers_of jobs) → Any P jobs
any_of_all P jobs some = subst (λ (all : List Job). Any P all) (all_jobs jobs) (any_job P jobs (numbers_of jobs) some)

pub number_of_any : (P : Job → Type 0) (jobs : List Job) → Any P jobs → Any (λ number. P (job_at jobs number)) (numbers_of jobs)
number_of_any P jobs some = any_number P jobs (numbers_of jobs) (subst (λ (all : List Job). Any P all) (sym (all_jobs jobs)) some)

-- # The same interval of jobs and of their numbers

pub overfull_numbers : (jobs : List Job) (top : ℕ) (numbers : List ℕ) (from to : ℕ) →
    IsOverfull (jobs_with jobs numbers) top (numbers_of (jobs_with jobs numbers)) from to → IsOverfull jobs top numbers from to
overfull_numbers jobs top numbers from to full = record {
  forward = full.forward;
  is_release = any_number (λ job. job.release ≡ from) jobs numbers (any_of_all (λ job. job.release ≡ from) (jobs_with jobs numbers) full.is_release);
  is_deadline = any_number (λ job. job.deadline ≡ to) jobs numbers (any_of_all (λ job. job.deadline ≡ to) (jobs_with jobs numbers) full.is_deadline);
  too_much = omega (arith, full.too_much, numbers_work jobs numbers from to, jobs_work (jobs_with jobs numbers) from to);
}

overfull_jobs : (jobs : List Job) (top : ℕ) (numbers : List ℕ) (from to : ℕ) →
    IsOverfull jobs top numbers from to → IsOverfull (jobs_with jobs numbers) top (numbers_of (jobs_with jobs numbers)) from to
overfull_jobs jobs top numbers from to full = record {
  forward = full.forward;
  is_release = number_of_any (λ job. job.release ≡ from) (jobs_with jobs numbers) (any_job (λ job. job.release ≡ from) jobs numbers full.is_release);
  is_deadline = number_of_any (λ job. job.deadline ≡ to) (jobs_with jobs numbers) (any_job (λ job. job.deadline ≡ to) jobs numbers full.is_deadline);
  too_much = omega (arith, full.too_much, numbers_work jobs numbers from to, jobs_work (jobs_with jobs numbers) from to);
}

pub first_numbers : (jobs : List Job) (top : ℕ) (numbers : List ℕ) (from to : ℕ) →
    IsFirstOverfull (jobs_with jobs numbers) top (numbers_of (jobs_with jobs numbers)) from to → IsFirstOverfull jobs top numbers from to
first_numbers jobs top numbers from to first = record {
  overfull = overfull_numbers jobs top numbers from to first.overfull;
  first = λ other_from other_to full. first.first other_from other_to (overfull_jobs jobs top numbers other_from other_to full);
}

-- # A front of the jobs

-- jobs that leave no interval overfull leave none without those at the end
pub room_front : (top : ℕ) (jobs others : List Job) → HasRoom top (jobs ++ others) → HasRoom top jobs
room_front top jobs others room from to full = room from to (record {
  forward = full.forward;
  is_release = number_of_any (λ job. job.release ≡ from) (jobs ++ others) (Any-append_left (λ job. job.release ≡ from) jobs others
      (any_of_all (λ job. job.release ≡ from) jobs full.is_release));
  is_deadline = number_of_any (λ job. job.deadline ≡ to) (jobs ++ others) (Any-append_left (λ job. job.deadline ≡ to) jobs others
      (any_of_all (λ job. job.deadline ≡ to) jobs full.is_deadline));
  too_much = omega (
    arith,
    full.too_much,
    jobs_work jobs from to,
    jobs_work (jobs ++ others) from to,
    sum_by-append (part_within from to) jobs others,
  );
})
