-- The pending units of the jobs that are due by a time, summed job by job.
use Rattle.yds_model.proofs.Common.{◌≡◌, ℕ, suc, ◌+◌, ◌-◌, ◌*◌, ◌<◌, ◌≤◌, length, slice_index_or, arith, cond, add-one, nat_le, le-leb, lt-leb, get_or_read, Job, job_at, mul-le-mul_right}
use Rattle.yds_edf.specs.Pending.{is_within, units_wanted}
use Rattle.base.specs.Numbers.{sum_below}
use Rattle.yds_edf.specs.Queue.{JobQueue, pending_in, all_pending}
use Rattle.yds_edf.specs.Engine.{TiedQueue, IsTiedQueue}
use Rattle.model_lemmas.proofs.SumsBelow.{sum_below_front, sum_below_at_most, sum_below_bound}
use Rattle.yds_edf.proofs.Arrivals.{wanted_bound}
use Rattle.yds_edf.proofs.Serving.{pending_wanted}
use Rattle.base.specs.declared.limits.TheConstants.{MAX_JOBS, MAX_WORK}

-- the units of a job that count by a time
abbrev pub due_of : JobQueue → ℕ → ℕ → ℕ
due_of queue time number = cond (nat_le (job_at queue.jobs number).deadline time) (pending_in queue number) 0

due_within : (queue : JobQueue) (time number : ℕ) → due_of queue time number ≤ units_wanted queue.jobs queue.grain number
due_within queue time number = grind arith

-- with one job more the sum is within 64 bits
pub due_fits : (tied : TiedQueue) (time number : ℕ) → IsTiedQueue tied → number < length tied.queue.jobs →
    sum_below number (due_of tied.queue time) + due_of tied.queue time number ≤ 4000000000000000000
due_fits tied time number kept within = omega (
  arith,
  wanted_bound tied kept,
  sum_below_front (suc number) (length tied.queue.jobs) (due_of tied.queue time) (omega arith),
  sum_below_at_most (length tied.queue.jobs) (due_of tied.queue time) (units_wanted tied.queue.jobs tied.queue.grain)
      (λ k below. due_within tied.queue time k),
)

-- what is read of a job tells its pending units
pub pending_read : (queue : JobQueue) (number : ℕ) (row : Job) (now pending : ℕ) → number < length queue.jobs →
    number < length queue.served → row ≡ slice_index_or queue.jobs number row → now ≡ slice_index_or queue.served number now →
    pending ≡ cond (is_within queue.time row.release) (row.work * queue.grain - now) 0 →
    pending ≡ pending_in queue number
pending_read queue number row now pending known served row_is now_is is = grind (arith, get_or_read)

-- a job that is due by the time counts, and one that isn't doesn't
pub due_read : (queue : JobQueue) (time number : ℕ) (row : Job) (deadline : ℕ) → number < length queue.jobs →
    row ≡ slice_index_or queue.jobs number row → deadline ≡ row.deadline → deadline ≤ time →
    due_of queue time number ≡ pending_in queue number
due_read queue time number row deadline known row_is is due = grind (arith, get_or_read, le-leb)

pub not_due_read : (queue : JobQueue) (time number : ℕ) (row : Job) (deadline : ℕ) → number < length queue.jobs →
    row ≡ slice_index_or queue.jobs number row → deadline ≡ row.deadline → time < deadline → due_of queue time number ≡ 0
not_due_read queue time number row deadline known row_is is late = grind (arith, get_or_read, lt-leb)

-- the sum with one job more
pub sum_more : (n : ℕ) (f : ℕ → ℕ) (units more : ℕ) → units ≡ sum_below n f → more ≡ f n → units + more ≡ sum_below (n + 1) f
sum_more n f units more sum term = rw add-one (omega (arith, sum, term))

pub sum_no_more : (n : ℕ) (f : ℕ → ℕ) (units : ℕ) → units ≡ sum_below n f → f n ≡ 0 → units ≡ sum_below (n + 1) f
sum_no_more n f units sum term = rw add-one (omega (arith, sum, term))

-- no more is pending of a job than the greatest work
pub pending_bound : (tied : TiedQueue) (number : ℕ) → IsTiedQueue tied → number < length tied.queue.jobs →
    pending_in tied.queue number ≤ MAX_WORK * tied.queue.grain
pending_bound tied number kept within = grind (arith, mul-le-mul_right, pending_wanted)

-- and of all jobs together than that of the greatest number of jobs
pub all_pending_bound : (tied : TiedQueue) → IsTiedQueue tied → all_pending tied.queue ≤ MAX_JOBS * (MAX_WORK * tied.queue.grain)
all_pending_bound tied kept = omega (
  arith,
  sum_below_bound (length tied.queue.jobs) (MAX_WORK * tied.queue.grain) (pending_in tied.queue)
      (λ number within. pending_bound tied number kept within),
  mul-le-mul_right (MAX_WORK * tied.queue.grain) kept.few,
)
