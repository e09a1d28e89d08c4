-- What an engine keeps true: which jobs have arrived, and the units that are pending of each.
use Rattle.std.specs.Prelude.{◌≡◌, ℕ, ◌+◌, ◌<◌, ◌≤◌, ◌⊎◌, min, true, false, nat_lt, if◌then◌else◌, List, length, slice_index, slice_set, All, Option}
use Rattle.std.specs.List.Sorted.{IsPermutation, IsNonDecreasingBy}
use Rattle.base.specs.declared.limits.TheConstants.{MAX_JOBS}
use Rattle.base.specs.Numbers.{Each}
use Rattle.yds_model.specs.Job.{IsJob}
use Rattle.yds_edf.specs.declared.limits.TheConstants.{MAX_GRAIN}
use Rattle.yds_edf.specs.declared.due_order.Due.{Due}
use Rattle.yds_edf.specs.declared.pending.PendingJobs.{PendingJobs}
use Rattle.yds_edf.specs.DueOrder.{due_jobs, due_at}
use Rattle.yds_edf.specs.Pending.{units_wanted, is_within}
use Rattle.yds_timetable.specs.Shares.{JobShare}
use Rattle.yds_edf.specs.Serving.{IsDueBefore, IsServing}
use Rattle.yds_edf.specs.Queue.{JobQueue, pending_in, units_left, unfinished, Adds}
use Rattle.yds_edf.specs.Ranked.{AreRanked}

-- a queue, and the numbers that order jobs of the same deadline
pub record TiedQueue : Type 0 where
  pub queue : JobQueue
  pub ties : List ℕ

-- the queue once a job was served so many units more
abbrev pub with_served : TiedQueue → ℕ → ℕ → TiedQueue
with_served tied job units = record {
  queue = record tied.queue { served = slice_set tied.queue.served job (slice_index tied.queue.served job + units) };
  ties = tied.ties;
}

-- what is kept of the queue itself
pub record IsTiedQueue (tied : TiedQueue) : Type 0 where
  pub few : length tied.queue.jobs ≤ MAX_JOBS
  pub jobs : All IsJob tied.queue.jobs
  pub some_grain : 1 ≤ tied.queue.grain
  pub grain_in_range : tied.queue.grain ≤ MAX_GRAIN
  pub ties : length tied.ties ≡ length tied.queue.jobs
  pub different : (i j : ℕ) → i < length tied.queue.jobs → j < length tied.queue.jobs →
      slice_index tied.ties i ≡ slice_index tied.ties j → i ≡ j
  pub served : length tied.queue.served ≡ length tied.queue.jobs
  pub within : Each (length tied.queue.jobs) (λ number. slice_index tied.queue.served number ≤ units_wanted tied.queue.jobs tied.queue.grain number)

-- the jobs in order of their releases: of the first of them what is left is pending, of the others nothing
pub record AreArrived (tied : TiedQueue) (arrivals : List Due) (arrived : ℕ) (pending : PendingJobs) : Type 0 where
  pub ranked : AreRanked tied.queue.jobs tied.ties pending
  pub same : IsPermutation (due_jobs tied.queue.jobs tied.ties) arrivals
  pub rising : IsNonDecreasingBy (λ due. due.release) arrivals
  pub placed : Each (length arrivals) (λ k.
      slice_index pending.units (slice_index pending.places.items (due_at arrivals k).job)
      ≡ (if nat_lt k arrived then units_left tied.queue (due_at arrivals k).job else 0))

-- these first ones are those that were released by the last time of arrival
pub record HaveArrived (time : Option ℕ) (arrivals : List Due) (arrived : ℕ) : Type 0 where
  pub within : arrived ≤ length arrivals
  pub before : (k : ℕ) → k < arrived → is_within time (due_at arrivals k).release ≡ true
  pub after : (k : ℕ) → arrived ≤ k → k < length arrivals → is_within time (due_at arrivals k).release ≡ false

pub record IsEngine (tied : TiedQueue) (arrivals : List Due) (arrived : ℕ) (pending : PendingJobs) : Type 0 where
  pub kept : IsTiedQueue tied
  pub jobs : AreArrived tied arrivals arrived pending
  pub come : HaveArrived tied.queue.time arrivals arrived

-- the next job that is served, and how many units it gets: of those with units pending it is due first
pub record ServesFirst (old new : TiedQueue) (room job units : ℕ) : Type 0 where
  pub known : job < length old.queue.jobs
  pub some : 1 ≤ units
  pub lesser : units ≡ min room (pending_in old.queue job)
  pub first : (other : ℕ) → other < length old.queue.jobs → 1 ≤ pending_in old.queue other →
      (job ≡ other) ⊎ IsDueBefore old.queue.jobs (slice_index old.ties) job other
  pub after : new ≡ with_served old job units

-- a stretch is served earliest deadline first, jobs of the same deadline in order of their ties
pub record ServesTied (old new : TiedQueue) (stretch capacity : ℕ) (shares : List JobShare) : Type 0 where
  pub serving : IsServing old.queue.jobs (slice_index old.ties) (pending_in old.queue) capacity shares
  pub in_stretch : All (λ share. share.stretch ≡ stretch) shares
  pub finishing : length shares + unfinished new.queue ≤ unfinished old.queue + 1
  pub ties : new.ties ≡ old.ties
  pub adds : Adds old.queue new.queue shares
