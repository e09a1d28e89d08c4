-- Parts, tried on a job from 0 to 2 and one from 2 to 4 or later, each of work 2: what meets the laws' premises, and near misses.
use Rattle.yds_model.proofs.Common.{◌≡◌, ℕ, ◌≤◌, [], ◌∷◌, refl, arith, Job, WholeSlot, RunFrom}
use Rattle.yds_parts.specs.Parts.{ArePartedAt, together_at, gap_between}

abbrev pub job : ℕ → ℕ → ℕ → Job
job release deadline work = record { release = release; deadline = deadline; work = work }

abbrev pub slot : ℕ → ℕ → ℕ → ℕ → WholeSlot
slot job from to work = record { job = job; from = from; to = to; work = work }

-- one job and another
parted_jobs : (time : ℕ) (one other : Job) → one.deadline ≤ time → time ≤ other.release → ArePartedAt time (one ∷ []) (other ∷ [])
parted_jobs time one other ends begins = grind arith

-- Where the one window ends as the other begins, they are parted at that time,
touching : ArePartedAt 2 (job 0 2 2 ∷ []) (job 2 4 2 ∷ [])
touching = parted_jobs 2 (job 0 2 2) (job 2 4 2) (omega arith) (omega arith)

-- and there is no time between them.
no_gap : gap_between (job 0 2 2 ∷ []) (job 2 4 2 ∷ []) ≡ 0
no_gap = refl

-- Three units of time later there are three.
pub apart : ArePartedAt 4 (job 0 2 2 ∷ []) (job 5 7 2 ∷ [])
apart = parted_jobs 4 (job 0 2 2) (job 5 7 2) (omega arith) (omega arith)

three_between : gap_between (job 0 2 2 ∷ []) (job 5 7 2 ∷ []) ≡ 3
three_between = refl

-- The second part's job is the second of all.
both : together_at (job 0 2 2 ∷ []) (slot 0 0 2 2 ∷ []) (slot 0 5 7 2 ∷ []) ≡ slot 0 0 2 2 ∷ slot 1 5 7 2 ∷ []
both = refl

-- Where the windows overlap by one unit of time, no time parts them,
overlapping : (time : ℕ) → ArePartedAt time (job 0 3 2 ∷ []) (job 2 4 2 ∷ []) → ⊥
overlapping time parted = absurd (omega (arith, parted.before 0 (job 0 3 2) (omega arith), parted.after 0 (job 2 4 2) (omega arith)))

-- and slots that are feasible for each job alone needn't be so together: these two run at the same time.
at_once : RunFrom 0 (together_at (job 0 3 2 ∷ []) (slot 0 0 3 2 ∷ []) (slot 0 2 4 2 ∷ [])) → ⊥
at_once run = absurd (omega (arith, run.2.0))
