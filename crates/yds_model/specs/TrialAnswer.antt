-- The answer of `trial`: the numbers of a plan of drawn jobs.
use Rattle.std.specs.Prelude.{◌≡◌, ℕ, zero, suc, ◌+◌, ◌*◌, ◌/◌, ◌%◌, List, [], ◌∷◌, ◌++◌, length, codes, decimal}
use Rattle.base.specs.declared.status.Status.{Status}
use Rattle.base.specs.declared.status.Status.TheVariants as statuses
use Rattle.yds_model.specs.Job.{Job}
use Rattle.yds_model.specs.Slot.{WrittenSlot}
use Rattle.yds_model.specs.Level.{Level}
use Rattle.base.specs.Lines.{line}
use Rattle.yds_model.specs.Plan.{IsPlan}

-- The generator: each draw replaces the state, a number below 2^32, and gives its upper half.
abbrev pub next_state : ℕ → ℕ
next_state state = (1664525 * state + 1013904223) % 4294967296

abbrev pub draw : ℕ → ℕ
draw state = state / 65536

-- a job of three draws: its release is ten times the first, its window one more than the second, its work one more than the third
abbrev pub drawn_job : ℕ → Job
drawn_job state = record {
  release = 10 * draw (next_state state);
  deadline = 10 * draw (next_state state) + 1 + draw (next_state (next_state state));
  work = 1 + draw (next_state (next_state (next_state state)));
}

abbrev pub drawn_jobs : ℕ → ℕ → List Job
drawn_jobs zero state = []
drawn_jobs (suc n) state = drawn_job state ∷ drawn_jobs n (next_state (next_state (next_state state)))

abbrev pub peak_words : List Level → List (List ℕ)
peak_words [] = codes "peak" ∷ codes "none" ∷ []
peak_words (level ∷ levels) = codes "peak" ∷ decimal level.work ∷ decimal level.length ∷ []

abbrev pub trial_text : ℕ → List WrittenSlot → List Level → List ℕ
trial_text jobs slots levels =
    line (codes "jobs" ∷ decimal jobs ∷ []) ++ line (codes "levels" ∷ decimal (length levels) ∷ []) ++ line (codes "slots" ∷ decimal (length slots) ∷ [])
    ++ line (peak_words levels) ++ line (codes "accepted" ∷ [])

pub record TrialAnswer (seed jobs : ℕ) (text : List ℕ) (status : Status) : Type 0 where
  pub slots : List WrittenSlot
  pub levels : List Level
  pub plan : IsPlan (drawn_jobs jobs seed) slots levels
  pub said : text ≡ trial_text jobs slots levels
  pub ended : status ≡ statuses.Done
