-- Earliest deadline first, tried where a schedule that is feasible isn't so.
use Rattle.yds_model.proofs.Common.{ℕ, List, [], ◌∷◌, refl, Job, WholeSlot, IsFeasibleAt, IsEarliestFirst}
use Rattle.yds_examples.proofs.Tests.{proved, refuted}
use Rattle.yds_examples.proofs.TestedSchedules.{feasible_at, earliest_first}

-- a slot at scale 1
abbrev slot : ℕ → ℕ → ℕ → ℕ → WholeSlot
slot job from to work = record { job = job; from = from; to = to; work = work }

-- a from 0 to 4 with work 4, and z from 0 to 2 without work
abbrev idle_job : List Job
idle_job = record { release = 0; deadline = 4; work = 4 } ∷ record { release = 0; deadline = 2; work = 0 } ∷ []

-- a alone is served: z needs no slot, though its deadline is the earlier one
without_it : IsFeasibleAt idle_job 1 (slot 0 0 4 4 ∷ []) × IsEarliestFirst idle_job 1 (slot 0 0 4 4 ∷ [])
without_it = (proved (feasible_at idle_job 1 (slot 0 0 4 4 ∷ [])) refl, proved (earliest_first idle_job 1 (slot 0 0 4 4 ∷ [])) refl)

-- with a slot of no work for z each job still gets its work,
abbrev with_it : List WholeSlot
with_it = slot 1 0 1 0 ∷ slot 0 1 4 4 ∷ []

-- as the definition wants it
feasible_with_it : IsFeasibleAt idle_job 1 with_it
feasible_with_it = proved (feasible_at idle_job 1 with_it) refl

-- but z may not run: it has no work that is pending
refused_with_it : IsEarliestFirst idle_job 1 with_it → ⊥
refused_with_it = refuted (earliest_first idle_job 1 with_it) refl

-- a from 0 to 6 with work 3, b from 1 to 4 with work 1
abbrev two_jobs : List Job
two_jobs = record { release = 0; deadline = 6; work = 3 } ∷ record { release = 1; deadline = 4; work = 1 } ∷ []

-- b is served as soon as it is released
interrupted : IsEarliestFirst two_jobs 1 (slot 0 0 1 1 ∷ slot 1 1 2 1 ∷ slot 0 2 4 2 ∷ [])
interrupted = proved (earliest_first two_jobs 1 (slot 0 0 1 1 ∷ slot 1 1 2 1 ∷ slot 0 2 4 2 ∷ [])) refl

-- To serve it later is feasible too, but at 1, where a's second slot begins, b's deadline is the earlier one.
abbrev later : List WholeSlot
later = slot 0 0 1 1 ∷ slot 0 1 3 2 ∷ slot 1 3 4 1 ∷ []

-- since each job gets its work in time
feasible_later : IsFeasibleAt two_jobs 1 later
feasible_later = proved (feasible_at two_jobs 1 later) refl

-- so it is refused
refused_later : IsEarliestFirst two_jobs 1 later → ⊥
refused_later = refuted (earliest_first two_jobs 1 later) refl

-- Of jobs with the same deadline the one that stands first comes first.
abbrev twins : List Job
twins = record { release = 0; deadline = 2; work = 1 } ∷ record { release = 0; deadline = 2; work = 1 } ∷ []

-- the first before the second
first_twin : IsEarliestFirst twins 1 (slot 0 0 1 1 ∷ slot 1 1 2 1 ∷ [])
first_twin = proved (earliest_first twins 1 (slot 0 0 1 1 ∷ slot 1 1 2 1 ∷ [])) refl

-- and not the other way round
second_twin : IsEarliestFirst twins 1 (slot 1 0 1 1 ∷ slot 0 1 2 1 ∷ []) → ⊥
second_twin = refuted (earliest_first twins 1 (slot 1 0 1 1 ∷ slot 0 1 2 1 ∷ [])) refl
