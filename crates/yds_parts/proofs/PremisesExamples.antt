-- The premises of the laws are met: a job from 0 to 2 and one from 5 to 7, each of work 2, with a slot that fills the window.
use Rattle.yds_model.proofs.Common.{rules, ◌≡◌, ℕ, zero, suc, ◌<◌, ◌≤◌, List, [], ◌∷◌, ◌++◌, refl, sym, subst, arith, inr, All, Any, All-cons, All-nil, one-dvd, Job, of_whole, WrittenSlot, WholeSlot, IsScale, Piece, IsTable, IsFeasibleAt, ComesFirst, stretches, LiesIn, IsUncut, ServesCapacity, IsRunAt, IsAverageRateRun, IsOptimalAvailableRun}
use Rattle.yds_parts.specs.Parts.{slots_in_turn, WindowsAreForward}
use Rattle.yds_parts.specs.EnergyOfParts.{AreScheduled}
use Rattle.yds_parts.proofs.RunsOfParts.{average_rate_of_parts, optimal_available_of_parts}
use Rattle.yds_parts.proofs.PartsExamples.{job, slot, apart}
use Rattle.yds_parts.proofs.RunsExamples.{one, other, slots, others, stretch, points}

-- # A job alone, with one slot from its release to its deadline

abbrev alone : ℕ → ℕ → ℕ → List Job
alone release deadline work = job release deadline work ∷ []

abbrev full : ℕ → ℕ → ℕ → List WholeSlot
full from to work = slot 0 from to work ∷ []

-- it is feasible
alone_feasible : (from to work : ℕ) → from < to → IsFeasibleAt (alone from to work) 1 (full from to work)
alone_feasible from to work takes = grind arith

-- and a run of each policy that serves so much
alone_run : (from to work : ℕ) (capacity : Piece → ℕ) → from < to → 1 ≤ work → stretches (alone from to work) ≡ stretch from to ∷ [] →
    ServesCapacity 1 1 (capacity (stretch from to)) (stretch from to) (full from to work) → IsRunAt (alone from to work) 1 1 capacity (full from to work)
alone_run from to work capacity takes some are serves = record {
  feasible = alone_feasible from to work takes;
  served = record {
    earliest_first = (record { may_run = record { released = omega arith; pending = omega (arith, some) }; first = λ number known may. comes number known }, tt);
    uncut = All-cons (IsUncut (alone from to work) 1) (slot 0 from to work) []
        (subst (Any (LiesIn 1 (slot 0 from to work))) (sym are) (0, stretch from to, omega arith, refl, record { from = omega arith; to = omega arith }))
        (All-nil (IsUncut (alone from to work) 1));
    once = λ i j order within same. absurd (omega (arith, order, within));
  };
  few = omega arith;
  each = subst (All (λ piece. ServesCapacity 1 1 (capacity piece) piece (full from to work))) (sym are)
      (All-cons (λ piece. ServesCapacity 1 1 (capacity piece) piece (full from to work)) (stretch from to) [] serves
      (All-nil (λ piece. ServesCapacity 1 1 (capacity piece) piece (full from to work))));
}
  where
    comes : (number : ℕ) → number < 1 → ComesFirst (alone from to work) 0 number
    comes zero known = inr (refl, omega arith)
    comes (suc number) known = absurd (omega (arith, known))

-- # As written

-- the same slot as it is written
abbrev written : ℕ → ℕ → ℕ → List WrittenSlot
written from to work = record { job = 0; from = of_whole from; to = of_whole to; work = of_whole work } ∷ []

-- 1 is a scale of it
written_scale : (from to work : ℕ) → IsScale 1 (written from to work)
written_scale from to work = search (arith, rules, All-cons, All-nil, job, one-dvd)

-- its window isn't empty
has_window : (release deadline work : ℕ) → release < deadline → WindowsAreForward (alone release deadline work)
has_window release deadline work window =
    All-cons (λ (job : Job). job.release < job.deadline) (job release deadline work) [] window (All-nil (λ (job : Job). job.release < job.deadline))

-- # Energy

-- both parts have jobs and a feasible schedule
scheduled : AreScheduled 4 1 one other slots others
scheduled = grind arith

-- and the points are a table
table : IsTable points
table = record { some = omega arith; idle = refl; rising = (omega arith, (omega arith, tt)) }

-- # Average Rate

-- each part has a run that rounds nowhere
first_rate : IsAverageRateRun one 1 0 (written 0 2 2)
first_rate = grind arith

second_rate : IsAverageRateRun other 1 0 (written 5 7 2)
second_rate = grind arith

-- so both together are its run of both jobs
rate_of_both : IsAverageRateRun (one ++ other) 1 0 (slots_in_turn one (written 0 2 2) (written 5 7 2))
rate_of_both =
    average_rate_of_parts 4 1 0 0 one other (written 0 2 2) (written 5 7 2) apart scheduled.first_windows scheduled.second_windows first_rate second_rate

-- # Optimal Available

-- so it is here
first_available : IsOptimalAvailableRun one 1 0 (written 0 2 2)
first_available = grind arith

second_available : IsOptimalAvailableRun other 1 0 (written 5 7 2)
second_available = grind arith

-- and of both together
available_of_both : IsOptimalAvailableRun (one ++ other) 1 0 (slots_in_turn one (written 0 2 2) (written 5 7 2))
available_of_both =
    optimal_available_of_parts 4 1 0 0 one other (written 0 2 2) (written 5 7 2) apart scheduled.first_windows scheduled.second_windows first_available second_available
