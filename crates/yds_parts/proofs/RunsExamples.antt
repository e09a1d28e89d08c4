-- What parts spend and how policies serve them, tried on a job from 0 to 2 and one from 5 to 7, each of work 2, and on near misses whose
-- windows overlap by one unit of time.
use Rattle.yds_model.proofs.Common.{◌≡◌, ℕ, zero, suc, ◌+◌, List, [], ◌∷◌, ◌++◌, refl, ap, arith, count_by, Job, WholeSlot, Piece, Point, stretches, IsUncut, average_rate, average_rate_rounds, optimal_available, all_time_at, all_energy}
use Rattle.yds_parts.specs.Parts.{together_at}
use Rattle.yds_parts.specs.EnergyOfParts.{cost_between}
use Rattle.yds_parts.specs.SpentOfParts.{time_between}
use Rattle.yds_parts.proofs.PartsExamples.{job, slot}

abbrev pub one : List Job
one = job 0 2 2 ∷ []

abbrev pub other : List Job
other = job 5 7 2 ∷ []

abbrev pub slots : List WholeSlot
slots = slot 0 0 2 2 ∷ []

abbrev pub others : List WholeSlot
others = slot 0 5 7 2 ∷ []

abbrev pub stretch : ℕ → ℕ → Piece
stretch from to = record { from = from; to = to }

-- # Stretches

-- Three units of time lie between them, in a stretch of its own.
stretches_are : stretches (one ++ other) ≡ stretch 0 2 ∷ stretch 2 5 ∷ stretch 5 7 ∷ []
stretches_are = refl

-- Where the one window ends as the other begins, there is none between.
none_between : stretches (one ++ job 2 4 2 ∷ []) ≡ stretch 0 2 ∷ stretch 2 4 ∷ []
none_between = refl

-- Where the windows overlap by one unit of time, neither's stretch is one of both,
overlap : stretches (job 0 3 2 ∷ job 2 4 2 ∷ []) ≡ stretch 0 2 ∷ stretch 2 3 ∷ stretch 3 4 ∷ []
overlap = refl

-- so a slot that fills the first window lies in one stretch of the first job, and in none of both.
whole_window : IsUncut (job 0 3 2 ∷ []) 1 (slot 0 0 3 2)
whole_window = (0, stretch 0 3, omega arith, refl, record { from = omega arith; to = omega arith })

-- cut by the second job's release
cut : IsUncut (job 0 3 2 ∷ job 2 4 2 ∷ []) 1 (slot 0 0 3 2) → ⊥
cut (zero, piece, within, is, lies) = absurd (omega (arith, lies.to, ap (λ (p : Piece). p.to) is))
cut (suc zero, piece, within, is, lies) = absurd (omega (arith, lies.from, ap (λ (p : Piece). p.from) is))
cut (suc (suc zero), piece, within, is, lies) = absurd (omega (arith, lies.from, ap (λ (p : Piece). p.from) is))
cut (suc (suc (suc k)), piece, within, is, lies) = absurd (omega (arith, within))

-- A job that is due before it is released has no window, and what is parted at 2 doesn't part the stretches.
no_window : (stretches (job 5 1 0 ∷ []) ≡ stretch 1 5 ∷ []) × (stretches (job 5 1 0 ∷ job 3 4 1 ∷ []) ≡ stretch 1 3 ∷ stretch 3 4 ∷ stretch 4 5 ∷ [])
no_window = (refl, refl)

-- # Energy

-- speed 0 at the power 1, 1 at 3 and 2 at 9
abbrev pub points : List Point
points = record { speed = 0; power = 1 } ∷ record { speed = 1; power = 3 } ∷ record { speed = 2; power = 9 } ∷ []

-- each part takes 6, and the three units between them 3
energies : (all_energy one points 1 slots ≡ 6) × (all_energy other points 1 others ≡ 6) × (cost_between points 1 one other ≡ 3)
energies = (refl, refl, refl)

-- so both take 15
energy_of_both : all_energy (one ++ other) points 1 (together_at one slots others) ≡ 15
energy_of_both = refl

-- the time between is the first point's
times_of_both : (all_time_at (one ++ other) points 1 (together_at one slots others) 0 ≡ 3) × (all_time_at (one ++ other) points 1 (together_at one slots others) 1 ≡ 4)
times_of_both = (refl, refl)

-- three units of it, and none of the next
times_between : (time_between points 1 one other 0 ≡ 3) × (time_between points 1 one other 1 ≡ 0)
times_between = (refl, refl)

-- Where the windows overlap by one unit of time, the unit that the first job leaves idle isn't idle for both: 7 and 6 aren't 12.
overlap_costs : (all_energy (job 0 3 2 ∷ []) points 1 (slot 0 0 2 2 ∷ []) ≡ 7) × (all_energy (job 2 4 2 ∷ []) points 1 (slot 0 2 4 2 ∷ []) ≡ 6)
    × (cost_between points 1 (job 0 3 2 ∷ []) (job 2 4 2 ∷ []) ≡ 0)
    × (all_energy (job 0 3 2 ∷ job 2 4 2 ∷ []) points 1 (slot 0 0 2 2 ∷ slot 1 2 3 1 ∷ slot 1 3 4 1 ∷ []) ≡ 12)
overlap_costs = (refl, refl, refl, refl)

-- # Average Rate

-- It serves each part's 2 units, and none between them.
rates : (average_rate (one ++ other) 1 1 (together_at one slots others) (stretch 0 2) ≡ 2) × (average_rate (one ++ other) 1 1 (together_at one slots others) (stretch 2 5) ≡ 0)
    × (average_rate (one ++ other) 1 1 (together_at one slots others) (stretch 5 7) ≡ 2)
rates = (refl, refl, refl)

-- jobs that are released at 0 and at 1 and due at 3, after some time
abbrev two_jobs : ℕ → List Job
two_jobs from = job from (3 + from) 2 ∷ job (1 + from) (3 + from) 2 ∷ []

-- Of such jobs and others three units later it rounds at two event points each, so at four.
counts_add : (count_by (average_rate_rounds (two_jobs 0) 1) (stretches (two_jobs 0)) ≡ 2) × (count_by (average_rate_rounds (two_jobs 3) 1) (stretches (two_jobs 3)) ≡ 2)
    × (count_by (average_rate_rounds (two_jobs 0 ++ two_jobs 3) 1) (stretches (two_jobs 0 ++ two_jobs 3)) ≡ 4)
counts_add = (refl, refl, refl)

-- Where the windows overlap by one unit of time, it rounds for neither job alone, and at two event points for both.
counts_overlap : (count_by (average_rate_rounds (job 0 3 3 ∷ []) 1) (stretches (job 0 3 3 ∷ [])) ≡ 0)
    × (count_by (average_rate_rounds (job 2 4 1 ∷ []) 1) (stretches (job 2 4 1 ∷ [])) ≡ 0)
    × (count_by (average_rate_rounds (job 0 3 3 ∷ job 2 4 1 ∷ []) 1) (stretches (job 0 3 3 ∷ job 2 4 1 ∷ [])) ≡ 2)
counts_overlap = (refl, refl, refl)

-- # Optimal Available

-- It serves as much, and nothing where nothing is pending.
available : (optimal_available (one ++ other) 1 1 (together_at one slots others) (stretch 0 2) ≡ 2)
    × (optimal_available (one ++ other) 1 1 (together_at one slots others) (stretch 2 5) ≡ 0)
    × (optimal_available (one ++ other) 1 1 (together_at one slots others) (stretch 5 7) ≡ 2)
available = (refl, refl, refl)

-- Where the windows overlap by one unit of time, the first job's unit isn't done as the second is released, and both are asked for: 2 and not 1.
overlap_asks : (optimal_available (job 0 3 3 ∷ []) 1 1 (slot 0 0 3 3 ∷ []) (stretch 0 3) ≡ 3)
    × (optimal_available (job 0 3 3 ∷ job 2 4 2 ∷ []) 1 1 (slot 0 0 2 2 ∷ []) (stretch 2 3) ≡ 2)
overlap_asks = (refl, refl)
