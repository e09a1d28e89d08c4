-- Runs of Average Rate of groups, tried on two jobs whose windows overlap, and near misses: a run that rounds, and a job that is left out
-- where idle time is dear.
use Rattle.yds_model.proofs.Common.{◌≡◌, ℕ, zero, suc, ◌*◌, ◌<◌, ◌≤◌, List, [], ◌∷◌, refl, ap, arith, inl, inr, true, All, All-nil, All-cons, AreDifferent, Job, jobs_with, Fraction, of_whole, of_parts, IsAtMost, WrittenSlot, IsScale, slots_at, excess, Point, IsTable, hull_multiple, horizon, average_rate, IsAverageRateRun, IsSpentAt, HoldsStretch, stretches, Spent, IsSpent, HoldsAll, Contains, Piece, average_rate_rounds, count_by, point_at, get_or, ◌+◌}
use Rattle.yds_energy.proofs.Finer.{each_scale_of}
use Rattle.yds_energy.proofs.RunScale.{average_rate_run_free}
use Rattle.yds_energy.proofs.SpentScale.{spent_free, all_hold_free}
use Rattle.yds_parts.specs.Parts.{WindowsAreForward}
use Rattle.yds_cuts.specs.Groups.{AreApartIn, HaveAll, IdleIsCheapest}
use Rattle.yds_cuts.specs.Energies.{IsSumOf, IsEnergyOver}
use Rattle.yds_cuts.specs.Bounds.{WrittenGroup}
use Rattle.yds_cuts.proofs.BoundsExamples.{two_numbers}
use Rattle.yds_group_runs.specs.GroupRuns.{numbers_of_written, IsGroupRun, excess_of_groups, IsSpentGroup}
use Rattle.yds_group_runs.proofs.Above.{group_runs_above_a_speed}
use Rattle.yds_group_runs.proofs.Spending.{group_runs_spend}
use Rattle.yds_examples.proofs.Tests.{Test, tests, test_all, proved}
use Rattle.yds_examples.proofs.TestedSchedules.{is_scale, run_at}
use Rattle.yds_ratio_examples.proofs.Spendings.{job, slot}

-- # By a test

-- the top point holds a stretch
abbrev holds : (points : List Point) (scale : ℕ) (slots : List WrittenSlot) (stretch : Piece) → Test (HoldsStretch points scale (slots_at scale slots) stretch)
holds points scale slots stretch = hlevel tests

module _ (jobs : List Job) (scale : ℕ) (slots : List WrittenSlot) (is : (is_scale scale slots).passes ≡ true) where
  -- what passes at a scale is a run of Average Rate on the grid 1,
  run_by_test : (rounded : ℕ) → (run_at jobs 1 scale (average_rate jobs 1 scale (slots_at scale slots)) (slots_at scale slots)).passes ≡ true →
      rounded ≡ count_by (average_rate_rounds jobs 1) (stretches jobs) → IsAverageRateRun jobs 1 rounded slots
  run_by_test rounded passed rounds = record {
    run = each_scale_of _ (average_rate_run_free jobs 1) slots scale (proved (is_scale scale slots) is)
        (proved (run_at jobs 1 scale (average_rate jobs 1 scale (slots_at scale slots)) (slots_at scale slots)) passed);
    rounds = rounds;
  }

  -- and spends this on the points.
  spent_by_test : (points : List Point) (spent : Spent) → 1 ≤ hull_multiple points → IsSpentAt jobs points spent scale (slots_at scale slots) →
      (test_all (holds points scale slots) (stretches jobs)).passes ≡ true → HoldsAll jobs points slots spent
  spent_by_test points spent wide at passed = record {
    holds = each_scale_of _ (all_hold_free jobs points) slots scale (proved (is_scale scale slots) is) (proved (test_all (holds points scale slots) (stretches jobs)) passed);
    is_spent = each_scale_of _ (spent_free jobs points spent wide) slots scale (proved (is_scale scale slots) is) at;
  }

abbrev group : List ℕ → List WrittenSlot → ℕ → WrittenGroup
group numbers slots energy = record { numbers = numbers; slots = slots; energy = of_whole energy }

abbrev point : ℕ → ℕ → Point
point speed power = record { speed = speed; power = power }

abbrev spends : ℕ → ℕ → ℕ → ℕ → Spent
spends energy idle one two = record { energy = of_whole energy; times = of_whole idle ∷ of_whole one ∷ of_whole two ∷ [] }

-- # Two windows that overlap

abbrev points : List Point
points = point 0 1 ∷ point 1 2 ∷ point 2 5 ∷ []

table : IsTable points
table = record { some = omega arith; idle = refl; rising = (omega arith, (omega arith, tt)) }

-- two jobs of work 4, from 0 to 4 and from 2 to 6
abbrev jobs : List Job
jobs = job 0 4 4 ∷ job 2 6 4 ∷ []

windows : WindowsAreForward jobs
windows = All-cons (λ one. one.release < one.deadline) (job 0 4 4) (job 2 6 4 ∷ []) (omega arith)
    (All-cons (λ one. one.release < one.deadline) (job 2 6 4) [] (omega arith) (All-nil (λ one. one.release < one.deadline)))

-- From 2 to 4 both are live, and the speed is 2.
abbrev slots : List WrittenSlot
slots =
    slot 0 (of_whole 0) (of_whole 2) (of_whole 2) ∷ slot 0 (of_whole 2) (of_whole 3) (of_whole 2) ∷ slot 1 (of_whole 3) (of_whole 4) (of_whole 2)
    ∷ slot 1 (of_whole 4) (of_whole 6) (of_whole 2) ∷ []

run : IsAverageRateRun jobs 1 0 slots
run = run_by_test jobs 1 slots refl 0 refl refl

-- So it spends 18,
side : HoldsAll jobs points slots (spends 18 0 4 2)
side = spent_by_test jobs 1 slots refl points (spends 18 0 4 2) (omega arith) (record { energy = refl; times = refl }) refl

-- and each job alone 8, at the speed 1.
abbrev first : WrittenGroup
first = group (0 ∷ []) (slot 0 (of_whole 0) (of_whole 4) (of_whole 4) ∷ []) 8

abbrev second : WrittenGroup
second = group (1 ∷ []) (slot 0 (of_whole 2) (of_whole 6) (of_whole 4) ∷ []) 8

first_alone : IsSpentGroup jobs points 1 first
first_alone = record {
  run = run_by_test (job 0 4 4 ∷ []) 1 first.slots refl 0 refl refl;
  times = of_whole 0 ∷ of_whole 4 ∷ of_whole 0 ∷ [];
  holds = spent_by_test (job 0 4 4 ∷ []) 1 first.slots refl points (spends 8 0 4 0) (omega arith) (record { energy = refl; times = refl }) refl;
}

second_alone : IsSpentGroup jobs points 1 second
second_alone = record {
  run = run_by_test (job 2 6 4 ∷ []) 1 second.slots refl 0 refl refl;
  times = of_whole 0 ∷ of_whole 4 ∷ of_whole 0 ∷ [];
  holds = spent_by_test (job 2 6 4 ∷ []) 1 second.slots refl points (spends 8 0 4 0) (omega arith) (record { energy = refl; times = refl }) refl;
}

apart : AreApartIn jobs (0 ∷ 1 ∷ [])
apart = record {
  known = All-cons (λ number. number < 2) 0 (1 ∷ []) (omega arith) (All-cons (λ number. number < 2) 1 [] (omega arith) (All-nil (λ number. number < 2)));
  different = two_numbers 0 1 (λ same. absurd (omega (arith, same)));
}

have_all : HaveAll jobs (0 ∷ 1 ∷ [])
have_all zero within = (0, omega arith, refl)
have_all (suc zero) within = (1, omega arith, refl)
have_all (suc (suc number)) within = absurd (omega (arith, within))

-- energies of two groups, with idle time over one horizon in place of theirs
over : (one other time own bound : ℕ) (points : List Point) → (point_at points 0).power * own + bound ≡ (point_at points 0).power * time + (one + other) →
    IsEnergyOver time own points (of_whole one ∷ of_whole other ∷ []) (of_whole bound)
over one other time own bound points is = record {
  has_parts = omega arith;
  each = All-cons (λ (x : Fraction). 1 ≤ x.den) (of_whole one) (of_whole other ∷ []) (omega arith)
      (All-cons (λ (x : Fraction). 1 ≤ x.den) (of_whole other) [] (omega arith) (All-nil (λ (x : Fraction). 1 ≤ x.den)));
  sum = of_whole (one + other);
  sum_has_parts = omega arith;
  is_sum = (of_whole other, omega arith, (of_whole 0, omega arith, refl, omega arith), omega arith);
  same = omega (arith, is);
}

-- Together that is 14 over the horizon of 6, and the run of both spends no less.
at_least_14 : IsAtMost (of_whole 14) (of_whole 18)
at_least_14 =
    group_runs_spend jobs points 1 slots (spends 18 0 4 2) (first ∷ second ∷ []) (of_whole 14) (omega arith) table windows apart (inl have_all) run side
    (All-cons (IsSpentGroup jobs points 1) first (second ∷ []) first_alone
    (All-cons (IsSpentGroup jobs points 1) second [] second_alone (All-nil (IsSpentGroup jobs points 1))))
    (over 8 8 6 8 14 points refl)

-- # A run that rounds

-- Two jobs until 4, and one of no work that makes 1 an event point
abbrev three : List Job
three = job 0 4 2 ∷ job 2 4 2 ∷ job 0 1 0 ∷ []

abbrev cheap : List Point
cheap = point 0 0 ∷ point 1 1 ∷ point 2 3 ∷ []

-- The run of all rounds the half of a unit up twice, so the first job is done by 2. It spends 4.
abbrev rounded_slots : List WrittenSlot
rounded_slots =
    slot 0 (of_whole 0) (of_whole 1) (of_whole 1) ∷ slot 0 (of_whole 1) (of_whole 2) (of_whole 1) ∷ slot 1 (of_whole 2) (of_whole 4) (of_whole 2) ∷ []

rounded_run : IsAverageRateRun three 1 2 rounded_slots
rounded_run = run_by_test three 1 rounded_slots refl 2 refl refl

rounded_side : HoldsAll three cheap rounded_slots (spends 4 0 4 0)
rounded_side = spent_by_test three 1 rounded_slots refl cheap (spends 4 0 4 0) (omega arith) (record { energy = refl; times = refl }) refl

-- Without the last job no half has to be rounded: the speed is 1/2, and 3/2 from 2 on. These two spend 5,
abbrev without : WrittenGroup
without =
    group (0 ∷ 1 ∷ [])
    (slot 0 (of_whole 0) (of_whole 2) (of_whole 1) ∷ slot 0 (of_whole 2) (of_parts 8 3) (of_whole 1) ∷ slot 1 (of_parts 8 3) (of_whole 4) (of_whole 2) ∷ []) 5

without_alone : IsSpentGroup three cheap 1 without
without_alone = record {
  run = run_by_test (job 0 4 2 ∷ job 2 4 2 ∷ []) 3 without.slots refl 0 refl refl;
  times = of_whole 1 ∷ of_whole 2 ∷ of_whole 1 ∷ [];
  holds = spent_by_test (job 0 4 2 ∷ job 2 4 2 ∷ []) 3 without.slots refl cheap (spends 5 1 2 1) (omega arith) (record { energy = refl; times = refl }) refl;
}

-- and the last one nothing.
abbrev nothing : WrittenGroup
nothing = group (2 ∷ []) [] 0

nothing_alone : IsSpentGroup three cheap 1 nothing
nothing_alone = record {
  run = run_by_test (job 0 1 0 ∷ []) 1 [] refl 0 refl refl;
  times = of_whole 1 ∷ of_whole 0 ∷ of_whole 0 ∷ [];
  holds = spent_by_test (job 0 1 0 ∷ []) 1 [] refl cheap (spends 0 1 0 0) (omega arith) (record { energy = refl; times = refl }) refl;
}

-- So what groups spend is no lower bound where the run of all rounds, although none of theirs does.
not_at_least_5 : IsEnergyOver 4 5 cheap (of_whole 5 ∷ of_whole 0 ∷ []) (of_whole 5) × (IsAtMost (of_whole 5) (of_whole 4) → ⊥)
not_at_least_5 = (over 5 0 4 5 5 cheap refl, λ most. absurd (omega (arith, most)))

-- Above the speed 1 they do something, and the run of all nothing.
above_1 : excess_of_groups 1 1 3 (without ∷ nothing ∷ []) ≤ excess 1 1 (slots_at 3 rounded_slots) → ⊥
above_1 most = absurd (omega (arith, most))

-- # A job that is left out where idle time is dear

abbrev dear : List Point
dear = point 0 10 ∷ point 1 1 ∷ []

abbrev in_turn : List Job
in_turn = job 0 1 1 ∷ job 1 3 2 ∷ []

abbrev turn_slots : List WrittenSlot
turn_slots = slot 0 (of_whole 0) (of_whole 1) (of_whole 1) ∷ slot 1 (of_whole 1) (of_whole 3) (of_whole 2) ∷ []

abbrev runs_3 : Spent
runs_3 = record { energy = of_whole 3; times = of_whole 0 ∷ of_whole 3 ∷ [] }

-- Both run for 3 units of time, and spend 3.
turn_side : IsAverageRateRun in_turn 1 0 turn_slots × HoldsAll in_turn dear turn_slots runs_3
turn_side = (
  run_by_test in_turn 1 turn_slots refl 0 refl refl,
  spent_by_test in_turn 1 turn_slots refl dear runs_3 (omega arith) (record { energy = refl; times = refl }) refl,
)

-- The first alone spends 1, and 21 with idle time over the horizon of both.
left_out : ((point_at dear 0).power * 1 + 21 ≡ (point_at dear 0).power * 3 + 1) × (IsAtMost (of_whole 21) (of_whole 3) → ⊥)
left_out = (refl, λ most. absurd (omega (arith, most)))

-- For the second is in no group, and the second point has less power than the first.
abbrev only_first : List ℕ
only_first = 0 ∷ []

not_there : Contains only_first 1 → ⊥
not_there (zero, within, is) = absurd (omega (arith, is))
not_there (suc k, within, is) = absurd (omega (arith, within))

no_premise : (HaveAll in_turn only_first → ⊥) × (IdleIsCheapest dear → ⊥)
no_premise = (λ have. not_there (have 1 (omega arith)), λ cheapest. absurd (omega (arith, cheapest 1 (point 1 1) (omega arith))))
