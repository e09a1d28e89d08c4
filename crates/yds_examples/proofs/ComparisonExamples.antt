-- What schedules spend on the operating points, and the answer of `compare`, tried on its worked rows: a from 0 to 3 with work 2 and b from
-- 1 to 2 with work 1, on the grid 6.
use Rattle.yds_model.proofs.Common.{◌≡◌, ℕ, ◌+◌, ◌*◌, ◌<◌, ◌≤◌, List, [], ◌∷◌, length, map, refl, ap, arith, inl, inr, true, false, codes, digits, Job, Fraction, of_whole, of_parts, WrittenSlot, WholeSlot, IsScale, slots_at, Piece, Level, Point, hull_multiple, stretches, IsServedInStretches, IsPlan, IsRunAt, average_rate, IsAverageRateRun, work_in, all_time_at, all_energy, Spent, IsSpentAt, IsSpent, HoldsStretch, stretch_at, IsTooSlowFor, Spends, TooSlowFor, HoldsAll, IsSide, Answers}
use Rattle.base.specs.declared.status.Status.TheVariants.{Done, No, Refused}
use Rattle.yds_texts.specs.CompareText.{CostsNoLess}
use Rattle.yds_examples.proofs.Tests.{Test, tests, proved, refuted, test_never, test_le, test_eq, test_implied, test_all, test_each}
use Rattle.yds_examples.proofs.TestedSchedules.{is_scale, run_at}
use Rattle.yds_examples.proofs.TestedPlans.{proper_by_test, served_by_test, plan_by_test}
use Rattle.yds_examples.proofs.TestedRounding.{slow_enough}
use Rattle.yds_energy.proofs.Finer.{each_scale_of}
use Rattle.yds_energy.proofs.RunScale.{average_rate_run_free}
use Rattle.yds_examples.proofs.Policies.{available_jobs as jobs, fine_slots as available, fine_scale as available_scale, fine_accepted as available_run}
use Rattle.yds_energy.proofs.SpentScale.{spent_free, all_hold_free, first_failure_free, units_free}

-- the points: speed 0 at no power, 1 at 1, 2 at 3
abbrev points : List Point
points = record { speed = 0; power = 0 } ∷ record { speed = 1; power = 1 } ∷ record { speed = 2; power = 3 } ∷ []

abbrev slot : ℕ → Fraction → Fraction → Fraction → WrittenSlot
slot job from to work = record { job = job; from = from; to = to; work = work }

-- # Three schedules

-- The plan runs all at the speed 1.
abbrev planned : List WrittenSlot
planned = slot 0 (of_whole 0) (of_whole 1) (of_whole 1) ∷ slot 1 (of_whole 1) (of_whole 2) (of_whole 1) ∷ slot 0 (of_whole 2) (of_whole 3) (of_whole 1) ∷ []

plan_scale : IsScale 1 planned
plan_scale = proved (is_scale 1 planned) refl

abbrev level : Level
level = record { work = 3; length = 3; pieces = record { from = 0; to = 3 } ∷ []; members = 0 ∷ 1 ∷ [] }

plan_served : (scale : ℕ) → IsScale scale planned → IsServedInStretches jobs scale (slots_at scale planned)
plan_served = served_by_test jobs planned 1 refl refl

plan : IsPlan jobs planned (level ∷ [])
plan = plan_by_test jobs planned (level ∷ []) (proper_by_test jobs planned (level ∷ []) refl refl refl) plan_served refl

-- Average Rate serves 4, 10 and 4 sixths. (Optimal Available serves 4, 7 and 7, and is a run too.)
abbrev average : List WrittenSlot
average =
    slot 0 (of_whole 0) (of_whole 1) (of_parts 4 6)
    ∷ slot 1 (of_whole 1) (of_parts 8 5) (of_whole 1)
    ∷ slot 0 (of_parts 8 5) (of_whole 2) (of_parts 4 6)
    ∷ slot 0 (of_whole 2) (of_whole 3) (of_parts 4 6) ∷ []

average_scale : IsScale 30 average
average_scale = proved (is_scale 30 average) refl

average_run_at : IsRunAt jobs 6 30 (average_rate jobs 6 30 (slots_at 30 average)) (slots_at 30 average)
average_run_at = proved (run_at jobs 6 30 (average_rate jobs 6 30 (slots_at 30 average)) (slots_at 30 average)) refl

-- One scale decides, so it is a run, and rounds nowhere.
average_run : IsAverageRateRun jobs 6 0 average
average_run = record {
  run = each_scale_of _ (average_rate_run_free jobs 6) average 30 average_scale average_run_at;
  rounds = refl;
}

-- # What they spend

-- The times at the speeds 0, 1 and 2, in parts of a scale: the plan has 3 time units at 1,
planned_times : map (all_time_at jobs points 1 (slots_at 1 planned)) (0 ∷ 1 ∷ 2 ∷ []) ≡ 0 ∷ 3 ∷ 0 ∷ []
planned_times = refl

-- Average Rate 2/3, 5/3 and 2/3, in thirtieths,
average_times : map (all_time_at jobs points 30 (slots_at 30 average)) (0 ∷ 1 ∷ 2 ∷ []) ≡ 20 ∷ 50 ∷ 20 ∷ []
average_times = refl

-- Optimal Available 1/3, 7/3 and 1/3, in parts of 42.
available_times : map (all_time_at jobs points 42 (slots_at 42 available)) (0 ∷ 1 ∷ 2 ∷ []) ≡ 14 ∷ 98 ∷ 14 ∷ []
available_times = refl

-- The energies are 3,
planned_energy : all_energy jobs points 1 (slots_at 1 planned) ≡ 3
planned_energy = refl

-- 11/3
average_energy : all_energy jobs points 30 (slots_at 30 average) ≡ 110
average_energy = refl

-- and 10/3.
available_energy : all_energy jobs points 42 (slots_at 42 available) ≡ 140
available_energy = refl

abbrev third : ℕ → ℕ → Fraction
third whole num = record { whole = whole; num = num; den = 3 }

-- One scale decides: what is spent at one of them is spent.
spends : (points : List Point) (slots : List WrittenSlot) (spent : Spent) (scale : ℕ) → 1 ≤ hull_multiple points → IsScale scale slots →
    IsSpentAt jobs points spent scale (slots_at scale slots) → IsSpent jobs points slots spent
spends points slots spent scale wide is at_one = each_scale_of _ (spent_free jobs points spent wide) slots scale is at_one

-- the plan
abbrev planned_spent : Spent
planned_spent = record { energy = of_whole 3; times = of_whole 0 ∷ of_whole 3 ∷ of_whole 0 ∷ [] }

plan_spends : IsSpent jobs points planned planned_spent
plan_spends = spends points planned planned_spent 1 (omega arith) plan_scale (record { energy = refl; times = refl })

-- Average Rate
abbrev average_spent : Spent
average_spent = record { energy = third 3 2; times = third 0 2 ∷ third 1 2 ∷ third 0 2 ∷ [] }

average_spends : IsSpent jobs points average average_spent
average_spends = spends points average average_spent 30 (omega arith) average_scale (record { energy = refl; times = refl })

-- Optimal Available
abbrev available_spent : Spent
available_spent = record { energy = third 3 1; times = third 0 1 ∷ third 2 1 ∷ third 0 1 ∷ [] }

available_spends : IsSpent jobs points available available_spent
available_spends = spends points available available_spent 42 (omega arith) available_scale (record { energy = refl; times = refl })

-- So neither policy spends less than the plan; Optimal Available spends less than Average Rate.
average_costs_no_less : CostsNoLess planned_spent.energy (Spends average_spent)
average_costs_no_less = omega arith

available_costs_no_less : CostsNoLess planned_spent.energy (Spends available_spent)
available_costs_no_less = omega arith

available_costs_less : CostsNoLess average_spent.energy (Spends available_spent) → ⊥
available_costs_less most = omega (arith, most)

-- The same times with the energy 4 aren't what Average Rate spends,
other_energy : IsSpent jobs points average (record { energy = of_whole 4; times = average_spent.times }) → ⊥
other_energy spent = absurd (omega (arith, ap (λ (x : Fraction). x.whole) (spent.holds 30 average_scale).energy))

-- nor with its energy told in sixths,
in_sixths : IsSpent jobs points average (record { energy = record { whole = 3; num = 4; den = 6 }; times = average_spent.times }) → ⊥
in_sixths spent = absurd (omega (arith, ap (λ (x : Fraction). x.den) (spent.holds 30 average_scale).energy))

-- nor with five thirds beside 2,
improper : IsSpent jobs points average (record { energy = third 2 5; times = average_spent.times }) → ⊥
improper spent = absurd (omega (arith, ap (λ (x : Fraction). x.whole) (spent.holds 30 average_scale).energy))

-- nor with the last time left out.
time_missing : IsSpent jobs points average (record { energy = third 3 2; times = third 0 2 ∷ third 1 2 ∷ [] }) → ⊥
time_missing spent = absurd (omega (arith, ap (λ (times : List Fraction). length times) (spent.holds 30 average_scale).times))

-- A point above the hull is left out: with a power of 5 at the speed 1 half of the time at 2 costs less.
abbrev costly : List Point
costly = record { speed = 0; power = 0 } ∷ record { speed = 1; power = 5 } ∷ record { speed = 2; power = 3 } ∷ []

-- in halves, since the gap of the hull is 2
by_the_hull : map (all_time_at jobs costly 1 (slots_at 1 planned)) (0 ∷ 1 ∷ 2 ∷ []) ≡ 3 ∷ 0 ∷ 3 ∷ []
by_the_hull = refl

-- Time in which nothing runs costs the power of the first point: here 2, for each of the 2 time units between two jobs.
abbrev apart : List Job
apart = record { release = 0; deadline = 1; work = 1 } ∷ record { release = 3; deadline = 4; work = 1 } ∷ []

with_a_gap : all_energy apart (record { speed = 0; power = 2 } ∷ record { speed = 1; power = 5 } ∷ []) 1
    (record { job = 0; from = 0; to = 1; work = 1 } ∷ record { job = 1; from = 3; to = 4; work = 1 } ∷ []) ≡ 2 * 5 + 2 * 2
with_a_gap = refl

-- # Where the top point is too slow

-- the test whether the top point holds a stretch, and each
abbrev holds : (points : List Point) (scale : ℕ) (slots : List WholeSlot) (stretch : Piece) → Test (HoldsStretch points scale slots stretch)
holds points scale slots stretch = hlevel tests

-- On the three points both policies spend.
holds_all : (slots : List WrittenSlot) (spent : Spent) (scale : ℕ) → IsScale scale slots → IsSpent jobs points slots spent →
    (test_all (holds points scale (slots_at scale slots)) (stretches jobs)).passes ≡ true → HoldsAll jobs points slots spent
holds_all slots spent scale is spends passed = record {
  holds = each_scale_of _ (all_hold_free jobs points) slots scale is
      (proved (test_all (holds points scale (slots_at scale slots)) (stretches jobs)) passed);
  is_spent = spends;
}

average_side : IsSide jobs points 6 average (Spends average_spent)
average_side = holds_all average average_spent 30 average_scale average_spends refl

available_side : IsSide jobs points 6 available (Spends available_spent)
available_side = holds_all available available_spent 42 available_scale available_spends refl

-- The points `0 0` and `1 1` are too slow for the policies, though not for the plan.
abbrev slow : List Point
slow = record { speed = 0; power = 0 } ∷ record { speed = 1; power = 1 } ∷ []

-- the stretches are those between 0, 1, 2 and 3
three_stretches : stretches jobs ≡ record { from = 0; to = 1 } ∷ record { from = 1; to = 2 } ∷ record { from = 2; to = 3 } ∷ []
three_stretches = refl

-- a stretch that is the first at one scale is the first
too_slow_at_one : (slots : List WrittenSlot) (scale units place : ℕ) → IsScale scale slots → place < 3 →
    (test_each (λ i. holds slow scale (slots_at scale slots) (stretch_at jobs i)) place).passes ≡ true →
    (holds slow scale (slots_at scale slots) (stretch_at jobs place)).passes ≡ false →
    units * scale ≡ 6 * work_in scale (stretch_at jobs place) (slots_at scale slots) →
    IsTooSlowFor jobs slow 6 slots units (stretch_at jobs place).from (stretch_at jobs place).to
too_slow_at_one slots scale units place is within before fails same = record {
  place = place;
  is_stretch = refl;
  first = each_scale_of _ (first_failure_free jobs slow 3 place) slots scale is (record {
    within = within;
    before = proved (test_each (λ i. holds slow scale (slots_at scale slots) (stretch_at jobs i)) place) before;
    fails = refuted (holds slow scale (slots_at scale slots) (stretch_at jobs place)) fails;
  });
  is_units = each_scale_of _ (units_free 6 units (stretch_at jobs place)) slots scale is same;
}

-- Average Rate serves 10 units from 1 to 2, where 6 can be served,
average_too_slow : IsSide jobs slow 6 average (TooSlowFor 10 1 2)
average_too_slow = too_slow_at_one average 30 10 1 average_scale (omega arith) refl refl refl

-- and Optimal Available 7.
available_too_slow : IsSide jobs slow 6 available (TooSlowFor 7 1 2)
available_too_slow = too_slow_at_one available 42 7 1 available_scale (omega arith) refl refl refl

-- a stretch that begins at 0 is the first, which is held
first_of_stretches : (place : ℕ) → place < 3 → (stretch_at jobs place).from ≡ 0 → (HoldsStretch slow 30 (slots_at 30 average) (stretch_at jobs place) → ⊥) → ⊥
first_of_stretches = proved (test_each (λ place. test_implied (test_eq (stretch_at jobs place).from 0)
    (test_implied (test_implied (holds slow 30 (slots_at 30 average) (stretch_at jobs place)) test_never) test_never)) 3) refl

-- one that begins at 2 comes after the second
after_second : (place : ℕ) → place < 3 → (stretch_at jobs place).from ≡ 2 → 1 < place
after_second = proved (test_each (λ place. test_implied (test_eq (stretch_at jobs place).from 2) (test_le 2 place)) 3) refl

-- The stretch before holds 6 units and serves 4, so it isn't told, whatever units are,
not_before : (units : ℕ) → IsSide jobs slow 6 average (TooSlowFor units 0 1) → ⊥
not_before units side = grind (arith, average_scale, first_of_stretches)

-- nor is the one after, though it serves 7 units too: it isn't the first.
not_after : IsSide jobs slow 6 available (TooSlowFor 7 2 3) → ⊥
not_after side =
    let first = side.first.holds 42 available_scale in
    absurd (omega (arith, first.before 1 (after_second side.place first.within (ap (λ (stretch : Piece). stretch.from) side.is_stretch))))

-- Where the top is too slow nothing is spent.
not_spent : (spent : Spent) → IsSide jobs slow 6 average (Spends spent) → ⊥
not_spent spent side = absurd (omega (arith, side.holds.holds 30 average_scale 1 (record { from = 0; to = 0 }) (omega arith)))

-- # The answers

-- With three points all three are told, and that the policies round nowhere.
pub answer : Answers (codes "compare" ∷ codes "--grid" ∷ codes "6" ∷ []) (codes "job a 0 3 2\njob b 1 2 1\npoint 0 0\npoint 1 1\npoint 2 3\n")
    (codes "plan energy 3\nplan time 0 0\nplan time 1 3\nplan time 2 0\navr energy 3+2/3\navr time 0 0+2/3\navr time 1 1+2/3\navr time 2 0+2/3\navr rounded 0\noa energy 3+1/3\noa time 0 0+1/3\noa time 1 2+1/3\noa time 2 0+1/3\noa rounded 0\n") Done
unfolding digits
answer = inr (record {
  planned = planned;
  levels = level ∷ [];
  plan = plan;
  fast_enough = proved (slow_enough points (level ∷ [])) refl;
  plan_spent = planned_spent;
  plan_spends = plan_spends;
  average_slots = average;
  average_rounded = 0;
  average_run = average_run;
  average_side = Spends average_spent;
  is_average = average_side;
  optimal_slots = available;
  optimal_rounded = 0;
  optimal_run = available_run;
  optimal_side = Spends available_spent;
  is_optimal = available_side;
  said = refl;
  ended = refl;
})

-- Without the point of speed 2 the plan spends as much,
abbrev slow_spent : Spent
slow_spent = record { energy = of_whole 3; times = of_whole 0 ∷ of_whole 3 ∷ [] }

slow_spends : IsSpent jobs slow planned slow_spent
slow_spends = spends slow planned slow_spent 1 (omega arith) plan_scale (record { energy = refl; times = refl })

-- and of the policies it is told where the top is too slow.
too_slow : Answers (codes "compare" ∷ codes "--grid" ∷ codes "6" ∷ []) (codes "job a 0 3 2\njob b 1 2 1\npoint 0 0\npoint 1 1\n")
    (codes "plan energy 3\nplan time 0 0\nplan time 1 3\navr too-slow units 10 from 1 to 2 top 1\navr rounded 0\noa too-slow units 7 from 1 to 2 top 1\noa rounded 0\n") Done
unfolding digits
too_slow = inr (record {
  planned = planned;
  levels = level ∷ [];
  plan = plan;
  fast_enough = proved (slow_enough slow (level ∷ [])) refl;
  plan_spent = slow_spent;
  plan_spends = slow_spends;
  average_slots = average;
  average_rounded = 0;
  average_run = average_run;
  average_side = TooSlowFor 10 1 2;
  is_average = average_too_slow;
  optimal_slots = available;
  optimal_rounded = 0;
  optimal_run = available_run;
  optimal_side = TooSlowFor 7 1 2;
  is_optimal = available_too_slow;
  said = refl;
  ended = refl;
})

-- The point of speed 0 alone is too slow for the plan,
plan_too_fast : Answers (codes "compare" ∷ codes "--grid" ∷ codes "6" ∷ []) (codes "job a 0 3 2\njob b 1 2 1\npoint 0 0\n")
    (codes "too-slow work 3 length 3 top 0\n") No
unfolding digits
plan_too_fast = inl (record { slots = planned; level = level; others = []; plan = plan; too_fast = omega arith; said = refl; ended = refl })

-- and without points there is nothing to compare.
no_table : Answers (codes "compare" ∷ codes "--grid" ∷ codes "6" ∷ []) (codes "job a 0 3 2\njob b 1 2 1\n") (codes "refused no-table\n") Refused
no_table = record { said = refl; ended = refl }
