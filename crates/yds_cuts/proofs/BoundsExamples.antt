-- The two bounds, tried on two jobs of work 4 that may run from 0 to 4 and from 2 to 6, by the points (0, 1), (1, 2) and (2, 5).
use Rattle.yds_model.proofs.Common.{◌≡◌, ℕ, zero, suc, ◌*◌, ◌<◌, ◌≤◌, List, [], ◌∷◌, ◌∙◌, refl, sym, ap, arith, inl, inr, cond, pos, ◌≤ℤ◌, All, All-nil, All-cons, cases_eq, eq-eqb, ne_eqb, AreDifferent, count-cons, Job, job_at, jobs_with, Fraction, of_whole, WholeSlot, RunFrom, IsInWindow, work_given, IsFeasibleAt, IsLeastAt, Piece, IsConfined, Point, IsTable, IsConvex, horizon, interpolated_energy}
use Rattle.yds_laws.proofs.Bound.{confinement_bound}
use Rattle.yds_cuts.specs.Groups.{Group, numbers_of_groups, AreApartIn, HaveAll, IdleIsCheapest, slots_of_groups, energy_over}
use Rattle.yds_cuts.specs.Energies.{IsEnergyOver}
use Rattle.yds_cuts.specs.Bounds.{AreLeastGroups, before_cut, after_cut, AreShortenedGroups, WindowsInTurn}
use Rattle.yds_cuts.proofs.Below.{groups_cost_at_most_all}
use Rattle.yds_cuts.proofs.BothBounds.{bounds_meet}
use Rattle.yds_cuts.proofs.Above.{windows_in_turn_run_in_turn, shortened_groups_cost}
use Rattle.yds_cuts.proofs.CutsExamples.{job}

abbrev slot : ℕ → ℕ → ℕ → ℕ → WholeSlot
slot job from to work = record { job = job; from = from; to = to; work = work }

-- # A job alone is least over its whole window

pub one_number : (x : ℕ) → AreDifferent (x ∷ [])
one_number x number = elim (cases_eq number x) [
  | inl same ↦ omega (arith, count-cons number x [], ap {B = ℕ} (λ b. cond b 1 0) (eq-eqb number x same))
  | inr other ↦ omega (arith, count-cons number x [], ap {B = ℕ} (λ b. cond b 1 0) (ne_eqb number x other))
]

alone_least : (release deadline work : ℕ) → release < deadline → IsLeastAt (job release deadline work ∷ []) 1 (slot 0 release deadline work ∷ [])
alone_least release deadline work window = record {
  feasible = grind arith;
  least = λ p q some others feasible.
      let piece : Piece = record { from = release; to = deadline } in
      let bound = confinement_bound (job release deadline work ∷ []) 1 p q others (0 ∷ []) (piece ∷ []) (omega arith) (one_number 0)
      (All-cons (λ number. number < 1) 0 [] (omega arith) (All-nil (λ number. number < 1)))
      (All-cons (λ number. IsConfined (job_at (job release deadline work ∷ []) number) (piece ∷ [])) 0 []
      (λ time begins ends. (0, piece, omega arith, refl, (begins, ends)))
      (All-nil (λ number. IsConfined (job_at (job release deadline work ∷ []) number) (piece ∷ []))))
      feasible in
      omega (arith, bound);
}

-- # Windows that overlap

abbrev points : List Point
points = record { speed = 0; power = 1 } ∷ record { speed = 1; power = 2 } ∷ record { speed = 2; power = 5 } ∷ []

table : IsTable points
table = record { some = omega arith; idle = refl; rising = (omega arith, (omega arith, tt)) }

convex : IsConvex points
convex = (omega arith, tt)

abbrev jobs : List Job
jobs = job 0 4 4 ∷ job 2 6 4 ∷ []

-- each job in a group of its own, with a slot from its release to its deadline
abbrev alone : ℕ → ℕ → ℕ → ℕ → Group
alone number release deadline work = record { numbers = number ∷ []; slots = slot 0 release deadline work ∷ [] }

abbrev groups : List Group
groups = alone 0 0 4 4 ∷ alone 1 2 6 4 ∷ []

-- two different numbers
pub two_numbers : (x y : ℕ) → (x ≡ y → ⊥) → AreDifferent (x ∷ y ∷ [])
two_numbers x y other number = elim (cases_eq number x) [
  | inl same ↦ omega (
    arith,
    count-cons number x (y ∷ []),
    count-cons number y [],
    ap {B = ℕ} (λ b. cond b 1 0) (eq-eqb number x same),
    ap {B = ℕ} (λ b. cond b 1 0) (ne_eqb number y (λ also. other (sym same ∙ also))),
  )
  | inr isnt ↦ omega (
    arith,
    count-cons number x (y ∷ []),
    ap {B = ℕ} (λ b. cond b 1 0) (ne_eqb number x isnt),
    one_number y number,
  )
]

apart : AreApartIn jobs (numbers_of_groups groups)
apart = record {
  known = All-cons (λ number. number < 2) 0 (1 ∷ []) (omega arith) (All-cons (λ number. number < 2) 1 [] (omega arith) (All-nil (λ number. number < 2)));
  different = two_numbers 0 1 (λ same. absurd (omega (arith, same)));
}

least_groups : AreLeastGroups jobs 1 groups
least_groups = record {
  apart = apart;
  least = All-cons (λ group. IsLeastAt (jobs_with jobs group.numbers) 1 group.slots) (alone 0 0 4 4) (alone 1 2 6 4 ∷ []) (alone_least 0 4 4 (omega arith))
      (All-cons (λ group. IsLeastAt (jobs_with jobs group.numbers) 1 group.slots) (alone 1 2 6 4) [] (alone_least 2 6 4 (omega arith))
      (All-nil (λ group. IsLeastAt (jobs_with jobs group.numbers) 1 group.slots)));
}

have_all : HaveAll jobs (numbers_of_groups groups)
have_all zero within = (0, omega arith, refl)
have_all (suc zero) within = (1, omega arith, refl)
have_all (suc (suc number)) within = absurd (omega (arith, within))

-- Together, over the horizon of 6, they cost 14: 8 each, without the first point's power for 2 of their 8 units of time.
groups_are_14 : energy_over (horizon jobs) jobs points 1 groups ≡ pos 14
groups_are_14 = refl

-- So no feasible schedule of both jobs costs less.
at_least_14 : (others : List WholeSlot) → IsFeasibleAt jobs 1 others → pos 14 ≤ℤ interpolated_energy jobs points 1 others
at_least_14 others feasible = groups_cost_at_most_all jobs points 1 groups others table convex least_groups have_all feasible

-- Shortened at 3, the windows are apart,
abbrev short : List Job
short = before_cut 3 (job 0 4 4) ∷ after_cut 3 (job 2 6 4) ∷ []

abbrev short_groups : List Group
short_groups = alone 0 0 3 4 ∷ alone 1 3 6 4 ∷ []

in_turn : WindowsInTurn 0 short ((0 ∷ []) ∷ (1 ∷ []) ∷ [])
in_turn = (
  3,
  omega arith,
  All-cons (λ number. 0 ≤ (job_at short number).release) 0 [] (omega arith) (All-nil (λ number. 0 ≤ (job_at short number).release)),
  All-cons (λ number. (job_at short number).deadline ≤ 3) 0 [] (omega arith) (All-nil (λ number. (job_at short number).deadline ≤ 3)),
  (
    6,
    omega arith,
    All-cons (λ number. 3 ≤ (job_at short number).release) 1 [] (omega arith) (All-nil (λ number. 3 ≤ (job_at short number).release)),
    All-cons (λ number. (job_at short number).deadline ≤ 6) 1 [] (omega arith) (All-nil (λ number. (job_at short number).deadline ≤ 6)),
    tt,
  ),
)

feasible_groups : All (λ group. IsFeasibleAt (jobs_with short group.numbers) 1 group.slots) short_groups
feasible_groups =
    All-cons (λ group. IsFeasibleAt (jobs_with short group.numbers) 1 group.slots) (alone 0 0 3 4) (alone 1 3 6 4 ∷ []) (alone_least 0 3 4 (omega arith)).feasible
    (All-cons (λ group. IsFeasibleAt (jobs_with short group.numbers) 1 group.slots) (alone 1 3 6 4) [] (alone_least 3 6 4 (omega arith)).feasible
    (All-nil (λ group. IsFeasibleAt (jobs_with short group.numbers) 1 group.slots)))

-- and the slots that fill them are a feasible schedule of both jobs
shortened : AreShortenedGroups jobs short 1 short_groups
shortened = record {
  shortened = (record { released = omega arith; due = omega arith; work = refl }, (record { released = omega arith; due = omega arith; work = refl }, tt));
  apart = apart;
  all = have_all;
  feasible = feasible_groups;
  in_turn = windows_in_turn_run_in_turn short 1 short_groups in_turn feasible_groups;
}

-- that costs 18.
costs_18 : interpolated_energy jobs points 1 (slots_of_groups short_groups) ≡ pos 18
costs_18 = (shortened_groups_cost jobs short points 1 short_groups shortened).1

-- As they are, the slots that fill the windows would run at once.
at_once : RunFrom 0 (slots_of_groups groups) → ⊥
at_once run = absurd (omega (arith, run.2.0))

-- As fractions: 8 and 8 over 8 units of time are 14 over 6.
over_14 : IsEnergyOver 6 8 points (of_whole 8 ∷ of_whole 8 ∷ []) (of_whole 14)
over_14 = record {
  has_parts = omega arith;
  each = All-cons (λ (one : Fraction). 1 ≤ one.den) (of_whole 8) (of_whole 8 ∷ []) (omega arith)
      (All-cons (λ (one : Fraction). 1 ≤ one.den) (of_whole 8) [] (omega arith) (All-nil (λ (one : Fraction). 1 ≤ one.den)));
  sum = of_whole 16;
  sum_has_parts = omega arith;
  is_sum = (of_whole 8, omega arith, (of_whole 0, omega arith, refl, refl), refl);
  same = refl;
}

-- # Windows that are apart

-- From 0 to 2 and from 5 to 7 the windows are in turn,
abbrev apart_jobs : List Job
apart_jobs = job 0 2 2 ∷ job 5 7 2 ∷ []

abbrev apart_groups : List Group
apart_groups = alone 0 0 2 2 ∷ alone 1 5 7 2 ∷ []

apart_in_turn : WindowsInTurn 0 apart_jobs ((0 ∷ []) ∷ (1 ∷ []) ∷ [])
apart_in_turn = (
  2,
  omega arith,
  All-cons (λ number. 0 ≤ (job_at apart_jobs number).release) 0 [] (omega arith) (All-nil (λ number. 0 ≤ (job_at apart_jobs number).release)),
  All-cons (λ number. (job_at apart_jobs number).deadline ≤ 2) 0 [] (omega arith) (All-nil (λ number. (job_at apart_jobs number).deadline ≤ 2)),
  (
    7,
    omega arith,
    All-cons (λ number. 2 ≤ (job_at apart_jobs number).release) 1 [] (omega arith) (All-nil (λ number. 2 ≤ (job_at apart_jobs number).release)),
    All-cons (λ number. (job_at apart_jobs number).deadline ≤ 7) 1 [] (omega arith) (All-nil (λ number. (job_at apart_jobs number).deadline ≤ 7)),
    tt,
  ),
)

apart_least : AreLeastGroups apart_jobs 1 apart_groups
apart_least = record {
  apart = record { known = apart.known; different = apart.different };
  least = All-cons (λ group. IsLeastAt (jobs_with apart_jobs group.numbers) 1 group.slots) (alone 0 0 2 2) (alone 1 5 7 2 ∷ []) (alone_least 0 2 2 (omega arith))
      (All-cons (λ group. IsLeastAt (jobs_with apart_jobs group.numbers) 1 group.slots) (alone 1 5 7 2) [] (alone_least 5 7 2 (omega arith))
      (All-nil (λ group. IsLeastAt (jobs_with apart_jobs group.numbers) 1 group.slots)));
}

-- so both bounds are the least energy: 4 each, and 3 between.
least_is_11 : interpolated_energy apart_jobs points 1 (slots_of_groups apart_groups) ≡ pos 11
least_is_11 = (bounds_meet apart_jobs points 1 apart_groups table convex apart_least have_all apart_in_turn).1

-- Windows that overlap aren't in turn.
not_in_turn : WindowsInTurn 0 jobs ((0 ∷ []) ∷ (1 ∷ []) ∷ []) → ⊥
not_in_turn (end, order, releases, deadlines, (last, after, later, ends, rest)) = absurd (omega (arith, deadlines 0 0 (omega arith), later 0 0 (omega arith)))

-- # Near miss: idle time that is dear

-- By the points (0, 10) and (1, 1) a job costs less than idle time does.
abbrev dear : List Point
dear = record { speed = 0; power = 10 } ∷ record { speed = 1; power = 1 } ∷ []

dear_idle : IdleIsCheapest dear → ⊥
dear_idle cheapest = absurd (omega (arith, cheapest 1 (record { speed = 1; power = 1 }) (omega arith)))

-- Jobs from 0 to 1, to 99 and to 100 that fill their windows at speed 1 cost 100.
abbrev three : List Job
three = job 0 1 1 ∷ job 1 99 98 ∷ job 99 100 1 ∷ []

three_cost_100 : interpolated_energy three dear 1 (slot 0 0 1 1 ∷ slot 1 1 99 98 ∷ slot 2 99 100 1 ∷ []) ≡ pos 100
three_cost_100 = refl

-- Without the second they cost 982, so where idle time is dear fewer jobs may cost more.
without_second : energy_over (horizon three) three dear 1 (alone 0 0 1 1 ∷ alone 2 99 100 1 ∷ []) ≡ pos 982
without_second = refl

-- All else that the law asks for holds: the schedule is feasible, and each of the two jobs' is least.
three_feasible : IsFeasibleAt three 1 (slot 0 0 1 1 ∷ slot 1 1 99 98 ∷ slot 2 99 100 1 ∷ [])
three_feasible = record {
  one_at_a_time = (omega arith, omega arith, (omega arith, omega arith, (omega arith, omega arith, tt)));
  in_windows = All-cons (IsInWindow three 1) (slot 0 0 1 1) (slot 1 1 99 98 ∷ slot 2 99 100 1 ∷ []) (record { known = omega arith; released = omega arith; due = omega arith })
      (All-cons (IsInWindow three 1) (slot 1 1 99 98) (slot 2 99 100 1 ∷ []) (record { known = omega arith; released = omega arith; due = omega arith })
      (All-cons (IsInWindow three 1) (slot 2 99 100 1) [] (record { known = omega arith; released = omega arith; due = omega arith }) (All-nil (IsInWindow three 1))));
  served = served;
}
  where
    served : (number : ℕ) → number < 3 → work_given (slot 0 0 1 1 ∷ slot 1 1 99 98 ∷ slot 2 99 100 1 ∷ []) number ≡ (job_at three number).work * 1
    served zero within = refl
    served (suc zero) within = refl
    served (suc (suc zero)) within = refl
    served (suc (suc (suc number))) within = absurd (omega (arith, within))

two_least : AreLeastGroups three 1 (alone 0 0 1 1 ∷ alone 2 99 100 1 ∷ [])
two_least = record {
  apart = record {
    known = All-cons (λ number. number < 3) 0 (2 ∷ []) (omega arith) (All-cons (λ number. number < 3) 2 [] (omega arith) (All-nil (λ number. number < 3)));
    different = two_numbers 0 2 (λ same. absurd (omega (arith, same)));
  };
  least = All-cons (λ group. IsLeastAt (jobs_with three group.numbers) 1 group.slots) (alone 0 0 1 1) (alone 2 99 100 1 ∷ []) (alone_least 0 1 1 (omega arith))
      (All-cons (λ group. IsLeastAt (jobs_with three group.numbers) 1 group.slots) (alone 2 99 100 1) [] (alone_least 99 100 1 (omega arith))
      (All-nil (λ group. IsLeastAt (jobs_with three group.numbers) 1 group.slots)));
}

-- With the second in the first's group they cost 100 again: where each job is in a group nothing is asked of the powers.
with_second : energy_over (horizon three) three dear 1
    (record { numbers = 0 ∷ 1 ∷ []; slots = slot 0 0 1 1 ∷ slot 1 1 99 98 ∷ [] } ∷ alone 2 99 100 1 ∷ []) ≡ pos 100
with_second = refl
