-- Written answers to shortened jobs, tried on two jobs of work 2 from 0 to 3 and from 1 to 4, that are cut at 2, by the points (0, 1) and (1, 2).
use Rattle.yds_model.proofs.Common.{zero, suc, ◌<◌, ◌≤◌, List, [], ◌∷◌, refl, arith, All-nil, All-cons, Job, job_at, jobs_with, Fraction, of_whole, IsFeasible, IsEnergyOf, IsAtMost}
use Rattle.yds_energy.specs.RoundingLaws.{IsLeastEnergy}
use Rattle.yds_cuts.specs.Groups.{HaveAll}
use Rattle.yds_cuts.specs.Bounds.{before_cut, after_cut, WindowsInTurn, WrittenGroup, AreWrittenGroups}
use Rattle.yds_cuts.proofs.Above.{cuts_shorten}
use Rattle.yds_cuts.proofs.WrittenGroups.{least_energy_is_at_most_written}
use Rattle.yds_cuts.proofs.CutsExamples.{job}
use Rattle.yds_cuts.proofs.BoundsExamples.{two_numbers}
use Rattle.yds_cuts.proofs.ClosedCutsExamples.{full, points, cheapest, sum_of_two}

abbrev jobs : List Job
jobs = job 0 3 2 ∷ job 1 4 2 ∷ []

abbrev short : List Job
short = before_cut 2 (job 0 3 2) ∷ after_cut 2 (job 1 4 2) ∷ []

-- each fills its side of the cut at the speed 1, and costs 4
abbrev first : WrittenGroup
first = record { numbers = 0 ∷ []; slots = (full 0).slots; energy = of_whole 4 }

abbrev second : WrittenGroup
second = record { numbers = 1 ∷ []; slots = (full 2).slots; energy = of_whole 4 }

abbrev IsWritten : WrittenGroup → Type 0
IsWritten group = IsFeasible (jobs_with short group.numbers) group.slots × IsEnergyOf (jobs_with short group.numbers) points group.slots group.energy

in_turn : WindowsInTurn 0 short ((0 ∷ []) ∷ (1 ∷ []) ∷ [])
in_turn = (
  2,
  omega arith,
  All-cons (λ number. 0 ≤ (job_at short number).release) 0 [] (omega arith) (All-nil (λ number. 0 ≤ (job_at short number).release)),
  All-cons (λ number. (job_at short number).deadline ≤ 2) 0 [] (omega arith) (All-nil (λ number. (job_at short number).deadline ≤ 2)),
  (
    4,
    omega arith,
    All-cons (λ number. 2 ≤ (job_at short number).release) 1 [] (omega arith) (All-nil (λ number. 2 ≤ (job_at short number).release)),
    All-cons (λ number. (job_at short number).deadline ≤ 4) 1 [] (omega arith) (All-nil (λ number. (job_at short number).deadline ≤ 4)),
    tt,
  ),
)

written : AreWrittenGroups jobs short points (first ∷ second ∷ [])
written = record {
  shortened = ((cuts_shorten 2 (job 0 3 2)).0, ((cuts_shorten 2 (job 1 4 2)).1, tt));
  apart = record {
    known = All-cons (λ number. number < 2) 0 (1 ∷ []) (omega arith) (All-cons (λ number. number < 2) 1 [] (omega arith) (All-nil (λ number. number < 2)));
    different = two_numbers 0 1 (λ same. absurd (omega (arith, same)));
  };
  all = have_all;
  in_turn = in_turn;
  written = All-cons IsWritten first (second ∷ []) ((cheapest 0).feasible, (cheapest 0).energy_of)
      (All-cons IsWritten second [] ((cheapest 2).feasible, (cheapest 2).energy_of) (All-nil IsWritten));
}
  where
    have_all : HaveAll jobs (0 ∷ 1 ∷ [])
    have_all zero within = (0, omega arith, refl)
    have_all (suc zero) within = (1, omega arith, refl)
    have_all (suc (suc number)) within = absurd (omega (arith, within))

-- So no least energy of both jobs is above 8: 4 and 4, over a horizon as long as both.
at_most_8 : (least : Fraction) → IsLeastEnergy jobs points least → IsAtMost least (of_whole 8)
at_most_8 least is =
    least_energy_is_at_most_written jobs short points (first ∷ second ∷ []) least (of_whole 8) written (sum_of_two 4 4 4 4 8 (omega arith)) is
