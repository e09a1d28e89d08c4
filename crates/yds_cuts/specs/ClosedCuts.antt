-- Any number of cuts at which no window is open: what is least in each part is least in all, and energies add. Each law is the contract of
-- a public function of this crate.
use Rattle.std.specs.Prelude.{◌≡◌, ℕ, ◌+◌, ◌*◌, ◌<◌, ◌≤◌, ◌↔◌, List, [], ◌∷◌, length, map, sum_by, ◌==◌, if◌then◌else◌}
use Rattle.std.specs.List.{All, AllZip, slice_index_or}
use Rattle.yds_model.specs.Job.{Job}
use Rattle.yds_model.specs.Scale.{Fraction, of_whole}
use Rattle.yds_model.specs.Slot.{WrittenSlot, IsScale, slots_at}
use Rattle.yds_model.specs.Feasible.{IsFeasible}
use Rattle.yds_model.specs.Excess.{IsLeast}
use Rattle.yds_model.specs.Level.{Level}
use Rattle.yds_model.specs.Plan.{IsPlan}
use Rattle.yds_model.specs.Divisor.{IsLowest}
use Rattle.yds_model.specs.Table.{Point, point_at, IsTable, hull_multiple}
use Rattle.yds_model.specs.Energy.{horizon}
use Rattle.yds_model.specs.Rounding.{IsEnergyOf, IsRounding}
use Rattle.yds_model.specs.Comparison.{all_time_at, all_energy, Spent, IsSpent, Side, Spends, TooSlowFor, IsSide}
use Rattle.yds_energy.specs.EnergyLaws.{IsCheapest}
use Rattle.yds_energy.specs.RoundingLaws.{IsLeastEnergy}
use Rattle.yds_parts.specs.Parts.{WindowsAreForward}
use Rattle.yds_cuts.specs.Cuts.{Part, HasOwnSlots, all_jobs, all_slots, part_horizons}
use Rattle.yds_cuts.specs.Groups.{cost_of_idle}
use Rattle.yds_cuts.specs.Energies.{IsSumWith, IsEnergyOver}

-- From this time on the windows of each part begin after those of the parts before it have ended.
abbrev pub ArePartedFrom : ℕ → List Part → Type 0
ArePartedFrom time [] = Unit {0}
ArePartedFrom time (part ∷ parts) = (end : ℕ) × (time ≤ end) × All (λ job. time ≤ job.release) part.jobs × All (λ job. job.deadline ≤ end) part.jobs
    × ArePartedFrom end parts

abbrev pub AreParted : List Part → Type 0
AreParted parts = ArePartedFrom 0 parts

-- # Least

-- All slots are least above every speed exactly where each part's are.
abbrev pub LeastInEachPart : Type 0
LeastInEachPart = (parts : List Part) → AreParted parts → All HasOwnSlots parts →
    (IsLeast (all_jobs parts) (all_slots parts) ↔ All (λ part. IsLeast part.jobs part.slots) parts)

-- The slots of plans of the parts are least together, and cost least by every convex table.
abbrev pub PlansOfEachPart : Type 0
PlansOfEachPart = (parts : List Part) (certificates : List (List Level)) → AreParted parts →
    AllZip (λ part levels. IsPlan part.jobs part.slots levels) parts certificates →
    IsLeast (all_jobs parts) (all_slots parts) × IsCheapest (all_jobs parts) (all_slots parts)

-- # Energy on the points

-- The slots are feasible, this is their energy on the points, and no feasible schedule on the points spends less.
pub record IsCheapestOnPoints (jobs : List Job) (points : List Point) (slots : List WrittenSlot) (energy : Fraction) : Type 0 where
  pub feasible : IsFeasible jobs slots
  pub energy_of : IsEnergyOf jobs points slots energy
  pub least : IsLeastEnergy jobs points energy

-- Slots that are cheapest in each part are so together, and their energies add, with idle time over the horizon of all jobs.
abbrev pub CheapestInEachPart : Type 0
CheapestInEachPart = (points : List Point) (parts : List Part) (energies : List Fraction) (energy : Fraction) → AreParted parts →
    AllZip (λ part energy. IsCheapestOnPoints part.jobs points part.slots energy) parts energies →
    IsEnergyOver (horizon (all_jobs parts)) (part_horizons parts) points energies energy →
    IsCheapestOnPoints (all_jobs parts) points (all_slots parts) energy

-- the part's slots are those of a plan, rounded to the points
pub record IsRoundedPart (points : List Point) (part : Part) (energy : Fraction) : Type 0 where
  pub planned : List WrittenSlot
  pub levels : List Level
  pub plan : IsPlan part.jobs planned levels
  pub rounding : IsRounding part.jobs points planned levels part.slots energy

-- So are the rounded slots of plans of the parts.
abbrev pub RoundedInEachPart : Type 0
RoundedInEachPart = (points : List Point) (parts : List Part) (energies : List Fraction) (energy : Fraction) → IsTable points → AreParted parts →
    AllZip (IsRoundedPart points) parts energies → IsEnergyOver (horizon (all_jobs parts)) (part_horizons parts) points energies energy →
    IsCheapestOnPoints (all_jobs parts) points (all_slots parts) energy

-- # What is spent where each stretch runs at one speed

-- each part has jobs, windows that aren't empty, and feasible slots
pub record IsScheduledPart (part : Part) : Type 0 where
  pub some : 1 ≤ length part.jobs
  pub windows : WindowsAreForward part.jobs
  pub feasible : IsFeasible part.jobs part.slots

-- so much time at the first point, and none at the others
abbrev pub at_first : List Point → ℕ → ℕ → ℕ
at_first points speed time = if speed == (point_at points 0).speed then time else 0

-- The time at each point is the sum of the parts' times; the first point has besides what they leave of the horizon.
abbrev pub TimesOfEachPart : Type 0
TimesOfEachPart = (points : List Point) (parts : List Part) (scale speed : ℕ) → IsTable points → AreParted parts → All IsScheduledPart parts →
    IsScale scale (all_slots parts) →
    all_time_at (all_jobs parts) points scale (slots_at scale (all_slots parts)) speed + hull_multiple points * (scale * at_first points speed (part_horizons parts))
    ≡ sum_by (λ part. all_time_at part.jobs points scale (slots_at scale part.slots) speed) parts
    + hull_multiple points * (scale * at_first points speed (horizon (all_jobs parts)))

-- So the energy is the sum of theirs, with idle time over the horizon of all jobs.
abbrev pub StretchEnergyOfEachPart : Type 0
StretchEnergyOfEachPart = (points : List Point) (parts : List Part) (scale : ℕ) → IsTable points → AreParted parts → All IsScheduledPart parts →
    IsScale scale (all_slots parts) →
    all_energy (all_jobs parts) points scale (slots_at scale (all_slots parts)) + hull_multiple points * cost_of_idle points scale (part_horizons parts)
    ≡ sum_by (λ part. all_energy part.jobs points scale (slots_at scale part.slots)) parts
    + hull_multiple points * cost_of_idle points scale (horizon (all_jobs parts))

-- the time at the point at this place
abbrev pub time_at_place : ℕ → Spent → Fraction
time_at_place place spent = slice_index_or spent.times place (of_whole 0)

-- What all slots spend, from what the parts do: the energies together, with idle time over a horizon of so much time in place of horizons of
-- `own` time together, and for each point the times, where the first has what the parts leave of that horizon. All are in lowest terms.
pub record IsSpentOver (time own : ℕ) (points : List Point) (spents : List Spent) (all : Spent) : Type 0 where
  pub energy : IsEnergyOver time own points (map (λ spent. spent.energy) spents) all.energy
  pub energy_lowest : IsLowest all.energy
  pub many : length all.times ≡ length points
  pub times : (i : ℕ) → i < length points →
      IsSumWith (at_first points (point_at points i).speed time) (at_first points (point_at points i).speed own) (map (time_at_place i) spents) (time_at_place i all)
  pub times_lowest : All IsLowest all.times

-- That is what all slots spend.
abbrev pub SpentOfEachPart : Type 0
SpentOfEachPart = (points : List Point) (parts : List Part) (spents : List Spent) (all : Spent) → IsTable points → AreParted parts → All IsScheduledPart parts →
    AllZip (λ part spent. IsSpent part.jobs points part.slots spent) parts spents → IsSpentOver (horizon (all_jobs parts)) (part_horizons parts) points spents all →
    IsSpent (all_jobs parts) points (all_slots parts) all

-- # The sides of a comparison

-- the first side that is too slow, with its stretch, or what all slots spend
abbrev pub first_too_slow : Spent → List Side → Side
first_too_slow all [] = Spends all
first_too_slow all (Spends spent ∷ sides) = first_too_slow all sides
first_too_slow all (TooSlowFor units from to ∷ sides) = TooSlowFor units from to

-- The side of all slots is the first of the parts' that is too slow, and elsewhere what all slots spend.
abbrev pub SidesOfParts : Type 0
SidesOfParts = (points : List Point) (grid : ℕ) (parts : List Part) (sides : List Side) (all : Spent) → AreParted parts → All IsScheduledPart parts →
    AllZip (λ part side. IsSide part.jobs points grid part.slots side) parts sides → IsSpent (all_jobs parts) points (all_slots parts) all →
    IsSide (all_jobs parts) points grid (all_slots parts) (first_too_slow all sides)
