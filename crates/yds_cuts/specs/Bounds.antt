-- Two bounds of the least energy, where windows are open at the cuts. Each law is the contract of a public function of this crate.
use Rattle.std.specs.Prelude.{◌≡◌, ℕ, ◌+◌, ◌*◌, ◌≤◌, ◌⊎◌, List, [], ◌∷◌, sum, map, min, max, pos, ◌≤ℤ◌}
use Rattle.std.specs.List.{All, AllZip, flat_map}
use Rattle.yds_model.specs.Job.{Job, job_at}
use Rattle.yds_model.specs.Scale.{Fraction, numerator, IsAtMost}
use Rattle.yds_model.specs.Slot.{WrittenSlot, WholeSlot}
use Rattle.yds_model.specs.Feasible.{RunFrom, IsFeasibleAt, IsFeasible}
use Rattle.yds_model.specs.Excess.{IsLeastAt}
use Rattle.yds_model.specs.Table.{Point, IsTable, IsConvex, IsHullOf, gaps_of}
use Rattle.yds_model.specs.Energy.{horizon, product, interpolated_energy, IsEnergyOnPoints}
use Rattle.yds_model.specs.Admission.{jobs_with}
use Rattle.yds_model.specs.Rounding.{IsEnergyOf}
use Rattle.yds_energy.specs.RoundingLaws.{IsLeastEnergy}
use Rattle.yds_cuts.specs.Energies.{IsEnergyOver}
use Rattle.yds_cuts.specs.Groups.{Group, numbers_of_groups, AreApartIn, HaveAll, IdleIsCheapest, slots_of_groups, horizons, cost_of_idle, energy_over}

-- # Below

-- groups of these jobs, each with a schedule that is least for its own
pub record AreLeastGroups (jobs : List Job) (scale : ℕ) (groups : List Group) : Type 0 where
  pub apart : AreApartIn jobs (numbers_of_groups groups)
  pub least : All (λ group. IsLeastAt (jobs_with jobs group.numbers) scale group.slots) groups

-- By a convex table, groups that have all jobs cost together, over the horizon of all jobs, at most what any feasible schedule of all jobs does.
abbrev pub GroupsCostAtMostAll : Type 0
GroupsCostAtMostAll = (jobs : List Job) (points : List Point) (scale : ℕ) (groups : List Group) (others : List WholeSlot) → IsTable points → IsConvex points →
    AreLeastGroups jobs scale groups → HaveAll jobs (numbers_of_groups groups) → IsFeasibleAt jobs scale others →
    energy_over (horizon jobs) jobs points scale groups ≤ℤ interpolated_energy jobs points scale others

-- So do groups that leave jobs out, where no point has less power than the first.
abbrev pub FewerJobsCostAtMostAll : Type 0
FewerJobsCostAtMostAll = (jobs : List Job) (points : List Point) (scale : ℕ) (groups : List Group) (others : List WholeSlot) → IsTable points → IsConvex points →
    AreLeastGroups jobs scale groups → IdleIsCheapest points → IsFeasibleAt jobs scale others →
    energy_over (horizon jobs) jobs points scale groups ≤ℤ interpolated_energy jobs points scale others

-- By the lower hull of any table they cost at most what any feasible schedule of all jobs spends on the table's points: all jobs,
abbrev pub GroupsCostAtMostAllOnPoints : Type 0
GroupsCostAtMostAllOnPoints = (jobs : List Job) (points hull : List Point) (scale energy : ℕ) (groups : List Group) (others : List WholeSlot) → IsTable points →
    IsHullOf points hull → AreLeastGroups jobs scale groups → HaveAll jobs (numbers_of_groups groups) → IsFeasibleAt jobs scale others →
    IsEnergyOnPoints jobs points scale others energy → energy_over (horizon jobs) jobs hull scale groups ≤ℤ pos (product (gaps_of hull) * energy)

-- and fewer, where no point of the hull has less power than the first.
abbrev pub FewerJobsCostAtMostAllOnPoints : Type 0
FewerJobsCostAtMostAllOnPoints = (jobs : List Job) (points hull : List Point) (scale energy : ℕ) (groups : List Group) (others : List WholeSlot) → IsTable points →
    IsHullOf points hull → AreLeastGroups jobs scale groups → IdleIsCheapest hull → IsFeasibleAt jobs scale others →
    IsEnergyOnPoints jobs points scale others energy → energy_over (horizon jobs) jobs hull scale groups ≤ℤ pos (product (gaps_of hull) * energy)

-- # Least energies on the points

-- Least energies of groups on the points are together a lower bound of all jobs' energy on them, where they have all jobs or no point has
-- less power than the first.
abbrev pub LeastEnergiesAreALowerBound : Type 0
LeastEnergiesAreALowerBound = (jobs : List Job) (points : List Point) (groups : List (List ℕ)) (energies : List Fraction) (bound : Fraction) →
    AreApartIn jobs (flat_map (λ numbers. numbers) groups) → (HaveAll jobs (flat_map (λ numbers. numbers) groups) ⊎ IdleIsCheapest points) →
    AllZip (λ numbers energy. IsLeastEnergy (jobs_with jobs numbers) points energy) groups energies →
    IsEnergyOver (horizon jobs) (horizons jobs groups) points energies bound → IsLeastEnergy jobs points bound

-- # Above

-- the first window lies in the second, and both jobs want the same work
pub record IsShortened (short job : Job) : Type 0 where
  pub released : job.release ≤ short.release
  pub due : short.deadline ≤ job.deadline
  pub work : short.work ≡ job.work

-- the window shortened to the time before a cut, and to that after it
abbrev pub before_cut : ℕ → Job → Job
before_cut time job = record { release = job.release; deadline = min job.deadline time; work = job.work }

abbrev pub after_cut : ℕ → Job → Job
after_cut time job = record { release = max job.release time; deadline = job.deadline; work = job.work }

-- Either side of a cut shortens a window.
abbrev pub CutsShorten : Type 0
CutsShorten = (time : ℕ) (job : Job) → IsShortened (before_cut time job) job × IsShortened (after_cut time job) job

-- What is feasible for jobs whose windows are shortened is feasible for the jobs.
abbrev pub ShortenedIsFeasible : Type 0
ShortenedIsFeasible = (jobs short : List Job) (slots : List WrittenSlot) → AllZip IsShortened short jobs → IsFeasible short slots → IsFeasible jobs slots

-- Groups have all jobs, with windows that are shortened, and each has a feasible schedule. One after another they run one at a time.
pub record AreShortenedGroups (jobs short : List Job) (scale : ℕ) (groups : List Group) : Type 0 where
  pub shortened : AllZip IsShortened short jobs
  pub apart : AreApartIn jobs (numbers_of_groups groups)
  pub all : HaveAll jobs (numbers_of_groups groups)
  pub feasible : All (λ group. IsFeasibleAt (jobs_with short group.numbers) scale group.slots) groups
  pub in_turn : RunFrom 0 (slots_of_groups groups)

-- the windows of each group's jobs begin after those of the groups before it have ended
abbrev pub WindowsInTurn : ℕ → List Job → List (List ℕ) → Type 0
WindowsInTurn time jobs [] = Unit {0}
WindowsInTurn time jobs (numbers ∷ groups) = (end : ℕ) × (time ≤ end) × All (λ number. time ≤ (job_at jobs number).release) numbers
    × All (λ number. (job_at jobs number).deadline ≤ end) numbers × WindowsInTurn end jobs groups

-- Where the windows are in turn, the slots run one at a time.
abbrev pub WindowsInTurnRunInTurn : Type 0
WindowsInTurnRunInTurn = (jobs : List Job) (scale : ℕ) (groups : List Group) → WindowsInTurn 0 jobs (map (λ group. group.numbers) groups) →
    All (λ group. IsFeasibleAt (jobs_with jobs group.numbers) scale group.slots) groups → RunFrom 0 (slots_of_groups groups)

-- The groups' slots together are feasible for all jobs, and their energy over the horizon of all jobs is that of the groups.
abbrev pub ShortenedGroupsCost : Type 0
ShortenedGroupsCost = (jobs short : List Job) (points : List Point) (scale : ℕ) (groups : List Group) → AreShortenedGroups jobs short scale groups →
    IsFeasibleAt jobs scale (slots_of_groups groups)
    × (interpolated_energy jobs points scale (slots_of_groups groups) ≡ energy_over (horizon jobs) short points scale groups)

-- So the least schedule of all jobs costs at most that, by a convex table.
abbrev pub AllCostAtMostShortened : Type 0
AllCostAtMostShortened = (jobs short : List Job) (points : List Point) (scale : ℕ) (groups : List Group) (least : List WholeSlot) → IsTable points → IsConvex points →
    AreShortenedGroups jobs short scale groups → IsLeastAt jobs scale least →
    interpolated_energy jobs points scale least ≤ℤ energy_over (horizon jobs) short points scale groups

-- On the points too, by any table: what the slots together spend is what the groups do, with idle time over the horizon of all jobs.
abbrev pub ShortenedGroupsSpend : Type 0
ShortenedGroupsSpend = (jobs short : List Job) (points : List Point) (scale : ℕ) (groups : List Group) (energies : List ℕ) →
    AreShortenedGroups jobs short scale groups →
    AllZip (λ group energy. IsEnergyOnPoints (jobs_with short group.numbers) points scale group.slots energy) groups energies →
    (energy : ℕ) × IsEnergyOnPoints jobs points scale (slots_of_groups groups) energy
    × (energy + cost_of_idle points scale (horizons short (map (λ group. group.numbers) groups)) ≡ sum energies + cost_of_idle points scale (horizon jobs))

-- at a scale, the fraction is the energy of the slots on the points
abbrev pub HasEnergyAt : List Job → List Point → ℕ → List WholeSlot → Fraction → Type 0
HasEnergyAt jobs points scale slots energy =
    (spent : ℕ) × IsEnergyOnPoints jobs points scale slots spent × (spent * energy.den ≡ numerator energy * scale)

-- So a least energy of all jobs on the points is at most the energy of the groups.
abbrev pub LeastEnergyIsAtMostShortened : Type 0
LeastEnergyIsAtMostShortened = (jobs short : List Job) (points : List Point) (scale : ℕ) (groups : List Group) (energies : List Fraction) (least bound : Fraction) →
    1 ≤ scale → AreShortenedGroups jobs short scale groups →
    AllZip (λ group energy. HasEnergyAt (jobs_with short group.numbers) points scale group.slots energy) groups energies →
    IsEnergyOver (horizon jobs) (horizons short (map (λ group. group.numbers) groups)) points energies bound → IsLeastEnergy jobs points least →
    IsAtMost least bound

-- # Where no window is open at a cut

-- Least groups of all jobs, whose windows are in turn, meet both bounds: their slots, one after another, are a feasible schedule of all jobs
-- with the groups' energy, and no feasible schedule of all jobs costs less.
abbrev pub BoundsMeet : Type 0
BoundsMeet = (jobs : List Job) (points : List Point) (scale : ℕ) (groups : List Group) → IsTable points → IsConvex points → AreLeastGroups jobs scale groups →
    HaveAll jobs (numbers_of_groups groups) → WindowsInTurn 0 jobs (map (λ group. group.numbers) groups) →
    IsFeasibleAt jobs scale (slots_of_groups groups)
    × (interpolated_energy jobs points scale (slots_of_groups groups) ≡ energy_over (horizon jobs) jobs points scale groups)
    × ((others : List WholeSlot) → IsFeasibleAt jobs scale others → energy_over (horizon jobs) jobs points scale groups ≤ℤ interpolated_energy jobs points scale others)

-- # Written answers

-- some of the jobs, by their numbers, with written slots and a fraction, such as `round` answers
pub record WrittenGroup : Type 0 where
  pub numbers : List ℕ
  pub slots : List WrittenSlot
  pub energy : Fraction

-- They have all jobs, with windows that are shortened and in turn. Each is feasible, and the fraction is its energy on the points.
pub record AreWrittenGroups (jobs short : List Job) (points : List Point) (groups : List WrittenGroup) : Type 0 where
  pub shortened : AllZip IsShortened short jobs
  pub apart : AreApartIn jobs (flat_map (λ group. group.numbers) groups)
  pub all : HaveAll jobs (flat_map (λ group. group.numbers) groups)
  pub in_turn : WindowsInTurn 0 short (map (λ group. group.numbers) groups)
  pub written : All (λ group. IsFeasible (jobs_with short group.numbers) group.slots × IsEnergyOf (jobs_with short group.numbers) points group.slots group.energy) groups

-- So their energies are together at least a least energy of all jobs, whatever denominators they have.
abbrev pub LeastEnergyIsAtMostWritten : Type 0
LeastEnergyIsAtMostWritten = (jobs short : List Job) (points : List Point) (groups : List WrittenGroup) (least bound : Fraction) →
    AreWrittenGroups jobs short points groups →
    IsEnergyOver (horizon jobs) (horizons short (map (λ group. group.numbers) groups)) points (map (λ group. group.energy) groups) bound →
    IsLeastEnergy jobs points least → IsAtMost least bound
