-- Runs of Average Rate where jobs are put into groups, each with a run of its own. Windows of one group may overlap those of another. Each law
-- is the contract of a public function of this crate. Average Rate: Yao, Demers and Shenker (FOCS 1995).
use Rattle.std.specs.Prelude.{ℕ, ◌≤◌, ◌⊎◌, List, map, sum_by}
use Rattle.std.specs.List.{All, flat_map}
use Rattle.yds_model.specs.Job.{Job}
use Rattle.yds_model.specs.Scale.{Fraction, IsAtMost}
use Rattle.yds_model.specs.Slot.{WrittenSlot, IsScale, slots_at}
use Rattle.yds_model.specs.Excess.{excess}
use Rattle.yds_model.specs.Table.{Point, IsTable}
use Rattle.yds_model.specs.Energy.{horizon}
use Rattle.yds_model.specs.Admission.{jobs_with}
use Rattle.yds_model.specs.AverageRate.{IsAverageRateRun}
use Rattle.yds_model.specs.Comparison.{Spent, HoldsAll}
use Rattle.yds_parts.specs.Parts.{WindowsAreForward}
use Rattle.yds_cuts.specs.Groups.{AreApartIn, HaveAll, IdleIsCheapest, horizons}
use Rattle.yds_cuts.specs.Energies.{IsEnergyOver}
use Rattle.yds_cuts.specs.Bounds.{WrittenGroup}

-- the numbers of the groups' jobs
abbrev pub numbers_of_written : List WrittenGroup → List ℕ
numbers_of_written groups = flat_map (λ group. group.numbers) groups

-- The group's slots are a run of Average Rate for its jobs alone that never rounded.
abbrev pub IsGroupRun : List Job → ℕ → WrittenGroup → Type 0
IsGroupRun jobs grid group = IsAverageRateRun (jobs_with jobs group.numbers) grid 0 group.slots

-- # Above a speed

-- at a scale: what the groups' slots do above p/q, together
abbrev pub excess_of_groups : ℕ → ℕ → ℕ → List WrittenGroup → ℕ
excess_of_groups p q scale groups = sum_by (λ group. excess p q (slots_at scale group.slots)) groups

-- Where no run rounded, the groups' runs do together no more above any speed than the run of all jobs, also where jobs are left out.
abbrev pub GroupRunsAboveASpeed : Type 0
GroupRunsAboveASpeed = (jobs : List Job) (grid scale p q : ℕ) (slots : List WrittenSlot) (groups : List WrittenGroup) → 1 ≤ grid →
    AreApartIn jobs (numbers_of_written groups) → IsAverageRateRun jobs grid 0 slots → All (IsGroupRun jobs grid) groups →
    IsScale scale slots → All (λ group. IsScale scale group.slots) groups → excess_of_groups p q scale groups ≤ excess p q (slots_at scale slots)

-- # Energy on the points

-- The top point is fast enough for the group's run, and the fraction is what it spends on the points.
pub record IsSpentGroup (jobs : List Job) (points : List Point) (grid : ℕ) (group : WrittenGroup) : Type 0 where
  pub run : IsGroupRun jobs grid group
  pub times : List Fraction
  pub holds : HoldsAll (jobs_with jobs group.numbers) points group.slots (record { energy = group.energy; times = times })

-- So what they spend is together, with idle time over the horizon of all jobs, at most what the run of all jobs spends. Either no job is left
-- out, or no point has less power than the first.
abbrev pub GroupRunsSpend : Type 0
GroupRunsSpend = (jobs : List Job) (points : List Point) (grid : ℕ) (slots : List WrittenSlot) (spent : Spent) (groups : List WrittenGroup) (bound : Fraction) →
    1 ≤ grid → IsTable points → WindowsAreForward jobs → AreApartIn jobs (numbers_of_written groups) →
    (HaveAll jobs (numbers_of_written groups) ⊎ IdleIsCheapest points) → IsAverageRateRun jobs grid 0 slots → HoldsAll jobs points slots spent →
    All (IsSpentGroup jobs points grid) groups →
    IsEnergyOver (horizon jobs) (horizons jobs (map (λ group. group.numbers) groups)) points (map (λ group. group.energy) groups) bound →
    IsAtMost bound spent.energy
