-- Groups of jobs, each with a schedule of its own, and their energy together. Windows of one group may overlap those of another.
use Rattle.std.specs.Prelude.{ℕ, ◌*◌, ◌<◌, ◌≤◌, List, length, map, sum_by, ℤ, pos, ◌+ℤ◌, ◌-ℤ◌}
use Rattle.std.specs.List.{All, Contains, flat_map, slice_index_or}
use Rattle.base.specs.Numbers.{AreDifferent}
use Rattle.yds_model.specs.Job.{Job}
use Rattle.yds_model.specs.Slot.{WholeSlot}
use Rattle.yds_model.specs.Table.{Point, point_at, gaps_of}
use Rattle.yds_model.specs.Energy.{horizon, product, total, interpolated_energy}
use Rattle.yds_model.specs.Admission.{jobs_with}

-- some of the jobs, by their numbers, and slots at a scale whose jobs are told by their places among these
pub record Group : Type 0 where
  pub numbers : List ℕ
  pub slots : List WholeSlot

abbrev pub numbers_of_groups : List Group → List ℕ
numbers_of_groups groups = flat_map (λ group. group.numbers) groups

-- each number is a job's, and none stands twice, in one group or in two
pub record AreApartIn (jobs : List Job) (numbers : List ℕ) : Type 0 where
  pub known : All (λ number. number < length jobs) numbers
  pub different : AreDifferent numbers

-- no job is left out
abbrev pub HaveAll : List Job → List ℕ → Type 0
HaveAll jobs numbers = (number : ℕ) → number < length jobs → Contains numbers number

-- no point has less power than the first, so time in which a job runs costs at least what idle time does
abbrev pub IdleIsCheapest : List Point → Type 0
IdleIsCheapest points = All (λ point. (point_at points 0).power ≤ point.power) points

-- the slot with its job's number among all jobs
abbrev pub named : List ℕ → WholeSlot → WholeSlot
named numbers slot = record { job = slice_index_or numbers slot.job 0; from = slot.from; to = slot.to; work = slot.work }

-- the slots of all groups, one after another
abbrev pub slots_of_groups : List Group → List WholeSlot
slots_of_groups groups = flat_map (λ group. map (named group.numbers) group.slots) groups

-- the horizons of the groups' jobs, together
abbrev pub horizons : List Job → List (List ℕ) → ℕ
horizons jobs groups = sum_by (λ numbers. horizon (jobs_with jobs numbers)) groups

-- what so much time costs at the first point, at a scale
abbrev pub cost_of_idle : List Point → ℕ → ℕ → ℕ
cost_of_idle points scale time = (point_at points 0).power * (scale * time)

-- The interpolated energies of the groups together, with idle time over a horizon of so much time in place of theirs.
abbrev pub energy_over : ℕ → List Job → List Point → ℕ → List Group → ℤ
energy_over time jobs points scale groups =
    total (map (λ group. interpolated_energy (jobs_with jobs group.numbers) points scale group.slots) groups)
    +ℤ (pos (product (gaps_of points) * cost_of_idle points scale time)
    -ℤ pos (product (gaps_of points) * cost_of_idle points scale (horizons jobs (map (λ group. group.numbers) groups))))
