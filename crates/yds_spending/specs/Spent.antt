-- What loads spend on the points of a table.
use Rattle.std.specs.Prelude.{◌≡◌, ℕ, ◌*◌, ◌≤◌, List, map, sum_by}
use Rattle.yds_model.specs.Table.{Point, hull_of, hull_multiple}
use Rattle.yds_model.specs.Comparison.{Spent, time_at, in_parts}
use Rattle.yds_spending.specs.declared.load.Load.{Load}

-- the time of all of them at the point of this speed, in the parts of the loads and of the common multiple of the hull's gaps
abbrev pub time_of_loads : List Point → List Load → ℕ → ℕ
time_of_loads points loads speed = sum_by (λ load. time_at (hull_multiple points) load.time load.work (hull_of points) speed) loads

abbrev pub energy_of_loads : List Point → List Load → ℕ
energy_of_loads points loads = sum_by (λ point. point.power * time_of_loads points loads point.speed) points

-- loads of which `unit` parts make a unit spend this
pub record IsSpentOn (points : List Point) (unit : ℕ) (loads : List Load) (spent : Spent) : Type 0 where
  pub some : 1 ≤ hull_multiple points
  pub energy : spent.energy ≡ in_parts points unit (energy_of_loads points loads)
  pub times : spent.times ≡ map (λ point. in_parts points unit (time_of_loads points loads point.speed)) points
