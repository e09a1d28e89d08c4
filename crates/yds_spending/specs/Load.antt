-- What runs at one speed: as the levels of a plan, and the time outside them.
use Rattle.std.specs.Prelude.{ℕ, ◌-◌, ◌*◌, ◌≤◌, List, [], ◌∷◌, ◌++◌, map, sum_by}
use Rattle.std.specs.List.{slice_index_or}
use Rattle.yds_model.specs.Level.{Level}
use Rattle.yds_spending.specs.declared.load.Load.{Load}

abbrev pub level_load : Level → Load
level_load level = record { time = level.length; work = level.work }

-- the levels, and of so much time what is outside them
abbrev pub level_loads : List Level → ℕ → List Load
level_loads levels time = map level_load levels ++ record { time = time - sum_by (λ level. level.length) levels; work = 0 } ∷ []

abbrev pub load_at : List Load → ℕ → Load
load_at loads i = slice_index_or loads i (record { time = 0; work = 0 })

-- the load isn't faster than this speed
abbrev pub IsHeldAt : ℕ → Load → Type 0
IsHeldAt speed load = load.work ≤ speed * load.time
