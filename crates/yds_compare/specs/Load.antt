-- What a timetable does in each of its stretches.
use Rattle.std.specs.Prelude.{ℕ, ◌*◌, List, map}
use Rattle.yds_events.specs.Stretch.{length_of}
use Rattle.yds_timetable.specs.Shares.{total_units}
use Rattle.yds_timetable.specs.Timetable.{Row}
use Rattle.yds_spending.specs.declared.load.Load.{Load}

-- what the stretch serves, in parts of which `grid` make a unit
abbrev pub load_of : ℕ → Row → Load
load_of grid row = record { time = length_of row.stretch * grid; work = total_units row.shares }

abbrev pub loads_of : ℕ → List Row → List Load
loads_of grid rows = map (load_of grid) rows
