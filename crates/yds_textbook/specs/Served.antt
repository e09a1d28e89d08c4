-- Stretches that serve jobs at one speed.
use Rattle.std.specs.Prelude.{ℕ, ◌<◌, ◌≤◌, ◌-◌, ◌*◌, List}
use Rattle.yds_model.specs.Job.{Job}
use Rattle.yds_model.specs.Scale.{Quotient}
use Rattle.yds_model.specs.Piece.{Piece}
use Rattle.yds_model.specs.Confined.{work_within}

-- no interval of time has more work confined to it than the speed does there
abbrev pub IsFastEnough : List Job → Quotient → Type 0
IsFastEnough jobs speed = (from to : ℕ) → from < to → work_within jobs from to * speed.den ≤ speed.num * (to - from)

-- the units that a stretch serves at the speed, of which a unit of work has as many as its denominator
abbrev pub capacity_of : Quotient → Piece → ℕ
capacity_of speed stretch = speed.num * (stretch.to - stretch.from)
