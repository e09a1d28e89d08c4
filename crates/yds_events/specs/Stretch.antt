-- Stretches of time: each has a length, and lies within the limit of times.
use Rattle.std.specs.Prelude.{ℕ, ◌-◌, ◌<◌, ◌≤◌, ◌⊎◌, List}
use Rattle.std.specs.List.{slice_index_or}
use Rattle.base.specs.declared.limits.TheConstants.{MAX_TIME}
use Rattle.yds_model.specs.Piece.{Piece}

pub record IsStretch (stretch : Piece) : Type 0 where
  pub has_length : stretch.from < stretch.to
  pub time_in_range : stretch.to ≤ MAX_TIME

-- the stretch at a place; `no_stretch` stands where there is none
abbrev pub no_stretch : Piece
no_stretch = record { from = 0; to = 0 }

abbrev pub nth_stretch : List Piece → ℕ → Piece
nth_stretch stretches i = slice_index_or stretches i no_stretch

abbrev pub length_of : Piece → ℕ
length_of stretch = stretch.to - stretch.from

-- the time isn't strictly inside the stretch
abbrev pub IsOutside : Piece → ℕ → Type 0
IsOutside stretch time = (time ≤ stretch.from) ⊎ (stretch.to ≤ time)
