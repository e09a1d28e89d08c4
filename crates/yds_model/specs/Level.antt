-- A level of a certificate: its members' jobs have so much work together, and are served at one speed, work / length,
-- in pieces of so much length together.
use Rattle.std.specs.Prelude.{ℕ, ◌*◌, List, [], nat_lt}
use Rattle.std.specs.List.{slice_index_or, take_while, flat_map}
use Rattle.yds_model.specs.Piece.{Piece}

pub record Level : Type 0 where
  pub work : ℕ
  pub length : ℕ
  pub pieces : List Piece
  pub members : List ℕ

-- the level at a place; `no_level` stands where there is none
abbrev pub no_level : Level
no_level = record { work = 0; length = 0; pieces = []; members = [] }

abbrev pub level_at : List Level → ℕ → Level
level_at levels i = slice_index_or levels i no_level

abbrev pub all_members : List Level → List ℕ
all_members levels = flat_map (λ level. level.members) levels

abbrev pub all_pieces : List Level → List Piece
all_pieces levels = flat_map (λ level. level.pieces) levels

-- the longest front of the levels that are all faster than p/q
abbrev pub levels_above : ℕ → ℕ → List Level → List Level
levels_above p q levels = take_while (λ level. nat_lt (p * level.length) (level.work * q)) levels
