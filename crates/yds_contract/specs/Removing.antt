-- A stretch that is put after others.
use Rattle.std.specs.Prelude.{◌≡◌, List, [], ◌∷◌, ◌++◌}
use Rattle.yds_model.specs.Piece.{Piece}
use Rattle.yds_contract.specs.declared.removed.Removed.{Removed}
use Rattle.yds_contract.specs.Removed.{removed_stretches, AreSummed}

-- last, with the removed time before it
pub record IsAppended (removed : List Removed) (stretch : Piece) (appended : List Removed) : Type 0 where
  pub stretches : removed_stretches appended ≡ removed_stretches removed ++ stretch ∷ []
  pub summed : AreSummed appended
