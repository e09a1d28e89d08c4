-- Levels whose pieces lie in order, and what is found of the pieces of all levels.
use Rattle.std.specs.Prelude.{◌≤◌, List, length}
use Rattle.base.specs.Numbers.{Each}
use Rattle.yds_model.specs.Piece.{PiecesFrom}
use Rattle.yds_model.specs.Level.{Level}
use Rattle.yds_model.specs.Proper.{PiecesStand}
use Rattle.base.specs.Numbers.{IsFirstFailure}
use Rattle.yds_checker.specs.declared.placed.Placed.{Placed}
use Rattle.yds_checker.specs.declared.pieces.Standing.{Standing}
use Rattle.yds_checker.specs.declared.pieces.Standing.TheVariants.{Apart, Wrong}
use Rattle.yds_checker.specs.Placed.{ArePlaced, AreByStart, AreApartBelow}

-- the level has a piece, and its pieces lie one after another
pub record IsOrdered (level : Level) : Type 0 where
  pub some : 1 ≤ length level.pieces
  pub in_order : PiecesFrom 0 level.pieces

-- the pieces of all levels in rising order, of which no two overlap
pub record AreInRun (levels : List Level) (placed : List Placed) : Type 0 where
  pub kept : ArePlaced levels (length levels) placed
  pub rising : AreByStart placed
  pub apart : AreApartBelow (length levels) placed

-- what is found is so
abbrev pub IsFound : List Level → Standing → Type 0
IsFound levels (Apart placed) = Each (length levels) (PiecesStand levels) × AreInRun levels placed.items
IsFound levels (Wrong i) = IsFirstFailure (length levels) (PiecesStand levels) i
