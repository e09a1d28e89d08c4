-- What is known of the room that admitted jobs leave.
use Rattle.std.specs.Prelude.{◌≡◌, true, List}
use Rattle.yds_model.specs.Job.{Job}
use Rattle.yds_admit.specs.Pieces.{AreBounds, AreUsed, AreExact}
use Rattle.yds_admit.specs.Idle.{HasIdle}
use Rattle.yds_admit.specs.Orders.{AreOrdered}
use Rattle.yds_admit.specs.Chain.{AreLinks}
use Rattle.yds_admit.specs.declared.board.Board.{Board}
use Rattle.yds_admit.specs.declared.room.Room.{Room}

-- what is idle beside jobs on a board, links over the gaps of which nothing is idle, pieces of the jobs, which are exact where none was added since the cut,
-- and the jobs by rising deadlines
pub record IsRoom (board : Board) (jobs : List Job) (room : Room) : Type 0 where
  pub has_idle : HasIdle board.top board.times.items jobs room.idle.items
  pub links : AreLinks room.idle.items room.links.items
  pub bounds : AreBounds board.top board.times.items jobs room.pieces.jobs room.pieces.places.items room.idle.items
  pub used : AreUsed board.times.items room.pieces.jobs room.pieces.places.items room.pieces.used.items
  pub ordered : AreOrdered jobs room.by_deadline
  pub exact : room.fresh ≡ true → AreExact board.top board.times.items jobs room.pieces.jobs room.pieces.places.items room.idle.items
