use Rattle.yds_model.proofs.Common.{List, ◌++◌, take, drop, Job}
use Rattle.yds_admit.specs.Board.{IsMarked}
use Rattle.yds_admit.proofs.batch.marked.Given as goal

abbrev pub invariant-loop-number : goal.invariant-loop-number
invariant-loop-number l = (rows jobs : List Job) → IsMarked rows l.first l.marks jobs → IsMarked rows l.number l.more.items (jobs ++ drop l.first (take l.number rows))
