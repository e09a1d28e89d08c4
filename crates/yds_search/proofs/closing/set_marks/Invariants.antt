use Rattle.yds_model.proofs.Common.{length}
use Rattle.yds_search.specs.Cells.{lates_of, shared_of}
use Rattle.yds_search.proofs.Closures.{AreMarkedFrom}
use Rattle.yds_search.proofs.closing.set_marks.Given as goal

abbrev pub invariant-loop-place : goal.invariant-loop-place
invariant-loop-place l = AreMarkedFrom (lates_of l.cells) (shared_of l.cells) (length l.fn.marks) l.place l.least l.marks
