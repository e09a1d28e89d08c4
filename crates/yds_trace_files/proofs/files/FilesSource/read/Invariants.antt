use Rattle.base.proofs.Common.{length}
use Rattle.yds_trace_files.proofs.Reading.{Goes}
use Rattle.yds_trace_files.proofs.files.FilesSource.read.Given as goal

abbrev pub invariant-loop-taken : goal.invariant-loop-taken
invariant-loop-taken g l = Goes g.O.Opens.holds g.S.Source.left l.taken l.into l.fn.self l.self

abbrev pub decreases-loop-taken : goal.decreases-loop-taken
decreases-loop-taken g l = length l.self.ahead.now
