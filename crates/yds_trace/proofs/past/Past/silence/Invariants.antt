use Rattle.std.proofs.Common.{◌≡◌, List}
use Rattle.yds_kernel.specs.Event.{Said}
use Rattle.yds_trace.specs.Asked.{Asked}
use Rattle.yds_trace.specs.Kept.{HaveCome, IsPast}
use Rattle.yds_trace.specs.Late.{last_asked}
use Rattle.yds_trace.specs.Tally.{silence_below}
use Rattle.yds_trace.proofs.past.Past.silence.Given as goal

abbrev pub invariant-loop-processor : goal.invariant-loop-processor
invariant-loop-processor l = (asked : Asked) (past : List Said) → IsPast asked.start past l.self → HaveCome asked.tasks past l.self →
    last_asked asked past ≡ l.until → l.silence ≡ silence_below asked past l.processor
