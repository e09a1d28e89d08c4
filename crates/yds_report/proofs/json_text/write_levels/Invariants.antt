use Rattle.serde.specs.Event.{Log}
use Rattle.yds_report.proofs.Sent.{SendsFrom}
use Rattle.yds_report.proofs.json_text.write_levels.Given as goal

-- where the levels from this one on are sent, all of them are
abbrev pub invariant-loop-level : goal.invariant-loop-level
invariant-loop-level g l =
    (last : Log) → SendsFrom l.levels l.level-index (g.S.Serializer.written l.out) last → SendsFrom l.levels 0 (g.S.Serializer.written l.initial.out) last
