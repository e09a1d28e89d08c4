use Rattle.yds_trace_reading.proofs.Draining.{read_out_behind, read_out_whole}
use Rattle.yds_trace_parts.proofs.driver.tell_parts.Goals as goal

pub returns-in-Ok-clause-read_out : goal.returns-in-Ok-clause-read_out
returns-in-Ok-clause-read_out g c =
    λ other. read_out_whole (g.S.Source.left c.args.source.now) (g.S.Source.left c.tell.new.source) _ _ c.in-Ok.ensures.none_left

pub returns-in-Err-clause-read_out : goal.returns-in-Err-clause-read_out
returns-in-Err-clause-read_out g c =
    λ other. read_out_behind (g.S.Source.left c.args.source.now) (g.S.Source.left c.tell.new.source) (g.S.Source.left c.drain.new.source)
    (g.S.Source.faults c.args.source.now) (g.S.Source.faults c.tell.new.source) (g.S.Source.faults c.drain.new.source)
    c.in-Err.ensures.rest c.in-Err.ensures.source_later c.drain.ensures.read_out
