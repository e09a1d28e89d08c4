use Rattle.base.proofs.Common.{◌∙◌, arith, refl}
use Rattle.yds_trace_reading.proofs.Draining.{behind_nothing, behind_a_read, read_to_end, read_to_a_fault, read_as_much}
use Rattle.yds_trace_reading.proofs.reading.drain.Goals as goal

pub loop-reads-init : goal.loop-reads-init
loop-reads-init g c = record { behind = behind_nothing (g.S.Source.left c.args.source.now); faults = refl }

pub loop-reads-preserved : goal.loop-reads-preserved
loop-reads-preserved g c = record {
  behind = behind_a_read (g.S.Source.left c.args.source.now) (g.S.Source.left c.loop-reads.source) _ _ _ _ c.loop-reads.invariant.behind c.in-Bytes.ensures.consumed
      c.in-Bytes.ensures.some c.in-Bytes.ensures.within;
  faults = c.in-Bytes.ensures.no_fault ∙ c.loop-reads.invariant.faults;
}

pub returns-in-End-clause-read_out : goal.returns-in-End-clause-read_out
returns-in-End-clause-read_out g c =
    read_to_end (g.S.Source.left c.args.source.now) (g.S.Source.left c.loop-reads.source) _ _ _ _ c.loop-reads.invariant.behind c.in-End.ensures.kept c.in-End.ensures.at_end

pub returns-in-Failed-clause-read_out : goal.returns-in-Failed-clause-read_out
returns-in-Failed-clause-read_out g c = read_to_a_fault (g.S.Source.left c.args.source.now) _ _ _ _ c.loop-reads.invariant.faults c.in-Failed.ensures.1

pub returns-clause-read_out : goal.returns-clause-read_out
returns-clause-read_out g c =
    read_as_much (g.S.Source.left c.args.source.now) (g.S.Source.left c.loop-reads.source) _ _ _ c.loop-reads.invariant.behind (omega (arith, c.loop-reads-test.false))
