use Rattle.base.proofs.Common.{ap, sym, ◌∙◌, arith, common_steps}
use Rattle.yds_port.specs.Memory.{SourceState}
use Rattle.yds_port.proofs.Read.{Consumes-copied}
use Rattle.yds_port.proofs.memory_source.MemorySourceSource.read.Goals as goal

pub returns-clause-reads : goal.returns-clause-reads
returns-clause-reads c = record {
  some = omega arith;
  within = omega arith;
  consumed = ap {A = SourceState} (λ s. s.left) (sym c.self.view_is)
      ∙ Consumes-copied c.self.inside.bytes.items c.copy_front-count.new.into c.self.inside.read c.copy_front-count.result (grind (arith, common_steps));
  no_fault = ap {A = SourceState} (λ s. s.faults) c.self.view_is;
}
