use Rattle.base.proofs.Common.{◌∙◌, refl, ap, subst, Contains}
use Rattle.yds_port.specs.Memory.{SinkState}
use Rattle.yds_port.proofs.memory_sink.MemorySinkSink.flush.Goals as goal

-- the call's number stands among those that are to fail
pub returns-then-is_failing-clause-fails : goal.returns-then-is_failing-clause-fails
returns-then-is_failing-clause-fails c =
    let failing = ap {A = SinkState} (λ s. s.failing) c.self.view_is in (
      λ _. subst (λ calls. Contains calls c.saturating_add-self-inside.result) (c.deref.ensures.value ∙ failing)
          (c.is_failing.ensures.0 c.if-is_failing.true),
      λ _. refl,
    )
