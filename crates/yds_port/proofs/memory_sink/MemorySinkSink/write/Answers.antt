use Rattle.base.proofs.Common.{◌∙◌, refl, ap, subst, inl, inr, arith, length, Contains}
use Rattle.yds_port.specs.Memory.{SinkState}
use Rattle.yds_port.proofs.memory_sink.MemorySinkSink.write.Goals as goal
use Rattle.yds_port.proofs.memory_sink.MemorySinkSink.write.Goals.{then-count-eq0-via-then-count-eq0, then-count-eq0-via-else-count-eq0+then-is_failing}

-- no byte fits only where the room is full, since neither the piece nor the sink's piece is empty
pub returns-then-count-eq0-clause-fails : goal.returns-then-count-eq0-clause-fails
returns-then-count-eq0-clause-fails c =
    let written = ap {A = SinkState} (λ s. length s.written) c.self.view_is in
    let room = ap {A = SinkState} (λ s. s.room) c.self.view_is in
    let failing = ap {A = SinkState} (λ s. s.failing) c.self.view_is in
    elim c.then-count-eq0.branch [
      | then-count-eq0-via-then-count-eq0 w ↦ (λ _. inr (omega arith), λ _. refl)
      | then-count-eq0-via-else-count-eq0+then-is_failing w ↦ (
        λ _. inl (subst (λ calls. Contains calls c.saturating_add-self-inside.result) (w.deref.ensures.value ∙ failing)
            (w.is_failing.ensures.0 w.if-is_failing.true)),
        λ _. refl,
      )
    ]
