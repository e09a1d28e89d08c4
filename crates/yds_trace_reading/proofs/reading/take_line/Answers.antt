use Rattle.base.proofs.Common.{◌≡◌, ◌∷◌, None, Some, subst}
use Rattle.yds_kernel.specs.Event.{Said}
use Rattle.yds_trace.specs.Faults.{said_fault}
use Rattle.yds_trace.specs.Kept.{IsAt}
use Rattle.yds_trace_reading.proofs.reading.take_line.Goals as goal

pub returns-in-Ok-clause-taken : goal.returns-in-Ok-clause-taken
returns-in-Ok-clause-taken c = λ asked past at. record {
  sound = subst (λ (said : Said). said_fault asked past said ≡ None) c.said.ensures (c.in-Ok.ensures.taken asked past 0 at);
  stands = subst (λ (said : Said). IsAt asked (said ∷ past) c.take.new.self) c.said.ensures (c.in-Ok.ensures.stands asked past 0 at);
}

pub returns-in-Err-Fault-clause-refused : goal.returns-in-Err-Fault-clause-refused
returns-in-Err-Fault-clause-refused c = λ asked past at. (
  c.number-number.ensures,
  subst (λ (said : Said). said_fault asked past said ≡ Some c.in-Err-Fault.cause) c.said.ensures
      (rw c.in-Err-Fault.field-0-is at (c.in-Err-Fault.ensures.refused asked past 0 at)),
)
