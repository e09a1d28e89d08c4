use Rattle.base.proofs.Common.{◌≡◌, ◌∷◌, None, Some, subst}
use Rattle.yds_kernel.specs.Event.{Said}
use Rattle.yds_trace_threads.specs.Faults.{said_fault}
use Rattle.yds_trace_threads.specs.Kept.{IsTally}
use Rattle.yds_trace_threads.proofs.driver.take_line.Goals as goal

pub returns-in-Ok-clause-taken : goal.returns-in-Ok-clause-taken
returns-in-Ok-clause-taken c = λ past at. record {
  sound = subst (λ (said : Said). said_fault past said ≡ None) c.said.ensures (c.in-Ok.ensures.sound past at);
  stands = subst (λ (said : Said). IsTally (said ∷ past) c.take.new.self) c.said.ensures (c.in-Ok.ensures.taken past at);
}

pub returns-in-Err-Fault-clause-refused : goal.returns-in-Err-Fault-clause-refused
returns-in-Err-Fault-clause-refused c = λ past at. (
  c.number-number.ensures,
  subst (λ (said : Said). said_fault past said ≡ Some c.in-Err-Fault.cause) c.said.ensures
      (rw c.in-Err-Fault.field-0-is at (c.in-Err-Fault.ensures.refused past at)),
)
