use Rattle.yds_model.proofs.Common.{◌-◌, length}
use Rattle.yds_admit.specs.State.{IsState}
use Rattle.yds_admit.proofs.decision.decide.Given as goal

abbrev pub invariant-loop-state : goal.invariant-loop-state
invariant-loop-state l = IsState l.board l.state

abbrev pub decreases-loop-state : goal.decreases-loop-state
decreases-loop-state l = length l.rows - l.state.next
