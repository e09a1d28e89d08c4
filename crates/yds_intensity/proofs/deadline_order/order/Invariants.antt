use Rattle.yds_model.proofs.Common.{◌≡◌, map, take}
use Rattle.yds_intensity.proofs.deadline_order.order.Given as goal

abbrev pub invariant-loop-due : goal.invariant-loop-due
invariant-loop-due l = l.order.items ≡ map (λ due. due.number) (take l.due-index l.due-items)
