use Rattle.yds_model.proofs.Common.{◌*◌, map}
use Rattle.yds_contract.proofs.Spreads.{CutSoFar}
use Rattle.yds_contract.proofs.spreading.cut.Given as goal

abbrev pub invariant-loop-event : goal.invariant-loop-event
invariant-loop-event l =
    CutSoFar l.speed l.job l.initial.slots.items l.span-inside.from l.span-inside.to (map (λ event. event * l.speed.num) l.events) l.event-index l.from l.slots.items
