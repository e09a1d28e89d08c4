use Rattle.yds_model.proofs.Common.{◌≡◌, ◌*◌, map, take}
use Rattle.yds_contract.specs.Spread.{slot_over}
use Rattle.yds_contract.specs.Cut.{cut_all}
use Rattle.yds_contract.proofs.spreading.spread_over.Given as goal

abbrev pub invariant-loop-span : goal.invariant-loop-span
invariant-loop-span l =
    l.slots.items ≡ map (slot_over l.fn.slot.job l.speed) (cut_all (map (λ event. event * l.speed.num) l.events) (take l.span-index l.span-items))
