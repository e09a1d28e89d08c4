use Rattle.yds_model.proofs.Common.{◌≡◌, ◌++◌, take}
use Rattle.yds_round.proofs.rounding.keep.Given as goal

abbrev pub invariant-loop-slot : goal.invariant-loop-slot
invariant-loop-slot l = l.rounded ≡ record { jobs = l.fn.rounded.jobs; slots = l.fn.rounded.slots ++ take l.slot-index l.planned }
