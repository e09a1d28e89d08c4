use Rattle.yds_model.proofs.Common.{◌≡◌, take}
use Rattle.yds_slots.proofs.schedule.Schedule.sorted.Given as goal

abbrev pub invariant-loop-slot : goal.invariant-loop-slot
invariant-loop-slot l = l.schedule ≡ record { jobs = l.jobs; slots = take l.slot-index l.slot-items }
