use Rattle.yds_model.proofs.Common.{◌≡◌, take}
use Rattle.yds_timetable.specs.Timetable.{slots_of}
use Rattle.yds_timetable.proofs.laying.lay.Given as goal

abbrev pub invariant-loop-number : goal.invariant-loop-number
invariant-loop-number l = l.schedule ≡ record { jobs = l.jobs; slots = slots_of (take l.number l.timetable) }
