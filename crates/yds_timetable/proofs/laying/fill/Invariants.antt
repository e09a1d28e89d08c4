use Rattle.yds_model.proofs.Common.{◌≡◌, ◌++◌, take}
use Rattle.yds_timetable.specs.Pace.{slots_from}
use Rattle.yds_timetable.proofs.Filling.{IsReached}
use Rattle.yds_timetable.proofs.laying.fill.Given as goal

abbrev pub invariant-loop-share : goal.invariant-loop-share
invariant-loop-share l = record {
  jobs : l.schedule.jobs ≡ l.fn.schedule.jobs;
  laid : l.schedule.slots ≡ l.fn.schedule.slots ++ slots_from l.pace l.start 0 (take l.share-index l.shares);
  reached : IsReached l.pace l.start (take l.share-index l.shares) l.done l.from;
}
