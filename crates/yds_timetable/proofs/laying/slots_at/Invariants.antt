use Rattle.yds_model.proofs.Common.{◌≡◌, ◌≤◌, take, All}
use Rattle.yds_timetable.specs.Pace.{slots_from}
use Rattle.yds_timetable.proofs.Filling.{IsReached}
use Rattle.yds_timetable.proofs.laying.slots_at.Given as goal

abbrev pub invariant-loop-share : goal.invariant-loop-share
invariant-loop-share l = record {
  laid : l.slots.items ≡ slots_from l.pace l.start 0 (take l.share-index l.shares);
  some : All (λ share. 1 ≤ share.units) (take l.share-index l.shares);
  reached : IsReached l.pace l.start (take l.share-index l.shares) l.done l.from;
}
