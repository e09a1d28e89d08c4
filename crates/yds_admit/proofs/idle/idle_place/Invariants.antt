use Rattle.yds_model.proofs.Common.{◌+◌, ◌<◌, ◌≤◌}
use Rattle.yds_admit.specs.Chain.{AreLinks}
use Rattle.yds_admit.specs.Idle.{idle_before}
use Rattle.yds_admit.proofs.idle.idle_place.Given as goal

abbrev pub invariant-loop-wanted : goal.invariant-loop-wanted
invariant-loop-wanted l = record {
  order : l.place ≤ l.end;
  enough : idle_before l.idle l.place + l.units ≤ idle_before l.idle l.end + l.wanted;
  all : 0 < l.wanted → idle_before l.idle l.end + l.wanted ≤ idle_before l.idle l.place + l.units;
  links : AreLinks l.idle l.links;
}

abbrev pub decreases-loop-wanted : goal.decreases-loop-wanted
decreases-loop-wanted l = l.place
