use Rattle.yds_model.proofs.Common.{[], take, all_members}
use Rattle.yds_checker.specs.Home.{AreHomes}
use Rattle.yds_checker.proofs.home.settle_all.Given as goal

abbrev pub invariant-loop-i : goal.invariant-loop-i
invariant-loop-i l = AreHomes l.levels [] l.initial.homes → AreHomes l.levels (all_members (take l.i l.levels)) l.homes
