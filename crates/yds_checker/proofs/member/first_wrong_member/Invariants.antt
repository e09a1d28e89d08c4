use Rattle.yds_model.proofs.Common.{List, Each, Level, all_members, StandsOnce}
use Rattle.yds_checker.specs.Home.{AreHomes}
use Rattle.yds_checker.proofs.member.first_wrong_member.Given as goal

abbrev pub invariant-loop-job : goal.invariant-loop-job
invariant-loop-job l = (levels : List Level) → AreHomes levels (all_members levels) l.homes → Each l.job (StandsOnce l.rows levels)
