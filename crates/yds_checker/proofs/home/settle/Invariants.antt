use Rattle.yds_model.proofs.Common.{◌≡◌, ℕ, ◌<◌, ◌++◌, List, length, take, Level, level_at}
use Rattle.yds_checker.specs.Home.{AreHomes}
use Rattle.yds_checker.proofs.home.settle.Given as goal

abbrev pub invariant-loop-job : goal.invariant-loop-job
invariant-loop-job l = (levels : List Level) (before : List ℕ) → l.level < length levels → (level_at levels l.level).members ≡ l.members →
    AreHomes levels before l.initial.homes → AreHomes levels (before ++ take l.job-index l.members) l.homes
