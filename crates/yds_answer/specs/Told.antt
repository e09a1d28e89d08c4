-- A verdict or a judgement that is told in a line.
use Rattle.std.specs.Prelude.{ℕ, List, Bool, true, false}
use Rattle.base.specs.declared.status.Status.{Status}
use Rattle.base.specs.declared.status.Status.TheVariants as statuses
use Rattle.yds_answer.specs.declared.told.Told.{Told}

abbrev pub told_line : Told → List ℕ
told_line told = told.line

-- the status that goes with a yes or a no
abbrev pub told_status : Bool → Status
told_status true = statuses.Done
told_status false = statuses.No
