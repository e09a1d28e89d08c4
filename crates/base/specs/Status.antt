-- The exit status of the program, for each way in which a run may end.
use Rattle.std.specs.Prelude.{ℕ}
use Rattle.base.specs.declared.status.Status.{Status}
use Rattle.base.specs.declared.status.Status.TheVariants as statuses

abbrev pub status_code : Status → ℕ
status_code statuses.Done = 0
status_code statuses.No = 1
status_code statuses.Usage = 2
status_code statuses.Refused = 3
status_code statuses.ReadFault = 4
status_code statuses.WriteFault = 5
status_code statuses.Memory = 6
