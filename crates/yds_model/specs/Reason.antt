-- The word of each reason for a refusal.
use Rattle.std.specs.Prelude.{ℕ, List, codes}
use Rattle.yds_model.specs.declared.reason.Reason.{Reason}
use Rattle.yds_model.specs.declared.reason.Reason.TheVariants as reasons
use Rattle.yds_model.specs.declared.task_reason.TaskReason.{TaskReason}
use Rattle.yds_model.specs.declared.task_reason.TaskReason.TheVariants as task_reasons

abbrev pub reason_text : Reason → List ℕ
reason_text reasons.UnknownKind = codes "UnknownKind"
reason_text reasons.Misplaced = codes "Misplaced"
reason_text reasons.TooMany = codes "TooMany"
reason_text reasons.FieldCount = codes "FieldCount"
reason_text reasons.BadName = codes "BadName"
reason_text reasons.DuplicateName = codes "DuplicateName"
reason_text reasons.UnknownName = codes "UnknownName"
reason_text reasons.BadNumber = codes "BadNumber"
reason_text reasons.OutOfRange = codes "OutOfRange"
reason_text reasons.EmptyWindow = codes "EmptyWindow"
reason_text reasons.MixedEnds = codes "MixedEnds"
reason_text reasons.MixedGrain = codes "MixedGrain"
reason_text reasons.NoIdle = codes "NoIdle"
reason_text reasons.NotRising = codes "NotRising"
reason_text reasons.GapsTooFine = codes "GapsTooFine"

abbrev pub task_reason_text : TaskReason → List ℕ
task_reason_text task_reasons.UnknownKind = codes "UnknownKind"
task_reason_text task_reasons.Misplaced = codes "Misplaced"
task_reason_text task_reasons.TooMany = codes "TooMany"
task_reason_text task_reasons.FieldCount = codes "FieldCount"
task_reason_text task_reasons.BadName = codes "BadName"
task_reason_text task_reasons.DuplicateName = codes "DuplicateName"
task_reason_text task_reasons.BadNumber = codes "BadNumber"
task_reason_text task_reasons.OutOfRange = codes "OutOfRange"
task_reason_text task_reasons.TooManyJobs = codes "TooManyJobs"
