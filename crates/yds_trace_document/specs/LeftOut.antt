-- Why no job is written, where none is: the reason that most jobs have.
use Rattle.std.specs.Prelude.{ℕ, List, [], ◌∷◌, length, count_by, Bool, false, ◌==◌, nat_le, if◌then◌else◌, Option, Some, None, option_map}
use Rattle.std.specs.List.{list_all}
use Rattle.yds_trace.specs.declared.reason.Reason.{Reason}
use Rattle.yds_trace.specs.declared.reason.Reason.TheVariants as reasons
use Rattle.yds_trace.specs.Document.{Judged}
use Rattle.yds_trace_document.specs.declared.fault.LeftOut.{LeftOut}

-- Each reason has a number.
abbrev pub reason_number : Reason → ℕ
reason_number reasons.BeforeFrom = 0
reason_number reasons.AfterTo = 1
reason_number reasons.NotEnded = 2
reason_number reasons.EventsLost = 3
reason_number reasons.SwitchMissing = 4
reason_number reasons.BeginUnseen = 5
reason_number reasons.DueBefore = 6
reason_number reasons.Moved = 7
reason_number reasons.SpeedUnknown = 8

abbrev pub is_for : Reason → Option Reason → Bool
is_for reason None = false
is_for reason (Some other) = reason_number other == reason_number reason

abbrev pub every_reason : List Reason
every_reason =
    reasons.BeforeFrom ∷ reasons.AfterTo ∷ reasons.NotEnded ∷ reasons.EventsLost ∷ reasons.SwitchMissing ∷ reasons.BeginUnseen
    ∷ reasons.DueBefore ∷ reasons.Moved ∷ reasons.SpeedUnknown ∷ []

-- how many of these jobs have this reason
abbrev pub count_for : List Judged → Reason → ℕ
count_for judged reason = count_by (λ one. is_for reason one.reason) judged

-- no reason is that of more jobs
abbrev pub is_most_frequent : (Reason → ℕ) → Reason → Bool
is_most_frequent counts reason = list_all (λ other. nat_le (counts other) (counts reason)) every_reason

-- of the most frequent reasons that of the first of these jobs that has one
abbrev pub first_frequent : (Reason → ℕ) → List Judged → Option Reason
first_frequent counts [] = None
first_frequent counts (one ∷ more) = elim one.reason [
  | None ↦ first_frequent counts more
  | Some reason ↦ if is_most_frequent counts reason then Some reason else first_frequent counts more
]

abbrev pub left_out_for : List Judged → (Reason → ℕ) → Reason → LeftOut
left_out_for judged counts reason = record { reason = reason; count = counts reason; all = length judged }

-- The reason that most of these jobs have, which are in order of begin; of several, that of the job that began first.
abbrev pub most_left_out : List Judged → Option LeftOut
most_left_out judged = option_map (left_out_for judged (count_for judged)) (first_frequent (count_for judged) judged)
