-- The comments of a trace's document are passed over: none has a line feed in it but at its end.
use Rattle.yds_model.proofs.Common.{◌≡◌, ℕ, zero, suc, ◌+◌, ◌-◌, ◌*◌, ◌/◌, ◌%◌, ◌≤◌, ◌==◌, ◌&&◌, ◌||◌, Bool, true, false, not, nat_lt, nat_le, ltb-false, and_from, list_all, List, [], ◌∷◌, ◌++◌, length, map, filter, drop, reverse, decimal, Option, Some, None, is_some, refl, arith, codes, if◌then◌else◌, All, AllByRecursion, flat_map, zip, enumerate_from, sum_by, count_by, slice_index_or, cond_both, Entry, is_name}
use Rattle.yds_kernel.specs.Event.{Said}
use Rattle.yds_kernel.specs.Parts.{capped}
use Rattle.yds_trace.specs.declared.job.Stretch.{Stretch}
use Rattle.yds_trace.specs.declared.reason.Reason.{Reason}
use Rattle.yds_trace.specs.declared.reason.Reason.TheVariants as reasons
use Rattle.yds_trace.specs.declared.tally.Pause.{Pause}
use Rattle.yds_trace.specs.declared.tally.Silence.{Silence}
use Rattle.yds_trace.specs.declared.tally.Tally.{Tally}
use Rattle.yds_trace.specs.Asked.{Task, no_task, Asked, task_at}
use Rattle.yds_trace.specs.Jobs.{Job}
use Rattle.yds_trace.specs.Late.{is_open}
use Rattle.yds_trace.specs.Others.{Span}
use Rattle.yds_trace.specs.WrittenTime.{Units, written_time, runs_end}
use Rattle.yds_trace.specs.Document.{named, is_left_out, Judged, judged, judged_of, judged_from, all_judged, began_before, jobs_of, shares_of, stands, written_end, written_name, written_runs}
use Rattle.yds_trace_laws.proofs.Ordered.{filter-all, in_order-all, append-all, map-all}
use Rattle.yds_trace_document.specs.Settled.{Settled, judged_by_task}
use Rattle.yds_trace_text.specs.Text.{told, comment, nine_digits, six_digits, in_seconds, in_milliseconds, behind_point, counted, head_line, cycles, units_line, reason_text, behind_deadline, signed_time, window_text, how_late, without_runs_comment, late_kind, standing_comment, late_comment, first_begin, begin_later, end_comment, begins_comment, end_earlier, end_is_told, ends_comment, standing_comments, exited_comment, slept_comment, thread_comments, shown_comments, every_reason, is_left_out_for, first_name, last_name, Group, group_of, group_for, groups_of_task, has_jobs, groups_of, all_groups, most_first, one_left_out, some_left_out, group_comment, is_cut_off, cut_off_comment, left_out_comments, short_stretches, is_or_are, some_short, short_comment, length_of, wake_ups_of, most_woken, woken_comment, wake_up_comment, known_begins, mean_distance, distance_comment, unit_comment, deadline_comment, apart_comment, lacks_period, without_period_comment, period_comment, task_unit_comments, all_unit_comments, shown_byte, other_comment, left_out_text, its_or_their, late_without, without_runs_text, up_to_here, lack_comment, no_line_text, is_long, long_comment, pause_comment, no_line_of_text, on_to_the_end, is_silent, silent_comment as silence_text, silence_comment, tally_comments, last_line, comments_text}
use Rattle.yds_texts.proofs.Brought.{Leads, Leads-nil, Leads-append, Leads-comment}
use Rattle.yds_trace_again.specs.Laws.{AreLabelled}
use Rattle.yds_trace_again.proofs.Plain.{is_other, is_other_true, Plain, plain_all, plain_append, plain_told, plain_if, plain_drop, plain_decimal, name_plain}
use Rattle.yds_trace_again.proofs.Names.{named_plain, in_parts_plain}

-- # Texts that are passed over

-- after these bytes just that was said which was said before
abbrev pub Silent : (List Entry → Type 0) → List ℕ → Type 0
Silent P text = Leads P text P

silent_both : (P : List Entry → Type 0) (front back : List ℕ) → Silent P front → Silent P back → Silent P (front ++ back)
silent_both P front back first second = Leads-append P P P front back first second

silent_if : (P : List Entry → Type 0) (b : Bool) (x y : List ℕ) → Silent P x → Silent P y → Silent P (if b then x else y)
silent_if P true x y first second = first
silent_if P false x y first second = second

silent_each : {X : Type 0} (P : List Entry → Type 0) (Q : X → Type 0) (text : X → List ℕ) → ((x : X) → Q x → Silent P (text x)) → (xs : List X) → AllByRecursion Q xs →
    Silent P (flat_map text xs)
silent_each P Q text each [] all = Leads-nil P
silent_each P Q text each (x ∷ xs) all = silent_both P (text x) (flat_map text xs) (each x all.0) (silent_each P Q text each xs all.1)

pub silent_comment : (P : List Entry → Type 0) (texts : List (List ℕ)) → AllByRecursion Plain texts → Silent P (comment texts)
unfolding comment
silent_comment P texts all = Leads-comment P (32 ∷ told texts) (plain_all (32 ∷ told texts) (plain_told texts all))

-- # Numbers

plain_nine : (n : ℕ) → Plain (nine_digits n)
plain_nine n = plain_drop (decimal (1000000000 + n)) (plain_decimal (1000000000 + n))

plain_six : (n : ℕ) → Plain (six_digits n)
plain_six n = plain_drop (decimal (1000000 + n)) (plain_decimal (1000000 + n))

plain_seconds : (time : ℕ) → Plain (in_seconds time)
plain_seconds time =
    plain_told (decimal (time / 1000000000) ∷ codes "." ∷ nine_digits (time % 1000000000) ∷ []) (plain_decimal (time / 1000000000), (refl, (plain_nine (time % 1000000000), tt)))

plain_milliseconds : (time : ℕ) → Plain (in_milliseconds time)
plain_milliseconds time =
    plain_told (decimal (time / 1000000) ∷ codes "." ∷ six_digits (time % 1000000) ∷ []) (plain_decimal (time / 1000000), (refl, (plain_six (time % 1000000), tt)))

pointed : (n : ℕ) → Plain (codes "." ++ drop 1 (decimal n))
pointed n = plain_append (codes ".") (drop 1 (decimal n)) refl (plain_drop (decimal n) (plain_decimal n))

plain_behind_point : (thousandths : ℕ) → Plain (behind_point thousandths)
plain_behind_point thousandths =
    plain_if (thousandths == 0) [] _ refl
    (plain_if (thousandths % 100 == 0) (codes "." ++ drop 1 (decimal (10 + thousandths / 100))) _ (pointed (10 + thousandths / 100))
    (plain_if (thousandths % 10 == 0) (codes "." ++ drop 1 (decimal (100 + thousandths / 10))) (codes "." ++ drop 1 (decimal (1000 + thousandths))) (pointed (100 + thousandths / 10))
    (pointed (1000 + thousandths))))

plain_counted : (number : ℕ) (one several : List ℕ) → Plain one → Plain several → Plain (counted number one several)
plain_counted number one several first second =
    plain_told (decimal number ∷ codes " " ∷ (if number == 1 then one else several) ∷ [])
    (plain_decimal number, (refl, (plain_if (number == 1) one several first second, tt)))

plain_cycles : (thousandths : ℕ) → Plain (cycles thousandths)
plain_cycles thousandths =
    plain_told (decimal (thousandths / 1000) ∷ behind_point (thousandths % 1000) ∷ [])
    (plain_decimal (thousandths / 1000), (plain_behind_point (thousandths % 1000), tt))

plain_reason : (reason : Option Reason) → Plain (reason_text reason)
plain_reason None = refl
plain_reason (Some reasons.BeforeFrom) = refl
plain_reason (Some reasons.AfterTo) = refl
plain_reason (Some reasons.NotEnded) = refl
plain_reason (Some reasons.EventsLost) = refl
plain_reason (Some reasons.SwitchMissing) = refl
plain_reason (Some reasons.BeginUnseen) = refl
plain_reason (Some reasons.DueBefore) = refl
plain_reason (Some reasons.Moved) = refl
plain_reason (Some reasons.SpeedUnknown) = refl

-- # The first lines

pub head_silent : (P : List Entry → Type 0) (processor : ℕ) (units : Units) → Silent P (head_line processor units)
head_silent P processor units =
    silent_comment P (codes "CPU " ∷ decimal processor ∷ codes " of a kernel trace; time 0 is " ∷ in_seconds units.zero ∷ codes " s" ∷ [])
    (refl, (plain_decimal processor, (refl, (plain_seconds units.zero, (refl, tt)))))

pub units_silent : (P : List Entry → Type 0) (units : Units) → Silent P (units_line units)
units_silent P units =
    silent_comment P
    (codes "time unit " ∷ decimal (units.time / 1000) ∷ codes " us, speed unit " ∷ decimal units.speed ∷ codes " kHz, work unit "
    ∷ cycles (capped (units.time / 1000 * units.speed)) ∷ codes " cycles" ∷ [])
    (refl, (plain_decimal (units.time / 1000), (refl, (plain_decimal units.speed, (refl, (plain_cycles (capped (units.time / 1000 * units.speed)), (refl, tt)))))))

-- # Late jobs

-- the name by which it is written is plain
abbrev pub HasPlainName : Judged → Type 0
HasPlainName one = Plain (written_name one)

plain_behind : (late : ℕ) → Plain (behind_deadline late)
plain_behind late = plain_told (in_milliseconds late ∷ codes " ms after its deadline" ∷ []) (plain_milliseconds late, (refl, tt))

plain_signed : (units : Units) (time : ℕ) → Plain (signed_time units time)
plain_signed units time =
    plain_if (nat_lt time units.zero) (codes "-" ++ decimal ((units.zero - time - 1) / units.time + 1)) (decimal (written_time units time))
    (plain_append (codes "-") (decimal ((units.zero - time - 1) / units.time + 1)) refl (plain_decimal ((units.zero - time - 1) / units.time + 1))) (plain_decimal (written_time units time))

plain_window : (units : Units) (one : Judged) → Plain (window_text units one)
plain_window units one =
    plain_if one.job.begin_known (told (codes "; window " ∷ signed_time units one.job.begin ∷ codes " " ∷ signed_time units one.due ∷ [])) []
    (plain_told (codes "; window " ∷ signed_time units one.job.begin ∷ codes " " ∷ signed_time units one.due ∷ [])
    (refl, (plain_signed units one.job.begin, (refl, (plain_signed units one.due, tt))))) refl

plain_how_late : (job : Job) → Plain (how_late job)
plain_how_late job =
    plain_if (is_open job.end) (codes "not ended ") _ refl (plain_if job.begin_known [] (codes "at least ") refl refl)

plain_kind : (units : Units) (one : Judged) → Plain (late_kind units one)
plain_kind units one =
    plain_if (is_open one.job.end) (codes "not ended: ") _ refl
    (plain_if (nat_le (written_end units one.job.end) (written_time units one.due)) (codes "late by less than a unit of time: ") _ refl
    (plain_if (nat_le (runs_end (written_runs units one.job)) (written_time units one.due))
    (if is_some one.part then codes "late on another processor: " else codes "late in a run within one tick: ") (codes "late: ")
    (plain_if (is_some one.part) (codes "late on another processor: ") (codes "late in a run within one tick: ") refl refl) refl))

late_silent : (P : List Entry → Type 0) (units : Units) (one : Judged) → HasPlainName one → Silent P (late_comment units one)
late_silent P units one name = by one.late
  where
    by : (late : Option ℕ) → Silent P (elim late as (λ _. List ℕ) [
      | None ↦ []
      | Some late ↦ if stands one then standing_comment units one late else without_runs_comment units one late
    ])
    by None = Leads-nil P
    by (Some late) =
        silent_if P (stands one) (standing_comment units one late) (without_runs_comment units one late)
        (silent_comment P (late_kind units one ∷ written_name one ∷ codes ", " ∷ behind_deadline late ∷ []) (plain_kind units one, (name, (refl, (plain_behind late, tt)))))
        (silent_comment P
        (codes "late, without its runs: " ∷ written_name one ∷ codes " (" ∷ reason_text one.reason ∷ codes "), " ∷ how_late one.job ∷ behind_deadline late ∷ window_text units one ∷ [])
        (refl, (name, (refl, (plain_reason one.reason, (refl, (plain_how_late one.job, (plain_behind late, (plain_window units one, tt)))))))))

-- # Begins and ends

end_silent : (P : List Entry → Type 0) (what name : List ℕ) (time : ℕ) → Plain what → Plain name → Silent P (end_comment what name time)
end_silent P what name time first second = silent_comment P (what ∷ name ∷ codes " " ∷ decimal time ∷ []) (first, (second, (refl, (plain_decimal time, tt))))

begins_silent : (P : List Entry → Type 0) (units : Units) (one : Judged) → HasPlainName one → Silent P (begins_comment units one)
begins_silent P units one name = by (first_begin (reverse one.job.stretches))
  where
    by : (begin : Option ℕ) → Silent P (elim begin as (λ _. List ℕ) [
      | None ↦ []
      | Some begin ↦ if begin_later (written_time units begin) (written_runs units one.job)
          then end_comment (codes "begins: ") (written_name one) (written_time units begin) else []
    ])
    by None = Leads-nil P
    by (Some begin) =
        silent_if P (begin_later (written_time units begin) (written_runs units one.job)) (end_comment (codes "begins: ") (written_name one) (written_time units begin)) []
        (end_silent P (codes "begins: ") (written_name one) (written_time units begin) refl name) (Leads-nil P)

ends_silent : (P : List Entry → Type 0) (units : Units) (one : Judged) → HasPlainName one → Silent P (ends_comment units one)
ends_silent P units one name =
    silent_if P (not (is_open one.job.end) && not (end_is_told units one) && end_earlier (written_end units one.job.end) (written_runs units one.job))
    (end_comment (codes "ends: ") (written_name one) (written_end units one.job.end)) []
    (end_silent P (codes "ends: ") (written_name one) (written_end units one.job.end) refl name) (Leads-nil P)

named_silent : (P : List Entry → Type 0) (test : Bool) (what : List ℕ) (one : Judged) → Plain what → HasPlainName one →
    Silent P (if test then comment (what ∷ written_name one ∷ []) else [])
named_silent P test what one plain name =
    silent_if P test (comment (what ∷ written_name one ∷ [])) [] (silent_comment P (what ∷ written_name one ∷ []) (plain, (name, tt))) (Leads-nil P)

thread_silent : (P : List Entry → Type 0) (one : Judged) → HasPlainName one → Silent P (thread_comments one)
thread_silent P one name =
    silent_if P (is_left_out one) [] (exited_comment one ++ slept_comment one) (Leads-nil P)
    (silent_both P (exited_comment one) (slept_comment one) (named_silent P one.job.exited (codes "exited: ") one refl name)
    (named_silent P (is_some one.job.slept) (codes "went on behind a sleep without a wake-up: ") one refl name))

shown_silent : (P : List Entry → Type 0) (units : Units) (one : Judged) → HasPlainName one → Silent P (shown_comments units one)
shown_silent P units one name =
    silent_both P (standing_comments units one) (thread_comments one)
    (silent_if P (stands one) (begins_comment units one ++ ends_comment units one) []
    (silent_both P (begins_comment units one) (ends_comment units one) (begins_silent P units one name) (ends_silent P units one name)) (Leads-nil P))
    (thread_silent P one name)

-- # Jobs that are left out

record IsPlainGroup (group : Group) : Type 0 where
  label : Plain group.label
  first : Plain group.first
  last : Plain group.last

group_silent : (P : List Entry → Type 0) (group : Group) → IsPlainGroup group → Silent P (group_comment group)
group_silent P group plain =
    silent_if P (group.count == 1) (one_left_out group) (some_left_out group)
    (silent_comment P (codes "left out: " ∷ group.first ∷ codes " (" ∷ reason_text (Some group.reason) ∷ codes ")" ∷ [])
    (refl, (plain.first, (refl, (plain_reason (Some group.reason), (refl, tt))))))
    (silent_comment P
    (codes "left out: " ∷ decimal group.count ∷ codes " jobs of " ∷ group.label ∷ codes " (" ∷ reason_text (Some group.reason)
    ∷ codes "), the first " ∷ group.first ∷ codes ", the last " ∷ group.last ∷ [])
    (refl, (plain_decimal group.count, (refl, (plain.label, (refl, (plain_reason (Some group.reason), (refl, (plain.first, (refl, (plain.last, tt)))))))))))

plain_first : (ones : List Judged) → AllByRecursion HasPlainName ones → Plain (first_name ones)
plain_first [] all = refl
plain_first (one ∷ ones) all = all.0

plain_last : (ones : List Judged) → AllByRecursion HasPlainName ones → Plain (last_name ones)
plain_last [] all = refl
plain_last (one ∷ []) all = all.0
plain_last (one ∷ next ∷ ones) all = plain_last (next ∷ ones) all.1

plain_group_of : (label : List ℕ) (reason : Reason) (ones : List Judged) → Plain label → AllByRecursion HasPlainName ones → IsPlainGroup (group_of label reason ones)
plain_group_of label reason ones plain all = record { label = plain; first = plain_first ones all; last = plain_last ones all }

-- a task with a plain label, and its jobs with plain names
abbrev IsPlainTask : Task × List Judged → Type 0
IsPlainTask pair = Plain pair.0.label × AllByRecursion HasPlainName pair.1

groups_plain : (pair : Task × List Judged) → IsPlainTask pair → AllByRecursion IsPlainGroup (groups_of pair)
groups_plain pair plain =
    filter-all IsPlainGroup has_jobs (groups_of_task pair.0.label pair.1)
    (map-all IsPlainGroup (group_for pair.0.label pair.1) every_reason
    (λ reason. plain_group_of pair.0.label reason (filter (is_left_out_for reason) pair.1) plain.0 (filter-all HasPlainName (is_left_out_for reason) pair.1 plain.1)))

all_groups_plain : (pairs : List (Task × List Judged)) → AllByRecursion IsPlainTask pairs → AllByRecursion IsPlainGroup (flat_map groups_of pairs)
all_groups_plain [] all = tt
all_groups_plain (pair ∷ pairs) all =
    append-all IsPlainGroup (groups_of pair) (flat_map groups_of pairs) (groups_plain pair all.0) (all_groups_plain pairs all.1)

cut_off_silent : (P : List Entry → Type 0) (number : ℕ) → Silent P (cut_off_comment number)
cut_off_silent P number =
    silent_if P (number == 0) [] (comment (codes "left out: " ∷ counted number (codes "job") (codes "jobs") ∷ codes " before from or after to" ∷ [])) (Leads-nil P)
    (silent_comment P (codes "left out: " ∷ counted number (codes "job") (codes "jobs") ∷ codes " before from or after to" ∷ [])
    (refl, (plain_counted number (codes "job") (codes "jobs") refl refl, (refl, tt))))

left_out_silent : (P : List Entry → Type 0) (tasks : List Task) (by_task : List (List Judged)) (ones : List Judged) → AllByRecursion IsPlainTask (zip tasks by_task) →
    Silent P (left_out_comments tasks by_task ones)
left_out_silent P tasks by_task ones plain =
    silent_both P (flat_map group_comment (most_first (all_groups tasks by_task))) (cut_off_comment (count_by is_cut_off ones))
    (silent_each P IsPlainGroup group_comment (group_silent P) (most_first (all_groups tasks by_task))
    (in_order-all IsPlainGroup _ (all_groups tasks by_task) (all_groups_plain (zip tasks by_task) plain)))
    (cut_off_silent P (count_by is_cut_off ones))

-- # Stretches and wake-ups

short_silent : (P : List Entry → Type 0) (stretches : List Stretch) → Silent P (short_comment stretches)
short_silent P stretches =
    silent_if P (length stretches == 0) [] (some_short stretches) (Leads-nil P)
    (silent_comment P
    (counted (length stretches) (codes "stretch within one unit of time, ") (codes "stretches within one unit of time, ")
    ∷ in_milliseconds (capped (sum_by length_of stretches)) ∷ codes " ms together, "
    ∷ is_or_are (length stretches) ∷ codes " in no run" ∷ []) (
      plain_counted (length stretches) (codes "stretch within one unit of time, ") (codes "stretches within one unit of time, ") refl refl,
      (plain_milliseconds (capped (sum_by length_of stretches)), (refl, (plain_if (length stretches == 1) (codes "is") (codes "are") refl refl, (refl, tt)))),
    ))

most_plain : (ones : List Judged) (most : ℕ) (name : List ℕ) → AllByRecursion HasPlainName ones → Plain name → Plain (most_woken ones most name).1
most_plain [] most name all plain = plain
most_plain (one ∷ more) most name all plain =
    cond_both (nat_lt most (wake_ups_of one)) (most_woken more (wake_ups_of one) (written_name one)) (most_woken more most name) (λ (found : ℕ × List ℕ). Plain found.1)
    (λ held. most_plain more (wake_ups_of one) (written_name one) all.1 all.0) (λ denied. most_plain more most name all.1 plain)

wake_up_silent : (P : List Entry → Type 0) (ones : List Judged) → AllByRecursion HasPlainName ones → Silent P (wake_up_comment ones)
wake_up_silent P ones all =
    let number : ℕ = capped (sum_by wake_ups_of ones) in
    silent_if P (number == 0) [] (woken_comment number (most_woken ones 0 [])) (Leads-nil P)
    (silent_comment P
    (counted number (codes "wake-up came while its job was open, the most of ") (codes "wake-ups came while their job was open, the most of ")
    ∷ (most_woken ones 0 []).1 ∷ codes ": " ∷ decimal (most_woken ones 0 []).0 ∷ []) (
      plain_counted number (codes "wake-up came while its job was open, the most of ") (codes "wake-ups came while their job was open, the most of ") refl refl,
      (most_plain ones 0 [] all refl, (refl, (plain_decimal (most_woken ones 0 []).0, tt))),
    ))

-- # Units

distance_silent : (P : List Entry → Type 0) (what label : List ℕ) (value : ℕ) (how : List ℕ) (mean : ℕ) → Plain what → Plain label → Plain how →
    Silent P (distance_comment what label value how mean)
distance_silent P what label value how mean first second third =
    silent_comment P
    (what ∷ label ∷ codes ", " ∷ in_milliseconds value ∷ codes " ms, is " ∷ how ∷ codes " the mean distance of its jobs' begins, "
    ∷ in_milliseconds mean ∷ codes " ms: is it in another unit?" ∷ [])
    (first, (second, (refl, (plain_milliseconds value, (refl, (third, (refl, (plain_milliseconds mean, (refl, tt)))))))))

unit_silent : (P : List Entry → Type 0) (what label : List ℕ) (value : ℕ) (mean : Option ℕ) → Plain what → Plain label → Silent P (unit_comment what label value mean)
unfolding unit_comment
unit_silent P what label value None first second = Leads-nil P
unit_silent P what label value (Some mean) first second =
    silent_if P (nat_lt (100 * mean) value) (distance_comment what label value (codes "more than 100 times") mean) _
    (distance_silent P what label value (codes "more than 100 times") mean first second refl)
    (silent_if P (nat_lt (100 * value) mean) (distance_comment what label value (codes "less than a hundredth of") mean) []
    (distance_silent P what label value (codes "less than a hundredth of") mean first second refl) (Leads-nil P))

-- The comment on begins that are farther apart than a deadline is passed over.
period_silent : (P : List Entry → Type 0) (task : Task) (number : ℕ) (mean : Option ℕ) → Plain task.label → Silent P (period_comment task number mean)
unfolding period_comment
period_silent P task number None plain = Leads-nil P
period_silent P task number (Some mean) plain =
    silent_if P (lacks_period task mean) (without_period_comment task number mean) []
    (silent_comment P
    (task.label ∷ codes ": " ∷ decimal number ∷ codes " begins, " ∷ in_milliseconds mean ∷ codes " ms apart in the mean, a deadline of "
    ∷ in_milliseconds task.deadline ∷ codes " ms: a period would tell frames that fall behind" ∷ [])
    (plain, (refl, (plain_decimal number, (refl, (plain_milliseconds mean, (refl, (plain_milliseconds task.deadline, (refl, tt)))))))))
    (Leads-nil P)

task_unit_silent : (P : List Entry → Type 0) (pair : Task × List Judged) → IsPlainTask pair → Silent P (task_unit_comments pair)
task_unit_silent P pair plain =
    let begins : List ℕ = known_begins pair.1 in
    let mean : Option ℕ = mean_distance begins in
    silent_both P (deadline_comment pair.0 mean ++ apart_comment pair.0 mean) (period_comment pair.0 (length begins) mean)
    (silent_both P (deadline_comment pair.0 mean) (apart_comment pair.0 mean)
    (unit_silent P (codes "the deadline of ") pair.0.label pair.0.deadline mean refl plain.0)
    (silent_if P (pair.0.apart == 0) [] (unit_comment (codes "APART of ") pair.0.label pair.0.apart mean) (Leads-nil P)
    (unit_silent P (codes "APART of ") pair.0.label pair.0.apart mean refl plain.0)))
    (period_silent P pair.0 (length begins) mean plain.0)

-- # Who else had the processor

-- No byte that is shown is a line feed.
shown_other : (byte : ℕ) → is_other 10 (shown_byte byte) ≡ true
shown_other byte = by (nat_lt byte 32) refl (byte == 127)
  where
    by : (b : Bool) → nat_lt byte 32 ≡ b → (c : Bool) → is_other 10 (if b || c then 63 else byte) ≡ true
    by true low c = refl
    by false high true = refl
    by false high false = is_other_true 10 byte (λ same. let least : 32 ≤ byte = ltb-false byte 32 high in omega (arith, same, least))

plain_shown : (name : List ℕ) → Plain (map shown_byte name)
plain_shown [] = refl
plain_shown (byte ∷ name) = and_from (is_other 10 (shown_byte byte)) (list_all (is_other 10) (map shown_byte name)) (shown_other byte) (plain_shown name)

other_silent : (P : List Entry → Type 0) (units : Units) (span : Span) → Silent P (other_comment units span)
other_silent P units span =
    silent_if P (nat_lt (written_time units span.from) (written_time units span.to))
    (comment (codes "other " ∷ map shown_byte span.name ∷ codes "-" ∷ decimal span.pid ∷ codes " " ∷ decimal (written_time units span.from)
    ∷ codes " " ∷ decimal (written_time units span.to) ∷ [])) []
    (silent_comment P
    (codes "other " ∷ map shown_byte span.name ∷ codes "-" ∷ decimal span.pid ∷ codes " " ∷ decimal (written_time units span.from)
    ∷ codes " " ∷ decimal (written_time units span.to) ∷ []) (
      refl,
      (plain_shown span.name, (refl, (plain_decimal span.pid, (refl, (plain_decimal (written_time units span.from), (refl, (plain_decimal (written_time units span.to), tt))))))),
    ))
    (Leads-nil P)

others_silent : (P : List Entry → Type 0) (units : Units) (spans : List Span) → Silent P (flat_map (other_comment units) spans)
others_silent P units [] = Leads-nil P
others_silent P units (span ∷ spans) = silent_both P (other_comment units span) (flat_map (other_comment units) spans) (other_silent P units span) (others_silent P units spans)

-- # What the trace lacks

plain_here : (in_parts : Bool) → Plain (up_to_here in_parts)
plain_here in_parts = plain_if in_parts (codes ", up to here") [] refl refl

lack_silent : (P : List Entry → Type 0) (in_parts : Bool) (what : List ℕ) (number : ℕ) → Plain what → Silent P (lack_comment in_parts what number)
lack_silent P in_parts what number plain =
    silent_if P (number == 0) [] (comment (what ∷ up_to_here in_parts ∷ codes ": " ∷ decimal number ∷ [])) (Leads-nil P)
    (silent_comment P (what ∷ up_to_here in_parts ∷ codes ": " ∷ decimal number ∷ []) (plain, (plain_here in_parts, (refl, (plain_decimal number, tt)))))

pause_silent : (P : List Entry → Type 0) (in_parts : Bool) (pause : Pause) → Silent P (pause_comment in_parts pause)
pause_silent P in_parts pause =
    silent_if P (is_long pause) (long_comment in_parts pause) []
    (silent_comment P
    (no_line_text in_parts ∷ in_seconds pause.lasted ∷ codes " s, from " ∷ in_seconds pause.since ∷ codes " s on: did the clock jump?" ∷ [])
    (plain_if in_parts (codes "up to here, no line for ") (codes "no line for ") refl refl, (plain_seconds pause.lasted, (refl, (plain_seconds pause.since, (refl, tt))))))
    (Leads-nil P)

-- The comment on a processor that has no line up to the end is passed over.
silence_silent : (P : List Entry → Type 0) (in_parts : Bool) (silence : Silence) → Silent P (silence_comment in_parts silence)
silence_silent P in_parts silence =
    silent_if P (is_silent silence) (silence_text in_parts silence) []
    (silent_comment P
    (no_line_of_text in_parts ∷ decimal silence.processor ∷ codes " for " ∷ in_seconds silence.lasted ∷ codes " s, from "
    ∷ in_seconds silence.since ∷ on_to_the_end in_parts ∷ codes ": what it did then isn't known" ∷ []) (
      plain_if in_parts (codes "up to here, no line of CPU ") (codes "no line of CPU ") refl refl,
      (
        plain_decimal silence.processor,
        (refl, (plain_seconds silence.lasted, (refl, (plain_seconds silence.since, (plain_if in_parts (codes " s on") (codes " s on to the end") refl refl, (refl, tt)))))),
      ),
    ))
    (Leads-nil P)

tally_silent : (P : List Entry → Type 0) (in_parts : Bool) (tally : Tally) → Silent P (tally_comments in_parts tally)
tally_silent P in_parts tally =
    let losses : List ℕ = lack_comment in_parts (codes "places where events were lost") tally.losses in
    let missing : List ℕ = lack_comment in_parts (codes "switches of other threads that are missing") tally.missing in
    let markers : List ℕ = lack_comment in_parts (codes "lines that programs wrote into the trace") tally.markers in
    let two : Silent P (losses ++ missing) =
    silent_both P losses missing (lack_silent P in_parts (codes "places where events were lost") tally.losses refl)
    (lack_silent P in_parts (codes "switches of other threads that are missing") tally.missing refl) in
    let three : Silent P (losses ++ missing ++ markers) =
    silent_both P (losses ++ missing) markers two (lack_silent P in_parts (codes "lines that programs wrote into the trace") tally.markers refl) in
    let pause : List ℕ = pause_comment in_parts tally.pause in
    let four : Silent P (losses ++ missing ++ markers ++ pause) =
    silent_both P (losses ++ missing ++ markers) pause three (pause_silent P in_parts tally.pause) in
    silent_both P (losses ++ missing ++ markers ++ pause) (silence_comment in_parts tally.silence) four (silence_silent P in_parts tally.silence)

-- # The last line

last_silent : (P : List Entry → Type 0) (settled : Settled) → Silent P (last_line settled)
last_silent P settled =
    silent_comment P
    (counted (length settled.document.jobs) (codes "job") (codes "jobs") ∷ codes " written, "
    ∷ left_out_text _ ∷ without_runs_text _ ∷ [])
    (plain_counted (length settled.document.jobs) (codes "job") (codes "jobs") refl refl, (refl, (plain_left_out _, (plain_without _, tt))))
  where
    plain_left_out : (number : ℕ) → Plain (left_out_text number)
    plain_left_out number =
        plain_if (number == 0) (codes "none left out") (told (decimal number ∷ codes " left out" ∷ [])) refl
        (plain_told (decimal number ∷ codes " left out" ∷ []) (plain_decimal number, (refl, tt)))

    plain_without : (number : ℕ) → Plain (without_runs_text number)
    plain_without number =
        plain_if (number == 0) [] (late_without number) refl
        (plain_told (codes ", " ∷ decimal number ∷ codes " late without " ∷ its_or_their number ∷ codes " runs" ∷ [])
        (refl, (plain_decimal number, (refl, (plain_if (number == 1) (codes "its") (codes "their") refl refl, (refl, tt))))))

-- # Names

label_plain : (tasks : List Task) (number : ℕ) → All (λ task. is_name task.label ≡ true) tasks → Plain (slice_index_or tasks number no_task).label
label_plain [] number named = refl
label_plain (task ∷ tasks) zero named = name_plain task.label (named 0 task (omega arith))
label_plain (task ∷ tasks) (suc number) named = label_plain tasks number (λ k d within. named (suc k) d (omega (arith, within)))

names_of-all : (asked : Asked) (past : List Said) (number : ℕ) → AreLabelled asked.tasks → AllByRecursion HasPlainName (judged_of asked past number)
names_of-all asked past number labelled =
    map-all HasPlainName (judged asked past number (began_before (jobs_of asked past number))) (enumerate_from 0 (shares_of asked past number))
    (λ numbered. in_parts_plain (named (task_at asked number).label (began_before (jobs_of asked past number)) numbered.0) (if numbered.1.shared then Some asked.processor else None)
    (named_plain (task_at asked number).label (began_before (jobs_of asked past number)) numbered.0 (label_plain asked.tasks number labelled.names)))

names_from-all : (asked : Asked) (past : List Said) (number : ℕ) (tasks : List Task) → AreLabelled asked.tasks → AllByRecursion HasPlainName (judged_from asked past number tasks)
names_from-all asked past number [] labelled = tt
names_from-all asked past number (task ∷ tasks) labelled =
    append-all HasPlainName (judged_of asked past number) (judged_from asked past (number + 1) tasks) (names_of-all asked past number labelled)
    (names_from-all asked past (number + 1) tasks labelled)

names-all : (asked : Asked) (past : List Said) → AreLabelled asked.tasks → AllByRecursion HasPlainName (all_judged asked past)
names-all asked past labelled =
    in_order-all HasPlainName (λ one. one.job.begin) (judged_from asked past 0 asked.tasks) (names_from-all asked past 0 asked.tasks labelled)

-- What the comments need: the names of these jobs are plain, and those of each task's.
pub record ArePlain (tasks : List Task) (by_task : List (List Judged)) (ones : List Judged) : Type 0 where
  pub names : AllByRecursion HasPlainName ones
  pub pairs : AllByRecursion IsPlainTask (zip tasks by_task)

tasks-all : (asked : Asked) (past : List Said) (number : ℕ) (tasks : List Task) → AreLabelled asked.tasks → All (λ task. is_name task.label ≡ true) tasks →
    AllByRecursion IsPlainTask (zip tasks (judged_by_task asked past number tasks))
tasks-all asked past number [] labelled named = tt
tasks-all asked past number (task ∷ tasks) labelled named = (
  (name_plain task.label (named 0 task (omega arith)), names_of-all asked past number labelled),
  tasks-all asked past (number + 1) tasks labelled (λ k d within. named (suc k) d (omega (arith, within))),
)

-- also of those that pass a test
pairs-filter : (test : Judged → Bool) (tasks : List Task) (by_task : List (List Judged)) → AllByRecursion IsPlainTask (zip tasks by_task) →
    AllByRecursion IsPlainTask (zip tasks (map (filter test) by_task))
pairs-filter test [] by_task all = tt
pairs-filter test (task ∷ tasks) [] all = tt
pairs-filter test (task ∷ tasks) (ones ∷ by_task) all =
    ((all.0.0, filter-all HasPlainName test ones all.0.1), pairs-filter test tasks by_task all.1)

pub all_plain : (asked : Asked) (past : List Said) → AreLabelled asked.tasks → ArePlain asked.tasks (judged_by_task asked past 0 asked.tasks) (all_judged asked past)
all_plain asked past labelled = record {
  names = names-all asked past labelled;
  pairs = tasks-all asked past 0 asked.tasks labelled labelled.names;
}

pub some_plain : (asked : Asked) (past : List Said) (test : Judged → Bool) → AreLabelled asked.tasks →
    ArePlain asked.tasks (map (filter test) (judged_by_task asked past 0 asked.tasks)) (filter test (all_judged asked past))
some_plain asked past test labelled =
    let all = all_plain asked past labelled in
    record {
      names = filter-all HasPlainName test (all_judged asked past) all.names;
      pairs = pairs-filter test asked.tasks (judged_by_task asked past 0 asked.tasks) all.pairs;
    }

-- # All comments

pub comments_silent : (P : List Entry → Type 0) (asked : Asked) (settled : Settled) → ArePlain asked.tasks settled.by_task settled.judged → Silent P (comments_text asked settled)
comments_silent P asked settled plain =
    let tasks : List Task = asked.tasks in
    let late : List ℕ = flat_map (late_comment settled.units) settled.judged in
    let shown : List ℕ = flat_map (shown_comments settled.units) settled.judged in
    let left : List ℕ = left_out_comments tasks settled.by_task settled.judged in
    let short : List ℕ = short_comment (short_stretches settled.units settled.judged) in
    let woken : List ℕ = wake_up_comment settled.judged in
    let units : List ℕ = all_unit_comments tasks settled.by_task in
    let two : Silent P (late ++ shown) =
    silent_both P late shown (silent_each P HasPlainName (late_comment settled.units) (late_silent P settled.units) settled.judged plain.names)
    (silent_each P HasPlainName (shown_comments settled.units) (shown_silent P settled.units) settled.judged plain.names) in
    let three : Silent P (late ++ shown ++ left) = silent_both P (late ++ shown) left two (left_out_silent P tasks settled.by_task settled.judged plain.pairs) in
    let four : Silent P (late ++ shown ++ left ++ short) = silent_both P (late ++ shown ++ left) short three (short_silent P (short_stretches settled.units settled.judged)) in
    let five : Silent P (late ++ shown ++ left ++ short ++ woken) = silent_both P (late ++ shown ++ left ++ short) woken four (wake_up_silent P settled.judged plain.names) in
    let six : Silent P (late ++ shown ++ left ++ short ++ woken ++ units) =
    silent_both P (late ++ shown ++ left ++ short ++ woken) units five (silent_each P IsPlainTask task_unit_comments (task_unit_silent P) (zip tasks settled.by_task) plain.pairs) in
    let others : List ℕ = flat_map (other_comment settled.units) settled.others in
    let seven : Silent P (late ++ shown ++ left ++ short ++ woken ++ units ++ others) =
    silent_both P (late ++ shown ++ left ++ short ++ woken ++ units) others six (others_silent P settled.units settled.others) in
    let lacks : List ℕ = tally_comments asked.in_parts settled.tally in
    let eight : Silent P (late ++ shown ++ left ++ short ++ woken ++ units ++ others ++ lacks) =
    silent_both P (late ++ shown ++ left ++ short ++ woken ++ units ++ others) lacks seven (tally_silent P asked.in_parts settled.tally) in
    silent_both P (late ++ shown ++ left ++ short ++ woken ++ units ++ others ++ lacks) (last_line settled) eight (last_silent P settled)
