use Rattle.base.proofs.Common.{◌≡◌, ◌∙◌, ℕ, List, count_by, sym}
use Rattle.std.proofs.Math.Path.{fun_ext}
use Rattle.yds_trace.specs.declared.reason.Reason.{Reason}
use Rattle.yds_trace.specs.declared.reason.Reason.TheVariants as reasons
use Rattle.yds_trace.specs.Document.{Judged}
use Rattle.yds_trace_document.specs.declared.judged.Judged.{Judged as JudgedKept}
use Rattle.yds_trace_document.specs.declared.left_out.Counts.{Counts}
use Rattle.yds_trace_document.specs.LeftOut.{is_for, count_for}
use Rattle.yds_trace_document.specs.Views.{judged_read, judged_list, count_in}
use Rattle.yds_trace_document.proofs.Lists.{count_by_map}
use Rattle.yds_trace_document.proofs.left_out.Counts.new.Goals as goal

counted : (judged : List JudgedKept) (reason : Reason) (count : ℕ) → count ≡ count_by (λ one. is_for reason (judged_read one).reason) judged →
    count ≡ count_for (judged_list judged) reason
counted judged reason count is = is ∙ sym (count_by_map (λ (one : Judged). is_for reason one.reason) judged_read judged)

each : (counts : Counts) (judged : List Judged) → counts.before_from ≡ count_for judged reasons.BeforeFrom →
    counts.after_to ≡ count_for judged reasons.AfterTo → counts.not_ended ≡ count_for judged reasons.NotEnded →
    counts.events_lost ≡ count_for judged reasons.EventsLost → counts.switch_missing ≡ count_for judged reasons.SwitchMissing →
    counts.begin_unseen ≡ count_for judged reasons.BeginUnseen → counts.due_before ≡ count_for judged reasons.DueBefore → counts.moved ≡ count_for judged reasons.Moved →
    counts.speed_unknown ≡ count_for judged reasons.SpeedUnknown → (reason : Reason) → count_in counts reason ≡ count_for judged reason
each counts judged one two three four five six seven eight nine reasons.BeforeFrom = one
each counts judged one two three four five six seven eight nine reasons.AfterTo = two
each counts judged one two three four five six seven eight nine reasons.NotEnded = three
each counts judged one two three four five six seven eight nine reasons.EventsLost = four
each counts judged one two three four five six seven eight nine reasons.SwitchMissing = five
each counts judged one two three four five six seven eight nine reasons.BeginUnseen = six
each counts judged one two three four five six seven eight nine reasons.DueBefore = seven
each counts judged one two three four five six seven eight nine reasons.Moved = eight
each counts judged one two three four five six seven eight nine reasons.SpeedUnknown = nine

pub returns : goal.returns
returns c =
    let judged = c.args.judged.now in
    let counts : Counts = record {
      before_from = c.count_for.result;
      after_to = c.count_for-2.result;
      not_ended = c.count_for-3.result;
      events_lost = c.count_for-4.result;
      switch_missing = c.count_for-5.result;
      begin_unseen = c.count_for-6.result;
      due_before = c.count_for-7.result;
      moved = c.count_for-8.result;
      speed_unknown = c.count_for-9.result;
    } in
    fun_ext (each counts (judged_list judged)
    (counted judged reasons.BeforeFrom c.count_for.result c.count_for.ensures)
    (counted judged reasons.AfterTo c.count_for-2.result c.count_for-2.ensures)
    (counted judged reasons.NotEnded c.count_for-3.result c.count_for-3.ensures)
    (counted judged reasons.EventsLost c.count_for-4.result c.count_for-4.ensures)
    (counted judged reasons.SwitchMissing c.count_for-5.result c.count_for-5.ensures)
    (counted judged reasons.BeginUnseen c.count_for-6.result c.count_for-6.ensures)
    (counted judged reasons.DueBefore c.count_for-7.result c.count_for-7.ensures)
    (counted judged reasons.Moved c.count_for-8.result c.count_for-8.ensures)
    (counted judged reasons.SpeedUnknown c.count_for-9.result c.count_for-9.ensures))
