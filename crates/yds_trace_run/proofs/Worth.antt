-- What was written hides no late job, is read again, and is faithful to the trace, as it is read, in one document or in parts.
use Rattle.yds_model.proofs.Common.{◌≡◌, ℕ, inl, inr, List, length, get_or, All, Bool, Option, Some, None, Ok, refl, sym, subst, ◌∙◌, ◌≢◌, ◌≤◌, true, false, nat_lt, if◌then◌else◌, ltb-false, and_parts, AllPairs, is_name}
use Rattle.std.specs.Prelude.{IfSome, option_map}
use Rattle.std.proofs.lemmas.List.{append_cancel_left}
use Rattle.std.specs.Io.KnownBytes.{Appends}
use Rattle.base.specs.declared.status.Status.{Status}
use Rattle.base.specs.declared.status.Status.TheVariants as statuses
use Rattle.base.specs.declared.limits.TheConstants.{MAX_INPUT}
use Rattle.yds_kernel.specs.Event.{Said}
use Rattle.yds_kernel_order.specs.Order.{order_of, line_at}
use Rattle.yds_trace.specs.Asked.{Task, Asked, IsAsked, on}
use Rattle.yds_trace.specs.Faults.{first_fault}
use Rattle.yds_trace.specs.Parts.{processors_of}
use Rattle.yds_trace.proofs.OnProcessor.{first_fault_on}
use Rattle.yds_trace.specs.Document.{Judged, all_judged, units_of, document_of}
use Rattle.yds_trace_laws.proofs.Faithful.{documents_are_faithful}
use Rattle.yds_trace_laws.proofs.Begins.{or_none}
use Rattle.yds_trace_document.specs.declared.fault.DocumentFault.{DocumentFault}
use Rattle.yds_trace_document.specs.Settled.{settled_of}
use Rattle.yds_trace_document.specs.Limits.{limit_fault}
use Rattle.yds_trace_again.specs.Again.{IsReadAgain}
use Rattle.yds_trace_again.specs.Laws.{AreLabelled}
use Rattle.yds_trace_again.proofs.Again.{read_again as is_read_again}
use Rattle.yds_trace_again.proofs.Worth.{faithful_read, told_late}
use Rattle.yds_trace_words.specs.Tasks.{is_label}
use Rattle.yds_trace_text.specs.Limit.{limit_of, first_limit}
use Rattle.yds_trace_run.specs.Fault.{OfText, of_document, of_text, document_fault}
use Rattle.yds_trace_text.specs.Text.{text_of}
use Rattle.yds_trace_reading.specs.LineFault.{past_of}
use Rattle.yds_trace_parts.specs.Told.{Halt, told_of, by_number}
use Rattle.yds_trace_bounds.specs.declared.bounds.Bounds.{Bounds}
use Rattle.yds_trace_bounds.specs.Bounds.{asked_from, asked_in}
use Rattle.yds_trace_words.specs.Request.{ReadTrace, IsFit}
use Rattle.yds_trace_run.specs.Answer.{AreParts, IsTold, IsToldIn}
use Rattle.yds_trace_files.specs.Unread.{Unread}
use Rattle.yds_trace_run.specs.Endings.{IsText, Outcome, Writes}
use Rattle.yds_trace_laws.proofs.Processors.{jobs_are_the_same, each_job_belongs, shares_are_the_whole, only_its_own, none_has_moved}
use Rattle.yds_trace_whole.specs.Parts.{written_parts}
use Rattle.yds_trace_whole.specs.Worth.{ArePartsReadAgain}
use Rattle.yds_trace_whole.proofs.Parting.{parts_are_the_whole}
use Rattle.yds_trace_whole.proofs.Together.{parts_make_the_document}
use Rattle.yds_trace_whole.proofs.Everywhere.{all_parts_are_kept, parts_are_of_processors, each_part_is_read, pieces_hide_nothing, pieces_are_faithful}
use Rattle.yds_trace_run.specs.Worth.{HidesNothing, AreSharedIfAsked, IsReadSo, IsFaithfulSo, IsWholeSo, IsWorth, HoldsWithin, OfAppended}
use Rattle.yds_trace_run.proofs.Within.{fit_within}
use Rattle.yds_trace_run.proofs.InParts.{IsToldAs, told_as}

-- # What a run that is done wrote

done_so : (unread : Unread) (asked : Asked) (bounds : Bounds) (strict : Bool) (bytes text : List ℕ) (status : Status) → statuses.Done ≡ status
    → IsText unread (Ok (ReadTrace asked bounds strict)) bytes text status → IsToldIn (asked_in bounds asked (order_of bytes)) strict bytes text statuses.Done
done_so unread asked bounds strict bytes text status done is = elim (subst (λ (s : Status). IsText unread (Ok (ReadTrace asked bounds strict)) bytes text s) (sym done) is) [
  | inl told ↦ told
  | inr much ↦ let other : statuses.Done ≡ statuses.Refused = much.refused in absurd cc
]

-- It is told, so something is asked within the bounds.
told_within : (Q : Asked → Type 0) (within : Option Asked) (strict : Bool) (bytes text : List ℕ) → IfSome within IsFit
    → ((one : Asked) → IsFit one → IsTold one.in_parts one strict bytes text statuses.Done → Q one) → IsToldIn within strict bytes text statuses.Done → HoldsWithin within Q
told_within Q None strict bytes text fit each told = let other : statuses.Done ≡ statuses.Refused = told.0 in absurd cc
told_within Q (Some one) strict bytes text fit each told = each one fit told

-- What was appended has what a text has, if that was appended.
of_appended : (P : List ℕ → Type 0) (old new : Option (List ℕ)) (text : List ℕ) → Appends old new text → P text → OfAppended old new P
of_appended P None new text appends holds = tt
of_appended P (Some old) None text appends holds = tt
of_appended P (Some old) (Some new) text appends holds = λ other is. subst P (append_cancel_left old text other (sym appends ∙ is)) holds

-- What holds of each text that is told holds of what was written.
done_holds : (unread : Unread) (Q : Asked → List Said → List ℕ → Type 0) (asked : Asked) (bounds : Bounds) (strict : Bool)
    → ((one : Asked) (bytes text : List ℕ) → IsFit one → IsTold one.in_parts one strict bytes text statuses.Done → Q one (past_of (order_of bytes)) text)
    → (input old new : Option (List ℕ)) (flushed : Option ℕ) (ended : Status) → ((first : ℕ) → IsFit (asked_from first bounds asked)) → ended ≡ statuses.Done
    → IfSome input (λ bytes. Writes unread (Ok (ReadTrace asked bounds strict)) bytes ended old new flushed)
    → IfSome input (λ bytes. HoldsWithin (asked_in bounds asked (order_of bytes)) (λ within. OfAppended old new (Q within (past_of (order_of bytes)))))
done_holds unread Q asked bounds strict each None old new flushed ended fit done writes = tt
done_holds unread Q asked bounds strict each (Some bytes) old new flushed ended fit done writes =
    let past = past_of (order_of bytes) in
    let whole = subst (λ (s : Status). Outcome s writes.text writes.status old new flushed) done writes.outcome in
    told_within (λ within. OfAppended old new (Q within past)) (asked_in bounds asked (order_of bytes)) strict bytes writes.text (fit_within bounds asked (order_of bytes) fit)
    (λ one fits told. of_appended (Q one past) old new writes.text whole.whole (each one bytes writes.text fits told))
    (done_so unread asked bounds strict bytes writes.text writes.status whole.said writes.is_text)

labelled : (tasks : List Task) → All (λ task. is_label task.label ≡ true) tasks → AllPairs (λ task other. task.label ≢ other.label) tasks → AreLabelled tasks
labelled tasks labels different = record {
  names = λ k d within. (and_parts (is_name (get_or tasks k d).label) _ (labels k d within)).0;
  different = different;
}

-- # In parts

-- No reason is told where there is none.
none_there : (number_of : ℕ → ℕ) (halt : Option Halt) → option_map (by_number number_of) halt ≡ None → halt ≡ None
none_there number_of None none = refl
none_there number_of (Some halt) none = cc

-- It is the text of the trace's parts, and none of its lines is refused.
told_parts : (asked : Asked) (strict : Bool) (input text : List ℕ) → AreParts asked strict input text
    → IsToldAs asked strict (past_of (order_of input)) (written_parts asked (past_of (order_of input))) text
told_parts asked strict input text parts =
    let goes_on = none_there (line_at input) (told_of asked strict (order_of input)).halt parts.sound in
    subst (λ (one : List ℕ). IsToldAs asked strict (past_of (order_of input)) (written_parts asked (past_of (order_of input))) one) (sym parts.says)
    (told_as asked strict (order_of input) goes_on)

parts_read_again : (asked : Asked) (strict : Bool) (past : List Said) (text : List ℕ) → IsFit asked → IsToldAs asked strict past (written_parts asked past) text
    → ArePartsReadAgain (written_parts asked past) text
parts_read_again asked strict past text fit told = record {
  says = told.says;
  read = λ i d within.
      each_part_is_read asked strict past fit.plain (labelled asked.tasks fit.labels fit.different) told.sound i d within
      (told.stand i d within).0 (told.stand i d within).1;
}

-- what is asked of one processor is fit where it is of another
fit_on : (processor : ℕ) (asked : Asked) → IsAsked asked → IsAsked (on processor asked)
fit_on processor asked fit = record { has_unit = fit.has_unit; has_speed_unit = fit.has_speed_unit; deadlines = fit.deadlines }

sound_on : (processor : ℕ) (asked : Asked) (past : List Said) → first_fault asked past ≡ None → first_fault (on processor asked) past ≡ None
sound_on processor asked past sound = first_fault_on asked processor past ∙ sound

-- # It is read again

no_limit : (judged : List Judged) (fault : Option DocumentFault) → of_document (option_map (limit_of judged) fault) ≡ None → fault ≡ None
no_limit judged None none = refl
no_limit judged (Some fault) none = cc

not_long : (text : List ℕ) → of_text text ≡ None → length text ≤ MAX_INPUT
not_long text none = by (nat_lt MAX_INPUT (length text)) refl none
  where
    by : (b : Bool) → nat_lt MAX_INPUT (length text) ≡ b → (if b then Some OfText else None) ≡ None → length text ≤ MAX_INPUT
    by true is none = cc
    by false is none = ltb-false MAX_INPUT (length text) is

document_again : (asked : Asked) (strict : Bool) (past : List Said) (text : List ℕ) → IsFit asked → document_fault asked strict past ≡ None → text ≡ text_of asked past
    → IsReadAgain asked past text
document_again asked strict past text fit none is =
    let parts = or_none (of_document (first_limit strict (settled_of asked past))) (of_text (text_of asked past)) none in
    subst (IsReadAgain asked past) (sym is)
    (is_read_again asked strict past fit.plain (labelled asked.tasks fit.labels fit.different) (no_limit (settled_of asked past).judged (limit_fault strict (settled_of asked past)) parts.0)
    (not_long (text_of asked past) parts.1))

read_so : (in_parts : Bool) (asked : Asked) (strict : Bool) (input text : List ℕ) → IsFit asked → IsTold in_parts asked strict input text statuses.Done
    → IsReadSo in_parts asked (past_of (order_of input)) text
read_so false asked strict input text fit told = document_again asked strict (past_of (order_of input)) text fit told.fits told.says
read_so true asked strict input text fit told = parts_read_again asked strict (past_of (order_of input)) text fit (told_parts asked strict input text told)

-- # No late job is hidden

hides_nothing : (in_parts : Bool) (asked : Asked) (strict : Bool) (input text : List ℕ) → IsFit asked → IsTold in_parts asked strict input text statuses.Done
    → HidesNothing in_parts asked (past_of (order_of input)) text
hides_nothing false asked strict input text fit told =
    told_late asked (past_of (order_of input)) text fit.plain told.says (read_so false asked strict input text fit told)
hides_nothing true asked strict input text fit told =
    let past = past_of (order_of input) in
    let parts = told_parts asked strict input text told in
    pieces_hide_nothing asked past text fit.plain parts.sound parts.keeps (parts_read_again asked strict past text fit parts)

-- # It is faithful

faithful_so : (in_parts : Bool) (asked : Asked) (strict : Bool) (input text : List ℕ) → IsFit asked → IsTold in_parts asked strict input text statuses.Done
    → IsFaithfulSo in_parts asked (past_of (order_of input)) text
faithful_so false asked strict input text fit told =
    let past = past_of (order_of input) in
    faithful_read asked (units_of asked past) (all_judged asked past) (document_of asked past) text (read_so false asked strict input text fit told)
    (documents_are_faithful asked past fit.plain)
faithful_so true asked strict input text fit told =
    let past = past_of (order_of input) in
    let parts = told_parts asked strict input text told in
    pieces_are_faithful asked past text fit.plain parts.sound parts.keeps (parts_read_again asked strict past text fit parts)

-- # It is whole

-- Of a job that moved, no stretch is lost where that is asked for.
shared : (asked : Asked) (past : List Said) → AreSharedIfAsked asked past
shared asked past moved = record {
  shares = λ number. shares_are_the_whole asked past number;
  only_own = λ processor. only_its_own (on processor asked) past moved;
  none_moved = λ processor. none_has_moved (on processor asked) past moved;
}

whole_so : (in_parts : Bool) (asked : Asked) (strict : Bool) (input text : List ℕ) → IsFit asked → IsTold in_parts asked strict input text statuses.Done
    → IsWholeSo in_parts asked (past_of (order_of input)) text
whole_so false asked strict input text fit told = record { read = read_so false asked strict input text fit told; shared = shared asked (past_of (order_of input)) }
whole_so true asked strict input text fit told =
    let past = past_of (order_of input) in
    let parts = told_parts asked strict input text told in
    record {
      read = parts_read_again asked strict past text fit parts;
      each = λ i d within.
          let processor = get_or (processors_of asked past) i d in
          let sound = sound_on processor asked past parts.sound in
          let kept = all_parts_are_kept asked past parts.keeps i d within in
          record {
            own = parts_are_of_processors asked past i d within;
            same_jobs = parts_are_the_whole (on processor asked) past sound kept;
            same_document = parts_make_the_document (on processor asked) past (fit_on processor asked fit.plain) sound kept;
          };
      same_jobs = λ processor. jobs_are_the_same asked past processor;
      shared = shared asked past;
      belong = each_job_belongs asked past;
    }

-- # All of it

is_worth : (asked : Asked) (strict : Bool) (input text : List ℕ) → IsFit asked → IsTold asked.in_parts asked strict input text statuses.Done
    → IsWorth asked (past_of (order_of input)) text
is_worth asked strict input text fit told = record {
  nothing_late = hides_nothing asked.in_parts asked strict input text fit told;
  read_again = read_so asked.in_parts asked strict input text fit told;
  faithful = faithful_so asked.in_parts asked strict input text fit told;
  whole = whole_so asked.in_parts asked strict input text fit told;
}

pub done_is_worth : (unread : Unread) (asked : Asked) (bounds : Bounds) (strict : Bool) (input old new : Option (List ℕ)) (flushed : Option ℕ) (ended : Status)
    → ((first : ℕ) → IsFit (asked_from first bounds asked)) → ended ≡ statuses.Done
    → IfSome input (λ bytes. Writes unread (Ok (ReadTrace asked bounds strict)) bytes ended old new flushed)
    → IfSome input (λ bytes. HoldsWithin (asked_in bounds asked (order_of bytes)) (λ within. OfAppended old new (IsWorth within (past_of (order_of bytes)))))
done_is_worth unread asked bounds strict input old new flushed ended fit done writes =
    done_holds unread IsWorth asked bounds strict (λ one bytes text fits told. is_worth one strict bytes text fits told) input old new flushed ended fit done writes
