use Rattle.yds_model.proofs.Common.{◌≡◌, ◌∙◌, ℕ, List, refl, sym, subst, Option, Some, None, Result, Ok, true, false_from_ne_true}
use Rattle.std.specs.Prelude.{⊤, IfSome}
use Rattle.base.specs.declared.status.Status.{Status}
use Rattle.base.specs.declared.status.Status.TheVariants as statuses
use Rattle.yds_port.specs.Count.{next_count}
use Rattle.yds_kernel_order.specs.Order.{order_of}
use Rattle.yds_trace.specs.Views.{asked_read}
use Rattle.yds_trace_bounds.specs.Bounds.{asked_in}
use Rattle.yds_trace_reading.specs.LineFault.{past_of}
use Rattle.yds_trace_parts.specs.Flushing.{count_on, times_told}
use Rattle.yds_trace_words.specs.declared.request.Request.{Request as RequestMade}
use Rattle.yds_trace_words.specs.Request.{Request, ShowHelp, ReadTrace, request_of, IsFitRequest}
use Rattle.yds_trace_words.specs.Texts.{help_text}
use Rattle.yds_trace_words.specs.Views.{words_of, request_read}
use Rattle.yds_trace_words.specs.Words.{WordFault}
use Rattle.yds_trace_files.specs.Unread.{Unread}
use Rattle.yds_trace_run.specs.Answer.{TellsParts}
use Rattle.yds_trace_run.specs.FaultText.{memory_text}
use Rattle.yds_trace_run.specs.Worth.{HoldsWithin}
use Rattle.yds_trace_run.specs.Endings.{IsText, Writes, IsDelivered}
use Rattle.yds_trace_run.proofs.Told.{ends_alone}
use Rattle.yds_trace_run.proofs.Worth.{done_is_worth}
use Rattle.yds_trace_run.proofs.running.run.Goals as goal

pub returns-in-Ok-Trace-clause-worth : goal.returns-in-Ok-Trace-clause-worth
returns-in-Ok-Trace-clause-worth g c = λ done asked bounds strict same.
    let made = subst (λ (made : RequestMade). request_of (words_of c.args.words.now) ≡ Ok (request_read made)) c.in-Ok-Trace.field-0-is c.in-Ok-Trace.ensures.request in
    let joined : Ok (ReadTrace (asked_read c.in-Ok-Trace.asked) c.in-Ok-Trace.bounds c.in-Ok-Trace.strict) ≡ Ok (ReadTrace asked bounds strict) = sym made ∙ same in
    let both : ReadTrace (asked_read c.in-Ok-Trace.asked) c.in-Ok-Trace.bounds c.in-Ok-Trace.strict ≡ ReadTrace asked bounds strict = cc in
    let fit = subst (λ (made : RequestMade). IsFitRequest (request_read made)) c.in-Ok-Trace.field-0-is c.in-Ok-Trace.ensures.fit in
    done_is_worth (g.S.Input.unread c.run_trace.new.source) asked bounds strict (g.S.Source.left c.args.source.now) (g.K.Sink.written c.args.sink.now) (g.K.Sink.written c.run_trace.new.sink) (g.K.Sink.flushed c.run_trace.new.sink)
    c.run_trace.result (subst IsFitRequest both fit) done
    (subst (λ (request : Request). IfSome (g.S.Source.left c.args.source.now) (λ input. Writes (g.S.Input.unread c.run_trace.new.source) (Ok request) input c.run_trace.result (g.K.Sink.written c.args.sink.now)
    (g.K.Sink.written c.run_trace.new.sink) (g.K.Sink.flushed c.run_trace.new.sink))) both c.run_trace.ensures.answer)

-- Where the trace isn't told in parts, it is flushed once.
pub returns-in-Ok-Trace-clause-flushed_once : goal.returns-in-Ok-Trace-clause-flushed_once
returns-in-Ok-Trace-clause-flushed_once g c = λ whole.
    let made = subst (λ (made : RequestMade). request_of (words_of c.args.words.now) ≡ Ok (request_read made)) c.in-Ok-Trace.field-0-is c.in-Ok-Trace.ensures.request in
    c.run_trace.ensures.flushed_once (false_from_ne_true (asked_read c.in-Ok-Trace.asked).in_parts (λ in_parts. whole (subst TellsParts (sym made) in_parts)))

-- what is said of how often the sink is flushed for a trace that is told in parts
abbrev FlushesEach : Request → Option (List ℕ) → Status → ℕ → ℕ → Type 0
FlushesEach (ReadTrace asked bounds strict) input ended old new = asked.in_parts ≡ true
    → IfSome input (λ bytes. ended ≡ statuses.Done
    → HoldsWithin (asked_in bounds asked (order_of bytes)) (λ within. new ≡ next_count (count_on (times_told within strict (past_of (order_of bytes))) old)))
FlushesEach other input ended old new = ⊤

-- the run being done, said before the input
done_first : (Q : List ℕ → Type 0) (ended : Status) (input : Option (List ℕ)) → ended ≡ statuses.Done → IfSome input (λ bytes. ended ≡ statuses.Done → Q bytes) → IfSome input Q
done_first Q ended None done each = tt
done_first Q ended (Some bytes) done each = each done

pub returns-in-Ok-Trace-clause-flushed_behind_each : goal.returns-in-Ok-Trace-clause-flushed_behind_each
returns-in-Ok-Trace-clause-flushed_behind_each g c = λ done parts asked bounds strict same.
    let made = subst (λ (made : RequestMade). request_of (words_of c.args.words.now) ≡ Ok (request_read made)) c.in-Ok-Trace.field-0-is c.in-Ok-Trace.ensures.request in
    let joined : Ok (ReadTrace (asked_read c.in-Ok-Trace.asked) c.in-Ok-Trace.bounds c.in-Ok-Trace.strict) ≡ Ok (ReadTrace asked bounds strict) = sym made ∙ same in
    let both : ReadTrace (asked_read c.in-Ok-Trace.asked) c.in-Ok-Trace.bounds c.in-Ok-Trace.strict ≡ ReadTrace asked bounds strict = cc in
    let each = subst (λ (request : Request). FlushesEach request (g.S.Source.left c.args.source.now) c.run_trace.result (g.K.Sink.flushes c.args.sink.now) (g.K.Sink.flushes c.run_trace.new.sink))
    both c.run_trace.ensures.flushed_behind_each (subst TellsParts same parts) in
    done_first (λ bytes. HoldsWithin (asked_in bounds asked (order_of bytes))
    (λ within. g.K.Sink.flushes c.run_trace.new.sink ≡ next_count (count_on (times_told within strict (past_of (order_of bytes))) (g.K.Sink.flushes c.args.sink.now))))
    c.run_trace.result (g.S.Source.left c.args.source.now) done each

-- Where memory ran out before the trace was read, nothing was written but that.
memory_writes : (unread : Unread) {K : Type 0} (written : K → Option (List ℕ)) (flushed : K → Option ℕ) (flushes faults : K → ℕ) (words : List (List ℕ)) (input : Option (List ℕ)) (ended : Status)
    (old new : K) → IsDelivered written flushed flushes faults memory_text statuses.Memory ended old new
    → IfSome input (λ bytes. Writes unread (request_of words) bytes ended (written old) (written new) (flushed new))
memory_writes unread written flushed flushes faults words None ended old new delivered = tt
memory_writes unread written flushed flushes faults words (Some bytes) ended old new delivered =
    record { text = memory_text; status = statuses.Memory; is_text = ends_alone (request_of words) bytes memory_text; outcome = delivered.outcome }

pub returns-in-Err-Memory-clause-answer : goal.returns-in-Err-Memory-clause-answer
returns-in-Err-Memory-clause-answer g c =
    memory_writes (g.S.Input.unread c.args.source.now) g.K.Sink.written g.K.Sink.flushed g.K.Sink.flushes g.K.Sink.faults (words_of c.args.words.now) (g.S.Source.left c.args.source.now) c.deliver-in-Err-Memory.result
    c.args.sink.now c.deliver-in-Err-Memory.new.sink c.deliver-in-Err-Memory.ensures

-- Where the words ask for it, that is the text of `--help`.
help_writes : (unread : Unread) {K : Type 0} (written : K → Option (List ℕ)) (flushed : K → Option ℕ) (flushes faults : K → ℕ) (words : List (List ℕ)) (input : Option (List ℕ)) (ended : Status)
    (old new : K) → request_of words ≡ Ok ShowHelp → IsDelivered written flushed flushes faults help_text statuses.Done ended old new
    → IfSome input (λ bytes. Writes unread (request_of words) bytes ended (written old) (written new) (flushed new))
help_writes unread written flushed flushes faults words None ended old new asks delivered = tt
help_writes unread written flushed flushes faults words (Some bytes) ended old new asks delivered =
    record {
      text = help_text;
      status = statuses.Done;
      is_text = subst (λ (request : Result Request WordFault). IsText unread request bytes help_text statuses.Done) (sym asks) (refl, refl);
      outcome = delivered.outcome;
    }

pub returns-in-Ok-Help-clause-answer : goal.returns-in-Ok-Help-clause-answer
returns-in-Ok-Help-clause-answer g c =
    help_writes (g.S.Input.unread c.args.source.now) g.K.Sink.written g.K.Sink.flushed g.K.Sink.flushes g.K.Sink.faults (words_of c.args.words.now) (g.S.Source.left c.args.source.now) c.deliver.result
    c.args.sink.now c.deliver.new.sink
    (subst (λ (made : RequestMade). request_of (words_of c.args.words.now) ≡ Ok (request_read made)) c.in-Ok-Help.field-0-is c.in-Ok-Help.ensures.request)
    c.deliver.ensures
