use Rattle.std.specs.Prelude.{option_map}
use Rattle.yds_model.proofs.Common.{◌≡◌, ◌∙◌, ◌<◌, ℕ, List, length, Bool, Option, Some, None, Err, subst, refl, ap, lt-ltb, if◌then◌else◌}
use Rattle.base.specs.declared.status.Status.TheVariants as statuses
use Rattle.base.specs.declared.limits.TheConstants.{MAX_INPUT}
use Rattle.yds_kernel.specs.Parts.{or_else}
use Rattle.yds_trace_document.specs.declared.fault.DocumentFault.{DocumentFault}
use Rattle.yds_trace_document.specs.Settled.{settled_of}
use Rattle.yds_trace_text.specs.Limit.{Limit, Beyond, NotKnown, limit_of, first_limit}
use Rattle.yds_trace_text.specs.Text.{text_of}
use Rattle.yds_trace_text.specs.declared.fault.NoText.{NoText}
use Rattle.yds_trace_text.specs.Writing.{Gives, IsTooLong}
use Rattle.yds_trace_run.specs.Fault.{OfDocument, OfText, of_document, of_text, document_fault}
use Rattle.yds_trace_run.specs.FaultText.{failed, not_known_text, fault_text}
use Rattle.yds_kernel.specs.Event.{Said}
use Rattle.yds_trace.specs.Asked.{Asked}
use Rattle.yds_trace_run.proofs.running.tell.Goals as goal

limited : (asked : Asked) (strict : Bool) (past : List Said) (limit : Limit) → first_limit strict (settled_of asked past) ≡ Some limit → document_fault asked strict past ≡ Some (OfDocument limit)
limited asked strict past limit is = ap (λ (limit : Option Limit). or_else (of_document limit) (of_text (text_of asked past))) is

pub returns-in-Err-Limit : goal.returns-in-Err-Limit
returns-in-Err-Limit g c =
    record {
      text = c.document_line.result.bytes;
      status = statuses.Refused;
      delivered = c.refuse.ensures;
      says = λ asked past known. (OfDocument (Beyond c.in-Err-Limit.fault), limited asked c.args.strict past (Beyond c.in-Err-Limit.fault) (subst (λ (none : NoText). Gives c.args.strict asked (settled_of asked past) (Err none)) c.in-Err-Limit.field-0-is (c.in-Err-Limit.ensures asked past known)), c.document_line.ensures);
    }

pub returns-in-Err-NotKnown : goal.returns-in-Err-NotKnown
returns-in-Err-NotKnown g c =
    let limit : Limit = NotKnown c.in-Err-NotKnown.place c.in-Err-NotKnown.name.items c.in-Err-NotKnown.reason in
    record {
      text = c.not_known_line.result.bytes;
      status = statuses.Refused;
      delivered = c.refuse-in-Err-NotKnown.ensures;
      says = λ asked past known. (
        OfDocument limit,
        limited asked c.args.strict past limit (subst (λ (none : NoText). Gives c.args.strict asked (settled_of asked past) (Err none)) c.in-Err-NotKnown.field-0-is (c.in-Err-NotKnown.ensures asked past known)),
        c.not_known_line.ensures ∙ ap (λ (name : List ℕ). failed (not_known_text c.in-Err-NotKnown.place name c.in-Err-NotKnown.reason)) c.deref-in-Err-NotKnown.ensures.value,
      );
    }

too_long : (text : List ℕ) → MAX_INPUT < length text → of_text text ≡ Some OfText
too_long text long = ap (λ (b : Bool). if b then Some OfText else None) (lt-ltb MAX_INPUT (length text) long)

beyond : (asked : Asked) (strict : Bool) (past : List Said) → IsTooLong strict asked (settled_of asked past) → document_fault asked strict past ≡ Some OfText
beyond asked strict past is =
    ap (λ (fault : Option DocumentFault). or_else (of_document (option_map (limit_of (settled_of asked past).judged) fault)) (of_text (text_of asked past))) is.without_fault ∙ too_long (text_of asked past) is.long

pub returns-in-Err-TooLong : goal.returns-in-Err-TooLong
returns-in-Err-TooLong g c = record {
  text = fault_text OfText;
  status = statuses.Refused;
  delivered = c.deliver-in-Err-TooLong.ensures;
  says = λ asked past known. (OfText, beyond asked c.args.strict past (subst (λ (none : NoText). Gives c.args.strict asked (settled_of asked past) (Err none)) c.in-Err-TooLong.field-0-is (c.in-Err-TooLong.ensures asked past known)), refl);
}
