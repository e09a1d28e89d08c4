-- The text of what is kept is that of the trace's lines.
use Rattle.base.proofs.Common.{◌≡◌, ◌∙◌, ℕ, Bool, Result, Ok, Err, ap, sym, subst, None, option_map}
use Rattle.std.specs.Prelude.{Vec}
use Rattle.std.specs.declared.alloc.Global.{Global}
use Rattle.yds_trace.specs.declared.cut.Cut.{Cut}
use Rattle.yds_trace.specs.Asked.{Asked}
use Rattle.yds_trace_document.specs.Settled.{Settled, with_capped_works}
use Rattle.yds_trace_document.specs.Limits.{limit_fault}
use Rattle.yds_trace_document.specs.Part.{part_limit_fault}
use Rattle.yds_trace_document.proofs.Caps.{limits_same, within_caps, part_limits_same, part_within_caps}
use Rattle.yds_trace_text.specs.declared.fault.NoText.{NoText}
use Rattle.yds_trace_text.specs.declared.fault.NoText.TheVariants as faults
use Rattle.yds_trace_text.specs.Limit.{limit_of}
use Rattle.yds_trace_text.specs.Writing.{IsTextOf, IsTooLong, Gives, IsPartText, IsPartTooLong, GivesPart}

uncapped : (strict : Bool) (settled : Settled) → limit_fault strict (with_capped_works settled) ≡ None → with_capped_works settled ≡ settled
uncapped strict settled none = within_caps strict settled (sym (limits_same strict settled) ∙ none)

pub gives_same : (strict : Bool) (asked : Asked) (settled : Settled) (result : Result (Vec ℕ Global) NoText) →
    Gives strict asked (with_capped_works settled) result → Gives strict asked settled result
gives_same strict asked settled (Ok text) given =
    subst (λ (made : Settled). IsTextOf strict asked made text.items) (uncapped strict settled given.without_fault) given
gives_same strict asked settled (Err (faults.Limit fault)) given = ap (option_map (limit_of settled.judged)) (sym (limits_same strict settled)) ∙ given
gives_same strict asked settled (Err (faults.NotKnown place name reason)) given =
    ap (option_map (limit_of settled.judged)) (sym (limits_same strict settled)) ∙ given
gives_same strict asked settled (Err faults.TooLong) given =
    subst (λ (made : Settled). IsTooLong strict asked made) (uncapped strict settled given.without_fault) given
gives_same strict asked settled (Err faults.Memory) given = tt

-- # Parts

part_uncapped : (asked : Asked) (strict : Bool) (cut : Cut) (settled : Settled) → part_limit_fault asked strict cut (with_capped_works settled) ≡ None →
    with_capped_works settled ≡ settled
part_uncapped asked strict cut settled none = part_within_caps asked strict cut settled (sym (part_limits_same asked strict cut settled) ∙ none)

pub part_gives_same : (strict : Bool) (asked : Asked) (cut : Cut) (last : Bool) (shift : ℕ) (settled : Settled) (result : Result (Vec ℕ Global) NoText) →
    GivesPart strict asked cut last shift (with_capped_works settled) result → GivesPart strict asked cut last shift settled result
part_gives_same strict asked cut last shift settled (Ok text) given =
    subst (λ (made : Settled). IsPartText strict asked cut last shift made text.items) (part_uncapped asked strict cut settled given.without_fault) given
part_gives_same strict asked cut last shift settled (Err (faults.Limit fault)) given =
    ap (option_map (limit_of settled.judged)) (sym (part_limits_same asked strict cut settled)) ∙ given
part_gives_same strict asked cut last shift settled (Err (faults.NotKnown place name reason)) given =
    ap (option_map (limit_of settled.judged)) (sym (part_limits_same asked strict cut settled)) ∙ given
part_gives_same strict asked cut last shift settled (Err faults.TooLong) given =
    subst (λ (made : Settled). IsPartTooLong strict asked cut last shift made) (part_uncapped asked strict cut settled given.without_fault) given
part_gives_same strict asked cut last shift settled (Err faults.Memory) given = tt
