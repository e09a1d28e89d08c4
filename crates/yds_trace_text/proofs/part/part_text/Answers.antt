use Rattle.base.proofs.Common.{◌∙◌, ℕ, Bool, not, is_none, ap, sym, subst}
use Rattle.std.proofs.Math.Bool.{not-not}
use Rattle.yds_trace.specs.Parts.{part_until}
use Rattle.yds_trace.specs.Views.{asked_read}
use Rattle.yds_trace_document.specs.Settled.{Settled}
use Rattle.yds_trace_document.specs.Part.{shift_of, part_of}
use Rattle.yds_trace_document.specs.Views.{settled_read}
use Rattle.yds_trace_text.specs.Writing.{GivesPart}
use Rattle.yds_trace_text.proofs.Whole.{part_gives_same}
use Rattle.yds_trace_text.proofs.part.part_text.Goals as goal

pub returns : goal.returns
returns c past is =
    part_gives_same c.args.strict (asked_read c.args.asked.now) c.args.cut (is_none c.args.until)
    (shift_of (asked_read c.args.asked.now) past (part_until (asked_read c.args.asked.now) past c.args.cut c.args.until))
    (part_of (asked_read c.args.asked.now) past c.args.cut c.args.until) c.limited_text.result
    (subst (λ (made : Settled). GivesPart c.args.strict (asked_read c.args.asked.now) c.args.cut (is_none c.args.until)
    (shift_of (asked_read c.args.asked.now) past (part_until (asked_read c.args.asked.now) past c.args.cut c.args.until)) made c.limited_text.result) is.settled
    (subst (λ (shift : ℕ). GivesPart c.args.strict (asked_read c.args.asked.now) c.args.cut (is_none c.args.until)
    shift (settled_read c.args.part.now.settled) c.limited_text.result) is.shift
    (subst (λ (last : Bool). GivesPart c.args.strict (asked_read c.args.asked.now) c.args.cut last
    c.args.part.now.shift (settled_read c.args.part.now.settled) c.limited_text.result) (sym (ap not c.is_none.ensures ∙ not-not c.is_none.result))
    c.limited_text.ensures)))
