use Rattle.base.proofs.Common.{◌≡◌, ◌∙◌, true, false, refl, sym, ap}
use Rattle.yds_trace.specs.Asked.{is_within_to}
use Rattle.yds_trace.specs.Past.{lost_since}
use Rattle.yds_trace.specs.Views.{start_read, asked_read}
use Rattle.yds_trace.proofs.UpTo.{up_to_lost}
use Rattle.yds_trace.proofs.counted.Counted.count_loss.Goals as goal

pub returns-then-not-is_within_to-clause-stands : goal.returns-then-not-is_within_to-clause-stands
returns-then-not-is_within_to-clause-stands c = λ past lines is.
    let not_so : is_within_to c.args.asked.now.to (lost_since c.args.processor c.args.since past) ≡ false =
    ap (is_within_to c.args.asked.now.to) (sym (c.lost_since.ensures (start_read c.args.asked.now.start) past lines.times)) ∙ sym c.is_within_to.ensures ∙ c.if-not-is_within_to.true in
    rw (up_to_lost c.args.asked.now.to c.args.processor c.args.since past, not_so) is

pub returns-clause-stands : goal.returns-clause-stands
returns-clause-stands c = λ past lines is.
    let so : is_within_to c.args.asked.now.to (lost_since c.args.processor c.args.since past) ≡ true =
    ap (is_within_to c.args.asked.now.to) (sym (c.lost_since.ensures (start_read c.args.asked.now.start) past lines.times)) ∙ sym c.is_within_to.ensures ∙ c.if-not-is_within_to.false in
    rw (up_to_lost c.args.asked.now.to c.args.processor c.args.since past, so) (c.in_ok-lose.ensures.stands (asked_read c.args.asked.now) _ refl is)
