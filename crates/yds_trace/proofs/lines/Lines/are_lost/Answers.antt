use Rattle.base.proofs.Common.{◌≡◌, ◌∙◌, true, false, sym, ap₂}
use Rattle.yds_trace.specs.Asked.{is_within_to}
use Rattle.yds_trace.specs.Past.{lost_since}
use Rattle.yds_trace.proofs.lines.Lines.are_lost.Goals as goal

pub returns-then-is_within_to : goal.returns-then-is_within_to
returns-then-is_within_to c = λ asked past is to.
    let so : is_within_to asked.to (lost_since c.args.processor c.args.since past) ≡ true =
    ap₂ is_within_to to (sym (c.lost_since.ensures asked.start past is.times)) ∙ sym c.is_within_to.ensures ∙ c.if-is_within_to.true in
    rw so c.if-is_within_to.true

pub returns-else-is_within_to : goal.returns-else-is_within_to
returns-else-is_within_to c = λ asked past is to.
    let not_so : is_within_to asked.to (lost_since c.args.processor c.args.since past) ≡ false =
    ap₂ is_within_to to (sym (c.lost_since.ensures asked.start past is.times)) ∙ sym c.is_within_to.ensures ∙ c.if-is_within_to.false in
    rw not_so is.lost
