use Rattle.base.proofs.Common.{◌≡◌, ◌∙◌, ◌∷◌, false, sym, refl}
use Rattle.yds_kernel.specs.Event.{Stamped}
use Rattle.yds_kernel.specs.Views.{event_read, thread_read}
use Rattle.yds_trace.specs.Past.{up_to, is_first_switch}
use Rattle.yds_trace.specs.Views.{start_read, asked_read}
use Rattle.yds_trace.proofs.UpTo.{staying, up_to_stays, up_to_passes, first_alone}
use Rattle.yds_trace.proofs.Counting.{not_too_long}
use Rattle.yds_trace.proofs.counted.Counted.count.Goals as goal

pub take-requires-in-Switch-clause-in_place : goal.take-requires-in-Switch-clause-in_place
take-requires-in-Switch-clause-in_place c = first_alone _ _ c.requires.in_place

pub returns-in-Switch-clause-stands : goal.returns-in-Switch-clause-stands
returns-in-Switch-clause-stands c = λ past lines is.
    let same : up_to c.args.asked.now.to (Stamped (event_read c.args.event.now) ∷ past)
    ≡ staying c.args.event.now.processor c.in-Some.to (thread_read c.in-Switch.previous) ∷ up_to c.args.asked.now.to past =
    up_to_stays c.args.asked.now.to c.in-Some.to (event_read c.args.event.now) past (thread_read c.in-Switch.previous) c.in-Switch.state (thread_read c.in-Switch.next)
    c.in-Some.is (sym (c.counts.ensures (asked_read c.args.asked.now) past lines) ∙ c.if-counts.false) (rw c.in-Switch.is refl)
    (sym (c.has_switched.ensures (start_read c.args.asked.now.start) (up_to c.args.asked.now.to past) is.times) ∙ c.if-not-has_switched.true) in
    rw same (c.take-in-Switch.ensures.stands (up_to c.args.asked.now.to past) is)

pub returns-in-Switch-clause-few : goal.returns-in-Switch-clause-few
returns-in-Switch-clause-few c = λ past lines is.
    let same : up_to c.args.asked.now.to (Stamped (event_read c.args.event.now) ∷ past)
    ≡ staying c.args.event.now.processor c.in-Some.to (thread_read c.in-Switch.previous) ∷ up_to c.args.asked.now.to past =
    up_to_stays c.args.asked.now.to c.in-Some.to (event_read c.args.event.now) past (thread_read c.in-Switch.previous) c.in-Switch.state (thread_read c.in-Switch.next)
    c.in-Some.is (sym (c.counts.ensures (asked_read c.args.asked.now) past lines) ∙ c.if-counts.false) (rw c.in-Switch.is refl)
    (sym (c.has_switched.ensures (start_read c.args.asked.now.start) (up_to c.args.asked.now.to past) is.times) ∙ c.if-not-has_switched.true) in
    rw same (c.take-in-Switch.ensures.few (up_to c.args.asked.now.to past) is)

pub returns-in-Switch-clause-refused : goal.returns-in-Switch-clause-refused
returns-in-Switch-clause-refused c = λ past lines is.
    let same : up_to c.args.asked.now.to (Stamped (event_read c.args.event.now) ∷ past)
    ≡ staying c.args.event.now.processor c.in-Some.to (thread_read c.in-Switch.previous) ∷ up_to c.args.asked.now.to past =
    up_to_stays c.args.asked.now.to c.in-Some.to (event_read c.args.event.now) past (thread_read c.in-Switch.previous) c.in-Switch.state (thread_read c.in-Switch.next)
    c.in-Some.is (sym (c.counts.ensures (asked_read c.args.asked.now) past lines) ∙ c.if-counts.false) (rw c.in-Switch.is refl)
    (sym (c.has_switched.ensures (start_read c.args.asked.now.start) (up_to c.args.asked.now.to past) is.times) ∙ c.if-not-has_switched.true) in
    rw same (c.take-in-Switch.ensures.refused (up_to c.args.asked.now.to past) is)

pub returns-in-Switch-2-clause-few : goal.returns-in-Switch-2-clause-few
returns-in-Switch-2-clause-few c = λ past lines is.
    let passes : is_first_switch (event_read c.args.event.now) (up_to c.args.asked.now.to past) ≡ false =
    rw (c.in-Switch.is, sym (c.has_switched.ensures (start_read c.args.asked.now.start) (up_to c.args.asked.now.to past) is.times) ∙ c.if-not-has_switched.false) refl in
    let same : up_to c.args.asked.now.to (Stamped (event_read c.args.event.now) ∷ past) ≡ up_to c.args.asked.now.to past =
    up_to_passes c.args.asked.now.to c.in-Some.to (event_read c.args.event.now) past c.in-Some.is
    (sym (c.counts.ensures (asked_read c.args.asked.now) past lines) ∙ c.if-counts.false) passes in
    rw same (not_too_long (asked_read c.args.asked.now) (up_to c.args.asked.now.to past) c.args.self.now.touched is.touched is.few)

pub returns-in-Switch-2-clause-stands : goal.returns-in-Switch-2-clause-stands
returns-in-Switch-2-clause-stands c = λ past lines is.
    let passes : is_first_switch (event_read c.args.event.now) (up_to c.args.asked.now.to past) ≡ false =
    rw (c.in-Switch.is, sym (c.has_switched.ensures (start_read c.args.asked.now.start) (up_to c.args.asked.now.to past) is.times) ∙ c.if-not-has_switched.false) refl in
    let same : up_to c.args.asked.now.to (Stamped (event_read c.args.event.now) ∷ past) ≡ up_to c.args.asked.now.to past =
    up_to_passes c.args.asked.now.to c.in-Some.to (event_read c.args.event.now) past c.in-Some.is
    (sym (c.counts.ensures (asked_read c.args.asked.now) past lines) ∙ c.if-counts.false) passes in
    rw same is
