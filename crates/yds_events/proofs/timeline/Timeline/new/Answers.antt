use Rattle.yds_model.proofs.Common.{◌≡◌, ◌∙◌, List, ap, arith, Job, event_points, neighbours}
use Rattle.yds_events.specs.Keys.{ends_of, AreKeys}
use Rattle.yds_events.proofs.Orders.{keys_order}
use Rattle.yds_events.proofs.WindowPlaces.{windows_placed}
use Rattle.yds_events.proofs.Times.{times_rise, events_in_range, length_ends}
use Rattle.yds_events.proofs.timeline.Timeline.new.Goals as goal

pub sorted_keys-requires : goal.sorted_keys-requires
sorted_keys-requires c = rw (c.deref.ensures.value, c.in_ok-ends.ensures.ends) (omega (arith, length_ends c.args.rows.now, c.requires))

pub cut-requires : goal.cut-requires
cut-requires c = rw c.deref-2.ensures.value (c.deref.result.now, c.in_ok-keys.ensures)

pub between-requires-clause-rising : goal.between-requires-clause-rising
between-requires-clause-rising c =
    let are : AreKeys c.deref.result.now c.deref-2.result.now = rw c.deref-2.ensures.value c.in_ok-keys.ensures in
    rw (c.deref-3.ensures.value, c.in_ok-times.ensures.times c.deref.result.now are, c.deref.ensures.value, c.in_ok-ends.ensures.ends) (times_rise c.args.rows.now)

pub between-requires-clause-in_range : goal.between-requires-clause-in_range
between-requires-clause-in_range c =
    let are : AreKeys c.deref.result.now c.deref-2.result.now = rw c.deref-2.ensures.value c.in_ok-keys.ensures in
    rw (c.deref-3.ensures.value, c.in_ok-times.ensures.times c.deref.result.now are, c.deref.ensures.value, c.in_ok-ends.ensures.ends)
    (events_in_range c.args.rows.now c.in_ok-ends.ensures.jobs)

pub returns : goal.returns
returns c =
    let jobs : List Job = c.args.rows.now in
    let ends : c.deref.result.now ≡ ends_of jobs = c.deref.ensures.value ∙ c.in_ok-ends.ensures.ends in
    let are : AreKeys (ends_of jobs) c.in_ok-keys.keys.items = rw ends at c.in_ok-keys.ensures in
    let read : AreKeys (ends_of jobs) c.deref-2.result.now = rw c.deref-2.ensures.value are in
    let cut : c.in_ok-times.times.items ≡ event_points jobs = c.in_ok-times.ensures.times (ends_of jobs) read in
    record {
      cut = c.in_ok-between.ensures ∙ ap neighbours (c.deref-3.ensures.value ∙ cut);
      windows_are = windows_placed jobs c.in_ok-times.times.items c.in_ok-times.places.items c.in_ok-windows_from.field-0.items c.in_ok-ends.ensures.jobs cut
          (c.in_ok-times.ensures.places (ends_of jobs) read) (rw c.deref-4.ensures.value at c.in_ok-windows_from.ensures);
      ordered = keys_order jobs c.in_ok-keys.keys.items c.in_ok-deadline_order.field-0.items are (rw c.deref-5.ensures.value at c.in_ok-deadline_order.ensures);
    }
