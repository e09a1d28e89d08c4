use Rattle.yds_model.proofs.Common.{◌≡◌, ◌+◌, ◌≤◌, ap, ◌∙◌, arith, length, get_or, length-append}
use Rattle.base.specs.declared.limits.TheConstants.{MAX_SLOTS}
use Rattle.yds_slots.specs.Schedule.{WrittenSchedule}
use Rattle.yds_timetable.specs.Shares.{JobShare}
use Rattle.yds_round.specs.Written.{fast_course, slow_course, listed}
use Rattle.yds_round.proofs.Cuts.{known_listed, grain_listed, few_between}
use Rattle.yds_round.proofs.Serving.{all_fit, step_within, room_for, few_served, known_served, fits_served, fits_middle, served_more}
use Rattle.yds_round.proofs.cut.Cut.serve.Goals as goal

-- the share that is read
abbrev seen : goal.After-share → JobShare
seen c = record { stretch = c.share.inside.stretch; job = c.share.inside.job; units = c.share.inside.units }

read : (c : goal.After-share) → seen c ≡ get_or c.args.shares.now c.loop-share.share-index c.share-item.result
read c = c.share.view_is ∙ c.share-item.is

pub overflow_add-reached : goal.overflow_add-reached
overflow_add-reached c =
    let split = c.args.self.now.split in
    let step = step_within c.args.shares.now c.loop-share.share-index (seen c) c.share-item.result c.loop-share-test.true (read c) c.loop-share.reached.units c.loop-share.invariant.units in
    omega (arith, step, c.requires.fits.full, all_fit split c.args.self.now.stretch c.requires.cut.kept c.requires.cut.lasts)

pub reach-next-requires-clause-within : goal.reach-next-requires-clause-within
reach-next-requires-clause-within c =
    let step = step_within c.args.shares.now c.loop-share.share-index (seen c) c.share-item.result c.loop-share-test.true (read c) c.loop-share.reached.units c.loop-share.invariant.units in
    omega (arith, step, c.requires.fits.full)

pub put-requires-clause-known : goal.put-requires-clause-known
put-requires-clause-known c =
    let split = c.args.self.now.split in
    known_listed (fast_course split c.args.self.now.stretch) c.args.self.now.stretch c.share.inside.job _ _ _ c.fast_slot.result
    (known_served c.args.shares.now c.loop-share.share-index _ c.share-item.result c.loop-share-test.true (c.share.view_is ∙ c.share-item.is)
    split c.args.self.now.stretch c.args.rounded.now.jobs c.args.rounded.now.slots c.requires.fits c.loop-share.rounded
    (ap (λ (s : WrittenSchedule). s.jobs) c.loop-share.invariant.written)) c.fast_slot.ensures

pub put-requires-clause-grain : goal.put-requires-clause-grain
put-requires-clause-grain c =
    let split = c.args.self.now.split in
    grain_listed (fast_course split c.args.self.now.stretch) c.args.self.now.stretch c.share.inside.job _ _ c.loop-share.rounded.slots c.fast_slot.result
    (fits_served c.args.shares.now c.loop-share.share-index _ c.share-item.result c.loop-share-test.true (c.share.view_is ∙ c.share-item.is)
    split c.args.self.now.stretch c.args.rounded.now.jobs c.args.rounded.now.slots c.requires.fits c.loop-share.rounded
    (ap (λ (s : WrittenSchedule). s.slots) c.loop-share.invariant.written)) c.fast_slot.ensures

pub put-requires-clause-room : goal.put-requires-clause-room
put-requires-clause-room c =
    let split = c.args.self.now.split in
    let room = room_for split c.args.self.now.stretch c.args.rounded.now.slots c.args.shares.now c.loop-share.share-index c.loop-share-test.true c.requires.fits.room in
    rw (c.loop-share.invariant.written) (omega (arith, room))

pub slow_slot-requires-clause-few : goal.slow_slot-requires-clause-few
slow_slot-requires-clause-few c =
    let split = c.args.self.now.split in
    omega (
      arith,
      c.reach-next.ensures.units,
      few_served c.args.shares.now c.loop-share.share-index _ c.share-item.result c.loop-share-test.true (c.share.view_is ∙ c.share-item.is)
          split c.args.self.now.stretch c.args.rounded.now.jobs c.args.rounded.now.slots c.requires.fits,
    )

pub put-requires-in-loop-share-clause-known : goal.put-requires-in-loop-share-clause-known
put-requires-in-loop-share-clause-known c =
    let split = c.args.self.now.split in
    known_listed (slow_course split c.args.self.now.stretch) c.args.self.now.stretch c.share.inside.job _ _ _ c.slow_slot.result
    (known_served c.args.shares.now c.loop-share.share-index _ c.share-item.result c.loop-share-test.true (c.share.view_is ∙ c.share-item.is)
    split c.args.self.now.stretch c.args.rounded.now.jobs c.args.rounded.now.slots c.requires.fits c.put.new.rounded
    (ap (λ (s : WrittenSchedule). s.jobs) c.in_ok-put.ensures ∙ ap (λ (s : WrittenSchedule). s.jobs) c.loop-share.invariant.written)) c.slow_slot.ensures

pub put-requires-in-loop-share-clause-grain : goal.put-requires-in-loop-share-clause-grain
put-requires-in-loop-share-clause-grain c =
    let split = c.args.self.now.split in
    grain_listed (slow_course split c.args.self.now.stretch) c.args.self.now.stretch c.share.inside.job _ _ c.put.new.rounded.slots c.slow_slot.result
    (fits_middle c.args.shares.now c.loop-share.share-index _ c.share-item.result c.loop-share-test.true (c.share.view_is ∙ c.share-item.is)
    split c.args.self.now.stretch c.args.rounded.now.jobs c.args.rounded.now.slots c.requires.fits c.loop-share.rounded c.put.new.rounded (listed c.fast_slot.result) _ _
    (ap (λ (s : WrittenSchedule). s.slots) c.loop-share.invariant.written) c.fast_slot.ensures (ap (λ (s : WrittenSchedule). s.slots) c.in_ok-put.ensures)) c.slow_slot.ensures

pub put-requires-in-loop-share-clause-room : goal.put-requires-in-loop-share-clause-room
put-requires-in-loop-share-clause-room c =
    let split = c.args.self.now.split in
    let room = room_for split c.args.self.now.stretch c.args.rounded.now.slots c.args.shares.now c.loop-share.share-index c.loop-share-test.true c.requires.fits.room in
    let before : length c.loop-share.rounded.slots + 2 ≤ MAX_SLOTS = rw (c.loop-share.invariant.written) room in
    let more = few_between (fast_course split c.args.self.now.stretch) c.args.self.now.stretch c.share.inside.job c.loop-share.reached.units c.reach-next.result.units in
    rw (c.in_ok-put.ensures, length-append, c.fast_slot.ensures) (omega (arith, before, more))

pub loop-share-preserved : goal.loop-share-preserved
loop-share-preserved c =
    served_more c.args.shares.now c.loop-share.share-index _ c.share-item.result c.loop-share-test.true (c.share.view_is ∙ c.share-item.is)
    c.args.self.now c.args.rounded.now c.loop-share.reached c.reach-next.result c.loop-share.rounded c.put.new.rounded c.put-in-loop-share.new.rounded _ _
    c.loop-share.invariant c.reach-next.ensures.reached c.reach-next.ensures.units c.fast_slot.ensures c.slow_slot.ensures c.in_ok-put.ensures c.in_ok-put-2.ensures
