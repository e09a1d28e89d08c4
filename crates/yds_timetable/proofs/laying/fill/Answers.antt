use Rattle.yds_model.proofs.Common.{◌≡◌, ◌∙◌, sym, refl, ap, subst, get_or, append-nil, of_whole, WrittenSlot, IsFraction}
use Rattle.base.specs.declared.limits.TheConstants.{MAX_TIME}
use Rattle.yds_timetable.specs.Shares.{JobShare}
use Rattle.yds_slots.specs.Schedule.{WrittenSchedule}
use Rattle.yds_timetable.proofs.Filling.{IsNext, reached_none, can_reach, room_next, grain_next, laid_next, reached_next}
use Rattle.yds_timetable.proofs.laying.fill.Goals as goal
use Rattle.yds_timetable.proofs.laying.fill.Goals.{In-loop-share}

next : (c : In-loop-share) (share : JobShare) → share ≡ get_or c.args.shares.now c.loop-share.share-index share →
    IsNext c.args.pace c.args.start c.args.shares.now c.loop-share.share-index share c.loop-share.done c.loop-share.from
next c share is = record { can = c.requires.run; within = c.loop-share-test.true; default = share; is = is; reached = c.loop-share.invariant.reached }

pub loop-share-init : goal.loop-share-init
loop-share-init c = record {
  jobs = refl;
  laid = sym (append-nil c.args.schedule.now.slots);
  reached = reached_none c.args.pace c.args.start c.args.shares.now c.from_whole-from.result c.requires.run
      (c.from_whole-from.ensures.value ∙ ap of_whole c.from.ensures) c.from_whole-from.ensures.kept.fraction;
}

pub slot_at-slot-requires-clause-can : goal.slot_at-slot-requires-clause-can
slot_at-slot-requires-clause-can c = can_reach _ _ _ _ _ _ _ (next (goal.at.slot_at-slot-requires-clause-can c).In-loop-share c.share-item.result c.share-item.is)

pub push-requires-clause-grain : goal.push-requires-clause-grain
push-requires-clause-grain c = grain_next _ _ _ _ _ _ _ (next (goal.at.push-requires-clause-grain c).In-loop-share c.share-item.result c.share-item.is) c.args.schedule.now.jobs
    c.args.schedule.now.slots c.loop-share.schedule.slots c.requires c.loop-share.invariant.laid c.slot_at-slot.result c.slot_at-slot.ensures.slot

pub push-requires-clause-room : goal.push-requires-clause-room
push-requires-clause-room c = room_next _ _ _ _ _ _ _ (next (goal.at.push-requires-clause-room c).In-loop-share c.share-item.result c.share-item.is) c.args.schedule.now.jobs
    c.args.schedule.now.slots c.loop-share.schedule.slots c.requires c.loop-share.invariant.laid

pub loop-share-preserved : goal.loop-share-preserved
loop-share-preserved c =
    let here = next (goal.at.loop-share-preserved c).In-loop-share c.share-item.result c.share-item.is in
    let slot_is = c.slot.view_is ∙ c.slot_at-slot.ensures.slot in
    record {
      jobs = ap (λ (schedule : WrittenSchedule). schedule.jobs) c.in_ok-push.ensures.ok ∙ c.loop-share.invariant.jobs;
      laid = ap (λ (schedule : WrittenSchedule). schedule.slots) c.in_ok-push.ensures.ok
          ∙ laid_next _ _ _ _ _ _ _ here c.args.schedule.now.jobs c.args.schedule.now.slots c.loop-share.schedule.slots c.requires c.loop-share.invariant.laid
          c.slot_at-slot.result c.slot_at-slot.ensures.slot;
      reached = reached_next _ _ _ _ _ _ _ here (record { job = c.slot.inside.job; from = c.slot.inside.from; to = c.slot.inside.to; work = c.slot.inside.work })
          c.share.inside.units slot_is (ap (λ (share : JobShare). share.units) c.share.view_is)
          (subst (λ (slot : WrittenSlot). IsFraction MAX_TIME slot.to) (sym c.slot.view_is) c.slot_at-slot.ensures.kept);
    }
