use Rattle.yds_model.proofs.Common.{◌≡◌, ◌≤◌, ◌∙◌, ◌++◌, ◌∷◌, [], List, arith, sym, ap, ap₂, subst, get_or, All-nil, of_whole, WrittenSlot, IsFraction}
use Rattle.base.specs.declared.limits.TheConstants.{MAX_TIME}
use Rattle.yds_timetable.specs.Shares.{JobShare}
use Rattle.yds_timetable.proofs.Filling.{IsNext, reached_none, can_reach, slots_next, all_next, reached_next}
use Rattle.yds_timetable.proofs.laying.slots_at.Goals as goal
use Rattle.yds_timetable.proofs.laying.slots_at.Goals.{In-loop-share}

next : (c : In-loop-share) (share : JobShare) → share ≡ get_or c.args.shares.now c.loop-share.share-index share →
    IsNext c.args.pace c.args.start c.args.shares.now c.loop-share.share-index share c.loop-share.done c.loop-share.from
next c share is = record { can = c.requires; within = c.loop-share-test.true; default = share; is = is; reached = c.loop-share.invariant.reached }

pub loop-share-init : goal.loop-share-init
loop-share-init c = record {
  laid = c.in_ok-slots.ensures.items;
  some = All-nil (λ (share : JobShare). 1 ≤ share.units);
  reached = reached_none c.args.pace c.args.start c.args.shares.now c.from_whole-from.result c.requires
      (c.from_whole-from.ensures.value ∙ ap of_whole c.from.ensures) c.from_whole-from.ensures.kept.fraction;
}

pub slot_at-slot-requires-clause-can : goal.slot_at-slot-requires-clause-can
slot_at-slot-requires-clause-can c = can_reach _ _ _ _ _ _ _ (next (goal.at.slot_at-slot-requires-clause-can c).In-loop-share c.share-item.result c.share-item.is)

pub loop-share-preserved : goal.loop-share-preserved
loop-share-preserved c =
    let here = next (goal.at.loop-share-preserved c).In-loop-share c.share-item.result c.share-item.is in
    record {
      laid = c.in_ok-push.ensures.items ∙ ap₂ (λ (slots : List WrittenSlot) (slot : WrittenSlot). slots ++ slot ∷ []) c.loop-share.invariant.laid c.slot_at-slot.ensures.slot
          ∙ sym (slots_next _ _ _ _ _ _ _ here);
      some = all_next _ _ _ _ _ _ _ here (λ share. 1 ≤ share.units) c.loop-share.invariant.some (omega (arith, c.share.invariant, ap (λ (share : JobShare). share.units) c.share.view_is));
      reached = reached_next _ _ _ _ _ _ _ here (record { job = c.slot.inside.job; from = c.slot.inside.from; to = c.slot.inside.to; work = c.slot.inside.work })
          c.share.inside.units (c.slot.view_is ∙ c.slot_at-slot.ensures.slot) (ap (λ (share : JobShare). share.units) c.share.view_is)
          (subst (λ (slot : WrittenSlot). IsFraction MAX_TIME slot.to) (sym c.slot.view_is) c.slot_at-slot.ensures.kept);
    }
