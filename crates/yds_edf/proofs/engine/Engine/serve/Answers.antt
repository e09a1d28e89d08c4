use Rattle.yds_model.proofs.Common.{arith, inl, inr}
use Rattle.yds_edf.proofs.Serving.{begin, next, next_fits, end, works}
use Rattle.yds_edf.proofs.engine.Engine.serve.Goals as goal

pub loop-room-init : goal.loop-room-init
loop-room-init c = record {
  progress = rw (c.in_ok-reserve.ensures.items, c.clear.ensures.items) (begin c.args.self.now c.args.stretch c.args.capacity c.jobs.ensures.kept);
  has_room = omega (arith, c.in_ok-reserve.ensures.ok, c.jobs.ensures.count);
}

pub returns-in_err-push-clause-err : goal.returns-in_err-push-clause-err
returns-in_err-push-clause-err c =
    absurd (omega (
      arith,
      c.in_err-push.ensures.full,
      c.loop-room.invariant.has_room,
      next_fits c.loop-room.invariant.progress c.loop-room-test.true c.in-Some.ensures,
    ))

pub loop-room-preserved : goal.loop-room-preserved
loop-room-preserved c = record {
  progress = rw c.in_ok-push.ensures.items (next c.loop-room.invariant.progress c.loop-room-test.true c.in-Some.ensures);
  has_room = omega (arith, c.in_ok-push.ensures.capacity, c.loop-room.invariant.has_room);
}

pub returns-after-loop-room-clause-ok : goal.returns-after-loop-room-clause-ok
returns-after-loop-room-clause-ok c = end _ _ _ _ _ _ c.loop-room.invariant.progress (inl (omega (arith, c.loop-room-test.false)))

pub returns-after-loop-room-clause-works : goal.returns-after-loop-room-clause-works
returns-after-loop-room-clause-works c = works _ _ _ _ _ c.jobs.ensures.kept (returns-after-loop-room-clause-ok c)

pub returns-in_default-clause-ok : goal.returns-in_default-clause-ok
returns-in_default-clause-ok c = rw c.in_default.ensures.1 (end _ _ _ _ _ _ c.loop-room.invariant.progress (inr c.in_default.ensures.0))

pub returns-in_default-clause-works : goal.returns-in_default-clause-works
returns-in_default-clause-works c = works _ _ _ _ _ c.jobs.ensures.kept (returns-in_default-clause-ok c)
