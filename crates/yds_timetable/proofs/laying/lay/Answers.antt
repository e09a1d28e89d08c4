use Rattle.yds_model.proofs.Common.{arith}
use Rattle.yds_timetable.proofs.Filling.{can_fill}
use Rattle.yds_timetable.proofs.laying.lay.Goals as goal

pub lay_stretch-requires-clause-can : goal.lay_stretch-requires-clause-can
lay_stretch-requires-clause-can c = rw (c.loop-number.invariant) (can_fill c.args.jobs c.args.timetable.now c.loop-number.number c.requires (omega (arith, c.loop-number-test.true, c.len-number-end.ensures)))
