use Rattle.yds_model.proofs.Common.{◌≤◌, length, arith}
use Rattle.yds_hull.proofs.Part.{pushed_rises, grows_pushed, whole, part_rises, part_few, part_last}
use Rattle.yds_hull.proofs.lower_hull.hull.Goals as goal

pub pop_above-requires-clause-rising : goal.pop_above-requires-clause-rising
pop_above-requires-clause-rising c =
    pushed_rises c.args.points.now _ c.loop-point.point-index _ c.loop-point-test.true c.point-item.is c.requires.rising c.loop-point.invariant.hull

pub loop-point-preserved : goal.loop-point-preserved
loop-point-preserved c =
    rw (c.in_ok-push.ensures.items, c.point.view_is)
    (grows_pushed c.args.points.now c.loop-point.hull.items _ c.loop-point.point-index c.point-item.result c.loop-point-test.true c.point-item.is c.requires.rising
    c.loop-point.invariant c.pop_above.ensures.part c.pop_above.ensures.convex (c.pop_above.ensures.limits c.loop-point.invariant.limits)
    (rw (← c.point.view_is) c.point.invariant))

pub returns-clause-rising : goal.returns-clause-rising
returns-clause-rising c =
    part_rises c.args.points.now _ c.requires.rising (whole _ _ c.loop-point.point-index (omega arith) c.loop-point.invariant).part

pub returns-clause-few : goal.returns-clause-few
returns-clause-few c =
    let few : length c.loop-point.hull.items ≤ length c.args.points.now =
    part_few c.args.points.now _ (whole _ _ c.loop-point.point-index (omega arith) c.loop-point.invariant).part in search (arith, few)

pub returns-clause-last : goal.returns-clause-last
returns-clause-last c = part_last c.args.points.now _ (whole _ _ c.loop-point.point-index (omega arith) c.loop-point.invariant).part
