use Rattle.yds_model.proofs.Common.{◌≤◌, ◌-◌, length, drop, arith, length-take, length-drop}
use Rattle.yds_table.proofs.Multiples.{splits, too_great, answers}
use Rattle.yds_table.proofs.gaps.+multiple_of_gaps.Goals as goal

pub returns-in_err-multiple_of_gaps : goal.returns-in_err-multiple_of_gaps
returns-in_err-multiple_of_gaps t c =
    let two : 2 ≤ length c.args.points.now =
    omega (arith, c.in-len1-up-rest.len_at_least, length-take (length c.args.points.now - 1) (drop 1 c.args.points.now), length-drop 1 c.args.points.now) in
    rw (c.from_residual.ensures)
    (too_great c.args.points.now _ _ _ (splits c.args.points.now _ _ two c.requires c.low-item.is c.high-item.is) c.in_err-multiple_of_gaps.ensures)

pub returns : goal.returns
returns t c =
    let two : 2 ≤ length c.args.points.now =
    omega (arith, c.in-len1-up-rest.len_at_least, length-take (length c.args.points.now - 1) (drop 1 c.args.points.now), length-drop 1 c.args.points.now) in
    answers c.args.points.now _ _ _ c.from-gap.result c.in_ok-multiple_of_gaps.field-0 c.lcm_within.result
    (splits c.args.points.now _ _ two c.requires c.low-item.is c.high-item.is) (rw (← c.high.view_is, ← c.low.view_is) c.from-gap.ensures)
    c.in_ok-multiple_of_gaps.ensures c.lcm_within.ensures
