use Rattle.yds_model.proofs.Common.{◌≡◌, ◌/◌, ap, arith, common_divisor}
use Rattle.yds_search.proofs.LowestSpeed.{lowest}
use Rattle.yds_plan.proofs.layout.timetable.pace_of.Goals as goal
use Rattle.yds_plan.proofs.layout.timetable.pace_of.Goals.{After-gcd-divisor}

divisor : (c : After-gcd-divisor) → c.gcd-divisor.result ≡ common_divisor c.args.group.now.work c.args.group.now.length
divisor c = c.gcd-divisor.ensures.value

pub nonzero_div-result : goal.nonzero_div-result
nonzero_div-result c =
    omega (arith, divisor c, (lowest c.args.group.now.work c.args.group.now.length c.requires.some_work c.requires.some_length).some)

pub nonzero_div-result-2 : goal.nonzero_div-result-2
nonzero_div-result-2 c =
    omega (arith, divisor c, (lowest c.args.group.now.work c.args.group.now.length c.requires.some_work c.requires.some_length).some)

pub returns : goal.returns
returns c = ap (λ n. record { units = c.args.group.now.work / n; time = 1; grain = c.args.group.now.length / n }) (divisor c)
