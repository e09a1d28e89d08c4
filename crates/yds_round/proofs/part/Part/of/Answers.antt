use Rattle.yds_round.proofs.SplitParts.{part_is, some_divisor}
use Rattle.yds_round.proofs.part.Part.of.Goals as goal

pub nonzero_div-switch : goal.nonzero_div-switch
nonzero_div-switch c = some_divisor c.args.speed c.args.gap c.gcd-divisor.result c.requires.some_gap c.gcd-divisor.ensures.value

pub nonzero_div-result : goal.nonzero_div-result
nonzero_div-result c = some_divisor c.args.speed c.args.gap c.gcd-divisor.result c.requires.some_gap c.gcd-divisor.ensures.value

pub returns : goal.returns
returns c = part_is c.args.den c.args.gap c.args.speed c.gcd-divisor.result c.requires.some_den c.requires.den_in_range c.requires.some_gap
    c.requires.gap_in_range c.requires.some_speed c.requires.speed_in_range c.gcd-divisor.ensures.value
