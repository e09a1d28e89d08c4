use Rattle.yds_model.proofs.Common.{arith}
use Rattle.yds_avr.proofs.Together.{this_one, sum_next, few_next}
use Rattle.yds_avr.proofs.average_rate.units_of.Goals as goal

pub loop-rate-preserved : goal.loop-rate-preserved
loop-rate-preserved c =
    let one = this_one c.args.stretch c.args.live.now c.requires.live c.loop-rate.rate-index c.loop-rate-test.true in
    record {
      long = c.loop-rate.invariant.long;
      sum = sum_next c.args.stretch c.args.live.now c.requires.live c.loop-rate.rate-index c.loop-rate-test.true c.from-length.result c.loop-rate.more _
          c.loop-rate.invariant.long c.loop-rate.invariant.sum c.rest_of-more.ensures.rounded_up;
      few = few_next c.args.stretch c.args.live.now c.requires.live c.loop-rate.rate-index c.loop-rate-test.true c.loop-rate.invariant.few;
      more_few = omega (arith, c.loop-rate.invariant.more_few, c.rest_of-more.ensures.few, one.is_rate.less, one.is_rate.time_in_range);
    }
