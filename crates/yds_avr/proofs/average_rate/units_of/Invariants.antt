use Rattle.yds_model.proofs.Common.{◌≡◌, ◌+◌, ◌*◌, ◌≤◌, take, sum_by}
use Rattle.yds_events.specs.Stretch.{length_of}
use Rattle.yds_avr.specs.Rate.{rate_term}
use Rattle.yds_avr.proofs.average_rate.units_of.Given as goal

abbrev pub invariant-loop-rate : goal.invariant-loop-rate
invariant-loop-rate l = record {
  long : l.length ≡ length_of l.fn.stretch;
  sum : sum_by (λ rate. rate.whole) (take l.rate-index l.live) * l.length + l.more ≡ sum_by (rate_term l.fn.stretch) (take l.rate-index l.live);
  few : sum_by (rate_term l.fn.stretch) (take l.rate-index l.live) ≤ l.rate-index * 1000000000000;
  more_few : l.more ≤ l.rate-index * 1000000000;
}
