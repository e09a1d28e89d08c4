use Rattle.yds_model.proofs.Common.{◌≡◌, take, false, list_any}
use Rattle.yds_events.specs.Stretch.{length_of}
use Rattle.yds_avr.specs.Rate.{rate_rounds}
use Rattle.yds_avr.proofs.average_rate.is_rounded.Given as goal

abbrev pub invariant-loop-rate : goal.invariant-loop-rate
invariant-loop-rate l = record {
  long : l.length ≡ length_of l.fn.stretch;
  none : list_any (rate_rounds l.fn.stretch) (take l.rate-index l.live) ≡ false;
}
