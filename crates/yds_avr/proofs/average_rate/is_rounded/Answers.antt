use Rattle.yds_model.proofs.Common.{sym, ◌∙◌}
use Rattle.yds_avr.proofs.Together.{whole_next, rounds_here}
use Rattle.yds_avr.proofs.average_rate.is_rounded.Goals as goal

pub returns-then-rounds : goal.returns-then-rounds
returns-then-rounds c =
    sym (rounds_here c.args.stretch c.args.live.now c.requires c.loop-rate.rate-index c.loop-rate-test.true c.from-length.result c.loop-rate.invariant.long
    (sym c.rounds.ensures ∙ c.if-rounds.true))

pub loop-rate-preserved : goal.loop-rate-preserved
loop-rate-preserved c = record {
  long = c.loop-rate.invariant.long;
  none = whole_next c.args.stretch c.args.live.now c.requires c.loop-rate.rate-index c.loop-rate-test.true c.from-length.result c.loop-rate.invariant.long
      c.loop-rate.invariant.none (sym c.rounds.ensures ∙ c.if-rounds.false);
}
