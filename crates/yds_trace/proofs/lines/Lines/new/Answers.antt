use Rattle.std.proofs.Common.{arith, refl}
use Rattle.std.proofs.lemmas.Grind.{common_steps}
use Rattle.yds_trace.specs.Views.{asked_read}
use Rattle.yds_trace.proofs.lines.Lines.new.Goals as goal

pub returns : goal.returns
returns c = record {
  times = c.in_ok-new.ensures.stands;
  lost = refl;
  as_many = grind (arith, common_steps);
  came = c.in_ok-new.ensures.came;
  tallied = c.new-2.ensures (asked_read c.args.asked.now);
  seen = λ number within. grind (arith, common_steps);
}
