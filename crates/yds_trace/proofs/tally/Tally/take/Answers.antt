use Rattle.base.proofs.Common.{◌∙◌, ◌-◌, Bool, ap}
use Rattle.yds_kernel.specs.Parts.{capped}
use Rattle.yds_trace.specs.declared.tally.Pause.{Pause}
use Rattle.yds_trace.specs.Past.{last_time}
use Rattle.yds_trace.specs.Tally.{one_more, losses_before, missing_switches, markers, longer, has_pause}
use Rattle.yds_trace.specs.Views.{asked_read}
use Rattle.yds_trace.proofs.tally.Tally.take.Goals as goal

pub returns : goal.returns
returns c = λ lines times came gap first is. record {
  losses = c.count_if.ensures (losses_before (asked_read c.args.asked.now) lines) is.losses
      ∙ ap (λ (test : Bool). capped (one_more test (losses_before (asked_read c.args.asked.now) lines))) gap;
  missing = c.count_if-2.ensures (missing_switches c.args.asked.now.from c.args.asked.now.to (asked_read c.args.asked.now).tasks lines) is.missing
      ∙ ap (λ (test : Bool). capped (one_more test (missing_switches c.args.asked.now.from c.args.asked.now.to (asked_read c.args.asked.now).tasks lines))) (c.lacks_switch.ensures (asked_read c.args.asked.now).tasks lines came first);
  markers = c.count_if-3.ensures (markers c.args.asked.now.from c.args.asked.now.to lines) is.markers
      ∙ ap (λ (test : Bool). capped (one_more test (markers c.args.asked.now.from c.args.asked.now.to lines))) c.is_marked.ensures;
  pause = c.take_pause.ensures (asked_read c.args.asked.now).start lines times
      ∙ ap (λ (pause : Pause). longer pause (has_pause c.args.asked.now.from c.args.asked.now.to lines c.args.event.now.time) (last_time lines) (c.args.event.now.time - last_time lines)) is.pause;
}
