use Rattle.base.proofs.Common.{◌∙◌, ◌||◌, Bool, is_some, arith, refl, sym, ap, ap₂}
use Rattle.yds_kernel.specs.Views.{event_read, happening_read}
use Rattle.yds_trace.specs.Past.{who_has}
use Rattle.yds_trace.specs.declared.step.Whose.{Whose}
use Rattle.yds_trace.specs.Asked.{is_number}
use Rattle.yds_trace.specs.Faults.{pid_before}
use Rattle.yds_trace.specs.Views.{start_read, asked_read}
use Rattle.yds_trace.proofs.Tallying.{came_more}
use Rattle.yds_trace.proofs.Seeing.{seen_more}
use Rattle.yds_trace.proofs.lines.Lines.take.Goals as goal

pub returns : goal.returns
returns c = λ past is first second missing. record {
  times = c.in_ok-take.ensures.stands (start_read c.args.asked.now.start) past is.times;
  lost = refl;
  as_many = c.mark-2.ensures.many ∙ c.mark.ensures.many ∙ is.as_many;
  came = λ processor.
      c.in_ok-take.ensures.came processor
      ∙ came_more (asked_read c.args.asked.now).tasks processor (event_read c.args.event.now) (event_read c.args.event.now).happening (who_has processor past) _ _
      c.args.second (c.unlisted.ensures (asked_read c.args.asked.now).tasks) second (is.came processor);
  tallied = c.take.ensures past is.times is.came (c.is_gap-gap.ensures past is missing) first is.tallied;
  seen = λ number within.
      c.mark-2.ensures.each number (omega (arith, is.as_many, c.mark.ensures.many))
      ∙ ap (λ (b : Bool). is_number number c.args.second.number || b) (c.mark.ensures.each number (omega (arith, is.as_many)))
      ∙ ap (λ (b : Bool). is_number number c.args.second.number || (is_number number c.args.first.number || b)) (is.seen number within)
      ∙ ap₂ (λ (one other : Whose). is_number number other.number || (is_number number one.number || is_some (pid_before (asked_read c.args.asked.now) number past))) first second
      ∙ sym (seen_more (asked_read c.args.asked.now) number (happening_read c.args.event.now.happening) (pid_before (asked_read c.args.asked.now) number past));
}
