use Rattle.base.proofs.Common.{◌∙◌, ◌≤◌, ◌≡◌, ℕ, arith, refl, sym, ap₂}
use Rattle.yds_trace.specs.Past.{processor_count}
use Rattle.yds_trace.specs.Tally.{longer_silence}
use Rattle.yds_trace.proofs.Silent.{below_next, below_same, counted_none, past_end}
use Rattle.yds_trace.proofs.past.Past.silence.Goals as goal

pub loop-processor-init : goal.loop-processor-init
loop-processor-init c = λ asked past is came until. refl

pub loop-processor-preserved : goal.loop-processor-preserved
loop-processor-preserved c = λ asked past is came until.
    c.longer-silence.ensures
    ∙ ap₂ longer_silence (c.loop-processor.invariant asked past is came until) (c.silence_on.ensures asked past is came until)
    ∙ sym (below_next asked past c.loop-processor.processor)

pub returns : goal.returns
returns c = λ asked past is came until.
    let whole : c.len-processor-end.result ≤ c.loop-processor.processor = c.loop-processor-test.false in
    c.loop-processor.invariant asked past is came until
    ∙ below_same asked past c.loop-processor.processor (processor_count past)
    (λ processor within. is.line processor ∙ past_end c.args.self.now.lines.items processor (omega (arith, whole, within, c.len-processor-end.ensures, c.args.self.now.lines.ok.0)))
    (counted_none past)
