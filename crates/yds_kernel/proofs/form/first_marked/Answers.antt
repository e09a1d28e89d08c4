use Rattle.base.proofs.Common.{◌≡◌, ◌<◌, ◌+◌, ℕ, length, drop, ◌∙◌, sym, ap, arith, drop-drop, length-drop}
use Rattle.yds_kernel.specs.Form.{marked, first_marked}
use Rattle.yds_kernel.specs.Views.{marked_read}
use Rattle.yds_kernel.proofs.Places.{whole_rest, marks_at, marks_after, marks_none}
use Rattle.yds_kernel.proofs.form.first_marked.Goals as goal

pub returns-in-Some-at-clause-value : goal.returns-in-Some-at-clause-value
returns-in-Some-at-clause-value c =
    let found = rw (whole_rest c.args.bytes.now c.loop-step.place, c.first_byte.ensures) at c.in-Some.ensures in
    sym c.loop-step.invariant.same
    ∙ marks_at c.loop-step.place c.args.mark (drop c.loop-step.place c.args.bytes.now) c.in-Some.step (marked_read c.in-Some-at.marked) found.0.high found.0.before
    (ap (marked c.args.mark) (drop-drop c.in-Some.step c.loop-step.place c.args.bytes.now ∙ sym (whole_rest c.args.bytes.now (c.loop-step.place + c.in-Some.step))) ∙ c.in-Some-at.ensures)

pub loop-step-preserved : goal.loop-step-preserved
loop-step-preserved c =
    let found = rw (whole_rest c.args.bytes.now c.loop-step.place, c.first_byte.ensures) at c.in-Some.ensures in
    let place : c.loop-step.place + (c.in-Some.step + 1) ≡ c.loop-step.place + c.in-Some.step + 1 = omega arith in
    let high : c.in-Some.step < length (drop c.loop-step.place c.args.bytes.now) = found.0.high in
    record {
      same =
          sym (marks_after c.loop-step.place c.args.mark (drop c.loop-step.place c.args.bytes.now) c.in-Some.step found.0.high found.0.before
          (ap (marked c.args.mark) (drop-drop c.in-Some.step c.loop-step.place c.args.bytes.now ∙ sym (whole_rest c.args.bytes.now (c.loop-step.place + c.in-Some.step))) ∙ c.in_default-at.ensures)
          ∙ ap (first_marked (c.loop-step.place + c.in-Some.step + 1) c.args.mark) (drop-drop (c.in-Some.step + 1) c.loop-step.place c.args.bytes.now ∙ ap (λ (n : ℕ). drop n c.args.bytes.now) place))
          ∙ c.loop-step.invariant.same;
      within = omega (arith, high, length-drop c.loop-step.place c.args.bytes.now);
    }

pub returns-clause-value : goal.returns-clause-value
returns-clause-value c =
    let nowhere = rw (whole_rest c.args.bytes.now c.loop-step.place, c.first_byte.ensures) at c.in_default.ensures in
    sym c.loop-step.invariant.same ∙ marks_none c.loop-step.place c.args.mark (drop c.loop-step.place c.args.bytes.now) nowhere
