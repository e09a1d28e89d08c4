use Rattle.base.proofs.Common.{◌∙◌, ap, length, map, refl, arith}
use Rattle.yds_trace.specs.Views.{asked_read, span_read}
use Rattle.yds_trace.proofs.Shares.{shown_shared, shared_all}
use Rattle.yds_trace.proofs.shown.Shown.shared.Goals as goal

pub returns-then-not-asked : goal.returns-then-not-asked
returns-then-not-asked c = λ past boundary is. shown_shared (asked_read c.args.asked.now) past boundary c.args.self.now c.if-not-asked.true is

pub returns : goal.returns
returns c = λ past boundary is.
    shared_all (asked_read c.args.asked.now) past boundary c.args.self.now _
    (omega (arith, c.in_ok-tasks.ensures.many, c.in_ok-tasks.tasks.ok.0, ap length c.deref.ensures.value))
    (λ number default was within.
    let whole = rw c.deref.ensures.value at (c.in_ok-tasks.ensures.each number default was) in whole within)
    (c.in_ok-others.ensures ∙ ap (map span_read) c.deref-2.ensures.value) refl refl refl is
