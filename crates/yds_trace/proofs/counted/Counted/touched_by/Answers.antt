use Rattle.base.proofs.Common.{◌≡◌, ◌∙◌, true, false, sym, arith}
use Rattle.yds_trace.specs.Asked.{Asked}
use Rattle.yds_trace.specs.Faults.{touches}
use Rattle.yds_trace.specs.Views.{asked_read}
use Rattle.yds_trace.proofs.Counting.{touches_is, touched_more, touched_same}
use Rattle.yds_trace.proofs.counted.Counted.touched_by.Goals as goal

pub returns-then-touches-clause-counted : goal.returns-then-touches-clause-counted
returns-then-touches-clause-counted c = λ counting event is first second step counted.
    let asked : Asked = asked_read c.args.asked.now in
    let so : touches asked counting event.happening ≡ true =
    sym (touches_is asked counting c.args.self.now.boundary event c.is_some.result c.args.first c.args.second c.args.step c.args.self.now.tasks.items c.is_some.ensures first second step
    (omega (arith, is.as_many, c.args.self.now.tasks.ok.0)) is.tasks)
    ∙ sym c.touches.ensures ∙ c.if-touches.true in
    omega (arith, c.saturating_add.ensures, touched_more asked counting event so, is.touched counted, is.few)

pub returns-else-touches-clause-counted : goal.returns-else-touches-clause-counted
returns-else-touches-clause-counted c = λ counting event is first second step counted.
    let asked : Asked = asked_read c.args.asked.now in
    let not_so : touches asked counting event.happening ≡ false =
    sym (touches_is asked counting c.args.self.now.boundary event c.is_some.result c.args.first c.args.second c.args.step c.args.self.now.tasks.items c.is_some.ensures first second step
    (omega (arith, is.as_many, c.args.self.now.tasks.ok.0)) is.tasks)
    ∙ sym c.touches.ensures ∙ c.if-touches.false in
    omega (arith, touched_same asked counting event not_so, is.touched counted)
