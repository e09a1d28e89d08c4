use Rattle.yds_model.proofs.Common.{arith, inr, ap, get_or_read}
use Rattle.yds_edf.specs.declared.due_order.Due.{Due}
use Rattle.yds_edf.specs.DueOrder.{no_due}
use Rattle.yds_oa.proofs.Walked.{none_there, due_behind}
use Rattle.yds_oa.proofs.walk.first_due.Goals as goal

pub loop-start-init : goal.loop-start-init
loop-start-init c = record {
  within = omega (arith, c.min-start.ensures, c.len.ensures);
  before = λ place less. inr (none_there c.args.jobs.now.units c.start.result place c.start.ensures (omega (arith, less, c.min-start.ensures)));
}

pub returns-then-index-from : goal.returns-then-index-from
returns-then-index-from c =
    due_behind c.args.jobs.now c.args.from c.loop-start.start c.requires c.loop-start.invariant.within c.loop-start.invariant.before
    (λ inside. omega (
      arith,
      c.if-index-from.true,
      ap (λ (due : Due). due.deadline) (get_or_read c.args.jobs.now.order.items c.loop-start.start c.index.result.now inside c.index.ensures no_due),
    ))
