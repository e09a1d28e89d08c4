use Rattle.yds_model.proofs.Common.{◌≡◌, ◌+◌, ◌-◌, ◌*◌, ◌≤◌, rules, ◌∙◌, subst, arith, get_or_default}
use Rattle.yds_edf.specs.declared.due_order.Due.{Due}
use Rattle.yds_edf.specs.Blocks.{units_before}
use Rattle.yds_edf.specs.DueOrder.{no_due, due_at}
use Rattle.yds_oa.proofs.Walked.{passed_over}
use Rattle.yds_oa.proofs.walk.passed_over.Goals as goal

pub returns-clause-walk : goal.returns-clause-walk
returns-clause-walk c =
    let order = c.args.jobs.now.order.items in
    let walk = c.args.walk in
    let units = walk.units + c.between.result in
    let at : c.index.result.now ≡ due_at order walk.place =
    c.index.ensures ∙ get_or_default order walk.place c.index.result.now no_due (omega (arith, c.requires.forward, c.requires.within)) in
    let told : units * walk.greatest.time ≤ walk.greatest.units * (c.index.result.now.deadline - walk.from) = search rules in
    let most : units * walk.greatest.time ≤ walk.greatest.units * ((due_at order walk.place).deadline - walk.from) =
    subst (λ (due : Due). units * walk.greatest.time ≤ walk.greatest.units * (due.deadline - walk.from)) at told in
    let sum : units_before c.args.jobs.now.units walk.start + units ≡ units_before c.args.jobs.now.units c.args.end = omega (arith, c.requires.walk.units, c.between.ensures.units) in
    record {
      after = c.requires.walk.after;
      past = omega (arith, c.requires.walk.past, c.requires.forward);
      within = c.requires.within;
      units = sum;
      greatest = passed_over c.args.jobs.now walk.from walk.start walk.place c.args.end units walk.greatest c.requires.units c.requires.walk.past c.requires.within sum most c.requires.walk.greatest;
    }
