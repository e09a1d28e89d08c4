use Rattle.yds_model.proofs.Common.{ℕ, length, refl, subst, ◌∙◌, arith}
use Rattle.yds_oa.specs.Greatest.{AreDueAfter, IsGreatestWithin}
use Rattle.yds_oa.proofs.Walked.{none_within, walked_through}
use Rattle.yds_oa.proofs.walk.greatest_quotient.Goals as goal

pub loop-walk-init : goal.loop-walk-init
loop-walk-init c = record {
  walk = record {
    after = c.first_due-start.ensures;
    past = omega arith;
    within = c.first_due-start.ensures.within;
    units = omega arith;
    greatest = none_within c.args.jobs.now c.args.from c.first_due-start.result c.first_guess.result c.first_guess.ensures.some_time c.first_guess.ensures.attained;
  };
  from = refl;
}

pub past_block-walk-requires-clause-walk : goal.past_block-walk-requires-clause-walk
past_block-walk-requires-clause-walk c = c.loop-walk.invariant.walk

pub loop-walk-preserved : goal.loop-walk-preserved
loop-walk-preserved c = record {
  walk = c.past_block-walk.ensures.walk;
  from = c.past_block-walk.ensures.further.from ∙ c.loop-walk.invariant.from;
}

pub returns : goal.returns
returns c =
    let walk = c.loop-walk.walk in
    let kept = c.loop-walk.invariant in
    record {
      start = walk.start;
      after = subst (λ (from : ℕ). AreDueAfter c.args.jobs.now from walk.start) kept.from kept.walk.after;
      greatest = subst (λ (from : ℕ). IsGreatestWithin c.args.jobs.now from walk.start (length c.args.jobs.now.order.items) walk.greatest) kept.from
          (walked_through c.args.jobs.now walk c.requires kept.walk (c.has_more.ensures.none c.loop-walk-test.false));
    }
