use Rattle.yds_model.proofs.Common.{◌∙◌, ap, sym, subst, drop, rules, arith, All, drop_at, length-set}
use Rattle.yds_search.proofs.Ranks.{IsRanked, are_ranked}
use Rattle.yds_search.proofs.Partings.{left_ranked, parting_moves, parting_stays}
use Rattle.yds_search.proofs.stack.part_jobs.Goals as goal
use Rattle.yds_search.proofs.stack.part_jobs.Goals.{then-end-first+in_ok-push, else-end-first}

pub bounds-ranks-own : goal.bounds-ranks-own
bounds-ranks-own c = omega (arith, left_ranked c.loop-at.invariant.parting c.loop-at-test.true c.loop-at.invariant.count c.index-own.ensures)

pub bounds-ranks-own-in-loop-at : goal.bounds-ranks-own-in-loop-at
bounds-ranks-own-in-loop-at c = omega (arith, left_ranked c.loop-at.invariant.parting c.loop-at-test.true c.loop-at.invariant.count c.index-own.ensures)

pub overflow_sub-end : goal.overflow_sub-end
overflow_sub-end c = omega (arith, left_ranked c.loop-at.invariant.parting c.loop-at-test.true c.loop-at.invariant.count c.index-own.ensures)

pub overflow_sub-own : goal.overflow_sub-own
overflow_sub-own c = omega (arith, left_ranked c.loop-at.invariant.parting c.loop-at-test.true c.loop-at.invariant.count c.index-own.ensures)

pub overflow_sub-own-else-end-first : goal.overflow_sub-own-else-end-first
overflow_sub-own-else-end-first c = omega (arith, left_ranked c.loop-at.invariant.parting c.loop-at-test.true c.loop-at.invariant.count c.index-own.ensures)

pub overflow_sub-own-else-end-first-2 : goal.overflow_sub-own-else-end-first-2
overflow_sub-own-else-end-first-2 c = omega (arith, left_ranked c.loop-at.invariant.parting c.loop-at-test.true c.loop-at.invariant.count c.index-own.ensures)

pub loop-at-init : goal.loop-at-init
loop-at-init c =
    let own = c.requires.own in
    record {
      parting = record {
        stays = search rules;
        moved = search rules;
        left = subst (All (IsRanked c.args.ranks.now)) (sym (drop_at own.1 own.2 c.args.start (sym own.4)) ∙ ap (drop c.args.start) (sym own.3))
            (are_ranked own.0 c.args.ranks.now own.2 own.5 own.6 own.7);
        after = search rules;
        behind = search rules;
      };
      count = search rules;
    }

pub loop-at-preserved : goal.loop-at-preserved
loop-at-preserved c = elim c.if-end-first.branch [
  | then-end-first+in_ok-push w ↦ rw (w.jobs-is, w.moving-is, w.staying-is, w.in_ok-push.ensures.items) record {
    parting = parting_moves c.loop-at.invariant.parting c.loop-at-test.true c.loop-at.invariant.count c.index-own.ensures w.if-end-first.true;
    count = c.loop-at.invariant.count;
  }
  | else-end-first w ↦ rw (w.jobs-is, w.moving-is, w.staying-is) record {
    parting = parting_stays c.loop-at.invariant.parting c.loop-at-test.true c.loop-at.invariant.count c.index-own.ensures w.if-end-first.false;
    count = length-set c.loop-at.jobs.items c.loop-at.staying _ ∙ c.loop-at.invariant.count;
  }
]
