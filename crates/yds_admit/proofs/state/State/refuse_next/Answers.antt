use Rattle.yds_model.proofs.Common.{arith, refl, no_job}
use Rattle.yds_admit.specs.State.{next_job}
use Rattle.yds_admit.proofs.Deciding.{refuses}
use Rattle.yds_admit.proofs.Marks.{later_none}
use Rattle.yds_admit.proofs.state.State.refuse_next.Goals as goal

pub returns-clause-state : goal.returns-clause-state
returns-clause-state c board is more first =
    let old = c.args.self.now in
    record {
      on = is.on;
      within = omega (arith, more);
      decided = rw c.in_ok-push.ensures.items
          (refuses board.rows.now board.top old.next old.taken.items old.jobs.items old.refused.items is.on.some_top more is.decided (next_job board old) refl (is.on.are old.next no_job more)
          c.args.overfull.from c.args.overfull.to c.args.overfull.work first.first first.all);
      marked = later_none board.rows.now old.marks.items old.jobs.items old.next is.marked;
      same = is.same;
    }
