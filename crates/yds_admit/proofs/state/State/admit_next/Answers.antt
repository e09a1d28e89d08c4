use Rattle.yds_model.proofs.Common.{◌∷◌, [], ◌++◌, sym, arith, subst, Job, IsJob, no_job, IsPermutation-append_left}
use Rattle.yds_laws.specs.AdmissionLaws.{HasRoom}
use Rattle.yds_admit.proofs.Deciding.{takes}
use Rattle.yds_admit.proofs.Marks.{one_more}
use Rattle.yds_admit.proofs.state.State.admit_next.Goals as goal

pub returns-clause-state : goal.returns-clause-state
returns-clause-state c =
    let board = c.args.board.now in
    let rows = board.rows.now in
    let old = c.args.self.now in
    let row : Job = c.next_row-row.result.now in
    let is = c.next_row-row.ensures in
    let is_job = subst IsJob (sym is) (c.requires.state.on.are old.next no_job c.requires.more) in
    record {
      on = c.requires.state.on;
      within = omega (arith, c.requires.more);
      decided = rw (c.in_ok-push.ensures.items, c.in_ok-push-2.ensures.items)
          (takes rows board.top old.next old.taken.items old.jobs.items old.refused.items c.requires.state.on.some_top c.requires.more c.requires.state.decided row is
          is_job (subst (λ (one : Job). HasRoom board.top (old.jobs.items ++ one ∷ [])) (sym is) c.requires.room));
      marked = rw c.in_ok-push-2.ensures.items (one_more rows old.marks.items old.jobs.items old.next row c.requires.more is c.requires.state.marked);
      same = rw (c.in_ok-push-2.ensures.items, c.in_ok-push-3.ensures.items) (IsPermutation-append_left (row ∷ []) old.jobs.items old.nearly_sorted.items c.requires.state.same);
    }
