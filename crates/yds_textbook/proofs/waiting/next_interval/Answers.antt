use Rattle.yds_model.proofs.Common.{◌≤◌, ◌∙◌, sym, subst, All, Job}
use Rattle.yds_textbook.proofs.Densest.{have_work}
use Rattle.yds_textbook.proofs.waiting.next_interval.Goals as goal

pub critical-requires-clause-work : goal.critical-requires-clause-work
critical-requires-clause-work c =
    subst (All (λ (job : Job). 1 ≤ job.work)) (sym (c.deref.ensures.value ∙ c.in_ok-left.ensures))
    (have_work c.args.rows.now c.args.taken.now c.args.waiting.now c.requires.can_wait)
