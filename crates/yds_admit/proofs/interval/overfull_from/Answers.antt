use Rattle.yds_model.proofs.Common.{◌≡◌, ◌<◌, ◌≤◌, length, ◌∙◌, sym, arith, ap, subst, Job, no_job, job_at}
use Rattle.yds_admit.proofs.Between.{Counted, begun, moved, added, first_from, none_found}
use Rattle.yds_admit.proofs.interval.overfull_from.Goals as goal
use Rattle.yds_admit.proofs.interval.overfull_from.Goals.{then-to-deadline+else-work-from, else-to-deadline}

pub loop-number-init : goal.loop-number-init
loop-number-init c =
    begun c.args.top c.args.by_deadline.now c.args.row.now c.args.from c.requires.until c.from.result c.released_before.result c.row.inside.deadline c.due_before-place.result
    (c.from.ensures ∙ ap (λ (job : Job). job.work) c.row.view_is) (ap (λ (job : Job). job.deadline) c.row.view_is) c.due_before-place.ensures.within
    c.released_before.ensures.sum c.released_before.ensures.few (omega (arith, c.from.ensures, c.row.invariant.work_in_range))
    (λ k less. omega (arith, c.due_before-place.ensures.before k less))
    (λ k behind within. omega (arith, c.due_before-place.ensures.after k behind within)) c.requires.alone

pub returns-then-work-from : goal.returns-then-work-from
returns-then-work-from c =
    let jobs = c.args.by_deadline.now in
    let i = c.loop-number.number in
    first_from c.args.top jobs c.args.row.now c.args.from c.requires.until c.loop-number.work c.loop-number.to i c.loop-number.invariant
    (omega (arith, c.requires.until, ap (λ (job : Job). job.release) c.row.view_is, ap (λ (job : Job). job.deadline) c.row.view_is, c.row.invariant.has_window))
    (rw (c.from-then-to-deadline.ensures, c.from-then-to-deadline-2.ensures) at c.if-work-from.true)
    (λ k behind within. omega (arith, c.if-to-deadline.true, c.deadline-deadline.ensures, c.requires.rising i k no_job behind within))

pub loop-number-preserved : goal.loop-number-preserved
loop-number-preserved c =
    let top = c.args.top in
    let jobs = c.args.by_deadline.now in
    let row : Job = c.args.row.now in
    let i = c.loop-number.number in
    let below : i < length jobs = omega (arith, c.loop-number-test.true, c.len-number-end.ensures) in
    let deadline : c.deadline-deadline.result ≡ (job_at jobs i).deadline = c.deadline-deadline.ensures in
    let reached : Counted top jobs row c.args.from c.loop-number.work c.if-to-deadline.to i = elim c.if-to-deadline.branch [
      | then-to-deadline+else-work-from w ↦
          subst (λ to. Counted top jobs row c.args.from c.loop-number.work to i) (sym (w.to-is ∙ deadline))
          (moved top jobs row c.args.from c.requires.until c.loop-number.work c.loop-number.to i c.loop-number.invariant c.requires.rising below
          (omega (arith, w.if-to-deadline.true, deadline)) (rw (w.from-then-to-deadline.ensures, w.from-then-to-deadline-2.ensures) at w.if-work-from.false))
      | else-to-deadline w ↦ subst (λ to. Counted top jobs row c.args.from c.loop-number.work to i) (sym w.to-is) c.loop-number.invariant
    ] in
    let soon : (job_at jobs i).deadline ≤ c.if-to-deadline.to = elim c.if-to-deadline.branch [
      | then-to-deadline+else-work-from w ↦ omega (arith, w.to-is, deadline)
      | else-to-deadline w ↦ omega (arith, w.to-is, w.if-to-deadline.false, deadline)
    ] in
    added top jobs row c.args.from c.requires.until c.loop-number.work c.if-to-deadline.to i reached below soon c.released_part-work.result
    c.released_part-work.ensures.part c.released_part-work.ensures.few

pub returns-then-work-from-2 : goal.returns-then-work-from-2
returns-then-work-from-2 c =
    first_from c.args.top c.args.by_deadline.now c.args.row.now c.args.from c.requires.until c.loop-number.work c.loop-number.to c.loop-number.number c.loop-number.invariant
    (omega (arith, c.requires.until, ap (λ (job : Job). job.release) c.row.view_is, ap (λ (job : Job). job.deadline) c.row.view_is, c.row.invariant.has_window))
    (rw (c.from-2.ensures, c.from-3.ensures) at c.if-work-from-2.true)
    (λ k behind within. absurd (omega (arith, behind, within, c.loop-number-test.false, c.len-number-end.ensures)))

pub returns : goal.returns
returns c =
    none_found c.args.top c.args.by_deadline.now c.args.row.now c.args.from c.requires.until c.loop-number.work c.loop-number.to c.loop-number.number c.loop-number.invariant
    (omega (arith, c.loop-number-test.false, c.len-number-end.ensures)) (rw (c.from-2.ensures, c.from-3.ensures) at c.if-work-from-2.false)
