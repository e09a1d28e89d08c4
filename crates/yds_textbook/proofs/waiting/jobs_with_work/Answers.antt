use Rattle.yds_model.proofs.Common.{◌≡◌, ℕ, ◌≤◌, List, ◌∙◌, refl, sym, subst, ap, arith, filter, get_or_read, take_all, Job, IsJob, no_job}
use Rattle.yds_intensity.specs.DeadlineOrder.{IsDeadlineOrder}
use Rattle.yds_intensity.proofs.Sweeps.{number_known}
use Rattle.yds_textbook.specs.Waiting.{job_has_work}
use Rattle.yds_textbook.proofs.Starting.{with_next, without_next, few_wait}
use Rattle.yds_textbook.proofs.waiting.jobs_with_work.Goals as goal
use Rattle.yds_textbook.proofs.waiting.jobs_with_work.Goals.{then-row-gt0+in_ok-push, else-row-gt0}

pub bounds-rows-number : goal.bounds-rows-number
bounds-rows-number c =
    number_known c.args.rows.now c.deref-number-items.result.now c.loop-number.number-index
    (subst (IsDeadlineOrder c.args.rows.now) (sym c.deref-number-items.ensures.value) c.in_ok-order.ensures) c.loop-number-test.true

pub loop-number-preserved : goal.loop-number-preserved
loop-number-preserved c =
    let rows = c.args.rows.now in
    let order = c.deref-number-items.result.now in
    let i = c.loop-number.number-index in
    let known = number_known rows order i (subst (IsDeadlineOrder rows) (sym c.deref-number-items.ensures.value) c.in_ok-order.ensures) c.loop-number-test.true in
    let row = c.row.view_is ∙ get_or_read _ _ _ known c.index-rows-number.is no_job in
    elim c.if-row-gt0.branch [
      | then-row-gt0+in_ok-push w ↦
          let next = with_next rows order i _ c.loop-number.waiting.items c.loop-number-test.true refl known (subst IsJob row c.row.invariant)
          (subst (λ (job : Job). 1 ≤ job.work) row (omega (arith, w.if-row-gt0.true))) c.loop-number.invariant.so_far c.loop-number.invariant.can_wait in
          rw (w.waiting-is, w.in_ok-push.ensures.items) (record { so_far = next.0; can_wait = next.1 })
      | else-row-gt0 w ↦ rw w.waiting-is (record {
        so_far = without_next rows order i _ c.loop-number.waiting.items c.loop-number-test.true refl
            (subst (λ (job : Job). job.work ≤ 0) row w.if-row-gt0.false) c.loop-number.invariant.so_far;
        can_wait = c.loop-number.invariant.can_wait;
      })
    ]

pub returns-clause-all : goal.returns-clause-all
returns-clause-all c = (
  c.in_ok-order.field-0.items,
  c.in_ok-order.ensures,
  c.loop-number.invariant.so_far
      ∙ ap (λ (xs : List ℕ). filter (job_has_work c.args.rows.now) xs)
      (take_all c.loop-number.number-index c.deref-number-items.result.now c.loop-number-test.false ∙ c.deref-number-items.ensures.value),
)

pub returns-clause-few : goal.returns-clause-few
returns-clause-few c =
    let all : c.loop-number.waiting.items ≡ filter (job_has_work c.args.rows.now) c.in_ok-order.field-0.items =
    c.loop-number.invariant.so_far
    ∙ ap (λ (xs : List ℕ). filter (job_has_work c.args.rows.now) xs)
    (take_all c.loop-number.number-index c.deref-number-items.result.now c.loop-number-test.false ∙ c.deref-number-items.ensures.value) in
    rw all (few_wait c.args.rows.now c.in_ok-order.field-0.items c.in_ok-order.ensures)
