use Rattle.yds_model.proofs.Common.{◌≡◌, ℕ, ◌∙◌, List, length, map, take, subst, inl, inr, arith, refl, get_or_read, take_all, length-map, length-take-le, job_at, no_job}
use Rattle.yds_intensity.specs.Sums.{AreSums}
use Rattle.yds_intensity.proofs.Sweeps.{number_known, order_length, swept_more, sums_reordered}
use Rattle.yds_intensity.proofs.sweeping.sweep.Goals as goal
use Rattle.yds_intensity.proofs.sweeping.sweep.Goals.{then-row-start, else-row-start, then-row-start-2+in_ok-put, else-row-start-2}

pub bounds-rows-number : goal.bounds-rows-number
bounds-rows-number c = number_known c.args.rows.now c.args.order.now c.loop-number.number-index c.requires.order c.loop-number-test.true

pub overflow_add-work : goal.overflow_add-work
overflow_add-work c =
    let index = c.loop-number.number-index in
    let seen : length (map (job_at c.args.rows.now) (take index c.args.order.now)) ≡ index =
    length-map (take index c.args.order.now) (job_at c.args.rows.now) ∙ length-take-le index c.args.order.now (omega arith) in
    omega (arith, c.loop-number.invariant.fits, seen, c.requires.few, order_length c.args.rows.now c.args.order.now c.requires.order, c.row.invariant.work_in_range, c.from-work.ensures)

pub loop-number-preserved : goal.loop-number-preserved
loop-number-preserved c =
    let row = c.row.view_is ∙ get_or_read _ _ _ (number_known c.args.rows.now c.args.order.now c.loop-number.number-index c.requires.order c.loop-number-test.true) c.index-rows-number.is no_job in
    swept_more c.args.rows.now c.args.order.now c.loop-number.number-index c.args.start c.loop-number.work c.if-row-start.work
    c.loop-number.sums.items c.if-row-start-2.sums.items _ c.requires.order c.loop-number-test.true row c.row.invariant
    (record {
      adds = elim c.if-row-start.branch [
        | then-row-start w ↦ inl (omega arith, omega (arith, w.from-work.ensures, w.work-is))
        | else-row-start w ↦ inr (omega arith, omega arith)
      ];
      puts = elim c.if-row-start-2.branch [
        | then-row-start-2+in_ok-put w ↦ inl (omega arith, rw w.sums-is w.in_ok-put.ensures)
        | else-row-start-2 w ↦ inr (omega arith, rw w.sums-is refl)
      ];
    })
    c.loop-number.invariant

pub returns : goal.returns
returns c =
    sums_reordered c.args.rows.now c.args.order.now c.args.start c.loop-number.sums.items c.requires.order
    (subst (λ (xs : List ℕ). AreSums (map (job_at c.args.rows.now) xs) c.args.start c.loop-number.sums.items)
    (take_all c.loop-number.number-index c.args.order.now c.loop-number-test.false) c.loop-number.invariant.are)
