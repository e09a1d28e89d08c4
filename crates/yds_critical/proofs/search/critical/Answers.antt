use Rattle.yds_model.proofs.Common.{◌≡◌, ℕ, List, ap, sym, subst, arith, ◌∙◌, get_or_read, Job, IsJob, job_at, no_job}
use Rattle.yds_intensity.specs.declared.sweeping.Sum.{Sum}
use Rattle.yds_intensity.specs.Sums.{AreSums}
use Rattle.yds_critical.specs.Choice.{AreLater, IsFoundAmongAll}
use Rattle.yds_critical.proofs.Searching.{IsBestAmong, sums_later, best_more, critical_found}
use Rattle.yds_critical.proofs.search.critical.Goals as goal

pub best_from-best-requires-clause-later : goal.best_from-best-requires-clause-later
best_from-best-requires-clause-later c =
    subst (AreLater c.row.inside.release) (sym c.deref-in-loop-row.ensures.value) (sums_later c.args.rows.now c.row.inside.release c.in_ok-sums.sums.items c.in_ok-sums.ensures)

pub loop-row-preserved : goal.loop-row-preserved
loop-row-preserved c =
    let rows = c.args.rows.now in
    let n = c.loop-row.row-index in
    let row = c.row.view_is ∙ get_or_read _ _ _ c.loop-row-test.true c.row-item.is no_job in
    let release : c.row.inside.release ≡ (job_at rows n).release = ap (λ (job : Job). job.release) row in
    best_more n rows c.loop-row.best c.best_from-best.result c.in_ok-sums.sums.items c.loop-row-test.true (subst IsJob row c.row.invariant)
    (subst (λ (start : ℕ). AreSums rows start c.in_ok-sums.sums.items) release c.in_ok-sums.ensures)
    (subst (λ (start : ℕ). IsFoundAmongAll c.loop-row.best start c.in_ok-sums.sums.items c.best_from-best.result) release
    (subst (λ (sums : List Sum). IsFoundAmongAll c.loop-row.best c.row.inside.release sums c.best_from-best.result) c.deref-in-loop-row.ensures.value c.best_from-best.ensures))
    c.loop-row.invariant

pub returns : goal.returns
returns c =
    critical_found c.args.rows.now c.loop-row.best c.requires.work
    (subst (λ (n : ℕ). IsBestAmong n c.args.rows.now c.loop-row.best) (omega (arith, c.loop-row.auto.row-index-end, c.loop-row-test.false)) c.loop-row.invariant)
