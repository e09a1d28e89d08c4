use Rattle.yds_model.proofs.Common.{◌≡◌, ◌∙◌, ℕ, ◌+◌, take, true, refl, ap, get_or_read, Job, no_job, job_at, IsConfined, all_pieces}
use Rattle.yds_checker.specs.Home.{home_at}
use Rattle.yds_checker.proofs.OneHome.{fact_elsewhere}
use Rattle.yds_checker.proofs.Confined.{window_told}
use Rattle.yds_checker.proofs.windows.is_covered.Goals as goal

pub returns-in-In : goal.returns-in-In
returns-in-In c =
    let row : c.index-rows-job.result ≡ job_at c.args.rows.now c.args.job =
    get_or_read c.args.rows.now c.args.job c.index-rows-job.result c.requires.known c.index-rows-job.is no_job in
    let job = job_at c.args.rows.now c.args.job in
    let release : c.row.inside.release ≡ job.release = ap (λ (one : Job). one.release) (c.row.view_is ∙ row) in
    let deadline : c.row.inside.deadline ≡ job.deadline = ap (λ (one : Job). one.deadline) (c.row.view_is ∙ row) in
    λ levels settled run.
    window_told c.args.rows.now levels c.args.homes.now c.args.run.now c.args.job c.in-In.level c.covers.result settled run
    (rw c.requires.jobs c.requires.known) c.in-In.is (rw (release, deadline) at c.covers.ensures)

pub returns-in-Nowhere : goal.returns-in-Nowhere
returns-in-Nowhere c = λ levels settled run.
    fact_elsewhere levels c.args.job (λ (i : ℕ). IsConfined (job_at c.args.rows.now c.args.job) (all_pieces (take (i + 1) levels))) true
    (home_at c.args.homes.now c.args.job) c.in-Nowhere.is (settled.noted c.args.job (rw c.requires.jobs c.requires.known))
    (settled.once c.args.job c.requires.known).at_most_once refl
