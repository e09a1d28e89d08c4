-- A job's window, and the pieces that hold it.
use Rattle.yds_model.proofs.Common.{◌≡◌, ℕ, ◌+◌, ◌<◌, ◌≤◌, List, length, take, Bool, arith, ◌↔◌, IsTrue, Job, job_at, IsConfined, Level, all_pieces, IsWindowCovered}
use Rattle.base.specs.declared.limits.TheConstants.{MAX_LEVELS}
use Rattle.yds_checker.specs.declared.home.Home.{Home}
use Rattle.yds_checker.specs.declared.home.Home.TheVariants.{In}
use Rattle.yds_checker.specs.declared.placed.Placed.{Placed}
use Rattle.yds_checker.specs.Placed.{holding}
use Rattle.yds_checker.specs.Home.{AreSettled, home_at}
use Rattle.yds_checker.specs.Standing.{AreInRun}
use Rattle.yds_checker.proofs.OneHome.{fact_in}
use Rattle.yds_checker.proofs.Units.{covers_counted}

-- the pieces of the first levels cover what the list of them holds
pub confined_held : (levels : List Level) (placed : List Placed) (job : Job) (n : ℕ) → AreInRun levels placed → n ≤ length levels →
    (IsConfined job (all_pieces (take n levels)) ↔ ((time : ℕ) → job.release ≤ time → time < job.deadline → 1 ≤ holding n time placed))
confined_held levels placed job n run within = (
  λ confined time after before.
      rw (run.kept.same n time within) ((covers_counted (all_pieces (take n levels)) time).0 (confined time after before)),
  λ held time after before.
      (covers_counted (all_pieces (take n levels)) time).1 (rw (run.kept.same n time within) at (held time after before)),
)

-- so it is told of the level in which the job stands
pub window_told : (rows : List Job) (levels : List Level) (homes : List Home) (placed : List Placed) (job level : ℕ) (told : Bool) →
    AreSettled rows levels homes → AreInRun levels placed → job < length homes → home_at homes job ≡ In level →
    (level < MAX_LEVELS →
    (IsTrue told ↔ ((time : ℕ) → (job_at rows job).release ≤ time → time < (job_at rows job).deadline → 1 ≤ holding (level + 1) time placed))) →
    (IsTrue told ↔ IsWindowCovered rows levels job)
window_told rows levels homes placed job level told settled run within is tells =
    let home = settled.noted job within in
    let stands = rw is at home in
    let law = tells (omega (arith, stands.1, settled.few)) in
    let held = confined_held levels placed (job_at rows job) (level + 1) run (omega (arith, stands.1)) in
    fact_in levels job level (λ (i : ℕ). IsConfined (job_at rows job) (all_pieces (take (i + 1) levels))) told (home_at homes job) is home
    (λ so. held.1 (law.0 so), λ confined. law.1 (held.0 confined))
