-- What is shown of a task: its jobs behind those that are forgotten, closed at the end of what is shown.
use Rattle.base.proofs.Common.{◌≡◌, ◌∙◌, ℕ, zero, suc, ◌<◌, ◌≤◌, ◌==◌, List, [], ◌∷◌, ◌++◌, map, reverse, length, Bool, not, if◌then◌else◌, Option, Some, None, All-weaker, refl, sym, ap, arith, reverse-append}
use Rattle.std.proofs.lemmas.List.{reverse-reverse}
use Rattle.yds_kernel.specs.Event.{Said}
use Rattle.yds_trace.specs.declared.followed.Followed.{Followed}
use Rattle.yds_trace.specs.declared.job.Standing.{Standing}
use Rattle.yds_trace.specs.declared.job.Woken.{Woken}
use Rattle.yds_trace.specs.declared.job.Stretch.{Stretch}
use Rattle.yds_trace.specs.declared.shown.ShownTask.{ShownTask}
use Rattle.yds_trace.specs.Asked.{Start, Asked}
use Rattle.yds_trace.specs.Past.{up_to, speed_after}
use Rattle.yds_trace.specs.Jobs.{Job, Known, changed_last, ran}
use Rattle.yds_trace.specs.Late.{last_asked}
use Rattle.yds_trace.specs.Document.{closed, jobs_of, began_before}
use Rattle.yds_trace.specs.Passing.{closed_at}
use Rattle.yds_trace.specs.Following.{Shows}
use Rattle.yds_trace.specs.Kept.{KeepsLast, AreForgotten, IsFollowed}
use Rattle.yds_trace.specs.Shown.{IsShownTask}
use Rattle.yds_trace.specs.Views.{job_read, jobs_listed, known_read}
use Rattle.yds_trace.proofs.Behind.{Split, changed_split, kept_jobs, suc_not_zero}

-- # Closed jobs

closed_on : (until : ℕ) (start : Start) (counting : List Said) (on : Option Standing) (jobs forgotten : List Job) (woken : Woken) → KeepsLast jobs forgotten →
    closed_at until start counting (record { jobs = jobs ++ forgotten; on = on; woken = woken })
    ≡ closed_at until start counting (record { jobs = jobs; on = on; woken = woken }) ++ forgotten
closed_on until start counting None jobs forgotten woken last = refl
closed_on until start counting (Some standing) jobs forgotten woken last =
    let split : Split forgotten
    (changed_last (ran (record { processor = standing.processor; from = standing.since; to = until; khz = speed_after start standing.processor counting })) (jobs ++ forgotten))
    (changed_last (ran (record { processor = standing.processor; from = standing.since; to = until; khz = speed_after start standing.processor counting })) jobs) =
    changed_split (ran (record { processor = standing.processor; from = standing.since; to = until; khz = speed_after start standing.processor counting }))
    forgotten (jobs ++ forgotten) jobs (kept_jobs forgotten jobs last) in
    split.is

-- The jobs of a task are those that are forgotten, and behind them those that are kept, closed.
pub jobs_behind : (asked : Asked) (past : List Said) (boundary number : ℕ) (followed : Followed) (is : IsFollowed asked (up_to asked.to past) boundary number followed) →
    jobs_of asked past number
    ≡ is.forgotten ++ reverse (closed_at (last_asked asked past) asked.start (up_to asked.to past) (known_read followed.known))
jobs_behind asked past boundary number followed is =
    ap (λ (known : Known). reverse (closed asked past known)) (sym is.known)
    ∙ ap reverse (closed_on (last_asked asked past) asked.start (up_to asked.to past) followed.known.on (jobs_listed followed.known.jobs.items) (reverse is.forgotten)
    followed.known.woken is.last)
    ∙ reverse-append (closed_at (last_asked asked past) asked.start (up_to asked.to past) (known_read followed.known)) (reverse is.forgotten)
    ∙ ap (λ (jobs : List Job). jobs ++ reverse (closed_at (last_asked asked past) asked.start (up_to asked.to past) (known_read followed.known)))
    (reverse-reverse is.forgotten)

-- # The first job

first_behind : (jobs : List Job) (job other : Job) → job.begin_known ≡ other.begin_known → began_before (jobs ++ job ∷ []) ≡ began_before (jobs ++ other ∷ [])
first_behind [] job other same = ap not same
first_behind (first ∷ jobs) job other same = refl

first_ran : (stretch : Stretch) (jobs : List Job) → began_before (reverse (changed_last (ran stretch) jobs)) ≡ began_before (reverse jobs)
first_ran stretch [] = refl
first_ran stretch (job ∷ jobs) =
    ap began_before (reverse-append (ran stretch job ∷ []) jobs)
    ∙ first_behind (reverse jobs) (ran stretch job) job refl
    ∙ ap began_before (sym (reverse-append (job ∷ []) jobs))

first_closed : (until : ℕ) (start : Start) (counting : List Said) (on : Option Standing) (jobs : List Job) (woken : Woken) →
    began_before (reverse (closed_at until start counting (record { jobs = jobs; on = on; woken = woken }))) ≡ began_before (reverse jobs)
first_closed until start counting None jobs woken = refl
first_closed until start counting (Some standing) jobs woken =
    first_ran (record { processor = standing.processor; from = standing.since; to = until; khz = speed_after start standing.processor counting }) jobs

first_of_all : (boundary : ℕ) (forgotten jobs others : List Job) (count : ℕ) (before : Bool) → AreForgotten boundary forgotten count before →
    began_before jobs ≡ began_before others → (if count == 0 then began_before jobs else before) ≡ began_before (forgotten ++ others)
first_of_all boundary [] jobs others count before are same = let none : count ≡ 0 = are.as_many in rw none same
first_of_all boundary (first ∷ forgotten) jobs others zero before are same = absurd (omega (arith, are.as_many))
first_of_all boundary (first ∷ forgotten) jobs others (suc count) before are same = rw (suc_not_zero count) are.before

-- # A task

pub task_shown : (asked : Asked) (past : List Said) (kept boundary number until : ℕ) (followed : Followed) (shown : ShownTask) →
    kept ≤ boundary → IsFollowed asked (up_to asked.to past) kept number followed → until ≡ last_asked asked past →
    Shows until asked.start (up_to asked.to past) followed shown → IsShownTask (jobs_of asked past number) asked past boundary number shown
task_shown asked past kept boundary number until followed shown within is until_is shows =
    let rest : List Job = closed_at (last_asked asked past) asked.start (up_to asked.to past) (known_read followed.known) in
    let all : jobs_of asked past number ≡ is.forgotten ++ reverse rest = jobs_behind asked past kept number followed is in
    let listed : jobs_listed shown.jobs.items ≡ rest =
    shows.jobs ∙ ap (λ (time : ℕ). closed_at time asked.start (up_to asked.to past) (known_read followed.known)) until_is in
    record {
      forgotten = is.forgotten;
      jobs = all ∙ ap (λ (jobs : List Job). is.forgotten ++ reverse jobs) (sym listed)
          ∙ ap (λ (jobs : List Job). is.forgotten ++ jobs) (reverse-reverse (map job_read shown.jobs.items));
      earlier = All-weaker (λ (job : Job). job.begin < kept) (λ (job : Job). job.begin < boundary) (λ job early. omega (arith, early, within)) is.forgotten is.are_forgotten.earlier;
      as_many = shows.forgotten ∙ is.are_forgotten.as_many;
      before = shows.before
          ∙ first_of_all kept is.forgotten (map job_read followed.known.jobs.items) (reverse rest) followed.forgotten followed.before is.are_forgotten
          (sym (first_closed (last_asked asked past) asked.start (up_to asked.to past) followed.known.on (jobs_listed followed.known.jobs.items) followed.known.woken
          ∙ ap began_before (reverse-reverse (map job_read followed.known.jobs.items))))
          ∙ ap began_before (sym all);
    }

-- what is at hand where a list has an item
pub some_item : {A P : Type 0} (items : List A) (number : ℕ) → number < length items → ((item : A) → P) → P
some_item [] number within by = absurd (omega arith)
some_item (item ∷ items) number within by = by item
