-- The text of the jobs of tasks that were read is read as a document with just these jobs; and their one level.
use Rattle.yds_model.proofs.Common.{◌≡◌, ℕ, ◌*◌, ◌<◌, ◌≤◌, zero, suc, ◌^◌, ◌&&◌, Bool, true, false, List, [], ◌∷◌, length, get_or, decimal, Option, Some, None, Result, Ok, Err, refl, sym, ap, subst, ◌∙◌, arith, inl, inr, codes, if◌then◌else◌, All, AllByRecursion, list_all, list_any, sum_by, mul-pos, cases_Bool, and_parts, leb-true, false≢true, length-decimal-le, length-append, length-flat_map, All-weaker, All-head, All-tail, length-map-range_with_len, sum_by-append, get_or-le-sum_by, Job, IsJob, Document, no_document, is_name, job_lines, Fault, reading, IsDocument, AreNamedJobs, IsPlan, Task, TaskSet, nth_job, nth_name, count_of_jobs, horizon_of, jobs_of_tasks, names_of_tasks, fills_horizon, has_work, level_until, count_of_all, task_reading, level_comment, expansion_text, AnswersTasks, is_too_long, sum_by_same, All-flat}
use Rattle.model_lemmas.proofs.Horizon.{works_few}
use Rattle.base.specs.declared.limits.TheConstants.{MAX_JOBS, MAX_TIME}
use Rattle.yds_model.specs.declared.task_reason.TaskReason.{TaskReason}
use Rattle.base.specs.declared.status.Status.TheVariants.{Done}
use Rattle.yds_model.specs.Tasks.{one_level}
use Rattle.yds_texts.specs.TaskLaws.{jobs_document, IsExpansion, HoldsExpansion, ExpansionsAreRead, IsOneLevel, OneLevelIsPlanned}
use Rattle.yds_texts.proofs.Brought.{IsWord, Brings, Brings-nil, Brings-append, Brings-comment, read_whole}
use Rattle.yds_texts.proofs.OneLevel.{one_level_planned}
use Rattle.yds_texts.proofs.Printed.{decimal_word, name_word}
use Rattle.yds_texts.proofs.RoundTrip.{jobs_brought}
use Rattle.yds_texts.proofs.Short.{jobs_short, line_length}
use Rattle.yds_texts.proofs.TaskCounts.{task_jobs_end_in_time}
use Rattle.yds_texts.proofs.TaskLimits.{IsTask, AreTasks, tasks_keep}
use Rattle.yds_texts.proofs.TaskNames.{All-numbers, names_of_task, nth_name_fits, names_differ}
use Rattle.yds_laws.proofs.TaskWork.{jobs_of_task, jobs_until, jobs_counted, works_of_task, count_fills}
use Rattle.yds_texts.proofs.Answered.{done_not_refused, not_too_long}
use Rattle.yds_texts.proofs.Within.{only_jobs}

-- # The jobs fit

horizon_in_range : (horizon : Option ℕ) → ((time : ℕ) → horizon ≡ Some time → (1 ≤ time) × (time ≤ MAX_TIME)) → elim horizon [ None ↦ 0 | Some time ↦ time ] ≤ MAX_TIME
horizon_in_range None within = omega arith
horizon_in_range (Some time) within = (within time refl).1

-- no task has more jobs than all have
few_each : (set : TaskSet) → count_of_all set ≤ MAX_JOBS → All (λ task. count_of_jobs (horizon_of set) task ≤ MAX_JOBS) set.tasks
few_each set few k d within = omega (arith, few, get_or-le-sum_by (count_of_jobs (horizon_of set)) set.tasks k d within)

-- a job is due by the horizon, and is a job
job_ends : (horizon : ℕ) (task : Task) (k : ℕ) → IsTask task → k < count_of_jobs horizon task → (nth_job task k).deadline ≤ horizon
job_ends horizon task k kept below = (task_jobs_end_in_time horizon task k kept.has_period).0 below

job_fits : (horizon : ℕ) (task : Task) (k : ℕ) → IsTask task → horizon ≤ MAX_TIME → k < count_of_jobs horizon task → IsJob (nth_job task k)
job_fits horizon task k kept within below = grind (arith, job_ends)

-- what holds of each job of each task
All-jobs : (P : Job → Type 0) (horizon : ℕ) (tasks : List Task) → All IsTask tasks → ((task : Task) (k : ℕ) → IsTask task → k < count_of_jobs horizon task → P (nth_job task k)) → All P (jobs_until horizon tasks)
All-jobs P horizon tasks kept each =
    All-flat P (jobs_of_task horizon) tasks (All-weaker IsTask (λ task. All P (jobs_of_task horizon task))
    (λ task is. All-numbers P (nth_job task) (count_of_jobs horizon task) (λ k below. each task k is below)) tasks kept)

-- there are as many names as jobs
names_counted : (set : TaskSet) → length (names_of_tasks set) ≡ count_of_all set
names_counted set = grind (arith, length-flat_map, length-map-range_with_len, names_of_task, sum_by_same)

named_jobs : (set : TaskSet) → AreTasks set → AreNamedJobs (names_of_tasks set) (jobs_of_tasks set)
named_jobs set are =
    let horizon : ℕ = horizon_of set in
    let few = few_each set are.few_jobs in
    record {
      one_name_each = names_counted set ∙ sym (jobs_counted set);
      few = omega (arith, jobs_counted set, are.few_jobs);
      names_fit = All-flat (λ name. is_name name ≡ true) (names_of_task horizon) set.tasks
          (λ i d within. All-numbers (λ name. is_name name ≡ true) (nth_name (get_or set.tasks i d)) (count_of_jobs horizon (get_or set.tasks i d))
          (λ k below. nth_name_fits (get_or set.tasks i d) k (are.fit i d within).named (omega (arith, below, few i d within))));
      different = names_differ horizon set.tasks are.different few;
      jobs_fit = All-jobs IsJob horizon set.tasks are.fit (λ task k is below. job_fits horizon task k is (horizon_in_range set.horizon are.has_horizon) below);
    }

expansion_fits : (set : TaskSet) → AreTasks set → IsDocument (jobs_document set)
expansion_fits set are = only_jobs (names_of_tasks set) (jobs_of_tasks set) (named_jobs set are)

-- # The text is read

-- the level that is told, if one is, has numbers of 64 bits
abbrev IsSmall : Option (ℕ × ℕ) → Type 0
IsSmall None = Unit {0}
IsSmall (Some level) = (level.0 < 2 ^ 64) × (level.1 < 2 ^ 64)

abbrev comment_texts : ℕ × ℕ → List (List ℕ)
comment_texts level = codes "#" ∷ codes "one" ∷ codes "level" ∷ decimal level.0 ∷ decimal level.1 ∷ []

comment_words : (level : ℕ × ℕ) → IsSmall (Some level) → AllByRecursion IsWord (comment_texts level)
comment_words level small = (name_word (codes "#") refl, (name_word (codes "one") refl, (name_word (codes "level") refl, (decimal_word level.0 small.0, (decimal_word level.1 small.1, tt)))))

comment_brought : (d : Document) (level : Option (ℕ × ℕ)) → IsSmall level → Brings d (level_comment level) d
comment_brought d None small = Brings-nil d
comment_brought d (Some level) small = Brings-comment d (comment_texts level) (comment_words level small) refl

comment_short : (level : Option (ℕ × ℕ)) → IsSmall level → length (level_comment level) ≤ 60
comment_short None small = omega arith
comment_short (Some level) small =
    omega (
      arith,
      line_length (codes "#") (codes "one" ∷ codes "level" ∷ decimal level.0 ∷ decimal level.1 ∷ []),
      length-decimal-le 20 level.0 (omega arith) (omega (arith, small.0)) small.0,
      length-decimal-le 20 level.1 (omega arith) (omega (arith, small.1)) small.1,
    )

-- what is told is small
level_small : (set : TaskSet) (time : ℕ) (filled : Bool) → time < 2 ^ 64 → sum_by (λ job. job.work) (jobs_of_tasks set) < 2 ^ 64 →
    IsSmall (if filled then Some (sum_by (λ job. job.work) (jobs_of_tasks set), time) else None)
level_small set time true small few = (few, small)
level_small set time false small few = tt

told_small : (set : TaskSet) (horizon : Option ℕ) → ((time : ℕ) → horizon ≡ Some time → time < 2 ^ 64) → sum_by (λ job. job.work) (jobs_of_tasks set) < 2 ^ 64 →
    IsSmall (elim horizon [ None ↦ None | Some time ↦ level_until time set ])
told_small set None small few = tt
told_small set (Some time) small few = level_small set time (list_all (fills_horizon time) set.tasks && list_any has_work set.tasks) (small time refl) few

-- the text of tasks that were read
expansion_is_read : (set : TaskSet) (text : List ℕ) → AreTasks set → text ≡ expansion_text set → IsExpansion set text
expansion_is_read set text are said =
    let d : Document = jobs_document set in
    let fits : IsDocument d = expansion_fits set are in
    let small : IsSmall (one_level set) =
    told_small set set.horizon (λ time is. omega (arith, (are.has_horizon time is).1)) (omega (arith, works_few (jobs_of_tasks set) fits.jobs.jobs_fit, fits.jobs.few)) in
    record {
      possible = fits;
      read = ap reading said
          ∙ read_whole (expansion_text set) d
          (Brings-append no_document d d (job_lines d.names d.jobs) (level_comment (one_level set)) (jobs_brought d fits) (comment_brought d (one_level set) small));
      short = omega (
        arith,
        ap length said,
        length-append (job_lines d.names d.jobs) (level_comment (one_level set)),
        jobs_short d.names d.jobs fits.jobs.names_fit fits.jobs.jobs_fit,
        fits.jobs.few,
        comment_short (one_level set) small,
      );
    }

-- # The laws

-- an answer that is done is to tasks that were read
of_reading : (input text : List ℕ) (read : Result TaskSet (Fault TaskReason)) → task_reading input ≡ read → AnswersTasks read text Done → HoldsExpansion input text
of_reading input text (Ok set) is answer = (set, is, expansion_is_read set text (tasks_keep input set is) answer.said)
of_reading input text (Err fault) is answer = absurd (done_not_refused answer.ended)

-- the law: what `expand` writes is read as a document with just the jobs
pub expansions_are_read : ExpansionsAreRead
expansions_are_read input text answers =
    of_reading input text (task_reading input) refl (not_too_long (AnswersTasks (task_reading input)) text Done (is_too_long input) done_not_refused answers)

-- where a level is told, the tasks fill the horizon and one has work
record IsTold (set : TaskSet) (work long : ℕ) : Type 0 where
  under : set.horizon ≡ Some long
  filled : list_all (fills_horizon long) set.tasks ≡ true
  worked : list_any has_work set.tasks ≡ true
  is_work : sum_by (λ job. job.work) (jobs_of_tasks set) ≡ work

abbrev level_of : ℕ → ℕ → Option (ℕ × ℕ)
level_of work long = Some (work, long)

abbrev level_if : Bool → ℕ → ℕ → Option (ℕ × ℕ)
level_if told work long = if told then level_of work long else None

none_told : (work long : ℕ) (told : Option (ℕ × ℕ)) → told ≡ None → told ≡ level_of work long → ⊥
none_told work long told none some = cc

told_by : (set : TaskSet) (time work long : ℕ) (filled worked : Bool) → set.horizon ≡ Some time → list_all (fills_horizon time) set.tasks ≡ filled → list_any has_work set.tasks ≡ worked →
    level_if (filled && worked) (sum_by (λ job. job.work) (jobs_of_tasks set)) time ≡ level_of work long → IsTold set work long
told_by set time work long true true under all some is =
    let same : time ≡ long = ap (λ (o : Option (ℕ × ℕ)). elim o as (λ _. ℕ) [ None ↦ 0 | Some level ↦ level.1 ]) is in
    let works : sum_by (λ job. job.work) (jobs_of_tasks set) ≡ work = ap (λ (o : Option (ℕ × ℕ)). elim o as (λ _. ℕ) [ None ↦ 0 | Some level ↦ level.0 ]) is in
    record { under = under ∙ ap Some same; filled = subst (λ t. list_all (fills_horizon t) set.tasks ≡ true) same all; worked = some; is_work = works }
told_by set time work long true false under all some is = absurd (none_told work long (level_if (true && false) (sum_by (λ job. job.work) (jobs_of_tasks set)) time) refl is)
told_by set time work long false worked under all some is = absurd (none_told work long (level_if (false && worked) (sum_by (λ job. job.work) (jobs_of_tasks set)) time) refl is)

told_of : (set : TaskSet) (horizon : Option ℕ) (work long : ℕ) → set.horizon ≡ horizon → (elim horizon as (λ o. Option (ℕ × ℕ)) [ None ↦ None | Some time ↦ level_until time set ]) ≡ level_of work long → IsTold set work long
told_of set None work long under is = absurd (none_told work long None refl is)
told_of set (Some time) work long under is = told_by set time work long (list_all (fills_horizon time) set.tasks) (list_any has_work set.tasks) under refl refl is

-- a product that isn't 0 has no factor 0
second_factor : (a b n : ℕ) → a * b ≡ n → 1 ≤ n → 1 ≤ b
second_factor a zero n is some = absurd (omega (arith, is, some))
second_factor a (suc b) n is some = omega arith

-- tasks that fill the horizon, of which one has work, have work together
some_work : (horizon : ℕ) (tasks : List Task) → 1 ≤ horizon → list_all (fills_horizon horizon) tasks ≡ true → All (λ task. 1 ≤ task.period) tasks → list_any has_work tasks ≡ true →
    1 ≤ sum_by (λ job. job.work) (jobs_until horizon tasks)
some_work horizon [] positive filled some worked = absurd (false≢true worked)
some_work horizon (task ∷ tasks) positive filled some worked =
    let parts = and_parts (fills_horizon horizon task) (list_all (fills_horizon horizon) tasks) filled in
    let all = sum_by-append (λ (job : Job). job.work) (jobs_of_task horizon task) (jobs_until horizon tasks) in
    elim (cases_Bool (has_work task)) [
      | inl works ↦
          let count : 1 ≤ count_of_jobs horizon task =
          second_factor task.period (count_of_jobs horizon task) horizon (count_fills horizon task parts.0 (All-head (λ (t : Task). 1 ≤ t.period) task tasks some) positive) positive in
          omega (arith, all, works_of_task horizon task, mul-pos count (leb-true 1 task.work works))
      | inr none ↦
          omega (arith, all, some_work horizon tasks positive parts.1 (All-tail (λ (t : Task). 1 ≤ t.period) task tasks some) (rw none at worked))
    ]

-- the law: every plan of the jobs has just the one level that is told
pub one_level_is_planned : OneLevelIsPlanned
one_level_is_planned input set work long slots levels is told plan =
    let are = tasks_keep input set is in
    let tells = told_of set set.horizon work long refl told in
    let same : horizon_of set ≡ long = ap (λ (o : Option ℕ). elim o as (λ _. ℕ) [ None ↦ 0 | Some time ↦ time ]) tells.under in
    let positive : 1 ≤ long = (are.has_horizon long tells.under).0 in
    let some : All (λ task. 1 ≤ task.period) set.tasks = All-weaker IsTask (λ task. 1 ≤ task.period) (λ task kept. kept.has_period) set.tasks are.fit in
    let one = one_level_planned long set.tasks slots levels tells.filled some positive (All-jobs (λ job. job.deadline ≤ long) long set.tasks are.fit (job_ends long))
    (some_work long set.tasks positive tells.filled some tells.worked) (subst (λ time. IsPlan (jobs_until time set.tasks) slots levels) same plan) in
    subst (λ all. IsOneLevel all long levels) (ap (λ time. sum_by (λ (job : Job). job.work) (jobs_until time set.tasks)) (sym same) ∙ tells.is_work) one
