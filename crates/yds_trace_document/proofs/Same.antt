-- What is kept at a trace's end gives what the definitions say of its lines.
use Rattle.base.proofs.Common.{◌≡◌, ℕ, ◌+◌, List, [], ◌∷◌, ◌++◌, map, length, get_or, ◌∙◌, refl, sym, ap, ap₂, subst, arith, min, Bool, false, not, ◌&&◌, nat_le, if◌then◌else◌, Option, Some, None, unwrap_or, flat_map, enumerate_from, filter_map, get_or_at, append_assoc, length_push}
use Rattle.std.specs.Prelude.{is_none}
use Rattle.std.specs.List.{cons_option}
use Rattle.yds_kernel.specs.Event.{Said}
use Rattle.yds_trace.specs.declared.ended.Ended.{Ended as EndedKept}
use Rattle.yds_trace.specs.declared.reason.Reason.{Reason}
use Rattle.yds_trace.specs.declared.reason.Reason.TheVariants as reasons
use Rattle.yds_trace.specs.declared.tally.Tally.{Tally}
use Rattle.yds_trace.specs.Tally.{tally_of}
use Rattle.yds_trace.specs.Asked.{Task, Asked, no_task, task_at, is_after_from}
use Rattle.yds_trace.specs.Past.{first_time, last_time}
use Rattle.yds_trace.specs.Jobs.{Job}
use Rattle.yds_trace.specs.Late.{due, is_open, late_by, is_unsure}
use Rattle.yds_trace.specs.Ended.{IsEnded, in_order_of_begin, jobs_from}
use Rattle.yds_trace.specs.Others.{Span, spans_within, others_of}
use Rattle.yds_trace.specs.Views.{asked_read, span_read}
use Rattle.yds_trace.specs.WrittenTime.{Units}
use Rattle.yds_trace.specs.Document.{is_lost, named, jobs_of, shares_of, began_before, Judged, judged, judged_of, judged_from, in_order, least_begin, all_judged, time_zero, units_of, Written, written_of, written_jobs, Placed, placed_runs, all_runs}
use Rattle.yds_trace.proofs.Shares.{shares_began_before}
use Rattle.yds_trace_document.specs.Settled.{judged_by_task, Settled, settled_of, with_capped_work, with_capped_works}
use Rattle.yds_trace_document.specs.Kept.{last_of, is_to_reached, run_reason, judged_at, judged_jobs, judged_task, judged_tasks, begin_of, together, zero_of, units_at, capped_option, capped_jobs, within_of, settled_at}

-- # One job

pub last_same : (to : Option ℕ) (last : ℕ) → last_of to last ≡ (elim to [ None ↦ last | Some time ↦ min time last ])
last_same None last = refl
last_same (Some time) last = refl

reached_same : (to : Option ℕ) (last : ℕ) → is_to_reached to last ≡ (elim to [ None ↦ false | Some time ↦ nat_le time last ])
reached_same None last = refl
reached_same (Some time) last = refl

abbrev reason_by : Asked → ℕ → Task → Job → ℕ → Bool → Option Reason
reason_by asked first task job last reached =
    if not (is_after_from asked.from job.begin) then Some reasons.BeforeFrom
    else (if is_lost last job.end then Some reasons.EventsLost
    else (if job.switch_missing then Some reasons.SwitchMissing
    else (if is_open job.end && is_none (late_by asked.from last (due task job) job.end)
    then Some (if reached then reasons.AfterTo else reasons.NotEnded) else run_reason (within_of asked first last) (due task job) job)))

abbrev judged_by : Asked → ℕ → ℕ → Task → Bool → ℕ × Job → ℕ → Bool → Judged
judged_by asked first number task before numbered last reached = record {
  task = number;
  name = named task.label before numbered.0;
  part = if numbered.1.shared then Some asked.processor else None;
  job = numbered.1;
  due = due task numbered.1;
  late = late_by asked.from last (due task numbered.1) numbered.1.end;
  unsure = is_unsure asked task first last numbered.1;
  reason = reason_by asked first task numbered.1 last reached;
}

pub one_same : (asked : Asked) (past : List Said) (number : ℕ) (before : Bool) (numbered : ℕ × Job) →
    judged_at (within_of asked (first_time 0 past) (last_time past)) number (task_at asked number) before numbered ≡ judged asked past number before numbered
one_same asked past number before numbered =
    ap₂ (judged_by asked (first_time 0 past) number (task_at asked number) before numbered) (last_same asked.to (last_time past)) (reached_same asked.to (last_time past))

-- # The jobs of the tasks

pub map_same : {A B : Type 0} (f g : A → B) → ((x : A) → f x ≡ g x) → (xs : List A) → map f xs ≡ map g xs
map_same f g each [] = refl
map_same {A} {B} f g each (x ∷ xs) = ap₂ (λ (y : B) (ys : List B). y ∷ ys) (each x) (map_same f g each xs)

task_same : (asked : Asked) (past : List Said) (number : ℕ) (task : Task) → task_at asked number ≡ task →
    judged_task (within_of asked (first_time 0 past) (last_time past)) number task (shares_of asked past number) ≡ judged_of asked past number
task_same asked past number task is =
    ap (λ (t : Task). judged_task (within_of asked (first_time 0 past) (last_time past)) number t (shares_of asked past number)) (sym is)
    ∙ ap (λ (before : Bool). judged_jobs (within_of asked (first_time 0 past) (last_time past)) number (task_at asked number) before 0 (shares_of asked past number))
    (shares_began_before asked (jobs_of asked past number))
    ∙ map_same (judged_at (within_of asked (first_time 0 past) (last_time past)) number (task_at asked number) (began_before (jobs_of asked past number)))
    (judged asked past number (began_before (jobs_of asked past number)))
    (one_same asked past number (began_before (jobs_of asked past number))) (enumerate_from 0 (shares_of asked past number))

tasks_same : (asked : Asked) (past : List Said) (front tasks : List Task) → asked.tasks ≡ front ++ tasks →
    judged_tasks (within_of asked (first_time 0 past) (last_time past)) (length front) tasks (jobs_from asked past (length front) tasks)
    ≡ judged_by_task asked past (length front) tasks
tasks_same asked past front [] is = refl
tasks_same asked past front (task ∷ tasks) is =
    let here : task_at asked (length front) ≡ task =
    ap (λ (ts : List Task). get_or ts (length front) no_task) is ∙ get_or_at front task tasks no_task (length front) refl in
    let counted : length (front ++ task ∷ []) ≡ length front + 1 = omega (arith, length_push front task) in
    let rest = subst (λ (n : ℕ). judged_tasks (within_of asked (first_time 0 past) (last_time past)) n tasks (jobs_from asked past n tasks) ≡ judged_by_task asked past n tasks)
    counted (tasks_same asked past (front ++ task ∷ []) tasks (is ∙ sym (append_assoc front (task ∷ []) tasks))) in
    ap₂ (λ (one : List Judged) (more : List (List Judged)). one ∷ more) (task_same asked past (length front) task here) rest

together_same : (asked : Asked) (past : List Said) (number : ℕ) (tasks : List Task) →
    together (judged_by_task asked past number tasks) ≡ judged_from asked past number tasks
together_same asked past number [] = refl
together_same asked past number (task ∷ tasks) =
    ap (λ (more : List Judged). judged_of asked past number ++ more) (together_same asked past (number + 1) tasks)

-- # The document

least_same : (least : Option ℕ) (first : ℕ) → unwrap_or least first ≡ (elim least [ Some begin ↦ begin | None ↦ first ])
least_same None first = refl
least_same (Some begin) first = refl

zero_same : (from : Option ℕ) (first : ℕ) (judged : List Judged) →
    zero_of from first judged ≡ (elim from [ Some time ↦ time | None ↦ elim (least_begin judged) [ Some begin ↦ begin | None ↦ first ] ])
zero_same None first judged = least_same (least_begin judged) first
zero_same (Some time) first judged = refl

cons_same : (job : Option Written) (capped jobs : List Written) → capped ≡ map with_capped_work jobs →
    cons_option (capped_option job) capped ≡ map with_capped_work (cons_option job jobs)
cons_same None capped jobs is = is
cons_same (Some job) capped jobs is = ap (λ (more : List Written). with_capped_work job ∷ more) is

pub jobs_same : (units : Units) (judged : List Judged) → capped_jobs units judged ≡ map with_capped_work (filter_map (written_of units) judged)
jobs_same units [] = refl
jobs_same units (one ∷ judged) =
    cons_same (written_of units one) (capped_jobs units judged) (filter_map (written_of units) judged) (jobs_same units judged)

pub runs_same : (place : ℕ) (jobs : List Written) →
    flat_map placed_runs (enumerate_from place (map with_capped_work jobs)) ≡ flat_map placed_runs (enumerate_from place jobs)
runs_same place [] = refl
runs_same place (job ∷ jobs) = ap (λ (more : List Placed). placed_runs (place, job) ++ more) (runs_same (place + 1) jobs)

abbrev pub built : Units → List (List Judged) → List Judged → List Span → Tally → List Written → List Placed → Settled
built units by_task judged others tally jobs runs =
    record { units = units; by_task = by_task; judged = judged; document = record { jobs = jobs; runs = runs }; others = others; tally = tally }

built_same : (units units' : Units) (by_task by_task' : List (List Judged)) (judged judged' : List Judged) (others others' : List Span) (tally tally' : Tally)
    (jobs jobs' : List Written) (runs runs' : List Placed) → units ≡ units' → by_task ≡ by_task' → judged ≡ judged' → others ≡ others' → tally ≡ tally' →
    jobs ≡ jobs' → runs ≡ runs' → built units by_task judged others tally jobs runs ≡ built units' by_task' judged' others' tally' jobs' runs'
built_same units units' by_task by_task' judged judged' others others' tally tally' jobs jobs' runs runs' a b c d e f g = cc

settled_same : (asked : Asked) (past : List Said) (first : ℕ) (by_task : List (List Judged)) (others : List Span) (tally : Tally) → first ≡ first_time 0 past →
    by_task ≡ judged_by_task asked past 0 asked.tasks → others ≡ others_of asked past → tally ≡ tally_of asked past →
    settled_at asked first by_task others tally ≡ with_capped_works (settled_of asked past)
settled_same asked past first by_task others tally begins are told lacks =
    let in_line : in_order begin_of (together by_task) ≡ all_judged asked past =
    ap (in_order begin_of) (ap together are ∙ together_same asked past 0 asked.tasks) in
    let units : units_at asked first (in_order begin_of (together by_task)) ≡ units_of asked past =
    ap₂ (units_at asked) begins in_line
    ∙ ap (λ (zero : ℕ). let made : Units = record { zero = zero; time = asked.unit; speed = asked.khz } in made)
    (zero_same asked.from (first_time 0 past) (all_judged asked past)) in
    let jobs : capped_jobs (units_at asked first (in_order begin_of (together by_task))) (in_order begin_of (together by_task))
    ≡ map with_capped_work (written_jobs asked past) =
    ap₂ capped_jobs units in_line ∙ jobs_same (units_of asked past) (all_judged asked past) in
    let runs : all_runs (capped_jobs (units_at asked first (in_order begin_of (together by_task))) (in_order begin_of (together by_task)))
    ≡ all_runs (written_jobs asked past) =
    ap all_runs jobs ∙ ap (in_order (λ (placed : Placed). placed.run.from)) (runs_same 0 (written_jobs asked past)) in
    built_same (units_at asked first (in_order begin_of (together by_task))) (units_of asked past)
    by_task (judged_by_task asked past 0 asked.tasks)
    (in_order begin_of (together by_task)) (all_judged asked past)
    (spans_within (units_at asked first (in_order begin_of (together by_task))).zero None others) (spans_within (time_zero asked past) None (others_of asked past)) tally (tally_of asked past)
    (capped_jobs (units_at asked first (in_order begin_of (together by_task))) (in_order begin_of (together by_task)))
    (map with_capped_work (written_jobs asked past))
    (all_runs (capped_jobs (units_at asked first (in_order begin_of (together by_task))) (in_order begin_of (together by_task))))
    (all_runs (written_jobs asked past)) units are in_line
    (ap₂ (λ (made : Units) (spans : List Span). spans_within made.zero None spans) units told) lacks jobs runs

pub kept_same : (ended : EndedKept) (asked : Asked) (past : List Said) (by_task : List (List Judged)) (others : List Span) → IsEnded asked past ended →
    by_task ≡ judged_tasks (within_of (asked_read ended.asked) ended.first ended.last) 0 (asked_read ended.asked).tasks (map in_order_of_begin ended.jobs.items) →
    others ≡ map span_read ended.others.items →
    settled_at (asked_read ended.asked) ended.first by_task others ended.tally ≡ with_capped_works (settled_of asked past)
kept_same ended asked past by_task others is are told =
    ap (λ (a : Asked). settled_at a ended.first by_task others ended.tally) is.same_asked
    ∙ settled_same asked past ended.first by_task others ended.tally is.first
    (are
    ∙ ap (λ (a : Asked). judged_tasks (within_of a ended.first ended.last) 0 a.tasks (map in_order_of_begin ended.jobs.items)) is.same_asked
    ∙ ap₂ (λ (first last : ℕ). judged_tasks (within_of asked first last) 0 asked.tasks (map in_order_of_begin ended.jobs.items)) is.first is.last
    ∙ ap (judged_tasks (within_of asked (first_time 0 past) (last_time past)) 0 asked.tasks) is.jobs
    ∙ tasks_same asked past [] asked.tasks refl)
    (told ∙ is.others) is.tally
