-- What is known at a trace's end is what a document's call needs.
use Rattle.yds_model.proofs.Common.{◌≡◌, ℕ, suc, ◌+◌, ◌≤◌, List, [], ◌∷◌, length, map, get_or, All, All-cons, All-nil, Option, Some, None, refl, sym, ap, subst, ◌∙◌, length-map}
use Rattle.std.specs.Prelude.{IfSome, Vec}
use Rattle.std.specs.declared.alloc.Global.{Global}
use Rattle.yds_kernel.specs.Event.{Said}
use Rattle.yds_trace.specs.declared.limits.TheConstants.{MAX_TIME, MAX_DEADLINE}
use Rattle.yds_trace.specs.declared.job.Job.{Job as JobKept}
use Rattle.yds_trace.specs.declared.ended.Ended.{Ended}
use Rattle.yds_trace.specs.Asked.{Task, Asked}
use Rattle.yds_trace.specs.Jobs.{Job}
use Rattle.yds_trace.specs.Document.{shares_of}
use Rattle.yds_trace.specs.Ended.{jobs_from, in_order_of_begin}
use Rattle.yds_trace.specs.Faults.{first_fault}
use Rattle.yds_trace.specs.Views.{task_read, job_read, asked_read}
use Rattle.yds_trace_laws.specs.Laws.{IsReached}
use Rattle.yds_trace_laws.proofs.Begins.{begins_in_time}
use Rattle.yds_trace_laws.proofs.Ordered.{All-map_back}
use Rattle.yds_trace_laws.proofs.Shares.{shares_kept}
use Rattle.yds_trace_document.specs.Kept.{IsPlain, IsPlainJob, HaveBegins}
use Rattle.yds_trace_words.specs.Request.{IsFit}
use Rattle.yds_trace_reading.specs.Reading.{IsEndOfSome}
use Rattle.yds_trace_parts.specs.Plain.{IsGranted}

reached : (to : Option ℕ) → IfSome to (λ time. time ≤ MAX_TIME) → IsReached to
reached None is = tt
reached (Some time) is = is

-- it begins in time, and so does the time from which its deadline counts
abbrev IsEarly : Job → Type 0
IsEarly job = (job.begin ≤ MAX_TIME) × (job.due_from ≤ MAX_TIME)

shares_in_time : (asked : Asked) (past : List Said) (number : ℕ) → IsReached asked.to → first_fault asked past ≡ None
    → All IsEarly (shares_of asked past number)
shares_in_time asked past number to sound =
    shares_kept IsEarly (λ processor job early. early) asked past number (begins_in_time asked past number to sound)

lists_in_time : (asked : Asked) (past : List Said) (number : ℕ) (tasks : List Task) → IsReached asked.to → first_fault asked past ≡ None
    → All (λ (jobs : List Job). All IsEarly jobs) (jobs_from asked past number tasks)
lists_in_time asked past number [] to sound = All-nil _
lists_in_time asked past number (task ∷ tasks) to sound =
    All-cons (λ (jobs : List Job). All IsEarly jobs) (shares_of asked past number) (jobs_from asked past (number + 1) tasks)
    (shares_in_time asked past number to sound) (lists_in_time asked past (number + 1) tasks to sound)

lists_len : (asked : Asked) (past : List Said) (number : ℕ) (tasks : List Task) → length (jobs_from asked past number tasks) ≡ length tasks
lists_len asked past number [] = refl
lists_len asked past number (task ∷ tasks) = ap (λ (n : ℕ). suc n) (lists_len asked past (number + 1) tasks)

plain_jobs : (jobs : Vec JobKept Global) → All IsEarly (in_order_of_begin jobs) → All IsPlainJob jobs.items
plain_jobs jobs all =
    let early : All (λ (job : JobKept). IsEarly (job_read job)) jobs.items = All-map_back IsEarly job_read jobs.items all in
    λ i d within. record { begin = (early i d within).0; due_from = (early i d within).1 }

kept_begins : (lists : List (Vec JobKept Global)) → All (λ (jobs : List Job). All IsEarly jobs) (map in_order_of_begin lists) → HaveBegins lists
kept_begins lists all = λ i d within.
    plain_jobs (get_or lists i d) (All-map_back (λ (jobs : List Job). All IsEarly jobs) in_order_of_begin lists all i d within)

-- What the words grant is what parts need.
pub granted : (asked : Asked) → IsFit asked → IsGranted asked
granted asked fit = record { plain = fit.plain; within = fit.within; reached = reached asked.to fit.reached }

pub plain : (asked : Asked) (ended : Ended) → IsFit asked → IsEndOfSome asked ended → IsPlain ended
plain asked ended fit some =
    let same : asked_read ended.asked ≡ asked = some.known.same_asked in
    record {
      has_unit = subst (λ (a : Asked). 1 ≤ a.unit) (sym same) fit.plain.has_unit;
      has_speed_unit = subst (λ (a : Asked). 1 ≤ a.khz) (sym same) fit.plain.has_speed_unit;
      deadlines = All-map_back (λ (task : Task). task.deadline ≤ MAX_DEADLINE) task_read ended.asked.tasks.items
          (subst (λ (a : Asked). All (λ (task : Task). task.deadline ≤ MAX_DEADLINE) a.tasks) (sym same) fit.within.deadlines);
      begins = kept_begins ended.jobs.items
          (subst (λ (lists : List (List Job)). All (λ (jobs : List Job). All IsEarly jobs) lists) (sym some.known.jobs)
          (lists_in_time asked some.past 0 asked.tasks (reached asked.to fit.reached) some.sound));
      of_each_task =
          sym (length-map ended.jobs.items in_order_of_begin) ∙ ap length some.known.jobs ∙ lists_len asked some.past 0 asked.tasks
          ∙ ap (λ (a : Asked). length a.tasks) (sym same) ∙ length-map ended.asked.tasks.items task_read;
    }
