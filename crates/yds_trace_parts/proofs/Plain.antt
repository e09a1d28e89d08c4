-- What is shown of a pass is what a part's calls need, and what holds of it when a line more is taken.
use Rattle.base.proofs.Common.{Bor, ◌≡◌, ℕ, ◌+◌, ◌*◌, ◌≤◌, List, ◌∷◌, ◌++◌, length, map, All, All-back, Option, None, Some, unwrap_or, option_copied, sym, ap, subst, ◌∙◌, arith, le_refl, length-append, length-map, slice_index_or}
use Rattle.yds_kernel.specs.declared.limits.TheConstants.{MAX_U64}
use Rattle.yds_kernel.specs.Event.{Said}
use Rattle.yds_kernel.specs.Parts.{or_else}
use Rattle.yds_trace.specs.declared.asked.Asked.{Asked as AskedKept}
use Rattle.yds_trace.specs.declared.fault.Cause.{Cause}
use Rattle.yds_trace.specs.declared.job.Job.{Job as JobKept}
use Rattle.yds_trace.specs.declared.limits.TheConstants.{MAX_TIME, MAX_DEADLINE}
use Rattle.yds_trace.specs.declared.pass.Pass.{Pass}
use Rattle.yds_trace.specs.declared.shown.Shown.{Shown}
use Rattle.yds_trace.specs.declared.shown.ShownTask.{ShownTask}
use Rattle.yds_trace.specs.Asked.{Task, Asked, on}
use Rattle.yds_trace.specs.Document.{jobs_of, share_of, shares_of}
use Rattle.yds_trace.specs.Faults.{first_fault, numbered, said_fault}
use Rattle.yds_trace.specs.Jobs.{Job}
use Rattle.yds_trace.specs.Kept.{IsAtBehind}
use Rattle.yds_trace.specs.Shown.{IsShown, IsShared, IsShownTask}
use Rattle.yds_trace.specs.Views.{task_read, job_read, asked_read}
use Rattle.yds_trace.proofs.OnProcessor.{first_fault_on, shown_on}
use Rattle.yds_trace_laws.specs.Laws.{IsReached}
use Rattle.yds_trace_laws.proofs.Begins.{begins_in_time}
use Rattle.yds_trace_laws.proofs.Few.{jobs_few}
use Rattle.yds_trace_laws.proofs.Ordered.{All-map_back}
use Rattle.yds_trace_laws.proofs.Shares.{shares_kept}
use Rattle.yds_trace_document.specs.Kept.{IsPlainTask, IsPlainShown}
use Rattle.yds_trace_parts.specs.Telling.{IsTurned}
use Rattle.yds_trace_parts.specs.Plain.{IsGranted, IsOfSome, IsPlainPass, HasRoom, IsPlainLook}

-- # What is shown

numbers_fit : (kept shown all lines limit : ℕ) → all ≡ kept + shown → all ≤ 2 * lines → 2 * lines ≤ limit → kept + shown ≤ limit
numbers_fit kept shown all lines limit is few within = omega (arith, is, few, within)

-- it begins in time, and so does the time from which its deadline counts
abbrev IsEarly : Job → Type 0
IsEarly job = (job.begin ≤ MAX_TIME) × (job.due_from ≤ MAX_TIME)

task_plain : (asked : Asked) (past : List Said) (boundary number : ℕ) (shown : ShownTask) → IsReached asked.to → first_fault asked past ≡ None →
    2 * length past ≤ MAX_U64 → IsShownTask (shares_of asked past number) asked past boundary number shown → IsPlainTask shown
task_plain asked past boundary number shown to sound few is =
    let all : All IsEarly (is.forgotten ++ map job_read shown.jobs.items) =
    subst (All IsEarly) is.jobs (shares_kept IsEarly (λ processor job early. early) asked past number (begins_in_time asked past number to sound)) in
    let shows : All (λ (job : JobKept). IsEarly (job_read job)) shown.jobs.items =
    All-map_back IsEarly job_read shown.jobs.items (All-back IsEarly is.forgotten (map job_read shown.jobs.items) all) in
    let many : length (jobs_of asked past number) ≡ shown.forgotten + length shown.jobs.items =
    sym (length-map (jobs_of asked past number) (share_of asked)) ∙ ap length is.jobs ∙ length-append is.forgotten (map job_read shown.jobs.items)
    ∙ ap (λ (n : ℕ). length is.forgotten + n) (length-map shown.jobs.items job_read) ∙ ap (λ (n : ℕ). n + length shown.jobs.items) (sym is.as_many) in
    record {
      begins = λ i d within. record { begin = (shows i d within).0; due_from = (shows i d within).1 };
      numbers = numbers_fit shown.forgotten (length shown.jobs.items) (length (jobs_of asked past number)) (length past) MAX_U64 many (jobs_few asked past number) few;
    }

-- what is shown of a pass
pub look_shown : (boundary : ℕ) (pass : Pass) (shown : Shown) → IsPlainPass boundary pass →
    ((words : Asked) (past : List Said) → IsAtBehind words past boundary pass → IsShown words past boundary shown) → IsPlainLook pass shown
look_shown boundary pass shown plain shows = record {
  number = plain.number;
  boundary = boundary;
  of_some = plain.of_some;
  few = plain.few;
  shows = shows plain.of_some.asked plain.of_some.past plain.of_some.stands;
}

granted_on : (asked : Asked) (processor : ℕ) → IsGranted asked → IsGranted (on processor asked)
granted_on asked processor granted = record {
  plain = record { has_unit = granted.plain.has_unit; has_speed_unit = granted.plain.has_speed_unit; deadlines = granted.plain.deadlines };
  within = record { deadlines = granted.within.deadlines };
  reached = granted.reached;
}

-- It is the same where the pass asks for another processor.
pub look_turned : (processor : ℕ) (old new : Pass) (shown : Shown) → IsPlainLook old shown →
    ((asked : Asked) (past : List Said) (boundary : ℕ) → IsAtBehind asked past boundary old → IsAtBehind (on processor asked) past boundary new) → IsPlainLook new shown
look_turned processor old new shown look turns =
    let some = look.of_some in
    record {
      number = look.number;
      boundary = look.boundary;
      of_some = record {
        asked = on processor some.asked;
        past = some.past;
        granted = granted_on some.asked processor some.granted;
        sound = first_fault_on some.asked processor some.past ∙ some.sound;
        stands = turns some.asked some.past look.boundary some.stands;
        as_many = some.as_many;
      };
      few = look.few;
      shows = shown_on some.asked processor some.past look.boundary look.boundary shown (le_refl look.boundary) look.shows;
    }

-- or may ask for another
pub look_moved : (old new : Pass) (shown : Shown) → IsPlainLook old shown →
    ((asked : Asked) (past : List Said) (boundary : ℕ) → IsAtBehind asked past boundary old → IsTurned asked past boundary new) → IsPlainLook new shown
look_moved old new shown look turns =
    let some = look.of_some in
    let turned : IsTurned some.asked some.past look.boundary new = turns some.asked some.past look.boundary some.stands in
    record {
      number = look.number;
      boundary = look.boundary;
      of_some = record {
        asked = on turned.processor some.asked;
        past = some.past;
        granted = granted_on some.asked turned.processor some.granted;
        sound = first_fault_on some.asked turned.processor some.past ∙ some.sound;
        stands = turned.stands;
        as_many = some.as_many;
      };
      few = look.few;
      shows = shown_on some.asked turned.processor some.past look.boundary look.boundary shown (le_refl look.boundary) look.shows;
    }

-- Where the jobs are shown as they are, these show them as the processor's documents have them.
abbrev pub Shares : AskedKept → Shown → Shown → Type 0
Shares asked shown shared = (past : List Said) (boundary : ℕ) → IsShown (asked_read asked) past boundary shown → IsShared (asked_read asked) past boundary shared

-- and they are what a part's calls need
pub look_plain : (asked : AskedKept) (pass : Pass) (shown shared : Shown) → IsPlainLook pass shown →
    ((words : Asked) (past : List Said) (boundary : ℕ) → IsAtBehind words past boundary pass → asked_read asked ≡ words) →
    Shares asked shown shared → IsPlainShown asked shared
look_plain asked pass shown shared look told shares =
    let some = look.of_some in
    let same : asked_read asked ≡ some.asked = told some.asked some.past look.boundary some.stands in
    let is : IsShared some.asked some.past look.boundary shared =
    subst (λ (words : Asked). IsShared words some.past look.boundary shared) same
    (shares some.past look.boundary (subst (λ (words : Asked). IsShown words some.past look.boundary shown) (sym same) look.shows)) in
    let few : 2 * length some.past ≤ MAX_U64 = omega (arith, some.as_many, look.few) in
    record {
      has_unit = subst (λ (a : Asked). 1 ≤ a.unit) (sym same) some.granted.plain.has_unit;
      has_speed_unit = subst (λ (a : Asked). 1 ≤ a.khz) (sym same) some.granted.plain.has_speed_unit;
      deadlines = All-map_back (λ (task : Task). task.deadline ≤ MAX_DEADLINE) task_read asked.tasks.items
          (subst (λ (a : Asked). All (λ (task : Task). task.deadline ≤ MAX_DEADLINE) a.tasks) (sym same) some.granted.within.deadlines);
      tasks = λ i d within. task_plain some.asked some.past look.boundary i (slice_index_or shared.tasks.items i d) some.granted.reached some.sound few
          (is.tasks i d (omega (arith, is.as_many, within)));
      of_each_task = is.as_many ∙ ap (λ (a : Asked). length a.tasks) (sym same) ∙ length-map asked.tasks.items task_read;
    }

-- # Shares

these_or : (own : Option (Bor Shown)) (shared : Option Shown) (shown : Bor Shown) → option_copied own ≡ shared → unwrap_or shared shown.now ≡ (unwrap_or own shown).now
these_or None shared shown is = ap (λ (one : Option Shown). unwrap_or one shown.now) (sym is)
these_or (Some own) shared shown is = ap (λ (one : Option Shown). unwrap_or one shown.now) (sym is)

-- these where there are any, or else the jobs
pub shares_or : (asked : AskedKept) (own : Option (Bor Shown)) (shared : Option Shown) (shown shares : Bor Shown) → option_copied own ≡ shared → shares ≡ unwrap_or own shown →
    Shares asked shown.now (unwrap_or shared shown.now) → Shares asked shown.now shares.now
shares_or asked own shared shown shares is chosen all = λ past boundary shows.
    subst (λ (one : Bor Shown). IsShared (asked_read asked) past boundary one.now) (sym chosen)
    (subst (λ (one : Shown). IsShared (asked_read asked) past boundary one) (these_or own shared shown is) (all past boundary shows))

-- of another processor, behind a later part
pub shared_on : (asked : Asked) (words : AskedKept) (processor : ℕ) (past : List Said) (boundary later : ℕ) (shown shared : Shown) → Shares words shown shared →
    asked_read words ≡ on processor asked → boundary ≤ later → IsShown asked past boundary shown → IsShared (asked_read words) past later shared
shared_on asked words processor past boundary later shown shared shares same behind shows =
    shares past later (subst (λ (one : Asked). IsShown one past later shown) (sym same) (shown_on asked processor past boundary later shown behind shows))

-- # Lines

number_none : (number : ℕ) (cause : Option Cause) → cause ≡ None → numbered number cause ≡ None
number_none number cause none = ap (numbered number) none

-- A line more is taken.
pub some_more : (number boundary : ℕ) (old new : Pass) (said : Said) → IsOfSome number boundary old →
    ((asked : Asked) (past : List Said) → IsAtBehind asked past boundary old → said_fault asked past said ≡ None) →
    ((asked : Asked) (past : List Said) → IsAtBehind asked past boundary old → IsAtBehind asked (said ∷ past) boundary new) → IsOfSome (number + 1) boundary new
some_more number boundary old new said some taken stands = record {
  asked = some.asked;
  past = said ∷ some.past;
  granted = some.granted;
  sound = ap (λ (fault : Option (ℕ × Cause)). or_else fault (numbered (length some.past + 1) (said_fault some.asked some.past said))) some.sound
      ∙ number_none (length some.past + 1) (said_fault some.asked some.past said) (taken some.asked some.past some.stands);
  stands = stands some.asked some.past some.stands;
  as_many = omega (arith, some.as_many);
}

-- Where it wasn't refused, a part can be looked for.
pub room_taken : (boundary : ℕ) (old new : Pass) (said : Said) → HasRoom boundary old →
    ((asked : Asked) (past : List Said) → IsAtBehind asked past boundary old → said_fault asked past said ≡ None) →
    ((asked : Asked) (past : List Said) → IsAtBehind asked past boundary old → IsAtBehind asked (said ∷ past) boundary new) → IsPlainPass boundary new
room_taken boundary old new said room sound stands = record {
  number = room.number + 1;
  of_some = some_more room.number boundary old new said room.of_some sound stands;
  few = omega (arith, room.room);
}
