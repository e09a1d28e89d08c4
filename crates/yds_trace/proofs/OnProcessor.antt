-- What is known of the tasks doesn't depend on the processor that is asked for: only why a job isn't written as it stands does.
use Rattle.base.proofs.Common.{◌≡◌, ◌∙◌, ℕ, zero, suc, ◌+◌, ◌<◌, ◌≤◌, List, [], ◌∷◌, reverse, length, filter, Bool, true, false, not, ◌&&◌, ◌||◌, nat_lt, nat_le, if◌then◌else◌, Option, Some, None, is_some, unwrap_or, All-weaker, fun_ext, refl, sym, ap, ap₂, arith, ltb-false, le-ltb}
use Rattle.yds_kernel.specs.Parts.{or_else, capped}
use Rattle.yds_kernel.specs.Event.{Thread, Happening, Switch, WakeUp, Speed, Loss, Marker, Other, Event, Said, Stamped, Lost, Nothing}
use Rattle.yds_trace.specs.declared.counted.Counted.{Counted}
use Rattle.yds_trace.specs.declared.cut.Cut.{Cut}
use Rattle.yds_trace.specs.declared.fault.Cause.{Cause}
use Rattle.yds_trace.specs.declared.fault.Cause.TheVariants as causes
use Rattle.yds_trace.specs.declared.followed.Followed.{Followed}
use Rattle.yds_trace.specs.declared.limits.TheConstants.{MAX_TOUCHES}
use Rattle.yds_trace.specs.declared.lines.Lines.{Lines}
use Rattle.yds_trace.specs.declared.others.Others.{Others as OthersKept}
use Rattle.yds_trace.specs.declared.shown.Shown.{Shown}
use Rattle.yds_trace.specs.declared.shown.ShownTask.{ShownTask}
use Rattle.yds_trace.specs.Asked.{Task, Asked, on, task_at, task_of, is_number, is_before_to, is_behind_from}
use Rattle.yds_trace.specs.Past.{processor_count, last_time, lost_since, is_loss, has_switched, is_first_switch, up_to, who_has}
use Rattle.yds_kernel.specs.declared.loss.Since.TheVariants as since
use Rattle.yds_trace.specs.Jobs.{Job, Known, stands_on, leaving_at, missing_of, after_event, loses, all_known, known_after}
use Rattle.yds_trace.specs.Late.{last_asked}
use Rattle.yds_trace.specs.Document.{Judged, closed, jobs_of, began_before}
use Rattle.yds_trace.specs.Faults.{pid_in, pid_before, is_another, is_another_thread, is_two_tasks, has_exited, is_over, has_number, is_renamed, thread_fault, first_thread_fault, state_fault, is_unwoken, needs_wake_ups, unwoken_fault, both_fault, happening_fault, is_torn, stamped_fault, place_fault, runs_on, touches, touched, length_fault, said_fault, numbered, first_fault, lost_just_before, is_behind_loss, missing_in, missing_stayed, missing_stayed, missing_at, loss_fault, threads_fault}
use Rattle.yds_trace.specs.Parts.{reaches_back, reaches_back_so, was_there_before, sleeps_before, woken_before, came_before, wakes_at, leaves_at, came_back, changes_parts}
use Rattle.yds_trace.specs.Kept.{IsFollowed, AreOthers, IsCounted, IsTallied, IsLines}
use Rattle.yds_trace.specs.Tally.{one_more, losses_before, silence_on, longer_silence, silence_below, tally_of}
use Rattle.yds_trace.specs.declared.tally.Tally.{Tally}
use Rattle.yds_trace.specs.declared.tally.Silence.{Silence}
use Rattle.yds_trace.specs.Others.{Span, Spans, is_waiting, one_waits, any_waits, other_of, in_the_way, ended_at, spans_by, spans_after, spans_on, others_of, goes_behind, others_from}
use Rattle.yds_trace.specs.Shown.{IsShownTask, IsShown}

-- # Jobs

pub known_after_on : (asked : Asked) (processor number : ℕ) (past : List Said) → known_after (on processor asked) number past ≡ known_after asked number past
known_after_on asked processor number [] = refl
known_after_on asked processor number (Stamped event ∷ past) =
    ap (after_event asked number past event event.happening) (fun_ext (λ (other : ℕ). known_after_on asked processor other past))
known_after_on asked processor number (Lost other reach ∷ past) = ap (loses _) (known_after_on asked processor number past)
known_after_on asked processor number (Nothing ∷ past) = known_after_on asked processor number past

-- the same of all tasks
pub all_known_on : (asked : Asked) (processor : ℕ) (past : List Said) → all_known (on processor asked) past ≡ all_known asked past
all_known_on asked processor past = fun_ext (λ (number : ℕ). known_after_on asked processor number past)

pub jobs_of_on : (asked : Asked) (processor : ℕ) (past : List Said) (number : ℕ) → jobs_of (on processor asked) past number ≡ jobs_of asked past number
jobs_of_on asked processor past number =
    ap (λ (known : Known). reverse (closed asked past known)) (known_after_on asked processor number (up_to asked.to past))

-- # Who was in the way

one_waits_on : (asked : Asked) (processor : ℕ) (past : List Said) (number : ℕ) (tasks : List Task) →
    one_waits (on processor asked) past number tasks ≡ one_waits asked past number tasks
one_waits_on asked processor past number [] = refl
one_waits_on asked processor past number (task ∷ tasks) =
    ap₂ (λ (here rest : Bool). here || rest) (ap is_waiting (known_after_on asked processor number past)) (one_waits_on asked processor past (number + 1) tasks)

pub any_waits_on : (asked : Asked) (processor : ℕ) (past : List Said) → any_waits (on processor asked) past ≡ any_waits asked past
any_waits_on asked processor past = one_waits_on asked processor past 0 asked.tasks

in_the_way_on : (asked : Asked) (processor there : ℕ) (past : List Said) → in_the_way (on processor asked) there past ≡ in_the_way asked there past
in_the_way_on asked processor there past =
    ap {B = Option Thread} (λ (waits : Bool). if waits then other_of asked.tasks (who_has there past) else None) (any_waits_on asked processor past)

pub spans_after_on : (asked : Asked) (processor there : ℕ) (past : List Said) → spans_after (on processor asked) there past ≡ spans_after asked there past
spans_after_on asked processor there [] = refl
spans_after_on asked processor there (Stamped event ∷ past) =
    ap₂ (spans_by event.time) (in_the_way_on asked processor there (Stamped event ∷ past)) (spans_after_on asked processor there past)
spans_after_on asked processor there (Lost other reach ∷ past) = ap (spans_by (last_time past) None) (spans_after_on asked processor there past)
spans_after_on asked processor there (Nothing ∷ past) = spans_after_on asked processor there past

others_on : (asked : Asked) (processor : ℕ) (past : List Said) (others : Option ℕ) →
    (elim others as (λ _. List Span) [ None ↦ [] | Some there ↦ spans_on (on processor asked) past there ])
    ≡ (elim others as (λ _. List Span) [ None ↦ [] | Some there ↦ spans_on asked past there ])
others_on asked processor past None = refl
others_on asked processor past (Some there) =
    ap (λ (spans : Spans). reverse (ended_at (last_asked asked past) spans)) (spans_after_on asked processor there (up_to asked.to past))

pub others_of_on : (asked : Asked) (processor : ℕ) (past : List Said) → others_of (on processor asked) past ≡ others_of asked past
others_of_on asked processor past = others_on asked processor past asked.others

pub others_from_on : (asked : Asked) (processor : ℕ) (past : List Said) (boundary : ℕ) → others_from (on processor asked) past boundary ≡ others_from asked past boundary
others_from_on asked processor past boundary = ap (filter (goes_behind boundary)) (others_of_on asked processor past)

-- Who goes on behind a time is among those that go on behind an earlier one.
later_of : (boundary later : ℕ) (b : Bool) (span : Span) (spans : List Span) → nat_lt boundary span.to ≡ b → boundary ≤ later →
    filter (goes_behind later) (if b then span ∷ filter (goes_behind boundary) spans else filter (goes_behind boundary) spans)
    ≡ (if nat_lt later span.to then span ∷ filter (goes_behind later) (filter (goes_behind boundary) spans) else filter (goes_behind later) (filter (goes_behind boundary) spans))
later_of boundary later true span spans so within = refl
later_of boundary later false span spans so within =
    let ends : span.to ≤ boundary = ltb-false boundary span.to so in
    let before : span.to ≤ later = omega arith in
    rw (le-ltb later span.to before)

behind_later : (boundary later : ℕ) (spans : List Span) → boundary ≤ later → filter (goes_behind later) (filter (goes_behind boundary) spans) ≡ filter (goes_behind later) spans
behind_later boundary later [] within = refl
behind_later boundary later (span ∷ spans) within =
    later_of boundary later (nat_lt boundary span.to) span spans refl within
    ∙ ap (λ (rest : List Span). if nat_lt later span.to then span ∷ rest else rest) (behind_later boundary later spans within)

pub others_shown_on : (asked : Asked) (processor : ℕ) (past : List Said) (boundary later : ℕ) (spans : List Span) → boundary ≤ later →
    filter (goes_behind boundary) spans ≡ others_from asked past boundary → filter (goes_behind later) spans ≡ others_from (on processor asked) past later
others_shown_on asked processor past boundary later spans within is =
    sym (behind_later boundary later spans within)
    ∙ ap (filter (goes_behind later)) is
    ∙ behind_later boundary later (others_of asked past) within
    ∙ sym (others_from_on asked processor past later)

-- # Lines that tell of the tasks

pub pid_before_on : (asked : Asked) (processor number : ℕ) (past : List Said) → pid_before (on processor asked) number past ≡ pid_before asked number past
pid_before_on asked processor number [] = refl
pid_before_on asked processor number (Stamped event ∷ past) =
    ap (λ (pid : Option ℕ). or_else (pid_in asked number event.happening) pid) (pid_before_on asked processor number past)
pid_before_on asked processor number (Lost other reach ∷ past) = pid_before_on asked processor number past
pid_before_on asked processor number (Nothing ∷ past) = pid_before_on asked processor number past

runs_on_on : (asked : Asked) (processor : ℕ) (past : List Said) (there number : ℕ) (tasks : List Task) →
    runs_on (on processor asked) past there number tasks ≡ runs_on asked past there number tasks
runs_on_on asked processor past there number [] = refl
runs_on_on asked processor past there number (task ∷ tasks) =
    ap₂ (λ (here rest : Bool). here || rest) (ap (λ (known : Known). stands_on there known.on) (known_after_on asked processor number past))
    (runs_on_on asked processor past there (number + 1) tasks)

touches_on : (asked : Asked) (processor : ℕ) (past : List Said) (happening : Happening) →
    touches (on processor asked) past happening ≡ touches asked past happening
touches_on asked processor past (Switch previous state next) =
    ap (λ (waits : Bool). is_some (task_of asked.tasks previous) || is_some (task_of asked.tasks next) || (is_some asked.others && waits)) (any_waits_on asked processor past)
touches_on asked processor past (WakeUp thread starts) = refl
touches_on asked processor past (Speed there khz) = runs_on_on asked processor past there 0 asked.tasks
touches_on asked processor past Loss = refl
touches_on asked processor past Marker = refl
touches_on asked processor past Other = refl

pub touched_on : (asked : Asked) (processor : ℕ) (past : List Said) → touched (on processor asked) past ≡ touched asked past
touched_on asked processor [] = refl
touched_on asked processor (Stamped event ∷ past) =
    ap₂ (λ (touch : Bool) (n : ℕ). if touch then suc n else n) (touches_on asked processor past event.happening) (touched_on asked processor past)
touched_on asked processor (Lost other reach ∷ past) = touched_on asked processor past
touched_on asked processor (Nothing ∷ past) = touched_on asked processor past

-- # Faults

another_on : (asked : Asked) (processor : ℕ) (counting : List Said) (pid : ℕ) (found : Option ℕ) →
    (elim found as (λ _. Bool) [ None ↦ false | Some number ↦ is_another pid (pid_before (on processor asked) number counting) ])
    ≡ (elim found as (λ _. Bool) [ None ↦ false | Some number ↦ is_another pid (pid_before asked number counting) ])
another_on asked processor counting pid None = refl
another_on asked processor counting pid (Some number) = ap (is_another pid) (pid_before_on asked processor number counting)

over_on : (asked : Asked) (processor : ℕ) (counting : List Said) (found : Option ℕ) →
    (elim found as (λ _. Bool) [ None ↦ false | Some number ↦ has_exited (known_after (on processor asked) number counting).jobs ])
    ≡ (elim found as (λ _. Bool) [ None ↦ false | Some number ↦ has_exited (known_after asked number counting).jobs ])
over_on asked processor counting None = refl
over_on asked processor counting (Some number) = ap (λ (known : Known). has_exited known.jobs) (known_after_on asked processor number counting)

same_on : (asked : Asked) (processor : ℕ) (counting : List Said) (pid : ℕ) (found : Option ℕ) →
    (elim found as (λ _. Bool) [ None ↦ false | Some number ↦ is_number pid (pid_before (on processor asked) number counting) ])
    ≡ (elim found as (λ _. Bool) [ None ↦ false | Some number ↦ is_number pid (pid_before asked number counting) ])
same_on asked processor counting pid None = refl
same_on asked processor counting pid (Some number) = ap (is_number pid) (pid_before_on asked processor number counting)

numbers_on : (asked : Asked) (processor : ℕ) (counting : List Said) (pid number : ℕ) (tasks : List Task) →
    has_number (on processor asked) counting pid number tasks ≡ has_number asked counting pid number tasks
numbers_on asked processor counting pid number [] = refl
numbers_on asked processor counting pid number (task ∷ tasks) =
    ap₂ (λ (here rest : Bool). here || rest) (ap (is_number pid) (pid_before_on asked processor number counting))
    (numbers_on asked processor counting pid (number + 1) tasks)

renamed_on : (asked : Asked) (processor : ℕ) (counting : List Said) (thread : Thread) →
    is_renamed (on processor asked) counting thread ≡ is_renamed asked counting thread
renamed_on asked processor counting thread =
    ap₂ (λ (same has : Bool). not same && has) (same_on asked processor counting thread.pid (task_of asked.tasks thread))
    (numbers_on asked processor counting thread.pid 0 asked.tasks)

unwoken_on : (asked : Asked) (processor : ℕ) (counting : List Said) (found : Option ℕ) →
    (elim found as (λ _. Option Cause) [ None ↦ None | Some number ↦ if needs_wake_ups asked && is_unwoken (known_after (on processor asked) number counting) then Some causes.NotWoken else None ])
    ≡ (elim found as (λ _. Option Cause) [ None ↦ None | Some number ↦ if needs_wake_ups asked && is_unwoken (known_after asked number counting) then Some causes.NotWoken else None ])
unwoken_on asked processor counting None = refl
unwoken_on asked processor counting (Some number) =
    ap {B = Option Cause} (λ (known : Known). if needs_wake_ups asked && is_unwoken known then Some causes.NotWoken else None)
    (known_after_on asked processor number counting)

thread_fault_on : (asked : Asked) (processor : ℕ) (counting : List Said) (thread : Thread) →
    thread_fault (on processor asked) counting thread ≡ thread_fault asked counting thread
thread_fault_on asked processor counting thread =
    ap₂ {C = Option Cause} (λ (another over : Bool). if is_two_tasks asked.tasks thread then Some causes.TwoTasks
    else (if another then Some causes.TwoThreads else (if over then Some causes.Exited
    else (if is_renamed (on processor asked) counting thread then Some causes.Renamed else None))))
    (another_on asked processor counting thread.pid (task_of asked.tasks thread)) (over_on asked processor counting (task_of asked.tasks thread))
    ∙ ap {B = Option Cause} (λ (renamed : Bool). if is_two_tasks asked.tasks thread then Some causes.TwoTasks
    else (if is_another_thread asked counting thread then Some causes.TwoThreads
    else (if is_over asked counting thread then Some causes.Exited else (if renamed then Some causes.Renamed else None))))
    (renamed_on asked processor counting thread)

first_thread_fault_on : (asked : Asked) (processor : ℕ) (counting : List Said) (happening : Happening) →
    first_thread_fault (on processor asked) counting happening ≡ first_thread_fault asked counting happening
first_thread_fault_on asked processor counting (Switch previous state next) = thread_fault_on asked processor counting previous
first_thread_fault_on asked processor counting (WakeUp thread starts) = refl
first_thread_fault_on asked processor counting (Speed there khz) = refl
first_thread_fault_on asked processor counting Loss = refl
first_thread_fault_on asked processor counting Marker = refl
first_thread_fault_on asked processor counting Other = refl

happening_fault_on : (asked : Asked) (processor : ℕ) (counting : List Said) (happening : Happening) →
    happening_fault (on processor asked) counting happening ≡ happening_fault asked counting happening
happening_fault_on asked processor counting (Switch previous state next) =
    ap₂ (λ (left came : Option Cause). or_else left (or_else (state_fault asked previous state)
    (or_else came (or_else (both_fault asked previous next) (unwoken_fault (on processor asked) counting next)))))
    (thread_fault_on asked processor counting previous) (thread_fault_on asked processor counting next)
    ∙ ap (λ (unwoken : Option Cause). or_else (thread_fault asked counting previous) (or_else (state_fault asked previous state)
    (or_else (thread_fault asked counting next) (or_else (both_fault asked previous next) unwoken))))
    (unwoken_on asked processor counting (task_of asked.tasks next))
happening_fault_on asked processor counting (WakeUp thread starts) = thread_fault_on asked processor counting thread
happening_fault_on asked processor counting (Speed there khz) = refl
happening_fault_on asked processor counting Loss = refl
happening_fault_on asked processor counting Marker = refl
happening_fault_on asked processor counting Other = refl

missing_in_on : (asked : Asked) (processor : ℕ) (counting : List Said) (event : Event) (happening : Happening) →
    missing_in (on processor asked) counting event happening ≡ missing_in asked counting event happening
missing_in_on asked processor counting event (Switch previous state next) =
    ap (λ (known : ℕ → Known). missing_of asked previous next (leaving_at asked counting event previous) known 0 asked.tasks) (all_known_on asked processor counting)
missing_in_on asked processor counting event (WakeUp thread starts) = refl
missing_in_on asked processor counting event (Speed there khz) = refl
missing_in_on asked processor counting event Loss = refl
missing_in_on asked processor counting event Marker = refl
missing_in_on asked processor counting event Other = refl

missing_stayed_on : (asked : Asked) (processor to : ℕ) (counting : List Said) (event : Event) (happening : Happening) →
    missing_stayed (on processor asked) to counting event happening ≡ missing_stayed asked to counting event happening
missing_stayed_on asked processor to counting event (Switch previous state next) =
    ap {B = Option ℕ} (λ (known : ℕ → Known). if has_switched event.processor counting then None
    else missing_of asked previous previous (leaving_at asked counting (record event { time = to }) previous) known 0 asked.tasks) (all_known_on asked processor counting)
missing_stayed_on asked processor to counting event (WakeUp thread starts) = refl
missing_stayed_on asked processor to counting event (Speed there khz) = refl
missing_stayed_on asked processor to counting event Loss = refl
missing_stayed_on asked processor to counting event Marker = refl
missing_stayed_on asked processor to counting event Other = refl

pub missing_at_on : (asked : Asked) (processor : ℕ) (past : List Said) (event : Event) → missing_at (on processor asked) past event ≡ missing_at asked past event
missing_at_on asked processor past event =
    ap₂ {C = Option ℕ} (λ (missing stayed : Option ℕ). if is_before_to asked.to event.time then missing else stayed)
    (missing_in_on asked processor (up_to asked.to past) event event.happening)
    (missing_stayed_on asked processor (unwrap_or asked.to event.time) (up_to asked.to past) event event.happening)

loss_fault_on : (asked : Asked) (processor : ℕ) (past : List Said) (event : Event) → loss_fault (on processor asked) past event ≡ loss_fault asked past event
loss_fault_on asked processor past event =
    ap {B = Option Cause} (λ (missing : Option ℕ). if is_torn asked past event then Some causes.EventsLost
    else (if not asked.cut_losses && (is_some missing && is_behind_from asked.from event.time) then Some causes.LineMissing else None))
    (missing_at_on asked processor past event)

stamped_fault_on : (asked : Asked) (processor : ℕ) (past : List Said) (event : Event) → stamped_fault (on processor asked) past event ≡ stamped_fault asked past event
stamped_fault_on asked processor past event =
    ap₂ {C = Option Cause} (λ (before stayed : Option Cause). or_else (place_fault event) (or_else
    (if is_before_to asked.to event.time then (if nat_lt event.time (last_time past) then Some causes.TimeGoesBack else before)
    else (if is_first_switch event (up_to asked.to past) then stayed else None))
    (loss_fault (on processor asked) past event)))
    (happening_fault_on asked processor (up_to asked.to past) event.happening) (first_thread_fault_on asked processor (up_to asked.to past) event.happening)
    ∙ ap (λ (loss : Option Cause). or_else (place_fault event) (or_else (threads_fault asked past event) loss)) (loss_fault_on asked processor past event)

-- # What is counted

losses_before_on : (asked : Asked) (processor : ℕ) (past : List Said) → losses_before (on processor asked) past ≡ losses_before asked past
losses_before_on asked processor [] = refl
losses_before_on asked processor (Stamped event ∷ past) =
    ap₂ (λ (missing : Option ℕ) (n : ℕ). one_more (is_behind_loss asked.from asked.to past event || (is_some missing && is_behind_from asked.from event.time)) n)
    (missing_at_on asked processor past event) (losses_before_on asked processor past)
losses_before_on asked processor (Lost other reach ∷ past) = losses_before_on asked processor past
losses_before_on asked processor (Nothing ∷ past) = losses_before_on asked processor past

silence_below_on : (asked : Asked) (processor : ℕ) (past : List Said) (n : ℕ) → silence_below (on processor asked) past n ≡ silence_below asked past n
silence_below_on asked processor past zero = refl
silence_below_on asked processor past (suc n) =
    ap (λ (before : Silence). longer_silence before (silence_on asked past n)) (silence_below_on asked processor past n)

tally_on : (asked : Asked) (processor : ℕ) (past : List Said) → tally_of (on processor asked) past ≡ tally_of asked past
tally_on asked processor past =
    ap₂ (λ (losses : ℕ) (silence : Silence). record (tally_of asked past) { losses = capped (one_more (lost_just_before asked.to past) losses); silence = silence })
    (losses_before_on asked processor past) (silence_below_on asked processor past (processor_count past))

tallied_on : (asked : Asked) (processor : ℕ) (past : List Said) (tally : Tally) → IsTallied asked past tally → IsTallied (on processor asked) past tally
tallied_on asked processor past tally is = record {
  losses = is.losses ∙ ap capped (sym (losses_before_on asked processor past));
  missing = is.missing;
  markers = is.markers;
  pause = is.pause;
}

length_fault_on : (asked : Asked) (processor : ℕ) (lines : List Said) → length_fault (on processor asked) lines ≡ length_fault asked lines
length_fault_on asked processor lines =
    ap {B = Option Cause} (λ (n : ℕ). if asked.in_parts then None else (if nat_lt MAX_TOUCHES n then Some causes.TooLong else None))
    (touched_on asked processor (up_to asked.to lines))

pub said_fault_on : (asked : Asked) (processor : ℕ) (past : List Said) (said : Said) → said_fault (on processor asked) past said ≡ said_fault asked past said
said_fault_on asked processor past (Stamped event) =
    ap₂ (λ (stamped long : Option Cause). or_else stamped long) (stamped_fault_on asked processor past event) (length_fault_on asked processor (Stamped event ∷ past))
said_fault_on asked processor past (Lost other reach) = refl
said_fault_on asked processor past Nothing = refl

pub first_fault_on : (asked : Asked) (processor : ℕ) (past : List Said) → first_fault (on processor asked) past ≡ first_fault asked past
first_fault_on asked processor [] = refl
first_fault_on asked processor (said ∷ past) =
    ap₂ (λ before (fault : Option Cause). or_else before (numbered (length past + 1) fault)) (first_fault_on asked processor past)
    (said_fault_on asked processor past said)

so_on : (asked : Asked) (processor : ℕ) (past : List Said) (test : Known → Bool) (found : Option ℕ) →
    (elim found as (λ _. Bool) [ None ↦ false | Some number ↦ test (known_after (on processor asked) number (up_to asked.to past)) ])
    ≡ (elim found as (λ _. Bool) [ None ↦ false | Some number ↦ test (known_after asked number (up_to asked.to past)) ])
so_on asked processor past test None = refl
so_on asked processor past test (Some number) = ap test (known_after_on asked processor number (up_to asked.to past))

came_back_on : (asked : Asked) (processor : ℕ) (past : List Said) (cut : Cut) (event : Event) (happening : Happening) →
    came_back (on processor asked) past cut event happening ≡ came_back asked past cut event happening
came_back_on asked processor past cut event (Switch previous state next) =
    ap₂ (λ (back so : Bool). (leaves_at asked past event && back) || (wakes_at asked event && so)) (so_on asked processor past (came_before cut.boundary) (task_of asked.tasks previous))
    (so_on asked processor past (sleeps_before cut.boundary) (task_of asked.tasks next))
came_back_on asked processor past cut event (WakeUp thread starts) =
    ap (λ (so : Bool). wakes_at asked event && (not starts && so)) (so_on asked processor past (woken_before cut.boundary) (task_of asked.tasks thread))
came_back_on asked processor past cut event (Speed there khz) = refl
came_back_on asked processor past cut event Loss = refl
came_back_on asked processor past cut event Marker = refl
came_back_on asked processor past cut event Other = refl

pub changes_parts_on : (asked : Asked) (processor : ℕ) (past : List Said) (cut : Cut) (said : Said) →
    changes_parts (on processor asked) past cut said ≡ changes_parts asked past cut said
changes_parts_on asked processor past cut (Stamped event) =
    ap₂ (λ (missing : Option ℕ) (back : Bool). (is_loss event.happening && reaches_back cut (lost_since event.processor since.ItsLastLine past))
    || (reaches_back_so cut missing || (was_there_before asked past cut event event.happening || back)))
    (missing_at_on asked processor past event) (came_back_on asked processor past cut event event.happening)
changes_parts_on asked processor past cut (Lost other reach) = refl
changes_parts_on asked processor past cut Nothing = refl

-- # What a pass keeps, and what it shows

followed_on : (asked : Asked) (processor : ℕ) (counting : List Said) (boundary number : ℕ) (followed : Followed) →
    IsFollowed asked counting boundary number followed → IsFollowed (on processor asked) counting boundary number followed
followed_on asked processor counting boundary number followed is = record {
  forgotten = is.forgotten;
  known = is.known ∙ sym (known_after_on asked processor number counting);
  last = is.last;
  are_forgotten = is.are_forgotten;
  pid = is.pid ∙ sym (pid_before_on asked processor number counting);
}

others_kept_on : (asked : Asked) (processor : ℕ) (counting : List Said) (boundary : ℕ) (kept : OthersKept) (others : Option ℕ) →
    (elim others as (λ _. Type 0) [ None ↦ Unit {0} | Some there ↦ AreOthers asked counting boundary there kept ]) →
    (elim others as (λ _. Type 0) [ None ↦ Unit {0} | Some there ↦ AreOthers (on processor asked) counting boundary there kept ])
others_kept_on asked processor counting boundary kept None is = tt
others_kept_on asked processor counting boundary kept (Some there) is = record {
  holder = is.holder;
  going = is.going ∙ ap (λ (spans : Spans). spans.going) (sym (spans_after_on asked processor there counting));
  forgotten = is.forgotten;
  spans = ap (λ (spans : Spans). reverse spans.ended) (spans_after_on asked processor there counting) ∙ is.spans;
  earlier = is.earlier;
}

pub counted_on : (asked : Asked) (processor : ℕ) (counting : List Said) (counted : Counted) → IsCounted asked counting counted → IsCounted (on processor asked) counting counted
counted_on asked processor counting counted is = record {
  times = is.times;
  came = is.came;
  as_many = is.as_many;
  tasks = λ number default within. followed_on asked processor counting counted.boundary number _ (is.tasks number default within);
  others = others_kept_on asked processor counting counted.boundary counted.others asked.others is.others;
  touched = λ alone. is.touched alone ∙ sym (touched_on asked processor counting);
  few = is.few;
}

pub lines_on : (asked : Asked) (processor : ℕ) (past : List Said) (lines : Lines) → IsLines asked past lines → IsLines (on processor asked) past lines
lines_on asked processor past lines is = record {
  times = is.times;
  lost = is.lost;
  as_many = is.as_many;
  came = is.came;
  tallied = tallied_on asked processor past lines.tallied is.tallied;
  seen = λ number within. is.seen number within ∙ ap is_some (sym (pid_before_on asked processor number past));
}

shown_task_on : (asked : Asked) (processor : ℕ) (past : List Said) (boundary later number : ℕ) (shown : ShownTask) → boundary ≤ later →
    IsShownTask (jobs_of asked past number) asked past boundary number shown →
    IsShownTask (jobs_of (on processor asked) past number) (on processor asked) past later number shown
shown_task_on asked processor past boundary later number shown within is = record {
  forgotten = is.forgotten;
  jobs = jobs_of_on asked processor past number ∙ is.jobs;
  earlier = All-weaker (λ (job : Job). job.begin < boundary) (λ (job : Job). job.begin < later) (λ job early. omega (arith, early, within)) is.forgotten is.earlier;
  as_many = is.as_many;
  before = is.before ∙ ap began_before (sym (jobs_of_on asked processor past number));
}

-- What is shown serves for another processor, and for a later boundary.
pub shown_on : (asked : Asked) (processor : ℕ) (past : List Said) (boundary later : ℕ) (shown : Shown) → boundary ≤ later → IsShown asked past boundary shown →
    IsShown (on processor asked) past later shown
shown_on asked processor past boundary later shown within is = record {
  as_many = is.as_many;
  tasks = λ number default inside. shown_task_on asked processor past boundary later number _ within (is.tasks number default inside);
  others = others_shown_on asked processor past boundary later _ within is.others;
  first = is.first;
  last = is.last;
  tally = is.tally ∙ sym (tally_on asked processor past);
}
