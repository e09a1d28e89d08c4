-- What is known of each task behind one more line that counts.
use Rattle.base.proofs.Common.{◌≡◌, ◌∙◌, ℕ, suc, ◌+◌, ◌<◌, ◌≤◌, List, [], ◌∷◌, ◌++◌, map, reverse, length, get_or, Bool, true, false, not, ◌||◌, ◌&&◌, if◌then◌else◌, Option, Some, None, is_some, is_none, list_any, refl, sym, ap, ap₂, arith, lt-ltb, le-ltb, subst}
use Rattle.yds_kernel.specs.declared.loss.Since.{Since}
use Rattle.yds_kernel.specs.Parts.{or_else}
use Rattle.yds_kernel.specs.Event.{Thread, Happening, Switch, WakeUp, Speed, Loss, Marker, Other, Event, Said, Stamped, Lost}
use Rattle.yds_trace.specs.declared.limits.TheConstants.{MAX_TOUCHES}
use Rattle.yds_trace.specs.declared.fault.Cause.{Cause}
use Rattle.yds_trace.specs.declared.fault.Cause.TheVariants as causes
use Rattle.yds_trace.specs.declared.followed.Followed.{Followed}
use Rattle.yds_trace.specs.declared.job.Standing.{Standing}
use Rattle.yds_trace.specs.declared.job.Woken.{Woken}
use Rattle.yds_trace.specs.declared.step.Step.{Step}
use Rattle.yds_trace.specs.declared.step.Whose.{Whose}
use Rattle.yds_trace.specs.declared.job.Leaving.{Leaving}
use Rattle.yds_trace.specs.declared.job.Pace.{Pace}
use Rattle.yds_trace.specs.Asked.{Task, Asked, task_at, task_of, pace_of, is_number}
use Rattle.yds_trace.specs.Jobs.{Job, Known, lost_job, loses, stands_on, leaving_at, earlier, missing_since, missing_of, after_switch, wakes_up, after_event, all_known, known_after}
use Rattle.yds_trace.specs.Past.{lost_since}
use Rattle.yds_trace.specs.Others.{is_waiting, one_waits, any_waits}
use Rattle.yds_trace.specs.Faults.{pid_in, pid_before, has_number, runs_on, touches, touched, touched_fault, counted_fault}
use Rattle.yds_trace.specs.Steps.{step_in, step_of, stepped, whose, first_in, second_in, pid_of}
use Rattle.yds_trace.specs.Following.{IsTaken, IsLost, some_waits, missing_among, touches_by}
use Rattle.yds_trace.specs.Kept.{behind, KeepsLast, IsFollowed}
use Rattle.yds_trace.specs.Views.{jobs_listed, known_read}
use Rattle.yds_trace.proofs.Behind.{IsBehind, open_behind, forgotten_after, stepped_behind, lost_behind, forgotten_reverse, forgotten_kept, are_forgotten_after, lost_are_forgotten}
use Rattle.yds_trace.proofs.Listed.{map_reverse}

-- # A task

is_some_if : (b : Bool) (x : ℕ) → is_some (if b then Some x else None) ≡ b
is_some_if true x = refl
is_some_if false x = refl

abbrev pub wakes_of : Asked → Bool
wakes_of asked = not asked.begin_at_run

-- An event is to a task what it is to all, by who leaves, comes or is woken.
stepped_is : (asked : Asked) (number : ℕ) (past : List Said) (event : Event) (happening : Happening) (known : ℕ → Known) →
    stepped (pace_of (task_at asked number)) (wakes_of asked) (is_some (pid_of number (first_in asked.tasks happening)))
    (is_some (pid_of number (second_in asked.tasks happening))) (step_in asked past event known happening) (known number)
    ≡ after_event asked number past event happening known
stepped_is asked number past event (Switch previous state next) known =
    ap₂ (λ (left came : Bool). after_switch (pace_of (task_at asked number)) (wakes_of asked) left came state (leaving_at asked past event previous)
    (missing_of asked previous next (leaving_at asked past event previous) known 0 asked.tasks) (known number))
    (is_some_if (is_number number (task_of asked.tasks previous)) previous.pid) (is_some_if (is_number number (task_of asked.tasks next)) next.pid)
stepped_is asked number past event (WakeUp thread starts) known =
    ap (λ (mine : Bool). if mine && wakes_of asked then wakes_up (pace_of (task_at asked number)) starts event.time (known number) else known number)
    (is_some_if (is_number number (task_of asked.tasks thread)) thread.pid)
stepped_is asked number past event (Speed processor khz) known = refl
stepped_is asked number past event Loss known = refl
stepped_is asked number past event Marker known = refl
stepped_is asked number past event Other known = refl

or_else_assoc : (a b c : Option ℕ) → or_else a (or_else b c) ≡ or_else (or_else a b) c
or_else_assoc None b c = refl
or_else_assoc (Some x) b c = refl

pid_is : (asked : Asked) (number : ℕ) (happening : Happening) (before : Option ℕ) →
    or_else (pid_of number (second_in asked.tasks happening)) (or_else (pid_of number (first_in asked.tasks happening)) before)
    ≡ or_else (pid_in asked number happening) before
pid_is asked number (Switch previous state next) before = or_else_assoc _ _ before
pid_is asked number (WakeUp thread starts) before = refl
pid_is asked number (Speed processor khz) before = refl
pid_is asked number Loss before = refl
pid_is asked number Marker before = refl
pid_is asked number Other before = refl

pub followed_more : (asked : Asked) (counting : List Said) (event : Event) (boundary number : ℕ) (was now : Followed) (first second : Whose) (step : Step) →
    first ≡ first_in asked.tasks event.happening → second ≡ second_in asked.tasks event.happening → step ≡ step_of asked counting event →
    IsFollowed asked counting boundary number was →
    IsTaken (pace_of (task_at asked number)) (wakes_of asked) (pid_of number first) (pid_of number second) step was now →
    IsFollowed asked (Stamped event ∷ counting) boundary number now
followed_more asked counting event boundary number was now first second step first_is second_is step_is before taken =
    let a : Pace = pace_of (task_at asked number) in
    let w : Bool = wakes_of asked in
    let one : Whose = first_in asked.tasks event.happening in
    let other : Whose = second_in asked.tasks event.happening in
    let whole : Known = behind (reverse before.forgotten) (known_read was.known) in
    let left : Bool = is_some (pid_of number first) in
    let came : Bool = is_some (pid_of number second) in
    let on : Option Standing = was.known.on in
    let next : List Job = forgotten_after left came step on before.forgotten in
    let same : forgotten_after left came step on (reverse before.forgotten) ≡ reverse next = forgotten_reverse left came step on before.forgotten in
    let after : Known = stepped a w left came step (known_read was.known) in
    let split : IsBehind (forgotten_after left came step on (reverse before.forgotten)) (stepped a w left came step whole) after =
    stepped_behind (reverse before.forgotten) a w (is_some (pid_of number first)) (is_some (pid_of number second)) step (known_read was.known) before.last in
    record {
      forgotten = next;
      known = ap₂ behind (sym same) taken.known
          ∙ sym split.is
          ∙ ap (λ (f : Whose). stepped a w (is_some (pid_of number f)) (is_some (pid_of number second)) step whole) first_is
          ∙ ap (λ (s : Whose). stepped a w (is_some (pid_of number one)) (is_some (pid_of number s)) step whole) second_is
          ∙ ap₂ (λ (by : Step) (known : Known). stepped a w (is_some (pid_of number one)) (is_some (pid_of number other)) by known) step_is before.known
          ∙ stepped_is asked number counting event event.happening (all_known asked counting);
      last = subst (λ (known : Known). KeepsLast known.jobs (reverse next)) (sym taken.known) (subst (λ (rest : List Job). KeepsLast after.jobs rest) same split.last);
      are_forgotten = forgotten_kept boundary next was.forgotten now.forgotten was.before now.before taken.forgotten taken.before
          (are_forgotten_after left came step on boundary before.forgotten was.forgotten was.before before.are_forgotten);
      pid = taken.pid
          ∙ ap₂ (λ (f s : Whose). or_else (pid_of number s) (or_else (pid_of number f) was.pid)) first_is second_is
          ∙ ap (λ (pid : Option ℕ). or_else (pid_of number other) (or_else (pid_of number one) pid)) before.pid
          ∙ pid_is asked number event.happening (pid_before asked number counting);
    }

-- # How many lines tell of the tasks

-- Events were lost after a time.
pub followed_lost : (asked : Asked) (counting : List Said) (processor : ℕ) (reach : Since) (boundary number time : ℕ) (was now : Followed) →
    time ≡ lost_since processor reach counting → IsFollowed asked counting boundary number was → IsLost time was now →
    IsFollowed asked (Lost processor reach ∷ counting) boundary number now
followed_lost asked counting processor reach boundary number time was now time_is before lost =
    let next : List Job = map (lost_job time) before.forgotten in
    let same : map (lost_job time) (reverse before.forgotten) ≡ reverse next = map_reverse (lost_job time) before.forgotten in
    let split : IsBehind (map (lost_job time) (reverse before.forgotten)) (loses time (behind (reverse before.forgotten) (known_read was.known))) (loses time (known_read was.known)) =
    lost_behind (reverse before.forgotten) time (known_read was.known) before.last in
    record {
      forgotten = next;
      known = ap₂ behind (sym same) lost.known ∙ sym split.is ∙ ap₂ loses time_is before.known;
      last = subst (λ (known : Known). KeepsLast known.jobs (reverse next)) (sym lost.known)
          (subst (λ (rest : List Job). KeepsLast (map (lost_job time) (known_read was.known).jobs) rest) same split.last);
      are_forgotten = forgotten_kept boundary next was.forgotten now.forgotten was.before now.before lost.forgotten lost.before
          (lost_are_forgotten time boundary before.forgotten was.forgotten was.before before.are_forgotten);
      pid = lost.pid ∙ before.pid;
    }

runs_on_is : (asked : Asked) (counting : List Said) (boundary processor start : ℕ) (tasks : List Task) (kept : List Followed) → length kept ≡ length tasks →
    ((k n : ℕ) (d : Followed) → k < length tasks → start + k ≡ n → IsFollowed asked counting boundary n (get_or kept k d)) →
    runs_on asked counting processor start tasks ≡ list_any (λ followed. stands_on processor followed.known.on) kept
runs_on_is asked counting boundary processor start [] [] many each = refl
runs_on_is asked counting boundary processor start [] (one ∷ kept) many each = absurd (omega arith)
runs_on_is asked counting boundary processor start (task ∷ tasks) [] many each = absurd (omega arith)
runs_on_is asked counting boundary processor start (task ∷ tasks) (one ∷ kept) many each =
    ap₂ (λ (here rest : Bool). here || rest)
    (sym (ap (λ (known : Known). stands_on processor known.on) (each 0 start one (omega arith) (omega arith)).known))
    (runs_on_is asked counting boundary processor (start + 1) tasks kept (omega arith) (λ k n d within is. each (suc k) n d (omega arith) (omega arith)))

numbers_are : (asked : Asked) (counting : List Said) (boundary pid start : ℕ) (tasks : List Task) (kept : List Followed) → length kept ≡ length tasks →
    ((k n : ℕ) (d : Followed) → k < length tasks → start + k ≡ n → IsFollowed asked counting boundary n (get_or kept k d)) →
    has_number asked counting pid start tasks ≡ list_any (λ followed. is_number pid followed.pid) kept
numbers_are asked counting boundary pid start [] [] many each = refl
numbers_are asked counting boundary pid start [] (one ∷ kept) many each = absurd (omega arith)
numbers_are asked counting boundary pid start (task ∷ tasks) [] many each = absurd (omega arith)
numbers_are asked counting boundary pid start (task ∷ tasks) (one ∷ kept) many each =
    ap₂ (λ (here rest : Bool). here || rest)
    (sym (ap (is_number pid) (each 0 start one (omega arith) (omega arith)).pid))
    (numbers_are asked counting boundary pid (start + 1) tasks kept (omega arith) (λ k n d within is. each (suc k) n d (omega arith) (omega arith)))

at_number : (asked : Asked) (counting : List Said) (boundary : ℕ) (kept : List Followed) →
    ((k : ℕ) (d : Followed) → k < length asked.tasks → IsFollowed asked counting boundary k (get_or kept k d)) →
    (k n : ℕ) (d : Followed) → k < length asked.tasks → 0 + k ≡ n → IsFollowed asked counting boundary n (get_or kept k d)
at_number asked counting boundary kept each k n d within is =
    let same : k ≡ n = omega arith in let P : ℕ → Type 0 = λ m. IsFollowed asked counting boundary m (get_or kept k d) in subst P same (each k d within)

-- What is said of a thread by its last job alone is said of what is kept.
pub said_of_last : {A : Type 0} (say : Known → A) → ((job : Job) (jobs others : List Job) (on : Option Standing) (woken : Woken) →
    say (record { jobs = job ∷ (jobs ++ others); on = on; woken = woken }) ≡ say (record { jobs = job ∷ jobs; on = on; woken = woken })) →
    (asked : Asked) (counting : List Said) (boundary number : ℕ) (followed : Followed) → IsFollowed asked counting boundary number followed →
    say (known_read followed.known) ≡ say (known_after asked number counting)
said_of_last say same asked counting boundary number followed is =
    sym (by (jobs_listed followed.known.jobs.items) (reverse is.forgotten) is.last) ∙ ap say is.known
  where
    by : (jobs forgotten : List Job) → KeepsLast jobs forgotten →
        say (record { jobs = jobs ++ forgotten; on = followed.known.on; woken = followed.known.woken })
        ≡ say (record { jobs = jobs; on = followed.known.on; woken = followed.known.woken })
    by [] forgotten none = ap (λ (jobs : List Job). say (record { jobs = jobs; on = followed.known.on; woken = followed.known.woken })) none
    by (job ∷ jobs) forgotten last = same job jobs forgotten followed.known.on followed.known.woken

waiting_is : (asked : Asked) (counting : List Said) (boundary number : ℕ) (followed : Followed) → IsFollowed asked counting boundary number followed →
    is_waiting (known_after asked number counting) ≡ is_waiting (known_read followed.known)
waiting_is asked counting boundary number followed is =
    ap is_waiting (sym is.known)
    ∙ ap (λ (waits : Bool). is_none followed.known.on && waits) (open_behind (jobs_listed followed.known.jobs.items) (reverse is.forgotten) is.last)

one_waits_is : (asked : Asked) (counting : List Said) (boundary start : ℕ) (tasks : List Task) (kept : List Followed) → length kept ≡ length tasks →
    ((k n : ℕ) (d : Followed) → k < length tasks → start + k ≡ n → IsFollowed asked counting boundary n (get_or kept k d)) →
    one_waits asked counting start tasks ≡ some_waits kept
one_waits_is asked counting boundary start [] [] many each = refl
one_waits_is asked counting boundary start [] (one ∷ kept) many each = absurd (omega arith)
one_waits_is asked counting boundary start (task ∷ tasks) [] many each = absurd (omega arith)
one_waits_is asked counting boundary start (task ∷ tasks) (one ∷ kept) many each =
    ap₂ (λ (here rest : Bool). here || rest)
    (waiting_is asked counting boundary start one (each 0 start one (omega arith) (omega arith)))
    (one_waits_is asked counting boundary (start + 1) tasks kept (omega arith) (λ k n d within is. each (suc k) n d (omega arith) (omega arith)))

-- Whether a thread of this number was a task.
pub number_is : (asked : Asked) (counting : List Said) (boundary pid : ℕ) (kept : List Followed) → length kept ≡ length asked.tasks →
    ((k : ℕ) (d : Followed) → k < length asked.tasks → IsFollowed asked counting boundary k (get_or kept k d)) →
    list_any (λ followed. is_number pid followed.pid) kept ≡ has_number asked counting pid 0 asked.tasks
number_is asked counting boundary pid kept many each =
    sym (numbers_are asked counting boundary pid 0 asked.tasks kept many (at_number asked counting boundary kept each))

pub waits_is : (asked : Asked) (counting : List Said) (boundary : ℕ) (kept : List Followed) → length kept ≡ length asked.tasks →
    ((k : ℕ) (d : Followed) → k < length asked.tasks → IsFollowed asked counting boundary k (get_or kept k d)) → some_waits kept ≡ any_waits asked counting
waits_is asked counting boundary kept many each = sym (one_waits_is asked counting boundary 0 asked.tasks kept many (at_number asked counting boundary kept each))

touches_in : (asked : Asked) (counting : List Said) (boundary : ℕ) (event : Event) (happening : Happening) (kept : List Followed) → length kept ≡ length asked.tasks →
    ((k : ℕ) (d : Followed) → k < length asked.tasks → IsFollowed asked counting boundary k (get_or kept k d)) →
    touches_by (is_some asked.others) (first_in asked.tasks happening) (second_in asked.tasks happening) (step_in asked counting event (all_known asked counting) happening) kept
    ≡ touches asked counting happening
touches_in asked counting boundary event (Switch previous state next) kept many each =
    ap (λ (waits : Bool). is_some (task_of asked.tasks previous) || is_some (task_of asked.tasks next) || (is_some asked.others && waits))
    (waits_is asked counting boundary kept many each)
touches_in asked counting boundary event (WakeUp thread starts) kept many each = refl
touches_in asked counting boundary event (Speed processor khz) kept many each =
    sym (runs_on_is asked counting boundary processor 0 asked.tasks kept many (at_number asked counting boundary kept each))
touches_in asked counting boundary event Loss kept many each = refl
touches_in asked counting boundary event Marker kept many each = refl
touches_in asked counting boundary event Other kept many each = refl

pub touches_is : (asked : Asked) (counting : List Said) (boundary : ℕ) (event : Event) (others : Bool) (first second : Whose) (step : Step) (kept : List Followed) →
    others ≡ is_some asked.others → first ≡ first_in asked.tasks event.happening → second ≡ second_in asked.tasks event.happening →
    step ≡ step_of asked counting event → length kept ≡ length asked.tasks →
    ((k : ℕ) (d : Followed) → k < length asked.tasks → IsFollowed asked counting boundary k (get_or kept k d)) →
    touches_by others first second step kept ≡ touches asked counting event.happening
touches_is asked counting boundary event others first second step kept others_is first_is second_is step_is many each =
    ap₂ (λ (f s : Whose). touches_by others f s step kept) first_is second_is
    ∙ ap₂ (λ (b : Bool) (by : Step). touches_by b (first_in asked.tasks event.happening) (second_in asked.tasks event.happening) by kept) others_is step_is
    ∙ touches_in asked counting boundary event event.happening kept many each

pub touched_more : (asked : Asked) (counting : List Said) (event : Event) → touches asked counting event.happening ≡ true →
    touched asked (Stamped event ∷ counting) ≡ suc (touched asked counting)
touched_more asked counting event so = rw so

pub touched_same : (asked : Asked) (counting : List Said) (event : Event) → touches asked counting event.happening ≡ false →
    touched asked (Stamped event ∷ counting) ≡ touched asked counting
touched_same asked counting event not_so = rw not_so

-- # Too many

-- Told in parts nothing is too much.
if_counted : (asked : Asked) (lines : List Said) (fault : Option Cause) → (asked.in_parts ≡ true → None ≡ fault)
    → (asked.in_parts ≡ false → touched_fault asked lines ≡ fault) → counted_fault asked lines ≡ fault
if_counted asked lines fault in_parts counted = by asked.in_parts refl
  where
    by : (b : Bool) → asked.in_parts ≡ b → (if b then None else touched_fault asked lines) ≡ fault
    by true is = in_parts is
    by false is = counted is

pub too_long : (asked : Asked) (lines : List Said) (count : ℕ) → (asked.in_parts ≡ true → count ≤ MAX_TOUCHES) →
    (asked.in_parts ≡ false → count ≡ touched asked lines) → MAX_TOUCHES < count → counted_fault asked lines ≡ Some causes.TooLong
too_long asked lines count uncounted counted much =
    if_counted asked lines (Some causes.TooLong) (λ is. absurd (omega (arith, uncounted is)))
    (λ is. let more : MAX_TOUCHES < touched asked lines = omega (arith, counted is) in rw (lt-ltb MAX_TOUCHES (touched asked lines) more))

pub not_too_long : (asked : Asked) (lines : List Said) (count : ℕ) → (asked.in_parts ≡ false → count ≡ touched asked lines) →
    count ≤ MAX_TOUCHES → counted_fault asked lines ≡ None
not_too_long asked lines count counted few =
    if_counted asked lines None (λ is. refl)
    (λ is. let fewer : touched asked lines ≤ MAX_TOUCHES = omega (arith, counted is) in rw (le-ltb MAX_TOUCHES (touched asked lines) fewer))

-- # Switches that are missing

-- What is missing of a thread is seen of where it is, and of its last job.
missing_one : (asked : Asked) (counting : List Said) (boundary number : ℕ) (followed : Followed) (wakes left came : Bool) (leaving : Leaving) →
    IsFollowed asked counting boundary number followed →
    missing_since wakes left came leaving (known_read followed.known) ≡ missing_since wakes left came leaving (known_after asked number counting)
missing_one asked counting boundary number followed wakes left came leaving is =
    said_of_last (missing_since wakes left came leaving) (λ job jobs others on woken. refl) asked counting boundary number followed is

missing_from : (asked : Asked) (counting : List Said) (boundary : ℕ) (previous next : Thread) (first second : Whose) (leaving : Leaving) (start : ℕ) (tasks : List Task)
    (kept : List Followed) → first ≡ whose asked.tasks previous → second ≡ whose asked.tasks next → length kept ≡ length tasks →
    ((k n : ℕ) (d : Followed) → k < length tasks → start + k ≡ n → IsFollowed asked counting boundary n (get_or kept k d)) →
    missing_among (wakes_of asked) first second leaving start kept ≡ missing_of asked previous next leaving (all_known asked counting) start tasks
missing_from asked counting boundary previous next first second leaving start [] [] first_is second_is many each = refl
missing_from asked counting boundary previous next first second leaving start [] (one ∷ kept) first_is second_is many each = absurd (omega arith)
missing_from asked counting boundary previous next first second leaving start (task ∷ tasks) [] first_is second_is many each = absurd (omega arith)
missing_from asked counting boundary previous next first second leaving start (task ∷ tasks) (one ∷ kept) first_is second_is many each =
    ap₂ earlier
    (ap₂ (λ (f s : Whose). missing_since (wakes_of asked) (is_number start f.number) (is_number start s.number) leaving (known_read one.known)) first_is second_is
    ∙ missing_one asked counting boundary start one (wakes_of asked) (is_number start (task_of asked.tasks previous)) (is_number start (task_of asked.tasks next)) leaving
    (each 0 start one (omega arith) (omega arith)))
    (missing_from asked counting boundary previous next first second leaving (start + 1) tasks kept first_is second_is (omega arith)
    (λ k n d within is. each (suc k) n d (omega arith) (omega arith)))

-- So it is of all tasks.
pub missing_is : (asked : Asked) (counting : List Said) (boundary : ℕ) (previous next : Thread) (first second : Whose) (leaving : Leaving) (kept : List Followed) →
    first ≡ whose asked.tasks previous → second ≡ whose asked.tasks next → length kept ≡ length asked.tasks →
    ((k : ℕ) (d : Followed) → k < length asked.tasks → IsFollowed asked counting boundary k (get_or kept k d)) →
    missing_among (wakes_of asked) first second leaving 0 kept ≡ missing_of asked previous next leaving (all_known asked counting) 0 asked.tasks
missing_is asked counting boundary previous next first second leaving kept first_is second_is many each =
    missing_from asked counting boundary previous next first second leaving 0 asked.tasks kept first_is second_is many (at_number asked counting boundary kept each)
