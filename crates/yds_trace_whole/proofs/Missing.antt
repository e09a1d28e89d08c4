-- Switches that are missing: since when they are, and what is so where none is. And where jobs begin at their first run no wake-up is started.
use Rattle.yds_model.proofs.Common.{◌≡◌, ◌∙◌, ℕ, ◌+◌, ◌<◌, ◌≤◌, inl, inr, ◌==◌, ◌&&◌, ◌||◌, List, [], ◌∷◌, length, min, Bool, true, false, not, if◌then◌else◌, Option, Some, None, is_some, refl, sym, subst, arith, cases_lt, cond_both, false≢true, and_parts}
use Rattle.yds_kernel.specs.declared.state.State.{State}
use Rattle.yds_kernel.specs.declared.state.State.TheVariants as states
use Rattle.yds_kernel.specs.Event.{Thread, Happening, Switch, WakeUp, Speed, Loss, Marker, Other, Event, Said, Stamped, Lost, Nothing}
use Rattle.yds_trace.specs.declared.job.Standing.{Standing}
use Rattle.yds_trace.specs.declared.job.Leaving.{Leaving}
use Rattle.yds_trace.specs.declared.job.Pace.{Pace}
use Rattle.yds_trace.specs.Asked.{Task, Asked, task_at, pace_of, is_of}
use Rattle.yds_trace.specs.Past.{speed_after}
use Rattle.yds_trace.specs.Jobs.{Known, changed_last, ran, is_there, last_told, is_displaced, missing_since, torn_jobs, torn_if, left_started, wakes_up, speeds, loses, left_if, came_if, after_switch, earlier, missing_of, leaving_at, after_event, all_known, known_after}

-- # Since when

-- such a time, where it is told
if_by : (b : Bool) (time most s : ℕ) → time ≤ most → ◌≡◌ {A = Option ℕ} (if b then Some time else None) (Some s) → s ≤ most
if_by true time most s by is = let same : time ≡ s = cc is in omega (arith, same, by)
if_by false time most s by is = cc is

-- No switch of a thread is missing since a later time than since when its processor tells
since_by : (wakes left came : Bool) (leaving : Leaving) (known : Known) (s : ℕ) → missing_since wakes left came leaving known ≡ Some s → s ≤ last_told leaving
since_by wakes left came leaving known s is = by known.on is
  where
    by : (on : Option Standing) → ◌≡◌ {A = Option ℕ} (elim on [
      | None ↦ if left && not (is_there wakes leaving known) then Some (last_told leaving) else None
      | Some standing ↦ if is_displaced left came leaving.processor standing then Some (min standing.came (last_told leaving)) else None
    ]) (Some s) → s ≤ last_told leaving
    by None is = if_by (left && not (is_there wakes leaving known)) (last_told leaving) (last_told leaving) s (omega arith) is
    by (Some standing) is =
        if_by (is_displaced left came leaving.processor standing) (min standing.came (last_told leaving)) (last_told leaving) s (omega arith) is

-- the earlier one of two such times
earlier_by : (one other : Option ℕ) (most s : ℕ) → ((time : ℕ) → one ≡ Some time → time ≤ most) → ((time : ℕ) → other ≡ Some time → time ≤ most) → earlier one other ≡ Some s → s ≤ most
earlier_by None other most s first second is = second s is
earlier_by (Some time) None most s first second is = first s is
earlier_by (Some time) (Some later) most s first second is =
    let same : min time later ≡ s = cc is in let within : time ≤ most = first time refl in omega (arith, same, within)

-- Nor is one of all tasks' threads.
pub missing_by : (asked : Asked) (previous next : Thread) (leaving : Leaving) (known : ℕ → Known) (number : ℕ) (tasks : List Task) (s : ℕ) →
    missing_of asked previous next leaving known number tasks ≡ Some s → s ≤ last_told leaving
missing_by asked previous next leaving known number [] s is = cc is
missing_by asked previous next leaving known number (task ∷ tasks) s is =
    earlier_by (missing_since (not asked.begin_at_run) (is_of asked number previous) (is_of asked number next) leaving (known number))
    (missing_of asked previous next leaving known (number + 1) tasks) (last_told leaving) s
    (since_by (not asked.begin_at_run) (is_of asked number previous) (is_of asked number next) leaving (known number))
    (missing_by asked previous next leaving known (number + 1) tasks) is

-- # Where none is missing

-- where the earlier one of two is none, neither is one
neither : (one other : Option ℕ) → earlier one other ≡ None → (one ≡ None) × (other ≡ None)
neither None other none = (refl, none)
neither (Some time) None none = cc none
neither (Some time) (Some later) none = cc none

-- Where none is missing of all tasks, none is of each. (As in yds_trace_laws.)
none_missing : (asked : Asked) (previous next : Thread) (leaving : Leaving) (known : ℕ → Known) (start : ℕ) (tasks : List Task) (number : ℕ) →
    missing_of asked previous next leaving known start tasks ≡ None → start ≤ number → number < start + length tasks →
    missing_since (not asked.begin_at_run) (is_of asked number previous) (is_of asked number next) leaving (known number) ≡ None
none_missing asked previous next leaving known start [] number none from within = absurd (omega (arith, from, within))
none_missing asked previous next leaving known start (task ∷ tasks) number none from within =
    let parts = neither (missing_since (not asked.begin_at_run) (is_of asked start previous) (is_of asked start next) leaving (known start))
    (missing_of asked previous next leaving known (start + 1) tasks) none in
    elim (cases_lt start number) [
      | inl less ↦ none_missing asked previous next leaving known (start + 1) tasks number parts.1 (omega (arith, less)) (omega (arith, within))
      | inr more ↦
          let same : start ≡ number = omega (arith, from, more) in
          subst (λ (n : ℕ). missing_since (not asked.begin_at_run) (is_of asked n previous) (is_of asked n next) leaving (known n) ≡ None) same parts.0
    ]

-- So who leaves, and isn't seen to have come, needn't have come in a line that is missing.
is_there_so : (wakes left came : Bool) (leaving : Leaving) (known : Known) → missing_since wakes left came leaving known ≡ None → left ≡ true → known.on ≡ None →
    is_there wakes leaving known ≡ true
is_there_so wakes left came leaving known none mine off = by left (is_there wakes leaving known) mine (subst NoneOf off none)
  where
    NoneOf : Option Standing → Type 0
    NoneOf on = ◌≡◌ {A = Option ℕ} (elim on [
      | None ↦ if left && not (is_there wakes leaving known) then Some (last_told leaving) else None
      | Some standing ↦ if is_displaced left came leaving.processor standing then Some (min standing.came (last_told leaving)) else None
    ]) None

    by : (l b : Bool) → l ≡ true → ◌≡◌ {A = Option ℕ} (if l && not b then Some (last_told leaving) else None) None → b ≡ true
    by true true mine none = refl
    by true false mine none = cc none
    by false b mine none = absurd (false≢true mine)

-- So it is of each task's thread, where none is missing of all.
pub none_there : (asked : Asked) (previous next : Thread) (leaving : Leaving) (known : ℕ → Known) (number : ℕ) → number < length asked.tasks →
    missing_of asked previous next leaving known 0 asked.tasks ≡ None → is_of asked number previous ≡ true → (known number).on ≡ None →
    is_there (not asked.begin_at_run) leaving (known number) ≡ true
none_there asked previous next leaving known number within none mine off =
    is_there_so (not asked.begin_at_run) (is_of asked number previous) (is_of asked number next) leaving (known number)
    (none_missing asked previous next leaving known 0 asked.tasks number none (omega arith) (omega (arith, within))) mine off

-- # Where jobs begin at their first run

-- no wake-up of it was started
abbrev NoneStarted : Known → Type 0
NoneStarted known = known.woken.started ≡ None

-- none where it leaves
left_none : (state : State) (started : Option ℕ) → started ≡ None → left_started state started ≡ None
left_none states.GoesOn started none = refl
left_none states.Sleeps started none = none
left_none states.Exits started none = refl
left_none states.Unknown started none = refl

-- none behind the switches that are missing
torn_none : (left came : Bool) (processor : ℕ) (since : Option ℕ) (known : Known) → NoneStarted known → NoneStarted (torn_if left came processor since known)
torn_none left came processor None known none = none
torn_none left came processor (Some since) known none = by known.on
  where
    by : (on : Option Standing) → NoneStarted (elim on [
      | None ↦ loses since known
      | Some standing ↦ if left || came || (standing.processor == processor) then loses since known
          else record known { jobs = torn_jobs since standing.came known.jobs }
    ])
    by None = refl
    by (Some standing) =
        cond_both (left || came || (standing.processor == processor)) (loses since known) (record known { jobs = torn_jobs since standing.came known.jobs }) NoneStarted
        (λ own. refl) (λ other. none)

-- none behind a switch
switch_none : (pace : Pace) (wakes left came : Bool) (state : State) (leaving : Leaving) (since : Option ℕ) (known : Known) → NoneStarted known →
    NoneStarted (after_switch pace wakes left came state leaving since known)
switch_none pace wakes left came state leaving since known none = come came (leave left)
  where
    torn_before : Known
    torn_before = torn_if left came leaving.processor since known

    leave : (mine : Bool) → NoneStarted (left_if pace wakes (is_some since) mine state leaving torn_before)
    leave true = left_none state torn_before.woken.started (torn_none left came leaving.processor since known none)
    leave false = torn_none left came leaving.processor since known none

    come : (mine : Bool) → NoneStarted (left_if pace wakes (is_some since) left state leaving torn_before) →
        NoneStarted (came_if pace wakes mine leaving (left_if pace wakes (is_some since) left state leaving torn_before))
    come true before = refl
    come false before = before

-- none behind another speed
speeds_none : (processor time : ℕ) (khz : Option ℕ) (known : Known) → NoneStarted known → NoneStarted (speeds processor time khz known)
speeds_none processor time khz known none = by known.on
  where
    by : (on : Option Standing) → NoneStarted (elim on [
      | None ↦ known
      | Some standing ↦ if standing.processor == processor then record {
        jobs = changed_last (ran (record { processor = processor; from = standing.since; to = time; khz = khz })) known.jobs;
        on = Some (record standing { since = time });
        woken = known.woken;
      } else known
    ])
    by None = none
    by (Some standing) =
        cond_both (standing.processor == processor) (record {
          jobs = changed_last (ran (record { processor = processor; from = standing.since; to = time; khz = khz })) known.jobs;
          on = Some (record standing { since = time });
          woken = known.woken;
        }) known NoneStarted (λ here. none) (λ other. none)

-- none behind any event
event_none : (asked : Asked) (number : ℕ) (past : List Said) (event : Event) (happening : Happening) (known : ℕ → Known) → not asked.begin_at_run ≡ false →
    NoneStarted (known number) → NoneStarted (after_event asked number past event happening known)
event_none asked number past event (Switch previous state next) known at_run none =
    switch_none (pace_of (task_at asked number)) (not asked.begin_at_run) (is_of asked number previous) (is_of asked number next) state (leaving_at asked past event previous)
    (missing_of asked previous next (leaving_at asked past event previous) known 0 asked.tasks) (known number) none
event_none asked number past event (WakeUp thread starts) known at_run none =
    cond_both (is_of asked number thread && not asked.begin_at_run) (wakes_up (pace_of (task_at asked number)) starts event.time (known number)) (known number) NoneStarted
    (λ wakes. absurd (let no : false ≡ true = sym at_run ∙ (and_parts (is_of asked number thread) (not asked.begin_at_run) wakes).1 in false≢true no)) (λ other. none)
event_none asked number past event (Speed processor khz) known at_run none =
    speeds_none processor event.time (speed_after asked.start processor past) (known number) none
event_none asked number past event Loss known at_run none = refl
event_none asked number past event Marker known at_run none = none
event_none asked number past event Other known at_run none = none

-- Where jobs begin at their first run, no wake-up is started.
pub at_run_none : (asked : Asked) (number : ℕ) (past : List Said) → not asked.begin_at_run ≡ false → (known_after asked number past).woken.started ≡ None
at_run_none asked number [] at_run = refl
at_run_none asked number (Stamped event ∷ past) at_run =
    event_none asked number past event event.happening (all_known asked past) at_run (at_run_none asked number past at_run)
at_run_none asked number (Lost processor reach ∷ past) at_run = refl
at_run_none asked number (Nothing ∷ past) at_run = at_run_none asked number past at_run
