-- Of a trace's jobs only the reasons and the shares of what moved depend on the processor that is asked for. Each job belongs to a processor, and none to one of which no line
-- tells.
use Rattle.yds_model.proofs.Common.{◌≡◌, ◌≢◌, ◌∙◌, get_or, All, All-contains_itself, ℕ, zero, suc, ◌+◌, ◌<◌, ◌≤◌, ◌==◌, ◌&&◌, ◌||◌, max, List, [], ◌∷◌, ◌++◌, map, filter, length, Bool, true, false, not, nat_lt, nat_le, cond, if◌then◌else◌, Option, Some, None, is_none, refl, sym, ap, ap₂, subst, arith, inl, inr, cases_lt, eq-eqb, ne_eqb, fun_ext, map-append, All-from_recursion, Contains-append_left, Contains-push}
use Rattle.std.specs.List.{AllByRecursion, Contains, list_any, enumerate_from}
use Rattle.yds_kernel.specs.Parts.{or_else, capped}
use Rattle.yds_kernel.specs.Event.{Said}
use Rattle.yds_trace.specs.declared.cut.Cut.{Cut}
use Rattle.yds_trace.specs.declared.job.Stretch.{Stretch}
use Rattle.yds_trace.specs.declared.reason.Reason.{Reason}
use Rattle.yds_trace.specs.declared.reason.Reason.TheVariants as reasons
use Rattle.yds_trace.specs.Asked.{Task, Asked, on, task_at, is_after_from}
use Rattle.yds_trace.specs.Past.{first_time, next_processor, processor_count}
use Rattle.yds_trace.specs.Jobs.{Job}
use Rattle.yds_trace.specs.Late.{last_asked, due, is_open, lateness, is_unsure}
use Rattle.yds_trace.specs.Document.{Judged, is_lost, is_elsewhere, has_run_on, is_of_unknown_speed, reaches_to, is_shared_by, share_of, named, began_before, jobs_of, judged, judged_of, judged_from, put_in, in_order, all_judged}
use Rattle.yds_trace.specs.Parts.{belongs, begin_of, begins_from, begins_before, waiting_from, is_written, is_own, has_own_job, is_closed_by, each_before, is_quiet, is_closed, last_where, place_among, is_much, is_due, waiting, is_before_end, part_until, place_of, with_part, cut_at, cut_after, first_numbers, processors_of}
use Rattle.yds_trace.specs.Others.{Span, others_from}
use Rattle.yds_trace.proofs.Shares.{jobs_alone, share_stranger, share_begin, share_end}
use Rattle.yds_trace.proofs.OnProcessor.{jobs_of_on, others_from_on}
use Rattle.yds_trace_laws.specs.Processors.{without_reason, whole_job, JobsAreTheSame, HasItsShare, SharesAreTheWhole, OnlyItsOwn, NoneHasMoved, BelongsTo, EachJobBelongs, IsIdle, UnseenAreTheSame}
use Rattle.yds_trace_laws.proofs.Ordered.{filter-all, append-all, in_order-all}
use Rattle.yds_trace_laws.proofs.Runs.{all_weaker}
use Rattle.yds_trace_laws.proofs.Shares.{share_if, jobs_unshared, in_shares, share_has, none_elsewhere}
use Rattle.yds_trace_laws.proofs.Sharing.{Ran}
use Rattle.yds_trace_laws.proofs.Units.{there}
use Rattle.yds_trace_laws.proofs.Told.{IsUnder, TellUnder, RanUnder, jobs_under, all_under, tell_under}

-- # The jobs of a task

-- asked of a processor, they are judged there
judged_there : (asked : Asked) (processor : ℕ) (past : List Said) (number : ℕ) → judged_of (on processor asked) past number
    ≡ map (judged (on processor asked) past number (began_before (jobs_of asked past number))) (enumerate_from 0 (map (share_of (on processor asked)) (jobs_of asked past number)))
judged_there asked processor past number =
    ap (λ (jobs : List Job). map (judged (on processor asked) past number (began_before jobs)) (enumerate_from 0 (map (share_of (on processor asked)) jobs)))
    (jobs_of_on asked processor past number)

-- # Jobs are the same

-- a part of what is said of a job that doesn't change its begin
abbrev KeepsBegin : (Judged → Judged) → Type 0
KeepsBegin part = (one : Judged) → begin_of (part one) ≡ begin_of one

mapped_if : (part : Judged → Judged) (b : Bool) (one other : Judged) (ones rest : List Judged) →
    map part (if b then one ∷ other ∷ ones else other ∷ rest) ≡ (if b then part one ∷ part other ∷ map part ones else part other ∷ map part rest)
mapped_if part true one other ones rest = refl
mapped_if part false one other ones rest = refl

put_mapped : (part : Judged → Judged) → KeepsBegin part → (one : Judged) (ones : List Judged) → map part (put_in begin_of one ones) ≡ put_in begin_of (part one) (map part ones)
put_mapped part keeps one [] = refl
put_mapped part keeps one (other ∷ ones) =
    mapped_if part (nat_le (begin_of one) (begin_of other)) one other ones (put_in begin_of one ones)
    ∙ ap (λ (rest : List Judged). if nat_le (begin_of one) (begin_of other) then part one ∷ part other ∷ map part ones else part other ∷ rest) (put_mapped part keeps one ones)
    ∙ ap₂ (λ (begin next : ℕ). if nat_le begin next then part one ∷ part other ∷ map part ones else part other ∷ put_in begin_of (part one) (map part ones))
    (sym (keeps one)) (sym (keeps other))

-- order depends on the begins alone
order_mapped : (part : Judged → Judged) → KeepsBegin part → (ones : List Judged) → map part (in_order begin_of ones) ≡ in_order begin_of (map part ones)
order_mapped part keeps [] = refl
order_mapped part keeps (one ∷ ones) = put_mapped part keeps one (in_order begin_of ones) ∙ ap (put_in begin_of (part one)) (order_mapped part keeps ones)

-- where that is the same of each job of each task, on both processors
abbrev SameOf : (Judged → Judged) → Asked → ℕ → List Said → Type 0
SameOf part asked processor past = (number : ℕ) →
    map part (judged_of (on processor asked) past number) ≡ map part (judged_of asked past number)

tasks_same : (part : Judged → Judged) (asked : Asked) (processor : ℕ) (past : List Said) → SameOf part asked processor past → (number : ℕ) (tasks : List Task) →
    map part (judged_from (on processor asked) past number tasks) ≡ map part (judged_from asked past number tasks)
tasks_same part asked processor past same number [] = refl
tasks_same part asked processor past same number (task ∷ tasks) =
    map-append part (judged_of (on processor asked) past number) (judged_from (on processor asked) past (number + 1) tasks)
    ∙ ap₂ (λ (ones others : List Judged). ones ++ others) (same number) (tasks_same part asked processor past same (number + 1) tasks)
    ∙ sym (map-append part (judged_of asked past number) (judged_from asked past (number + 1) tasks))

all_same : (part : Judged → Judged) → KeepsBegin part → (asked : Asked) (processor : ℕ) (past : List Said) → SameOf part asked processor past →
    map part (all_judged (on processor asked) past) ≡ map part (all_judged asked past)
all_same part keeps asked processor past same =
    order_mapped part keeps (judged_from (on processor asked) past 0 asked.tasks)
    ∙ ap (in_order begin_of) (tasks_same part asked processor past same 0 asked.tasks)
    ∙ sym (order_mapped part keeps (judged_from asked past 0 asked.tasks))

-- what is said of a whole job is said of each share of it
whole_if : (asked : Asked) (past : List Said) (number : ℕ) (before : Bool) (k : ℕ) (moved : Bool) (processor : ℕ) (job : Job) →
    whole_job (judged asked past number before (k, share_if moved processor job)) ≡ whole_job (judged asked past number before (k, job))
whole_if asked past number before k true processor job = refl
whole_if asked past number before k false processor job = refl

whole_same : (asked : Asked) (processor : ℕ) (past : List Said) (number : ℕ) (before : Bool) (k : ℕ) (job : Job) →
    whole_job (judged (on processor asked) past number before (k, share_of (on processor asked) job)) ≡ whole_job (judged asked past number before (k, share_of asked job))
whole_same asked processor past number before k job =
    whole_if asked past number before k (asked.moved_parts && is_shared_by processor job) processor job
    ∙ sym (whole_if asked past number before k (asked.moved_parts && is_shared_by asked.processor job) asked.processor job)

wholes_same : (asked : Asked) (processor : ℕ) (past : List Said) (number : ℕ) (before : Bool) (start : ℕ) (jobs : List Job) →
    map whole_job (map (judged (on processor asked) past number before) (enumerate_from start (map (share_of (on processor asked)) jobs)))
    ≡ map whole_job (map (judged asked past number before) (enumerate_from start (map (share_of asked) jobs)))
wholes_same asked processor past number before start [] = refl
wholes_same asked processor past number before start (job ∷ jobs) =
    ap₂ (λ (one : Judged) (rest : List Judged). one ∷ rest) (whole_same asked processor past number before start job)
    (wholes_same asked processor past number before (start + 1) jobs)

-- # Where nothing is told in parts

-- but for the reason, with this part
abbrev parted : Judged → Option ℕ → Judged
parted one part = record one { part = part; reason = None }

no_part : (processor : ℕ) (job : Job) → job.shared ≡ false → (if job.shared then Some processor else None) ≡ None
no_part processor job is = ap (λ (shared : Bool). if shared then Some processor else None) is

unparted_same : (asked : Asked) (processor : ℕ) (past : List Said) (number : ℕ) (before : Bool) (start : ℕ) (jobs : List Job) → AllByRecursion (λ job. job.shared ≡ false) jobs →
    map without_reason (map (judged (on processor asked) past number before) (enumerate_from start jobs)) ≡ map without_reason (map (judged asked past number before) (enumerate_from start jobs))
unparted_same asked processor past number before start [] unshared = refl
unparted_same asked processor past number before start (job ∷ jobs) unshared =
    ap₂ (λ (one : Judged) (rest : List Judged). one ∷ rest)
    (ap (parted (judged asked past number before (start, job))) (no_part processor job unshared.0 ∙ sym (no_part asked.processor job unshared.0)))
    (unparted_same asked processor past number before (start + 1) jobs unshared.1)

-- the law
pub jobs_are_the_same : JobsAreTheSame
jobs_are_the_same asked past processor = record {
  jobs = all_same whole_job (λ one. refl) asked processor past
      (λ number. ap (map whole_job) (judged_there asked processor past number)
      ∙ wholes_same asked processor past number (began_before (jobs_of asked past number)) 0 (jobs_of asked past number));
  stretches = λ whole. all_same without_reason (λ one. refl) asked processor past (λ number.
      let jobs : List Job = jobs_of asked past number in
      ap (map without_reason) (judged_there asked processor past number)
      ∙ ap (λ (shares : List Job). map without_reason (map (judged (on processor asked) past number (began_before jobs)) (enumerate_from 0 shares)))
      (jobs_alone (on processor asked) jobs whole)
      ∙ unparted_same asked processor past number (began_before jobs) 0 jobs (jobs_unshared asked past number)
      ∙ ap (λ (shares : List Job). map without_reason (map (judged asked past number (began_before jobs)) (enumerate_from 0 shares)))
      (sym (jobs_alone asked jobs whole)));
}

-- # What a job that moved ran

its_share : (asked : Asked) (past : List Said) (number : ℕ) (job : Job) (stretch : Stretch) → Contains (jobs_of asked past number) job → Contains job.stretches stretch →
    HasItsShare asked past number job stretch
its_share asked past number job stretch known ran = record {
  share = share_of (on stretch.processor asked) job;
  is_there = subst (λ (jobs : List Job). Contains (map (share_of (on stretch.processor asked)) jobs) (share_of (on stretch.processor asked) job))
      (sym (jobs_of_on asked stretch.processor past number)) (in_shares asked stretch.processor past number job known);
  begins = share_begin (on stretch.processor asked) job;
  ends = share_end (on stretch.processor asked) job;
  has = share_has asked job stretch ran;
}

-- the law
pub shares_are_the_whole : SharesAreTheWhole
shares_are_the_whole asked past number k d within j e inside =
    let job : Job = get_or (jobs_of asked past number) k d in
    its_share asked past number job (get_or job.stretches j e) (All-contains_itself (jobs_of asked past number) k d within) (All-contains_itself job.stretches j e inside)

-- it isn't left out for having moved
abbrev IsNotMoved : Option Reason → Type 0
IsNotMoved reason = reason ≢ Some reasons.Moved

either_not : (b : Bool) (one other : Option Reason) → IsNotMoved one → IsNotMoved other → IsNotMoved (if b then one else other)
either_not true one other first second = first
either_not false one other first second = second

later_or_open : (b : Bool) → IsNotMoved (Some (if b then reasons.AfterTo else reasons.NotEnded))
later_or_open true = λ is. cc
later_or_open false = λ is. cc

-- what is said of a job that has run elsewhere, or that hasn't
abbrev judged_if : Asked → List Said → ℕ → Bool → ℕ × Job → Option ℕ → Bool → Judged
judged_if asked past number before numbered part moved = record {
  task = number;
  name = named (task_at asked number).label before numbered.0;
  part = part;
  job = numbered.1;
  due = due (task_at asked number) numbered.1;
  late = lateness asked (task_at asked number) (last_asked asked past) numbered.1;
  unsure = is_unsure asked (task_at asked number) (first_time 0 past) (last_asked asked past) numbered.1;
  reason = if not (is_after_from asked.from numbered.1.begin) then Some reasons.BeforeFrom
      else (if is_lost (last_asked asked past) numbered.1.end then Some reasons.EventsLost
      else (if numbered.1.switch_missing then Some reasons.SwitchMissing
      else (if is_open numbered.1.end && is_none (lateness asked (task_at asked number) (last_asked asked past) numbered.1)
      then Some (if reaches_to asked past then reasons.AfterTo else reasons.NotEnded)
      else (if not numbered.1.begin_known then Some reasons.BeginUnseen
      else (if nat_lt (due (task_at asked number) numbered.1) (numbered.1.begin + asked.unit) then Some reasons.DueBefore
      else (if moved then Some reasons.Moved
      else (if list_any is_of_unknown_speed numbered.1.stretches then Some reasons.SpeedUnknown else None)))))));
}

not_moved : (asked : Asked) (past : List Said) (number : ℕ) (before : Bool) (numbered : ℕ × Job) (part : Option ℕ) →
    IsNotMoved (judged_if asked past number before numbered part false).reason
not_moved asked past number before numbered part =
    either_not (not (is_after_from asked.from numbered.1.begin)) _ _ (λ is. cc)
    (either_not (is_lost (last_asked asked past) numbered.1.end) _ _ (λ is. cc)
    (either_not numbered.1.switch_missing _ _ (λ is. cc)
    (either_not (is_open numbered.1.end && is_none (lateness asked (task_at asked number) (last_asked asked past) numbered.1)) _ _ (later_or_open (reaches_to asked past))
    (either_not (not numbered.1.begin_known) _ _ (λ is. cc)
    (either_not (nat_lt (due (task_at asked number) numbered.1) (numbered.1.begin + asked.unit)) _ _ (λ is. cc)
    (either_not (list_any is_of_unknown_speed numbered.1.stretches) _ _ (λ is. cc) (λ is. cc)))))))

-- If it ran where the document is, it ran nowhere else, and isn't left out for that.
record StaysIn (asked : Asked) (one : Judged) : Type 0 where
  own : All (λ stretch. stretch.processor ≡ asked.processor) one.job.stretches
  not_moved : IsNotMoved one.reason

abbrev WhereRan : Asked → Judged → Type 0
WhereRan asked one = has_run_on asked.processor one.job ≡ true → StaysIn asked one

share_stays_in : (asked : Asked) (past : List Said) (number : ℕ) (before : Bool) (k : ℕ) (job : Job) → asked.moved_parts ≡ true →
    WhereRan asked (judged asked past number before (k, share_of asked job))
share_stays_in asked past number before k job parts ran =
    let none : list_any (is_elsewhere asked.processor) (share_of asked job).stretches ≡ false = none_elsewhere asked job parts ran in
    record {
      own = All-from_recursion (λ stretch. stretch.processor ≡ asked.processor) (share_of asked job).stretches (there asked.processor (share_of asked job).stretches none);
      not_moved = subst (λ (moved : Bool). IsNotMoved (judged_if asked past number before (k, share_of asked job) None moved).reason) (sym none)
          (not_moved asked past number before (k, share_of asked job) None);
    }

shares_stay : (asked : Asked) (past : List Said) (number : ℕ) (before : Bool) (start : ℕ) (jobs : List Job) → asked.moved_parts ≡ true →
    AllByRecursion (WhereRan asked) (map (judged asked past number before) (enumerate_from start (map (share_of asked) jobs)))
shares_stay asked past number before start [] parts = tt
shares_stay asked past number before start (job ∷ jobs) parts =
    (share_stays_in asked past number before start job parts, shares_stay asked past number before (start + 1) jobs parts)

tasks_stay : (asked : Asked) (past : List Said) (number : ℕ) (tasks : List Task) → asked.moved_parts ≡ true → AllByRecursion (WhereRan asked) (judged_from asked past number tasks)
tasks_stay asked past number [] parts = tt
tasks_stay asked past number (task ∷ tasks) parts =
    append-all (WhereRan asked) (judged_of asked past number) (judged_from asked past (number + 1) tasks)
    (shares_stay asked past number (began_before (jobs_of asked past number)) 0 (jobs_of asked past number) parts) (tasks_stay asked past (number + 1) tasks parts)

all_stay : (asked : Asked) (past : List Said) → asked.moved_parts ≡ true → All (WhereRan asked) (all_judged asked past)
all_stay asked past parts =
    All-from_recursion (WhereRan asked) (all_judged asked past)
    (in_order-all (WhereRan asked) begin_of (judged_from asked past 0 asked.tasks) (tasks_stay asked past 0 asked.tasks parts))

-- the laws
pub none_has_moved : NoneHasMoved
none_has_moved asked past parts k d within ran = (all_stay asked past parts k d within ran).not_moved

pub only_its_own : OnlyItsOwn
only_its_own asked past parts k d within ran = (all_stay asked past parts k d within ran).own

-- # Each job belongs to a processor

second_holds : (a b c : Bool) → b ≡ true → (a || b || c) ≡ true
second_holds true b c holds = refl
second_holds false true c holds = refl
second_holds false false c holds = cc

third_holds : (a b c : Bool) → c ≡ true → (a || b || c) ≡ true
third_holds true b c holds = refl
third_holds false true c holds = refl
third_holds false false c holds = holds

pub some_processor : (past : List Said) → 1 ≤ processor_count past
some_processor [] = omega arith
some_processor (said ∷ past) =
    let rest : 1 ≤ processor_count past = some_processor past in
    let more : 1 ≤ max (next_processor said) (processor_count past) = omega (arith, rest) in more

pub numbers_contain : (bound number : ℕ) → number < bound → Contains (first_numbers bound) number
numbers_contain zero number within = absurd (omega arith)
numbers_contain (suc bound) number within = elim (cases_lt number bound) [
  | inl less ↦ Contains-append_left (first_numbers bound) (bound ∷ []) number (numbers_contain bound number less)
  | inr more ↦
      let same : bound ≡ number = omega arith in
      subst (λ (n : ℕ). Contains (first_numbers bound ++ bound ∷ []) n) same (Contains-push (first_numbers bound) bound)
]

-- to that of its last stretch, or else to processor 0
belongs_where : (asked : Asked) (past : List Said) (one : Judged) (stretches : List Stretch) → one.job.stretches ≡ stretches →
    AllByRecursion (IsUnder (processor_count past)) stretches → BelongsTo asked one (first_numbers (processor_count past))
belongs_where asked past one [] is ran = record {
  processor = 0;
  is_there = numbers_contain (processor_count past) 0 (let some : 1 ≤ processor_count past = some_processor past in omega (arith, some));
  has = third_holds (not asked.everywhere) (has_run_on 0 one.job) ((0 == 0) && (length one.job.stretches == 0))
      (ap (λ (stretches : List Stretch). (0 == 0) && (length stretches == 0)) is);
}
belongs_where asked past one (stretch ∷ stretches) is ran = record {
  processor = stretch.processor;
  is_there = numbers_contain (processor_count past) stretch.processor ran.0;
  has = second_holds (not asked.everywhere) (has_run_on stretch.processor one.job) ((stretch.processor == 0) && (length one.job.stretches == 0))
      (ap (list_any (λ (other : Stretch). other.processor == stretch.processor)) is
      ∙ ap (λ (b : Bool). b || list_any (λ (other : Stretch). other.processor == stretch.processor) stretches) (eq-eqb stretch.processor stretch.processor refl));
}

belongs_by : (asked : Asked) (past : List Said) (one : Judged) (everywhere : Bool) → asked.everywhere ≡ everywhere → RanUnder (processor_count past) one →
    BelongsTo asked one (if everywhere then first_numbers (processor_count past) else asked.processor ∷ [])
belongs_by asked past one true is ran = belongs_where asked past one one.job.stretches refl ran
belongs_by asked past one false is ran = record {
  processor = asked.processor;
  is_there = Contains-push [] asked.processor;
  has = ap (λ (everywhere : Bool). not everywhere || has_run_on asked.processor one.job || ((asked.processor == 0) && (length one.job.stretches == 0))) is;
}

-- the law
pub each_job_belongs : EachJobBelongs
each_job_belongs asked past =
    let bound : ℕ = processor_count past in
    All-from_recursion (λ (one : Judged). BelongsTo asked one (processors_of asked past)) (all_judged asked past)
    (all_weaker (RanUnder bound) (λ (one : Judged). BelongsTo asked one (processors_of asked past)) (λ one ran. belongs_by asked past one asked.everywhere refl ran)
    (all_judged asked past) (all_under bound asked past (tell_under bound past (omega arith))))

-- # On a processor of which no line tells

not_there : (bound processor other : ℕ) → other < bound → bound ≤ processor → (other == processor) ≡ false
not_there bound processor other under beyond = ne_eqb other processor (λ (same : other ≡ processor). omega (arith, under, beyond, same))

first_holds : (a b : Bool) → a ≡ true → (a || b) ≡ true
first_holds true b holds = refl
first_holds false b holds = cc

-- and no job has run there
never_ran : (bound processor : ℕ) (stretches : List Stretch) → bound ≤ processor → AllByRecursion (IsUnder bound) stretches →
    list_any (λ (stretch : Stretch). stretch.processor == processor) stretches ≡ false
never_ran bound processor [] beyond ran = refl
never_ran bound processor (stretch ∷ stretches) beyond ran =
    ap₂ (λ (here rest : Bool). here || rest) (not_there bound processor stretch.processor ran.0 beyond) (never_ran bound processor stretches beyond ran.1)

-- each job that ran has run elsewhere
elsewhere_same : (bound processor other : ℕ) (stretches : List Stretch) → bound ≤ processor → bound ≤ other → AllByRecursion (IsUnder bound) stretches →
    list_any (is_elsewhere processor) stretches ≡ list_any (is_elsewhere other) stretches
elsewhere_same bound processor other [] beyond also ran = refl
elsewhere_same bound processor other (stretch ∷ stretches) beyond also ran =
    first_holds (is_elsewhere processor stretch) (list_any (is_elsewhere processor) stretches) (ap not (not_there bound processor stretch.processor ran.0 beyond))
    ∙ sym (first_holds (is_elsewhere other stretch) (list_any (is_elsewhere other) stretches) (ap not (not_there bound other stretch.processor ran.0 also)))

-- the job as it is judged on a processor of which no line tells
judged_never : (bound : ℕ) (asked : Asked) (processor : ℕ) (past : List Said) (number : ℕ) (before : Bool) (k : ℕ) (job : Job) → bound ≤ processor →
    AllByRecursion (IsUnder bound) job.stretches → job.shared ≡ false →
    judged (on processor asked) past number before (k, share_of (on processor asked) job)
    ≡ judged_if asked past number before (k, job) None (list_any (is_elsewhere processor) job.stretches)
judged_never bound asked processor past number before k job beyond ran unshared =
    ap (λ (share : Job). judged (on processor asked) past number before (k, share)) (share_stranger (on processor asked) job (never_ran bound processor job.stretches beyond ran))
    ∙ ap (λ (part : Option ℕ). judged_if asked past number before (k, job) part (list_any (is_elsewhere processor) job.stretches)) (no_part processor job unshared)

numbered_unseen : (bound : ℕ) (asked : Asked) (processor other : ℕ) (past : List Said) (number : ℕ) (before : Bool) (start : ℕ) (jobs : List Job) → bound ≤ processor → bound ≤ other →
    Ran (IsUnder bound) jobs → AllByRecursion (λ job. job.shared ≡ false) jobs →
    map (judged (on processor asked) past number before) (enumerate_from start (map (share_of (on processor asked)) jobs))
    ≡ map (judged (on other asked) past number before) (enumerate_from start (map (share_of (on other asked)) jobs))
numbered_unseen bound asked processor other past number before start [] beyond also ran unshared = refl
numbered_unseen bound asked processor other past number before start (job ∷ jobs) beyond also ran unshared =
    ap₂ (λ (one : Judged) (rest : List Judged). one ∷ rest)
    (judged_never bound asked processor past number before start job beyond ran.0 unshared.0
    ∙ ap (judged_if asked past number before (start, job) None) (elsewhere_same bound processor other job.stretches beyond also ran.0)
    ∙ sym (judged_never bound asked other past number before start job also ran.0 unshared.0))
    (numbered_unseen bound asked processor other past number before (start + 1) jobs beyond also ran.1 unshared.1)

tasks_unseen : (bound : ℕ) (asked : Asked) (processor other : ℕ) (past : List Said) (number : ℕ) (tasks : List Task) → bound ≤ processor → bound ≤ other → TellUnder bound past →
    judged_from (on processor asked) past number tasks ≡ judged_from (on other asked) past number tasks
tasks_unseen bound asked processor other past number [] beyond also tell = refl
tasks_unseen bound asked processor other past number (task ∷ tasks) beyond also tell =
    ap₂ (λ (ones rest : List Judged). ones ++ rest)
    (judged_there asked processor past number
    ∙ numbered_unseen bound asked processor other past number (began_before (jobs_of asked past number)) 0 (jobs_of asked past number) beyond also
    (jobs_under bound asked past number tell) (jobs_unshared asked past number) ∙ sym (judged_there asked other past number))
    (tasks_unseen bound asked processor other past (number + 1) tasks beyond also tell)

pub judged_unseen : (asked : Asked) (past : List Said) (processor other : ℕ) → processor_count past ≤ processor → processor_count past ≤ other →
    all_judged (on processor asked) past ≡ all_judged (on other asked) past
judged_unseen asked past processor other beyond also =
    let bound : ℕ = processor_count past in
    ap (in_order begin_of) (tasks_unseen bound asked processor other past 0 asked.tasks beyond also (tell_under bound past (omega arith)))

-- # No job belongs to it

none_holds : (a b c : Bool) → a ≡ false → b ≡ false → c ≡ false → (a || b || c) ≡ false
none_holds false false false first second third = refl
none_holds true b c first second third = cc
none_holds false true c first second third = cc
none_holds false false true first second third = cc

not_of_it : (bound : ℕ) (asked : Asked) (processor : ℕ) (one : Judged) → asked.everywhere ≡ true → 1 ≤ bound → bound ≤ processor → RanUnder bound one →
    belongs (on processor asked) one ≡ false
not_of_it bound asked processor one everywhere some beyond ran =
    none_holds (not asked.everywhere) (has_run_on processor one.job) ((processor == 0) && (length one.job.stretches == 0)) (ap not everywhere)
    (never_ran bound processor one.job.stretches beyond ran)
    (ap (λ (b : Bool). b && (length one.job.stretches == 0)) (ne_eqb processor 0 (λ (same : processor ≡ 0). omega (arith, same, some, beyond))))

none_pass : {A : Type 0} (test : A → Bool) (xs : List A) → AllByRecursion (λ x. test x ≡ false) xs → filter test xs ≡ []
none_pass test [] fail = refl
none_pass test (x ∷ xs) fail = ap (λ (b : Bool). cond b (x ∷ filter test xs) (filter test xs)) fail.0 ∙ none_pass test xs fail.1

-- jobs that ran on other processors
none_of_it : (bound : ℕ) (asked : Asked) (processor : ℕ) (ones : List Judged) → asked.everywhere ≡ true → 1 ≤ bound → bound ≤ processor →
    AllByRecursion (RanUnder bound) ones → filter (belongs (on processor asked)) ones ≡ []
none_of_it bound asked processor ones everywhere some beyond ran =
    none_pass (belongs (on processor asked)) ones
    (all_weaker (RanUnder bound) (λ (one : Judged). belongs (on processor asked) one ≡ false)
    (λ one own. not_of_it bound asked processor one everywhere some beyond own) ones ran)

pub none_unseen : (asked : Asked) (past : List Said) (processor : ℕ) → asked.everywhere ≡ true → processor_count past ≤ processor →
    filter (belongs (on processor asked)) (all_judged (on processor asked) past) ≡ []
none_unseen asked past processor everywhere beyond =
    let bound : ℕ = processor_count past in
    none_of_it bound asked processor (all_judged (on processor asked) past) everywhere (some_processor past) beyond
    (all_under bound (on processor asked) past (tell_under bound past (omega arith)))

-- nor one of those that wait
waiting_under : (asked : Asked) (past : List Said) (boundary : ℕ) → AllByRecursion (RanUnder (processor_count past)) (waiting_from asked past boundary)
waiting_under asked past boundary =
    let bound : ℕ = processor_count past in
    filter-all (RanUnder bound) (begins_from boundary) (all_judged asked past) (all_under bound asked past (tell_under bound past (omega arith)))

pub part_unseen : (asked : Asked) (past : List Said) (processor : ℕ) (cut : Cut) (until : Option ℕ) → asked.everywhere ≡ true → processor_count past ≤ processor →
    part_until (on processor asked) past cut until ≡ []
part_unseen asked past processor cut until everywhere beyond =
    let bound : ℕ = processor_count past in
    let waits : List Judged = waiting_from (on processor asked) past cut.boundary in
    none_of_it bound asked processor (filter (is_before_end until) waits) everywhere (some_processor past) beyond
    (filter-all (RanUnder bound) (is_before_end until) waits (waiting_under (on processor asked) past cut.boundary))

-- # The same cuts

each_same : (test other : Judged → Bool) (time : ℕ) (ones : List Judged) → AllByRecursion (λ one. test one ≡ other one) ones →
    each_before test time ones ≡ each_before other time ones
each_same test other time [] same = refl
each_same test other time (one ∷ ones) same =
    ap₂ (λ (here rest : Bool). (begins_from time one || here) && rest) same.0 (each_same test other time ones same.1)

any_same : (test other : Judged → Bool) (ones : List Judged) → AllByRecursion (λ one. test one ≡ other one) ones → list_any test ones ≡ list_any other ones
any_same test other [] same = refl
any_same test other (one ∷ ones) same = ap₂ (λ (here rest : Bool). here || rest) same.0 (any_same test other ones same.1)

own_same : (bound : ℕ) (asked : Asked) (processor other : ℕ) (one : Judged) → asked.everywhere ≡ true → 1 ≤ bound → bound ≤ processor → bound ≤ other → RanUnder bound one →
    is_own (on processor asked) one ≡ is_own (on other asked) one
own_same bound asked processor other one everywhere some beyond also own =
    ap (λ (mine : Bool). mine && is_written one)
    (not_of_it bound asked processor one everywhere some beyond own ∙ sym (not_of_it bound asked other one everywhere some also own))

has_own_same : (bound : ℕ) (asked : Asked) (processor other : ℕ) (ones : List Judged) (time : ℕ) → asked.everywhere ≡ true → 1 ≤ bound → bound ≤ processor →
    bound ≤ other → AllByRecursion (RanUnder bound) ones → has_own_job (on processor asked) time ones ≡ has_own_job (on other asked) time ones
has_own_same bound asked processor other ones time everywhere some beyond also ran =
    ap₂ (λ (early any : Bool). early || not any)
    (any_same (λ (one : Judged). begins_before time one && is_own (on processor asked) one) (λ (one : Judged). begins_before time one && is_own (on other asked) one) ones
    (all_weaker (RanUnder bound) (λ (one : Judged). (begins_before time one && is_own (on processor asked) one) ≡ (begins_before time one && is_own (on other asked) one))
    (λ one own. ap (λ (mine : Bool). begins_before time one && mine) (own_same bound asked processor other one everywhere some beyond also own)) ones ran))
    (any_same (is_own (on processor asked)) (is_own (on other asked)) ones
    (all_weaker (RanUnder bound) (λ (one : Judged). is_own (on processor asked) one ≡ is_own (on other asked) one)
    (λ one own. own_same bound asked processor other one everywhere some beyond also own) ones ran))

none_open_same : (bound : ℕ) (asked : Asked) (processor other : ℕ) (ones : List Judged) (time : ℕ) → asked.everywhere ≡ true → 1 ≤ bound → bound ≤ processor →
    bound ≤ other → AllByRecursion (RanUnder bound) ones →
    each_before (is_closed_by (on processor asked) time) time ones ≡ each_before (is_closed_by (on other asked) time) time ones
none_open_same bound asked processor other ones time everywhere some beyond also ran =
    each_same (is_closed_by (on processor asked) time) (is_closed_by (on other asked) time) time ones
    (all_weaker (RanUnder bound) (λ (one : Judged). is_closed_by (on processor asked) time one ≡ is_closed_by (on other asked) time one)
    (λ one own. ap (λ (mine : Bool). not mine || nat_le one.due time) (own_same bound asked processor other one everywhere some beyond also own)) ones ran)

closed_same : (bound : ℕ) (asked : Asked) (processor other : ℕ) (past : List Said) (ones : List Judged) (time : ℕ) → asked.everywhere ≡ true → 1 ≤ bound → bound ≤ processor →
    bound ≤ other → AllByRecursion (RanUnder bound) ones → is_closed (on processor asked) past ones time ≡ is_closed (on other asked) past ones time
closed_same bound asked processor other past ones time everywhere some beyond also ran =
    ap₂ (λ (before closed : Bool). before && closed)
    (ap (λ (own : Bool). is_quiet asked past ones time && own) (has_own_same bound asked processor other ones time everywhere some beyond also ran))
    (none_open_same bound asked processor other ones time everywhere some beyond also ran)

among_same : (bound : ℕ) (asked : Asked) (processor other : ℕ) (past : List Said) (ones : List Judged) → asked.everywhere ≡ true → 1 ≤ bound → bound ≤ processor →
    bound ≤ other → AllByRecursion (RanUnder bound) ones → place_among (on processor asked) past ones ≡ place_among (on other asked) past ones
among_same bound asked processor other past ones everywhere some beyond also ran =
    ap (λ (closed : ℕ → Bool). or_else (last_where closed (map begin_of ones)) (last_where (is_quiet asked past ones) (map begin_of ones)))
    (fun_ext (λ (time : ℕ). closed_same bound asked processor other past ones time everywhere some beyond also ran))

place_same : (asked : Asked) (processor other : ℕ) (past : List Said) (cut : Cut) → asked.everywhere ≡ true → processor_count past ≤ processor → processor_count past ≤ other →
    place_of (on processor asked) past cut ≡ place_of (on other asked) past cut
place_same asked processor other past cut everywhere beyond also =
    let bound : ℕ = processor_count past in
    let waits : List Judged = waiting (on other asked) past cut in
    let spans : List Span = others_from (on other asked) past cut.boundary in
    ap (λ (ones : List Judged). if is_due past && is_much ones (others_from (on processor asked) past cut.boundary)
    then place_among (on processor asked) past ones else None)
    (ap (filter (begins_from cut.boundary)) (judged_unseen asked past processor other beyond also))
    ∙ ap (λ (told : List Span). if is_due past && is_much waits told then place_among (on processor asked) past waits else None)
    (others_from_on asked processor past cut.boundary ∙ sym (others_from_on asked other past cut.boundary))
    ∙ ap (λ (place : Option ℕ). if is_due past && is_much waits spans then place else None)
    (among_same bound asked processor other past waits everywhere (some_processor past) beyond also (waiting_under (on other asked) past cut.boundary))

cut_at_same : (asked : Asked) (processor other : ℕ) (past : List Said) (cut : Cut) (until : Option ℕ) → asked.everywhere ≡ true → processor_count past ≤ processor →
    processor_count past ≤ other → cut_at (on processor asked) past cut until ≡ cut_at (on other asked) past cut until
cut_at_same asked processor other past cut None everywhere beyond also = refl
cut_at_same asked processor other past cut (Some time) everywhere beyond also =
    ap (λ (part : List Judged). with_part past time part cut)
    (part_unseen asked past processor cut (Some time) everywhere beyond ∙ sym (part_unseen asked past other cut (Some time) everywhere also))

before_it : (said : Said) (past : List Said) (processor : ℕ) → processor_count (said ∷ past) ≤ processor → processor_count past ≤ processor
before_it said past processor beyond = let both : max (next_processor said) (processor_count past) ≤ processor = beyond in omega (arith, both)

pub cut_unseen : (asked : Asked) (past : List Said) (processor other : ℕ) → asked.everywhere ≡ true → processor_count past ≤ processor → processor_count past ≤ other →
    cut_after (on processor asked) past ≡ cut_after (on other asked) past
cut_unseen asked [] processor other everywhere beyond also = refl
cut_unseen asked (said ∷ past) processor other everywhere beyond also =
    let cut : Cut = cut_after (on other asked) past in
    ap (λ (before : Cut). cut_at (on processor asked) (said ∷ past) before (place_of (on processor asked) (said ∷ past) before))
    (cut_unseen asked past processor other everywhere (before_it said past processor beyond) (before_it said past other also))
    ∙ ap (cut_at (on processor asked) (said ∷ past) cut) (place_same asked processor other (said ∷ past) cut everywhere beyond also)
    ∙ cut_at_same asked processor other (said ∷ past) cut (place_of (on other asked) (said ∷ past) cut) everywhere beyond also

-- # Nothing is written of it

idle_at : (asked : Asked) (past : List Said) (cut : Cut) (until : Option ℕ) → ((time : ℕ) → part_until asked past cut (Some time) ≡ []) → IsIdle cut → IsIdle (cut_at asked past cut until)
idle_at asked past cut None none is = is
idle_at asked past cut (Some time) none is =
    subst (λ (part : List Judged). IsIdle (with_part past time part cut)) (sym (none time))
    (record { parts = is.parts; jobs = ap (λ (jobs : ℕ). capped (jobs + 0)) is.jobs; due = is.due })

pub idle_unseen : (asked : Asked) (past : List Said) (processor : ℕ) → asked.everywhere ≡ true → processor_count past ≤ processor → IsIdle (cut_after (on processor asked) past)
idle_unseen asked [] processor everywhere beyond = record { parts = refl; jobs = refl; due = refl }
idle_unseen asked (said ∷ past) processor everywhere beyond =
    let cut : Cut = cut_after (on processor asked) past in
    idle_at (on processor asked) (said ∷ past) cut (place_of (on processor asked) (said ∷ past) cut)
    (λ time. part_unseen asked (said ∷ past) processor cut (Some time) everywhere beyond)
    (idle_unseen asked past processor everywhere (before_it said past processor beyond))

-- the law
pub unseen_are_the_same : UnseenAreTheSame
unseen_are_the_same asked past processor other everywhere beyond also = record {
  judged = judged_unseen asked past processor other beyond also;
  none = none_unseen asked past processor everywhere beyond;
  cut = cut_unseen asked past processor other everywhere beyond also;
  idle = idle_unseen asked past processor everywhere beyond;
}
