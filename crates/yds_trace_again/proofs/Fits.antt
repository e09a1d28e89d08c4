-- A trace's document that passes no limit of the program is within those of documents.
use Rattle.yds_model.proofs.Common.{◌≡◌, ◌≢◌, ℕ, zero, suc, ◌+◌, ◌<◌, ◌≤◌, ◌==◌, ◌&&◌, eqb-true, Bool, true, false, nat_lt, List, [], ◌∷◌, ◌++◌, length, map, filter, get_or, Option, Some, None, is_some, refl, sym, ap, subst, ◌∙◌, arith, inl, codes, if◌then◌else◌, All, All-nil, AllByRecursion, AllPairs, recursion_from_All, All-from_recursion, All-map, list_any, list_all, position, position_or_len, option_map, filter_map, flat_map, enumerate_from, ArePoints, AreLevelsOf, IsLevel, fails_before_first, and_parts, or_parts, and_from, ltb-false, cond_both, nat_le, reverse, sum_by-cons, list_all-append, decimal, le-leb, length-map, length-append, IsJob, of_whole, written_slot_at, IsFraction, IsSlot, AreNamedJobs, AreDifferentNames, IsDocument, name_at, is_name, is_visible}
use Rattle.std.specs.List.{cons_option}
use Rattle.yds_texts.proofs.Within.{only_jobs}
use Rattle.base.specs.declared.limits.TheConstants.{MAX_JOBS, MAX_TIME, MAX_WORK, MAX_SLOTS, MAX_SLOT_WORK, MAX_NAME}
use Rattle.yds_kernel.specs.Event.{Said}
use Rattle.yds_trace.specs.Asked.{Task, no_task, Asked, IsAsked, task_at}
use Rattle.yds_trace.specs.Jobs.{Job as TracedJob}
use Rattle.yds_trace.specs.Late.{due}
use Rattle.yds_trace.specs.WrittenTime.{Units, Run, before, work_of_run, work_of_runs}
use Rattle.yds_trace.specs.Document.{named, name_in_parts, written_name, Judged, judged, judged_of, judged_from, all_judged, began_before, jobs_of, shares_of, stands, put_in, in_order, units_of, Written, with_runs, without_runs, written_of, Placed, placed_runs, all_runs}
use Rattle.yds_trace_laws.specs.AsSlots.{job_read, jobs_read, slot_read, slots_read}
use Rattle.yds_trace_laws.specs.InUnits.{document_in, NoneBefore}
use Rattle.yds_trace_laws.proofs.Ordered.{filter-all, put_in-all, in_order-all, append-all, map-all, filter_map-all}
use Rattle.yds_trace_laws.proofs.Runs.{IsForward, runs_forward}
use Rattle.yds_trace_laws.proofs.Times.{lateness_is_kept}
use Rattle.yds_trace_laws.proofs.Judging.{zero_before}
use Rattle.yds_trace_laws.proofs.Faithful.{whole_job}
use Rattle.yds_trace_laws.proofs.Begins.{or_none}
use Rattle.yds_trace_document.specs.declared.fault.DocumentFault.{DocumentFault}
use Rattle.yds_trace_document.specs.declared.fault.DocumentFault.TheVariants as faults
use Rattle.yds_trace_document.specs.Settled.{Settled}
use Rattle.yds_trace_document.specs.Limits.{fault_if, is_long_name, ends_late, is_beyond, is_heavy, work_fault, job_fault, limit_fault}
use Rattle.yds_trace_text.specs.Text.{name_of}
use Rattle.yds_trace_again.specs.Again.{document_read}
use Rattle.yds_trace_again.specs.Laws.{AreLabelled}
use Rattle.yds_trace_again.proofs.Plain.{Digits, decimal_digits}
use Rattle.yds_trace_again.proofs.Names.{Other, other_back, one_task, two_tasks}
use Rattle.yds_trace_again.proofs.RowsRead.{IsRun}

-- # What no limit says

no_fault_if : (test : Bool) (fault : DocumentFault) → fault_if test fault ≡ None → test ≡ false
no_fault_if true fault none = cc
no_fault_if false fault none = refl

no_place : {A B : Type 0} (f : A → B) (o : Option A) → option_map f o ≡ None → o ≡ None
no_place f None none = refl
no_place f (Some x) none = cc

none_if : (b : Bool) (n : ℕ) → (if b then Some n else None) ≡ None → b ≡ false
none_if true n none = cc
none_if false n none = refl

none_passes : {A : Type 0} (p : A → Bool) (xs : List A) → position p xs ≡ None → All (λ x. p x ≡ false) xs
none_passes p xs none k d within =
    let past : length xs ≤ position_or_len p xs =
    ltb-false (position_or_len p xs) (length xs) (none_if (nat_lt (position_or_len p xs) (length xs)) (position_or_len p xs) none) in
    fails_before_first p xs k d (omega (arith, past, within))

-- of each written job: its name is short, its times and its work are within the limits
pub record IsSmall (job : Written) : Type 0 where
  name : length job.name ≤ MAX_NAME
  deadline : job.deadline ≤ MAX_TIME
  ends : list_any ends_late job.runs ≡ false
  work : job.work ≤ MAX_WORK

pub record PassesLimits (jobs : List Written) (runs : List Placed) : Type 0 where
  few_jobs : length jobs ≤ MAX_JOBS
  few_runs : length runs ≤ MAX_SLOTS
  small : All IsSmall jobs

small_by : (job : Written) → is_long_name job ≡ false → is_beyond job ≡ false → is_heavy job ≡ false → IsSmall job
small_by job long beyond heavy =
    let times = or_parts (nat_lt MAX_TIME job.deadline) (list_any ends_late job.runs) beyond in
    record {
      name = ltb-false MAX_NAME (length job.name) long;
      deadline = ltb-false MAX_TIME job.deadline times.0;
      ends = times.1;
      work = ltb-false MAX_WORK job.work heavy;
    }

pub passes_limits : (strict : Bool) (settled : Settled) → limit_fault strict settled ≡ None → PassesLimits settled.document.jobs settled.document.runs
passes_limits strict settled none =
    let jobs : List Written = settled.document.jobs in
    let one = or_none (fault_if (nat_lt MAX_JOBS (length jobs)) faults.TooManyJobs) _ none in
    let two = or_none (fault_if (nat_lt MAX_SLOTS (length settled.document.runs)) faults.TooManyRuns) _ one.1 in
    let three = or_none (job_fault settled.units jobs) _ two.1 in
    let long = or_none (option_map (λ place. faults.NameTooLong place) (position is_long_name jobs)) _ three.0 in
    let beyond = or_none (option_map (λ place. faults.TimeTooGreat place) (position is_beyond jobs)) _ long.1 in
    let names = none_passes is_long_name jobs (no_place (λ place. faults.NameTooLong place) (position is_long_name jobs) long.0) in
    let times = none_passes is_beyond jobs (no_place (λ place. faults.TimeTooGreat place) (position is_beyond jobs) beyond.0) in
    let works = none_passes is_heavy jobs (no_place (work_fault settled.units jobs) (position is_heavy jobs) beyond.1) in
    record {
      few_jobs = ltb-false MAX_JOBS (length jobs) (no_fault_if (nat_lt MAX_JOBS (length jobs)) faults.TooManyJobs one.0);
      few_runs = ltb-false MAX_SLOTS (length settled.document.runs) (no_fault_if (nat_lt MAX_SLOTS (length settled.document.runs)) faults.TooManyRuns two.0);
      small = λ k d within. small_by (get_or jobs k d) (names k d within) (times k d within) (works k d within);
    }

pub no_jobs : (jobs : List Written) → (length jobs == 0) ≡ true → PassesLimits jobs (all_runs jobs)
no_jobs [] none = record { few_jobs = omega arith; few_runs = omega arith; small = All-nil IsSmall }
no_jobs (job ∷ jobs) none = absurd (omega (arith, eqb-true (length (job ∷ jobs)) 0 none))

-- # What is judged

-- a job of one of the tasks with these numbers: how it is called, and that it is due a unit of time behind its begin or later, where it stands as it is
pub record IsOfTask (asked : Asked) (low high : ℕ) (one : Judged) : Type 0 where
  number : ℕ
  not_before : low ≤ number
  not_after : number < high
  before_first : Bool
  place : ℕ
  name_is : written_name one ≡ name_in_parts (named (task_at asked number).label before_first place) one.part
  due_later : stands one ≡ true → one.job.begin + asked.unit ≤ one.due

of_task : (asked : Asked) (past : List Said) (number : ℕ) → AllByRecursion (IsOfTask asked number (number + 1)) (judged_of asked past number)
of_task asked past number =
    map-all (IsOfTask asked number (number + 1)) (judged asked past number (began_before (jobs_of asked past number))) (enumerate_from 0 (shares_of asked past number))
    (λ numbered. record {
      number = number;
      not_before = omega arith;
      not_after = omega arith;
      before_first = began_before (jobs_of asked past number);
      place = numbered.0;
      name_is = refl;
      due_later = λ whole.
          ltb-false (due (task_at asked number) numbered.1) (numbered.1.begin + asked.unit) (whole_job asked past (task_at asked number) numbered.1 whole).1;
    })

wider : (asked : Asked) (low less high more : ℕ) → less ≤ low → high ≤ more → (ones : List Judged) → AllByRecursion (IsOfTask asked low high) ones → AllByRecursion (IsOfTask asked less more) ones
wider asked low less high more below above [] all = tt
wider asked low less high more below above (one ∷ ones) all = (
  record {
    number = all.0.number;
    not_before = omega (arith, all.0.not_before, below);
    not_after = omega (arith, all.0.not_after, above);
    before_first = all.0.before_first;
    place = all.0.place;
    name_is = all.0.name_is;
    due_later = all.0.due_later;
  },
  wider asked low less high more below above ones all.1,
)

of_tasks : (asked : Asked) (past : List Said) (number : ℕ) (tasks : List Task) →
    AllByRecursion (IsOfTask asked number (number + length tasks)) (judged_from asked past number tasks)
of_tasks asked past number [] = tt
of_tasks asked past number (task ∷ tasks) =
    append-all (IsOfTask asked number (number + length (task ∷ tasks))) (judged_of asked past number) (judged_from asked past (number + 1) tasks)
    (wider asked number number (number + 1) (number + length (task ∷ tasks)) (omega arith) (omega arith) (judged_of asked past number) (of_task asked past number))
    (wider asked (number + 1) number (number + 1 + length tasks) (number + length (task ∷ tasks)) (omega arith) (omega arith) (judged_from asked past (number + 1) tasks)
    (of_tasks asked past (number + 1) tasks))

of_all_tasks : (asked : Asked) (past : List Said) → AllByRecursion (IsOfTask asked 0 (length asked.tasks)) (all_judged asked past)
of_all_tasks asked past =
    in_order-all (IsOfTask asked 0 (length asked.tasks)) (λ one. one.job.begin) (judged_from asked past 0 asked.tasks)
    (wider asked 0 0 (0 + length asked.tasks) (length asked.tasks) (omega arith) (omega arith) (judged_from asked past 0 asked.tasks) (of_tasks asked past 0 asked.tasks))

-- # Names that differ

-- no two elements have the same short name
abbrev pub Apart : {A : Type 0} → (A → List ℕ) → List A → Type 0
Apart name [] = Unit {0}
Apart name (x ∷ xs) = AllByRecursion (λ y. Other (name x) (name y)) xs × Apart name xs

apart_put : {A : Type 0} (name : A → List ℕ) (key : A → ℕ) (x : A) (ys : List A) → AllByRecursion (λ y. Other (name x) (name y)) ys → Apart name ys →
    Apart name (put_in key x ys)
apart_put name key x [] other rest = (tt, tt)
apart_put name key x (y ∷ ys) other rest =
    cond_both (nat_le (key x) (key y)) (x ∷ y ∷ ys) (y ∷ put_in key x ys) (Apart name) (λ before. (other, rest))
    (λ behind. (put_in-all (λ z. Other (name y) (name z)) key x ys (other_back (name x) (name y) other.0) rest.0, apart_put name key x ys other.1 rest.1))

apart_in_order : {A : Type 0} (name : A → List ℕ) (key : A → ℕ) (xs : List A) → Apart name xs → Apart name (in_order key xs)
apart_in_order name key [] apart = tt
apart_in_order name key (x ∷ xs) apart =
    apart_put name key x (in_order key xs) (in_order-all (λ y. Other (name x) (name y)) key xs apart.0) (apart_in_order name key xs apart.1)

apart_append : {A : Type 0} (name : A → List ℕ) (xs ys : List A) → AllByRecursion (λ x. AllByRecursion (λ y. Other (name x) (name y)) ys) xs →
    Apart name xs → Apart name ys → Apart name (xs ++ ys)
apart_append name [] ys across first second = second
apart_append name (x ∷ xs) ys across first second =
    (append-all (λ y. Other (name x) (name y)) xs ys first.0 across.0, apart_append name xs ys across.1 first.1 second)

later_names : (asked : Asked) (past : List Said) (number : ℕ) (before moved : Bool) (k start : ℕ) (jobs : List TracedJob) → k < start →
    AllByRecursion (λ one. Other (name_in_parts (named (task_at asked number).label before k) (if moved then Some asked.processor else None)) (written_name one))
    (map (judged asked past number before) (enumerate_from start jobs))
later_names asked past number before moved k start [] order = tt
later_names asked past number before moved k start (job ∷ jobs) order = (
  one_task (task_at asked number).label before k start asked.processor moved job.shared order,
  later_names asked past number before moved k (start + 1) jobs (omega (arith, order)),
)

apart_of : (asked : Asked) (past : List Said) (number : ℕ) (before : Bool) (start : ℕ) (jobs : List TracedJob) →
    Apart written_name (map (judged asked past number before) (enumerate_from start jobs))
apart_of asked past number before start [] = tt
apart_of asked past number before start (job ∷ jobs) =
    (later_names asked past number before job.shared start (start + 1) jobs (omega arith), apart_of asked past number before (start + 1) jobs)

two_others : (asked : Asked) (one other : Judged) (low middle high : ℕ) → high ≤ length asked.tasks → AllPairs (λ task other. task.label ≢ other.label) asked.tasks →
    IsOfTask asked low middle one → IsOfTask asked middle high other → Other (written_name one) (written_name other)
two_others asked one other low middle high within different first second =
    let apart : (task_at asked first.number).label ≢ (task_at asked second.number).label =
    different first.number second.number no_task (omega (arith, first.not_after, second.not_before)) (omega (arith, second.not_after, within)) in
    let names = two_tasks (task_at asked first.number).label (task_at asked second.number).label first.before_first second.before_first first.place second.place one.part other.part apart in
    subst (λ name. Other name (written_name other)) (sym first.name_is)
    (subst (λ name. Other (name_in_parts (named (task_at asked first.number).label first.before_first first.place) one.part) name) (sym second.name_is) names)

all_across : {A B : Type 0} (P : A → Type 0) (Q : B → Type 0) (R : A → B → Type 0) (xs : List A) (ys : List B) →
    ((x : A) (y : B) → P x → Q y → R x y) → AllByRecursion P xs → AllByRecursion Q ys → AllByRecursion (λ x. AllByRecursion (R x) ys) xs
all_across P Q R [] ys each first second = tt
all_across P Q R (x ∷ xs) ys each first second = (inner ys second, all_across P Q R xs ys each first.1 second)
  where
    inner : (ys : List _) → AllByRecursion Q ys → AllByRecursion (R x) ys
    inner [] all = tt
    inner (y ∷ ys) all = (each x y first.0 all.0, inner ys all.1)

apart_from : (asked : Asked) (past : List Said) (number : ℕ) (tasks : List Task) → AllPairs (λ task other. task.label ≢ other.label) asked.tasks →
    number + length tasks ≤ length asked.tasks → Apart written_name (judged_from asked past number tasks)
apart_from asked past number [] different within = tt
apart_from asked past number (task ∷ tasks) different within =
    apart_append written_name (judged_of asked past number) (judged_from asked past (number + 1) tasks)
    (all_across (IsOfTask asked number (number + 1)) (IsOfTask asked (number + 1) (number + 1 + length tasks)) (λ x y. Other (written_name x) (written_name y))
    (judged_of asked past number) (judged_from asked past (number + 1) tasks)
    (λ x y first second. two_others asked x y number (number + 1) (number + 1 + length tasks) (omega (arith, within)) different first second)
    (of_task asked past number) (of_tasks asked past (number + 1) tasks))
    (apart_of asked past number (began_before (jobs_of asked past number)) 0 (shares_of asked past number))
    (apart_from asked past (number + 1) tasks different (omega (arith, within)))

-- # What is written

name_written : (units : Units) (one : Judged) (job : Written) → written_of units one ≡ Some job → written_name one ≡ job.name
name_written units one job is = by (stands one) (is_some one.late) is
  where
    by : (b c : Bool) → (if b then Some (with_runs units one) else (if c then Some (without_runs units one) else None)) ≡ Some job → written_name one ≡ job.name
    by true c is = let same : with_runs units one ≡ job = cc in ap (λ (job : Written). job.name) same
    by false true is = let same : without_runs units one ≡ job = cc in ap (λ (job : Written). job.name) same
    by false false is = cc

written_apart : (units : Units) (ones : List Judged) → Apart written_name ones → Apart name_of (filter_map (written_of units) ones)
written_apart units [] apart = tt
written_apart units (one ∷ ones) apart = by (written_of units one) refl (written_apart units ones apart.1)
  where
    by : (o : Option Written) → written_of units one ≡ o → Apart name_of (filter_map (written_of units) ones) →
        Apart name_of (cons_option o (filter_map (written_of units) ones))
    by None is rest = rest
    by (Some job) is rest = (
      filter_map-all (written_of units) (λ y. Other (written_name one) (written_name y)) (λ y. Other job.name y.name)
          (λ x y other given. subst (λ name. Other name y.name) (name_written units one job is) (subst (λ name. Other (written_name one) name) (name_written units x y given) other)) ones apart.0,
      rest,
    )

-- Short names that are apart are different.
name_apart : (name : List ℕ) (jobs : List Written) (j : ℕ) → length name ≤ MAX_NAME → AllByRecursion IsSmall jobs → AllByRecursion (λ y. Other name y.name) jobs →
    j < length (map name_of jobs) → name ≡ name_at (map name_of jobs) j → ⊥
name_apart name [] j short small other within same = omega (arith, within)
name_apart name (job ∷ jobs) zero short small other within same = other.0 short small.0.name same
name_apart name (job ∷ jobs) (suc j) short small other within same = name_apart name jobs j short small.1 other.1 (omega (arith, within)) same

different_names : (jobs : List Written) → Apart name_of jobs → AllByRecursion IsSmall jobs → AreDifferentNames (map name_of jobs)
different_names [] apart small i j i_within j_within same = absurd (omega (arith, i_within))
different_names (job ∷ jobs) apart small zero zero i_within j_within same = refl
different_names (job ∷ jobs) apart small zero (suc j) i_within j_within same =
    absurd (name_apart job.name jobs j small.0.name small.1 apart.0 (omega (arith, j_within)) same)
different_names (job ∷ jobs) apart small (suc i) zero i_within j_within same =
    absurd (name_apart job.name jobs i small.0.name small.1 apart.0 (omega (arith, i_within)) (sym same))
different_names (job ∷ jobs) apart small (suc i) (suc j) i_within j_within same =
    ap (λ (n : ℕ). suc n) (different_names jobs apart.1 small.1 i j (omega (arith, i_within)) (omega (arith, j_within)) same)

-- # Runs

runs_end_soon : (runs : List Run) → list_any ends_late runs ≡ false → AllByRecursion (λ run. run.to ≤ MAX_TIME) runs
runs_end_soon [] none = tt
runs_end_soon (run ∷ runs) none =
    let parts = or_parts (ends_late run) (list_any ends_late runs) none in
    (ltb-false MAX_TIME run.to parts.0, runs_end_soon runs parts.1)

runs_work : (most : ℕ) (runs : List Run) → work_of_runs runs ≤ most → AllByRecursion (λ run. work_of_run run ≤ most) runs
runs_work most [] within = tt
runs_work most (run ∷ runs) within =
    let all : work_of_runs (run ∷ runs) ≡ work_of_run run + work_of_runs runs = sum_by-cons work_of_run run runs in
    (omega (arith, all, within), runs_work most runs (omega (arith, all, within)))

runs_are : (runs : List Run) → AllByRecursion IsForward runs → AllByRecursion (λ run. run.to ≤ MAX_TIME) runs → AllByRecursion (λ run. work_of_run run ≤ MAX_WORK) runs →
    AllByRecursion IsRun runs
runs_are [] forward ends works = tt
runs_are (run ∷ runs) forward ends works =
    (record { forward = forward.0; time_in_range = ends.0; work_in_range = works.0 }, runs_are runs forward.1 ends.1 works.1)

-- # Jobs

-- a job that is judged: where it stands as it is it begins at time 0 or later, and is due a unit of time later
record IsDueLater (units : Units) (one : Judged) : Type 0 where
  zero_first : stands one ≡ true → units.zero ≤ one.job.begin
  due_later : stands one ≡ true → one.job.begin + units.time ≤ one.due

-- what is written of one
record IsWritten (job : Written) : Type 0 where
  window : job.release < job.deadline
  forward : AllByRecursion IsForward job.runs
  enough : work_of_runs job.runs ≤ job.work

written_is : (units : Units) (one : Judged) (job : Written) → 1 ≤ units.time → IsDueLater units one → written_of units one ≡ Some job → IsWritten job
written_is units one job positive later is = by (stands one) (is_some one.late) refl is
  where
    whole : stands one ≡ true → IsWritten (with_runs units one)
    whole stand = record {
      window = lateness_is_kept units one.job.begin one.due positive (later.zero_first stand) (later.due_later stand);
      forward = runs_forward units (reverse one.job.stretches);
      enough = omega arith;
    }

    without : IsWritten (without_runs units one)
    without = record { window = omega arith; forward = tt; enough = omega arith }

    by : (b c : Bool) → stands one ≡ b → (if b then Some (with_runs units one) else (if c then Some (without_runs units one) else None)) ≡ Some job → IsWritten job
    by true c stand is = let same : with_runs units one ≡ job = cc in subst IsWritten same (whole stand)
    by false true stand is = let same : without_runs units one ≡ job = cc in subst IsWritten same without
    by false false stand is = cc

-- # Some of the jobs

-- Jobs of a trace whose names differ, in units of their own: none that stands as it is begins before time 0.
pub record AreSome (asked : Asked) (units : Units) (ones : List Judged) : Type 0 where
  pub of_tasks : AllByRecursion (IsOfTask asked 0 (length asked.tasks)) ones
  pub apart : Apart written_name ones
  pub time_is : units.time ≡ asked.unit
  pub none_before : NoneBefore units ones

apart_filter : {A : Type 0} (name : A → List ℕ) (test : A → Bool) (xs : List A) → Apart name xs → Apart name (filter test xs)
apart_filter name test [] apart = tt
apart_filter name test (x ∷ xs) apart =
    cond_both (test x) (x ∷ filter test xs) (filter test xs) (Apart name)
    (λ held. (filter-all (λ y. Other (name x) (name y)) test xs apart.0, apart_filter name test xs apart.1))
    (λ denied. apart_filter name test xs apart.1)

all_apart : (asked : Asked) (past : List Said) → AreLabelled asked.tasks → Apart written_name (all_judged asked past)
all_apart asked past labelled =
    apart_in_order written_name (λ one. one.job.begin) (judged_from asked past 0 asked.tasks) (apart_from asked past 0 asked.tasks labelled.different (omega arith))

pub all_are_some : (asked : Asked) (past : List Said) → AreLabelled asked.tasks → AreSome asked (units_of asked past) (all_judged asked past)
all_are_some asked past labelled = record {
  of_tasks = of_all_tasks asked past;
  apart = all_apart asked past labelled;
  time_is = refl;
  none_before = zero_before asked past;
}

pub those_are_some : (asked : Asked) (past : List Said) (units : Units) (test : Judged → Bool) → AreLabelled asked.tasks → units.time ≡ asked.unit →
    NoneBefore units (filter test (all_judged asked past)) → AreSome asked units (filter test (all_judged asked past))
those_are_some asked past units test labelled time none_before = record {
  of_tasks = filter-all (IsOfTask asked 0 (length asked.tasks)) test (all_judged asked past) (of_all_tasks asked past);
  apart = apart_filter written_name test (all_judged asked past) (all_apart asked past labelled);
  time_is = time;
  none_before = none_before;
}

-- so it is of each of these jobs
due_later : (asked : Asked) (units : Units) (ones : List Judged) → AreSome asked units ones → All (IsDueLater units) ones
due_later asked units ones some k d within =
    let one = All-from_recursion (IsOfTask asked 0 (length asked.tasks)) ones some.of_tasks k d within in
    record {
      zero_first = some.none_before k d within;
      due_later = λ stand. let long = one.due_later stand in omega (arith, long, some.time_is);
    }

all_written : (asked : Asked) (units : Units) (ones : List Judged) → IsAsked asked → AreSome asked units ones → AllByRecursion IsWritten (filter_map (written_of units) ones)
all_written asked units ones fit some =
    filter_map-all (written_of units) (IsDueLater units) IsWritten
    (λ one job later is. written_is units one job (omega (arith, fit.has_unit, some.time_is)) later is) ones
    (recursion_from_All (IsDueLater units) ones (due_later asked units ones some))

-- # The document

jobs_fit : (jobs : List Written) → AllByRecursion IsWritten jobs → AllByRecursion IsSmall jobs → AllByRecursion IsJob (jobs_read jobs)
jobs_fit [] written small = tt
jobs_fit (job ∷ jobs) written small =
    (record { has_window = written.0.window; time_in_range = small.0.deadline; work_in_range = small.0.work }, jobs_fit jobs written.1 small.1)

abbrev AreRuns : Written → Type 0
AreRuns job = AllByRecursion IsRun job.runs

all_runs_are : (jobs : List Written) → AllByRecursion IsWritten jobs → AllByRecursion IsSmall jobs → AllByRecursion AreRuns jobs
all_runs_are [] written small = tt
all_runs_are (job ∷ jobs) written small = (
  runs_are job.runs written.0.forward (runs_end_soon job.runs small.0.ends) (runs_work MAX_WORK job.runs (omega (arith, written.0.enough, small.0.work))),
  all_runs_are jobs written.1 small.1,
)

-- each run as it is placed is one of a job
placed_are : (start bound : ℕ) (jobs : List Written) → start + length jobs ≤ bound → AllByRecursion AreRuns jobs →
    AllByRecursion (λ (placed : Placed). (placed.job < bound) × IsRun placed.run) (flat_map placed_runs (enumerate_from start jobs))
placed_are start bound [] within runs = tt
placed_are start bound (job ∷ jobs) within runs =
    append-all (λ (placed : Placed). (placed.job < bound) × IsRun placed.run) (placed_runs (start, job)) (flat_map placed_runs (enumerate_from (start + 1) jobs))
    (own job.runs runs.0) (placed_are (start + 1) bound jobs (omega (arith, within)) runs.1)
  where
    own : (some : List Run) → AllByRecursion IsRun some → AllByRecursion (λ (placed : Placed). (placed.job < bound) × IsRun placed.run) (map (λ run. record { job = start; run = run }) some)
    own [] all = tt
    own (run ∷ some) all = ((omega (arith, within), all.0), own some all.1)

pub record IsFit (jobs : List Written) (runs : List Placed) : Type 0 where
  pub named : AreNamedJobs (map name_of jobs) (jobs_read jobs)
  pub few : length runs ≤ MAX_SLOTS
  pub known : All (λ placed. placed.job < length (map name_of jobs)) runs
  pub are : All (λ placed. IsRun placed.run) runs

visible_digits : (text : List ℕ) → Digits text → list_all is_visible text ≡ true
visible_digits [] all = refl
visible_digits (byte ∷ text) all =
    and_from (is_visible byte) (list_all is_visible text)
    (and_from (nat_le 33 byte) (nat_le byte 126) (le-leb 33 byte (omega (arith, all.0.0))) (le-leb byte 126 (omega (arith, all.0.1)))) (visible_digits text all.1)

visible_both : (front back : List ℕ) → list_all is_visible front ≡ true → list_all is_visible back ≡ true → list_all is_visible (front ++ back) ≡ true
visible_both front back first second = list_all-append is_visible front back ∙ and_from (list_all is_visible front) (list_all is_visible back) first second

named_visible : (label : List ℕ) (before : Bool) (k : ℕ) → list_all is_visible label ≡ true → list_all is_visible (named label before k) ≡ true
named_visible label true zero visible = visible_both label (codes ".before") visible refl
named_visible label true (suc k) visible = visible_both (label ++ codes ".") (decimal k) (visible_both label (codes ".") visible refl) (visible_digits (decimal k) (decimal_digits k))
named_visible label false k visible = visible_both (label ++ codes ".") (decimal k) (visible_both label (codes ".") visible refl) (visible_digits (decimal k) (decimal_digits k))

named_some : (label : List ℕ) (before : Bool) (k : ℕ) → 1 ≤ length (named label before k)
named_some label true zero = omega (arith, length-append label (codes ".before"))
named_some label true (suc k) = omega (arith, length-append (label ++ codes ".") (decimal k), length-append label (codes "."))
named_some label false k = omega (arith, length-append (label ++ codes ".") (decimal k), length-append label (codes "."))

visible_in_parts : (name : List ℕ) (part : Option ℕ) → list_all is_visible name ≡ true → list_all is_visible (name_in_parts name part) ≡ true
visible_in_parts name None visible = visible
visible_in_parts name (Some processor) visible =
    visible_both (name ++ codes "@") (decimal processor) (visible_both name (codes "@") visible refl) (visible_digits (decimal processor) (decimal_digits processor))

some_in_parts : (name : List ℕ) (part : Option ℕ) → 1 ≤ length name → 1 ≤ length (name_in_parts name part)
some_in_parts name None some = some
some_in_parts name (Some processor) some = omega (arith, length-append (name ++ codes "@") (decimal processor), length-append name (codes "@"), some)

-- of a name that isn't judged yet whether it is short
record IsShown (name : List ℕ) : Type 0 where
  some : 1 ≤ length name
  visible : list_all is_visible name ≡ true

shown : (asked : Asked) (one : Judged) → AreLabelled asked.tasks → IsOfTask asked 0 (length asked.tasks) one → IsShown (written_name one)
shown asked one labelled of =
    let label : is_name (task_at asked of.number).label ≡ true = labelled.names of.number no_task of.not_after in
    let parts = and_parts _ _ label in
    let name : List ℕ = named (task_at asked of.number).label of.before_first of.place in
    subst IsShown (sym of.name_is)
    (record {
      some = some_in_parts name one.part (named_some (task_at asked of.number).label of.before_first of.place);
      visible = visible_in_parts name one.part (named_visible (task_at asked of.number).label of.before_first of.place parts.1);
    })

name_fits : (name : List ℕ) → IsShown name → length name ≤ MAX_NAME → is_name name ≡ true
name_fits name shown short =
    and_from (nat_le 1 (length name) && nat_le (length name) MAX_NAME) (list_all is_visible name)
    (and_from (nat_le 1 (length name)) (nat_le (length name) MAX_NAME) (le-leb 1 (length name) shown.some) (le-leb (length name) MAX_NAME short)) shown.visible

names_fit : (jobs : List Written) → AllByRecursion (λ job. IsShown job.name) jobs → AllByRecursion IsSmall jobs → AllByRecursion (λ name. is_name name ≡ true) (map name_of jobs)
names_fit [] shown small = tt
names_fit (job ∷ jobs) shown small = (name_fits job.name shown.0 small.0.name, names_fit jobs shown.1 small.1)

pub fits : (asked : Asked) (units : Units) (ones : List Judged) → IsAsked asked → AreLabelled asked.tasks → AreSome asked units ones →
    PassesLimits (document_in units ones).jobs (document_in units ones).runs → IsFit (document_in units ones).jobs (document_in units ones).runs
fits asked units ones fit labelled some limits =
    let jobs : List Written = (document_in units ones).jobs in
    let small : AllByRecursion IsSmall jobs = recursion_from_All IsSmall jobs limits.small in
    let written : AllByRecursion IsWritten jobs = all_written asked units ones fit some in
    let apart : Apart name_of jobs = written_apart units ones some.apart in
    let shown_names : AllByRecursion (λ job. IsShown job.name) jobs =
    filter_map-all (written_of units) (IsOfTask asked 0 (length asked.tasks)) (λ job. IsShown job.name)
    (λ one job of is. subst IsShown (name_written units one job is) (shown asked one labelled of)) ones some.of_tasks in
    let placed : AllByRecursion (λ (placed : Placed). (placed.job < length jobs) × IsRun placed.run) (all_runs jobs) =
    in_order-all (λ (placed : Placed). (placed.job < length jobs) × IsRun placed.run) (λ placed. placed.run.from) (flat_map placed_runs (enumerate_from 0 jobs))
    (placed_are 0 (length jobs) jobs (omega arith) (all_runs_are jobs written small)) in
    let each : All (λ (placed : Placed). (placed.job < length jobs) × IsRun placed.run) (all_runs jobs) =
    All-from_recursion (λ (placed : Placed). (placed.job < length jobs) × IsRun placed.run) (all_runs jobs) placed in
    record {
      named = record {
        one_name_each = length-map jobs name_of ∙ sym (length-map jobs job_read);
        few = omega (arith, length-map jobs job_read, limits.few_jobs);
        names_fit = All-from_recursion (λ name. is_name name ≡ true) (map name_of jobs) (names_fit jobs shown_names small);
        different = different_names jobs apart small;
        jobs_fit = All-from_recursion IsJob (jobs_read jobs) (jobs_fit jobs written small);
      };
      few = limits.few_runs;
      known = λ k d within. omega (arith, (each k d within).0, length-map jobs name_of);
      are = λ k d within. (each k d within).1;
    }

-- # So it is possible

whole_in_range : (n most : ℕ) → n ≤ most → IsFraction most (of_whole n)
whole_in_range n most within = record { whole_in_range = within; below_one = omega arith; den_in_range = omega arith; whole_is_plain = λ none. refl }

slot_fits : (placed : Placed) → IsRun placed.run → IsSlot (slot_read placed)
slot_fits placed run = record {
  from = whole_in_range placed.run.from MAX_TIME (omega (arith, run.forward, run.time_in_range));
  to = whole_in_range placed.run.to MAX_TIME run.time_in_range;
  work = whole_in_range (work_of_run placed.run) MAX_SLOT_WORK (omega (arith, run.work_in_range));
  ends_alike = inl refl;
}

work_is_whole : (runs : List Placed) (i : ℕ) → (written_slot_at (slots_read runs) i).work.den ≡ 1
work_is_whole [] i = refl
work_is_whole (placed ∷ runs) zero = refl
work_is_whole (placed ∷ runs) (suc i) = work_is_whole runs i

pub possible : (jobs : List Written) (runs : List Placed) → IsFit jobs runs → IsDocument (document_read (record { jobs = jobs; runs = runs }))
possible jobs runs fit = record {
  jobs = fit.named;
  points = no_points;
  slots = record {
    few = omega (arith, length-map runs slot_read, fit.few);
    fit = All-map IsSlot slot_read runs (λ k d within. slot_fits (get_or runs k d) (fit.are k d within));
    known = All-map (λ slot. slot.job < length (map name_of jobs)) slot_read runs fit.known;
    grains = λ i j i_within j_within same. inl (work_is_whole runs i ∙ sym (work_is_whole runs j));
  };
  levels = no_levels;
  grid = tt;
  energy = tt;
}
  where
    no_names : AreNamedJobs [] []
    no_names = record { one_name_each = refl; few = omega arith; names_fit = All-nil (λ name. is_name name ≡ true); different = λ i j i_within j_within same. absurd (omega (arith, i_within)); jobs_fit = All-nil IsJob }

    no_points : ArePoints []
    no_points = (only_jobs [] [] no_names).points

    no_levels : AreLevelsOf (length (map name_of jobs)) []
    no_levels = record { few = omega arith; few_pieces = omega arith; few_members = omega arith; fit = All-nil IsLevel; known = All-nil (λ job. job < length (map name_of jobs)) }
