-- Each job and each run of a trace's document is one that the trace shows, no job that is written is missing, and no run of one that stands as it is.
use Rattle.yds_model.proofs.Common.{◌≡◌, ℕ, zero, suc, ◌+◌, ◌<◌, ◌≤◌, inl, inr, ◌==◌, ◌&&◌, List, [], ◌∷◌, length, map, flat_map, reverse, Bool, true, false, not, nat_lt, if◌then◌else◌, Option, Some, None, is_some, is_none, refl, sym, ap, ◌∙◌, subst, arith, get_or, All, All-from_recursion, recursion_from_All, All-contains_itself, Contains, list_any, or_parts, eqb-true, lt-ltb, cases_lt}
use Rattle.std.specs.List.{AllByRecursion, enumerate_from}
use Rattle.yds_kernel.specs.Event.{Said}
use Rattle.yds_trace.specs.declared.job.Stretch.{Stretch}
use Rattle.yds_trace.specs.declared.reason.Reason.{Reason}
use Rattle.yds_trace.specs.declared.reason.Reason.TheVariants as reasons
use Rattle.yds_trace.specs.Asked.{Task, Asked, task_at, is_after_from}
use Rattle.yds_trace.specs.Late.{last_asked, due, is_open, lateness}
use Rattle.yds_trace.specs.Jobs.{Job}
use Rattle.yds_trace.specs.WrittenTime.{Units, Run, run_of}
use Rattle.yds_trace.specs.Document.{is_lost, reaches_to, is_elsewhere, is_of_unknown_speed, reason_of, Judged, judged, all_judged, stands, units_of, Written, with_runs, without_runs, written_runs, written_of, Placed, placed_runs, all_runs}
use Rattle.yds_trace_laws.specs.Faithful.{IsAt, IsShown, IsStanding, IsTraced, IsTracedJob, HasItsJob, HasRun, HasItsRuns}
use Rattle.yds_trace_laws.specs.InUnits.{document_in}
use Rattle.yds_trace_laws.specs.Laws.{SomeAreFaithful, DocumentsAreFaithful}
use Rattle.yds_trace_laws.proofs.Seen.{stands_written}
use Rattle.yds_trace_laws.proofs.Ordered.{in_order-all, in_order-all_back, append-all, append-all_left, append-all_right, filter_map-all}
use Rattle.yds_trace_laws.proofs.Placing.{found, place}
use Rattle.yds_trace_laws.proofs.Times.{order_is_kept}
use Rattle.yds_trace_laws.proofs.Judging.{each_judged}
use Rattle.yds_trace_laws.proofs.Runs.{all_weaker, contained, each_of_these, reverse-all, reverse-all_back, IsForward, IsRunOf, WhereForward, runs_are_stretches, IsInSome, stretches_have_runs}

-- # A job that stands as it is

-- its stretches are on the processor, and their speeds are known
pub record IsWhole (asked : Asked) (one : Judged) : Type 0 where
  pub none_elsewhere : stands one ≡ true → list_any (is_elsewhere asked.processor) one.job.stretches ≡ false
  pub none_unknown : stands one ≡ true → list_any is_of_unknown_speed one.job.stretches ≡ false

none_left : (first second third fourth fifth sixth moved unknown : Bool) (one two three four five six seven eight : Reason)
    → is_none (if first then Some one else (if second then Some two else (if third then Some three else (if fourth then Some four
    else (if fifth then Some five else (if sixth then Some six else (if moved then Some seven else (if unknown then Some eight else None)))))))) ≡ true
    → (fourth ≡ false) × (sixth ≡ false) × (moved ≡ false) × (unknown ≡ false)
none_left true second third fourth fifth sixth moved unknown one two three four five six seven eight none = cc
none_left false true third fourth fifth sixth moved unknown one two three four five six seven eight none = cc
none_left false false true fourth fifth sixth moved unknown one two three four five six seven eight none = cc
none_left false false false true fifth sixth moved unknown one two three four five six seven eight none = cc
none_left false false false false true sixth moved unknown one two three four five six seven eight none = cc
none_left false false false false false true moved unknown one two three four five six seven eight none = cc
none_left false false false false false false true unknown one two three four five six seven eight none = cc
none_left false false false false false false false true one two three four five six seven eight none = cc
none_left false false false false false false false false one two three four five six seven eight none = (refl, refl, refl, refl)

-- it has ended or is known to be late, isn't due before a unit of time behind its begin, and its runs are known
pub whole_job : (asked : Asked) (past : List Said) (task : Task) (job : Job) → is_none (reason_of asked past task job) ≡ true →
    ((is_open job.end && is_none (lateness asked task (last_asked asked past) job)) ≡ false) × (nat_lt (due task job) (job.begin + asked.unit) ≡ false)
    × (list_any (is_elsewhere asked.processor) job.stretches ≡ false) × (list_any is_of_unknown_speed job.stretches ≡ false)
whole_job asked past task job whole =
    none_left (not (is_after_from asked.from job.begin)) (is_lost (last_asked asked past) job.end) job.switch_missing
    (is_open job.end && is_none (lateness asked task (last_asked asked past) job)) (not job.begin_known) (nat_lt (due task job) (job.begin + asked.unit))
    (list_any (is_elsewhere asked.processor) job.stretches) (list_any is_of_unknown_speed job.stretches)
    reasons.BeforeFrom reasons.EventsLost reasons.SwitchMissing (if reaches_to asked past then reasons.AfterTo else reasons.NotEnded) reasons.BeginUnseen reasons.DueBefore reasons.Moved
    reasons.SpeedUnknown whole

whole_is : (asked : Asked) (past : List Said) (number : ℕ) (before : Bool) (numbered : ℕ × Job) → IsWhole asked (judged asked past number before numbered)
whole_is asked past number before numbered = record {
  none_elsewhere = λ whole. (whole_job asked past (task_at asked number) numbered.1 whole).2;
  none_unknown = λ whole. (whole_job asked past (task_at asked number) numbered.1 whole).3;
}

pub same_processor : (b : Bool) → not b ≡ false → b ≡ true
same_processor true same = refl
same_processor false same = cc

known_speed : (stretch : Stretch) → is_of_unknown_speed stretch ≡ false → stretch.from < stretch.to → (khz : ℕ) × (stretch.khz ≡ Some khz)
known_speed stretch none takes = by stretch.khz (second (nat_lt stretch.from stretch.to) (is_none stretch.khz) none (lt-ltb stretch.from stretch.to takes))
  where
    second : (a b : Bool) → (a && b) ≡ false → a ≡ true → b ≡ false
    second true b none so = none
    second false b none so = cc

    by : (khz : Option ℕ) → is_none khz ≡ false → (n : ℕ) × (khz ≡ Some n)
    by None none = cc
    by (Some n) none = (n, refl)

-- a stretch that ends in a later unit of time takes time
takes_time : (units : Units) (stretch : Stretch) → 1 ≤ units.time → IsForward (run_of units stretch) → stretch.from < stretch.to
takes_time units stretch positive forward = elim (cases_lt stretch.from stretch.to) [
  | inl takes ↦ takes
  | inr none ↦ absurd (omega (arith, forward, order_is_kept units stretch.to stretch.from positive none))
]

shown_each : (asked : Asked) (units : Units) (one : Judged) (stretches : List Stretch) → 1 ≤ units.time → AllByRecursion (Contains one.job.stretches) stretches →
    list_any (is_elsewhere asked.processor) stretches ≡ false → list_any is_of_unknown_speed stretches ≡ false → AllByRecursion (WhereForward units (IsShown asked one)) stretches
shown_each asked units one [] positive own there known = tt
shown_each asked units one (stretch ∷ stretches) positive own there known =
    let here = or_parts (is_elsewhere asked.processor stretch) (list_any (is_elsewhere asked.processor) stretches) there in
    let speed = or_parts (is_of_unknown_speed stretch) (list_any is_of_unknown_speed stretches) known in (
      λ forward.
          let khz = known_speed stretch speed.0 (takes_time units stretch positive forward) in
          record {
            own = own.0;
            there = eqb-true stretch.processor asked.processor (same_processor (stretch.processor == asked.processor) here.0);
            khz = khz.0;
            khz_is = khz.1;
          },
      shown_each asked units one stretches positive own.1 here.1 speed.1,
    )

shown : (asked : Asked) (units : Units) (one : Judged) → 1 ≤ units.time → IsWhole asked one → stands one ≡ true → AllByRecursion (WhereForward units (IsShown asked one)) (reverse one.job.stretches)
shown asked units one positive whole stand =
    reverse-all (WhereForward units (IsShown asked one)) one.job.stretches
    (shown_each asked units one one.job.stretches positive
    (recursion_from_All (Contains one.job.stretches) one.job.stretches (All-contains_itself one.job.stretches)) (whole.none_elsewhere stand) (whole.none_unknown stand))

-- # Each job

-- as the document of these jobs in these units has them
abbrev IsStandingIn : Units → List Judged → ℕ → Judged → Type 0
IsStandingIn units ones place one = IsStanding units ones (document_in units ones) place one

abbrev IsTracedIn : Asked → Units → List Judged → Placed → Type 0
IsTracedIn asked units ones placed = IsTraced asked units ones (document_in units ones) placed

abbrev HasRunIn : Units → List Judged → Judged → Stretch → Type 0
HasRunIn units ones one stretch = HasRun units ones (document_in units ones) one stretch

traced_job : (units : Units) (ones : List Judged) (one : Judged) (job : Written) → Contains ones one → written_of units one ≡ Some job → IsTracedJob units ones job
traced_job units ones one job has is = chosen (stands one) refl one.late refl is
  where
    chosen : (b : Bool) → stands one ≡ b → (late : Option ℕ) → one.late ≡ late
        → (if b then Some (with_runs units one) else (if is_some late then Some (without_runs units one) else None)) ≡ Some job → IsTracedJob units ones job
    chosen true stand late late_is given =
        let same : with_runs units one ≡ job = cc in record { one = one; is_judged = has; written = inl (stand, sym same) }
    chosen false stand (Some n) late_is given =
        let same : without_runs units one ≡ job = cc in record { one = one; is_judged = has; written = inr (stand, (n, late_is), sym same) }
    chosen false stand None late_is given = cc

traced_jobs : (units : Units) (ones : List Judged) → AllByRecursion (IsTracedJob units ones) (document_in units ones).jobs
traced_jobs units ones =
    filter_map-all (written_of units) (Contains ones) (IsTracedJob units ones) (traced_job units ones) ones
    (recursion_from_All (Contains ones) ones (All-contains_itself ones))

at_all : {A : Type 0} (P : A → Type 0) (xs : List A) (n : ℕ) (x : A) → IsAt xs n x → AllByRecursion P xs → P x
at_all P [] n x at all = absurd at
at_all P (y ∷ ys) zero x at all = subst P at all.0
at_all P (y ∷ ys) (suc n) x at all = at_all P ys n x at all.1

late_written : (units : Units) (one : Judged) (by : ℕ) → stands one ≡ false → one.late ≡ Some by → written_of units one ≡ Some (without_runs units one)
late_written units one by stand late =
    ap (λ (b : Bool). if b then Some (with_runs units one) else (if is_some one.late then Some (without_runs units one) else None)) stand
    ∙ ap (λ (l : Option ℕ). if is_some l then Some (without_runs units one) else None) late

-- what is written of one of these jobs is in their document
has_written : (units : Units) (ones : List Judged) (i : ℕ) (d : Judged) (job : Written) → i < length ones → written_of units (get_or ones i d) ≡ Some job →
    Contains (document_in units ones).jobs job
has_written units ones i d job within is =
    let jobs : List Written = (document_in units ones).jobs in
    let at = found (written_of units) ones i d job within is in
    at_all (Contains jobs) jobs at.0 job at.1 (recursion_from_All (Contains jobs) jobs (All-contains_itself jobs))

no_job_missing : (units : Units) (ones : List Judged) → All (HasItsJob units (document_in units ones)) ones
no_job_missing units ones i d within =
    let one : Judged = get_or ones i d in
    record {
      standing = λ stand. has_written units ones i d (with_runs units one) within (stands_written units one stand);
      late = λ stand by late. has_written units ones i d (without_runs units one) within (late_written units one by stand late);
    }

-- # Each run

-- what holds of each run of each job holds of each run as it is placed
placed_from : (P : Placed → Type 0) (start : ℕ) (jobs : List Written) →
    ((n : ℕ) (job : Written) → IsAt jobs n job → AllByRecursion (λ run. P (place (start + n) run)) job.runs) → AllByRecursion P (flat_map placed_runs (enumerate_from start jobs))
placed_from P start [] each = tt
placed_from P start (job ∷ jobs) each =
    append-all P (placed_runs (start, job)) (flat_map placed_runs (enumerate_from (start + 1) jobs))
    (own job.runs (each 0 job refl))
    (placed_from P (start + 1) jobs (λ n other at.
    all_weaker (λ run. P (place (start + suc n) run)) (λ run. P (place (start + 1 + n) run))
    (λ run holds. let number : start + suc n ≡ start + 1 + n = omega arith in subst (λ (m : ℕ). P (place m run)) number holds) other.runs (each (suc n) other at)))
  where
    own : (runs : List Run) → AllByRecursion (λ run. P (place (start + 0) run)) runs → AllByRecursion P (map (λ run. record { job = start; run = run }) runs)
    own [] all = tt
    own (run ∷ runs) all = (let number : start + 0 ≡ start = omega arith in subst (λ (m : ℕ). P (place m run)) number all.0, own runs all.1)

-- and back, of those of one job
placed_back : (P : Placed → Type 0) (start n : ℕ) (jobs : List Written) (job : Written) → IsAt jobs n job → AllByRecursion P (flat_map placed_runs (enumerate_from start jobs)) →
    AllByRecursion (λ run. P (place (start + n) run)) job.runs
placed_back P start n [] job at all = absurd at
placed_back P start zero (first ∷ jobs) job at all =
    subst (λ (written : Written). AllByRecursion (λ run. P (place (start + 0) run)) written.runs) at
    (own first.runs (append-all_left P (placed_runs (start, first)) (flat_map placed_runs (enumerate_from (start + 1) jobs)) all))
  where
    own : (runs : List Run) → AllByRecursion P (map (λ run. record { job = start; run = run }) runs) → AllByRecursion (λ run. P (place (start + 0) run)) runs
    own [] all = tt
    own (run ∷ runs) all = (let number : start ≡ start + 0 = omega arith in subst (λ (m : ℕ). P (place m run)) number all.0, own runs all.1)
placed_back P start (suc n) (first ∷ jobs) job at all =
    all_weaker (λ run. P (place (start + 1 + n) run)) (λ run. P (place (start + suc n) run))
    (λ run holds. let number : start + 1 + n ≡ start + suc n = omega arith in subst (λ (m : ℕ). P (place m run)) number holds) job.runs
    (placed_back P (start + 1) n jobs job at (append-all_right P (placed_runs (start, first)) (flat_map placed_runs (enumerate_from (start + 1) jobs)) all))

pub all_whole : (asked : Asked) (past : List Said) → All (IsWhole asked) (all_judged asked past)
all_whole asked past = All-from_recursion (IsWhole asked) (all_judged asked past) (each_judged (IsWhole asked) asked past (whole_is asked past))

-- Each run of a job is one of stretches that are shown, where the job's stretches are.
abbrev AreWhole : Asked → List Judged → Type 0
AreWhole asked ones = All (IsWhole asked) ones

runs_of_job : (asked : Asked) (units : Units) (ones : List Judged) → 1 ≤ units.time → AreWhole asked ones → (n : ℕ) (job : Written) → IsAt (document_in units ones).jobs n job →
    AllByRecursion (λ run. IsTracedIn asked units ones (place n run)) job.runs
runs_of_job asked units ones positive whole n job at = by (at_all (IsTracedJob units ones) (document_in units ones).jobs n job at (traced_jobs units ones))
  where
    standing : (one : Judged) → Contains ones one → stands one ≡ true → IsAt (document_in units ones).jobs n (with_runs units one) →
        AllByRecursion (λ run. IsTracedIn asked units ones (place n run)) (written_runs units one.job)
    standing one has stand there =
        all_weaker (IsRunOf units (IsShown asked one)) (λ run. IsTracedIn asked units ones (place n run))
        (λ run is. record {
          one = one;
          standing = record { is_judged = has; stands_so = stand; is_there = there };
          stretches = is.stretches;
          shown = All-from_recursion (IsShown asked one) is.stretches is.each;
          rounded = is.rounded;
        }) (written_runs units one.job)
        (runs_are_stretches units (IsShown asked one) (reverse one.job.stretches) (shown asked units one positive (contained (IsWhole asked) ones one has whole) stand))

    by : IsTracedJob units ones job → AllByRecursion (λ run. IsTracedIn asked units ones (place n run)) job.runs
    by traced = elim traced.written [
      | inl stand ↦
          subst (λ (written : Written). AllByRecursion (λ run. IsTracedIn asked units ones (place n run)) written.runs) (sym stand.1)
          (standing traced.one traced.is_judged stand.0 (subst (IsAt (document_in units ones).jobs n) stand.1 at))
      | inr late ↦ subst (λ (written : Written). AllByRecursion (λ run. IsTracedIn asked units ones (place n run)) written.runs) (sym late.2) tt
    ]

no_run_invented : (asked : Asked) (units : Units) (ones : List Judged) → 1 ≤ units.time → AreWhole asked ones → AllByRecursion (IsTracedIn asked units ones) (document_in units ones).runs
no_run_invented asked units ones positive whole =
    let jobs : List Written = (document_in units ones).jobs in
    in_order-all (IsTracedIn asked units ones) (λ placed. placed.run.from) (flat_map placed_runs (enumerate_from 0 jobs))
    (placed_from (IsTracedIn asked units ones) 0 jobs
    (λ n job at.
    all_weaker (λ run. IsTracedIn asked units ones (place n run)) (λ run. IsTracedIn asked units ones (place (0 + n) run))
    (λ run is. let number : n ≡ 0 + n = omega arith in subst (λ (m : ℕ). IsTracedIn asked units ones (place m run)) number is) job.runs
    (runs_of_job asked units ones positive whole n job at)))

-- # No run is missing

-- the run that has a stretch, as it is placed
placed_run : (units : Units) (ones : List Judged) (one : Judged) (n : ℕ) (stretch : Stretch) (runs : List Run) → IsStandingIn units ones n one →
    AllByRecursion (λ run. Contains (document_in units ones).runs (place n run)) runs → IsInSome units stretch runs → HasRunIn units ones one stretch
placed_run units ones one n stretch [] standing all there = absurd there
placed_run units ones one n stretch (run ∷ runs) standing all (inl within) = record { placed = place n run; is_there = all.0; standing = standing; within = within }
placed_run units ones one n stretch (run ∷ runs) standing all (inr more) = placed_run units ones one n stretch runs standing all.1 more

no_run_missing : (units : Units) (ones : List Judged) → All (HasItsRuns units ones (document_in units ones)) ones
no_run_missing units ones i d within stand =
    let one : Judged = get_or ones i d in
    let jobs : List Written = (document_in units ones).jobs in
    let runs : List Placed = all_runs jobs in
    let at = found (written_of units) ones i d (with_runs units one) within (stands_written units one stand) in
    let standing : IsStandingIn units ones at.0 one = record { is_judged = All-contains_itself ones i d within; stands_so = stand; is_there = at.1 } in
    let there : AllByRecursion (Contains runs) (flat_map placed_runs (enumerate_from 0 jobs)) =
    in_order-all_back (Contains runs) (λ placed. placed.run.from) (flat_map placed_runs (enumerate_from 0 jobs))
    (recursion_from_All (Contains runs) runs (All-contains_itself runs)) in
    let its : AllByRecursion (λ run. Contains runs (place at.0 run)) (written_runs units one.job) =
    all_weaker (λ run. Contains runs (place (0 + at.0) run)) (λ run. Contains runs (place at.0 run))
    (λ run has. let number : 0 + at.0 ≡ at.0 = omega arith in subst (λ (m : ℕ). Contains runs (place m run)) number has) (written_runs units one.job)
    (placed_back (Contains runs) 0 at.0 jobs (with_runs units one) at.1 there) in
    All-from_recursion (λ stretch. IsForward (run_of units stretch) → HasRunIn units ones one stretch) one.job.stretches
    (reverse-all_back (λ stretch. IsForward (run_of units stretch) → HasRunIn units ones one stretch) one.job.stretches
    (all_weaker (λ stretch. IsForward (run_of units stretch) → IsInSome units stretch (written_runs units one.job)) (λ stretch. IsForward (run_of units stretch) → HasRunIn units ones one stretch)
    (λ stretch has forward. placed_run units ones one at.0 stretch (written_runs units one.job) standing its (has forward)) (reverse one.job.stretches)
    (stretches_have_runs units (reverse one.job.stretches))))

-- # The laws

pub some_are_faithful : SomeAreFaithful
some_are_faithful asked past units ones positive are = record {
  no_job_invented = All-from_recursion (IsTracedJob units ones) (document_in units ones).jobs (traced_jobs units ones);
  no_job_missing = no_job_missing units ones;
  no_run_invented = All-from_recursion (IsTracedIn asked units ones) (document_in units ones).runs
      (no_run_invented asked units ones positive (each_of_these (IsWhole asked) (all_judged asked past) ones are (all_whole asked past)));
  no_run_missing = no_run_missing units ones;
}

pub documents_are_faithful : DocumentsAreFaithful
documents_are_faithful asked past fit = some_are_faithful asked past (units_of asked past) (all_judged asked past) fit.has_unit (All-contains_itself (all_judged asked past))
