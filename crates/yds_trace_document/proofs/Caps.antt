-- Works that are capped at 64 bits are refused as those that are whole, and what isn't refused isn't capped.
use Rattle.base.proofs.Common.{◌≡◌, ℕ, zero, suc, ◌+◌, ◌≤◌, ◌==◌, ◌&&◌, ◌||◌, Bool, true, false, not, cond, List, [], ◌∷◌, map, length, ◌∙◌, refl, sym, ap, ap₂, arith, nat_lt, nat_le, eqb-true, leb-true, le-leb, ltb-false, Option, Some, None, option_map, max, get_or, position, prefix_len, length-map, if◌then◌else◌}
use Rattle.base.specs.declared.limits.TheConstants.{MAX_JOBS, MAX_SLOTS, MAX_WORK}
use Rattle.yds_kernel.specs.Parts.{capped, or_else}
use Rattle.yds_trace.specs.Document.{Written}
use Rattle.yds_trace_document.specs.declared.fault.DocumentFault.{DocumentFault}
use Rattle.yds_trace_document.specs.declared.fault.DocumentFault.TheVariants as faults
use Rattle.yds_trace_document.specs.Settled.{Settled, with_capped_work, with_capped_works}
use Rattle.yds_trace.specs.declared.cut.Cut.{Cut}
use Rattle.yds_trace.specs.Asked.{Asked}
use Rattle.yds_trace_document.specs.Part.{part_limit_fault}
use Rattle.yds_trace_document.specs.LeftOut.{most_left_out}
use Rattle.yds_trace.specs.WrittenTime.{Units}
use Rattle.yds_trace_document.specs.Limits.{fault_if, is_long_name, is_beyond, is_heavy, works_of, unit_for, greatest, work_fault, job_fault, speed_fault, late_fault, limit_fault}
use Rattle.yds_trace_document.proofs.Lists.{position_map}

-- # The same faults

heavy_same : (work : ℕ) → nat_lt MAX_WORK (capped work) ≡ nat_lt MAX_WORK work
heavy_same work = grind (arith, nat_le, leb-true, le-leb)

prefix_same : {A : Type 0} (p q : A → Bool) → ((x : A) → p x ≡ q x) → (xs : List A) → prefix_len (λ x. not (p x)) xs ≡ prefix_len (λ x. not (q x)) xs
prefix_same p q each [] = refl
prefix_same p q each (x ∷ xs) = ap₂ (λ (b : Bool) (n : ℕ). cond (not b) (1 + n) 0) (each x) (prefix_same p q each xs)

position_same : {A : Type 0} (p q : A → Bool) → ((x : A) → p x ≡ q x) → (xs : List A) → position p xs ≡ position q xs
position_same p q each xs =
    ap (λ (n : ℕ). cond (nat_lt n (length xs)) (Some n) None) (prefix_same p q each xs)

capped_twice : (work : ℕ) → capped (capped work) ≡ capped work
capped_twice work = grind (arith, nat_le, leb-true, le-leb)

capped_max : (one other : ℕ) → capped (max (capped one) (capped other)) ≡ capped (max one other)
capped_max one other = grind (arith, nat_le, leb-true, le-leb)

capped_greater : (one first second : ℕ) → capped first ≡ capped second → capped (max (capped one) first) ≡ capped (max one second)
capped_greater one first second same =
    sym (capped_max (capped one) first) ∙ ap₂ (λ (m n : ℕ). capped (max m n)) (capped_twice one) same ∙ capped_max one second

greatest_same : (jobs : List Written) → capped (greatest (works_of (map with_capped_work jobs))) ≡ capped (greatest (works_of jobs))
greatest_same [] = refl
greatest_same (job ∷ jobs) =
    capped_greater job.work (greatest (works_of (map with_capped_work jobs))) (greatest (works_of jobs)) (greatest_same jobs)

work_same : (jobs : List Written) (place : ℕ) → capped (get_or (works_of (map with_capped_work jobs)) place 0) ≡ capped (get_or (works_of jobs) place 0)
work_same [] place = refl
work_same (job ∷ jobs) zero = capped_twice job.work
work_same (job ∷ jobs) (suc place) = work_same jobs place

work_fault_same : (units : Units) (jobs : List Written) (place : ℕ) → work_fault units (map with_capped_work jobs) place ≡ work_fault units jobs place
work_fault_same units jobs place =
    ap₂ (λ (work most : ℕ). let fault : DocumentFault = faults.WorkTooGreat place work (unit_for units most) in fault) (work_same jobs place) (greatest_same jobs)

heavy_fault_same : (units : Units) (jobs : List Written) (place : Option ℕ) →
    option_map (work_fault units (map with_capped_work jobs)) place ≡ option_map (work_fault units jobs) place
heavy_fault_same units jobs None = refl
heavy_fault_same units jobs (Some place) = ap (λ (fault : DocumentFault). let some : Option DocumentFault = Some fault in some) (work_fault_same units jobs place)

job_fault_same : (units : Units) (jobs : List Written) → job_fault units (map with_capped_work jobs) ≡ job_fault units jobs
job_fault_same units jobs =
    let long : position is_long_name (map with_capped_work jobs) ≡ position is_long_name jobs = position_map is_long_name with_capped_work jobs in
    let beyond : position is_beyond (map with_capped_work jobs) ≡ position is_beyond jobs = position_map is_beyond with_capped_work jobs in
    let heavy : position is_heavy (map with_capped_work jobs) ≡ position is_heavy jobs =
    position_map is_heavy with_capped_work jobs
    ∙ position_same (λ job. is_heavy (with_capped_work job)) is_heavy (λ job. heavy_same job.work) jobs in
    ap₂ (λ (first : Option ℕ) (rest : Option DocumentFault). or_else (option_map (λ place. faults.NameTooLong place) first) rest) long
    (ap₂ (λ (first : Option ℕ) (second : Option DocumentFault). or_else (option_map (λ place. faults.TimeTooGreat place) first) second) beyond
    (heavy_fault_same units jobs (position is_heavy (map with_capped_work jobs)) ∙ ap (option_map (work_fault units jobs)) heavy))

abbrev shaped : Bool → Settled → ℕ → Option DocumentFault → Option DocumentFault
shaped strict settled count job =
    or_else (fault_if (nat_lt MAX_JOBS count) faults.TooManyJobs)
    (or_else (fault_if (nat_lt MAX_SLOTS (length settled.document.runs)) faults.TooManyRuns)
    (or_else job
    (or_else (speed_fault settled.units settled.judged)
    (or_else (fault_if (count == 0) (faults.NoJob (most_left_out settled.judged)))
    (late_fault strict settled.judged)))))

pub limits_same : (strict : Bool) (settled : Settled) → limit_fault strict (with_capped_works settled) ≡ limit_fault strict settled
limits_same strict settled =
    ap₂ (shaped strict settled) (length-map settled.document.jobs with_capped_work) (job_fault_same settled.units settled.document.jobs)

-- # What isn't refused

first_none : {A : Type 0} (first second : Option A) → or_else first second ≡ None → first ≡ None
first_none None second none = refl
first_none (Some x) second none = none

second_none : {A : Type 0} (first second : Option A) → or_else first second ≡ None → second ≡ None
second_none None second none = none
second_none (Some x) second none = cc

unmapped : {A B : Type 0} (f : A → B) (o : Option A) → option_map f o ≡ None → o ≡ None
unmapped f None none = refl
unmapped f (Some x) none = cc

all_passed : (less : Bool) (n : ℕ) → (let place : Option ℕ = cond less (Some n) None in place) ≡ None → less ≡ false
all_passed true n none = cc
all_passed false n none = refl

light : (work : ℕ) → nat_lt MAX_WORK work ≡ false → capped work ≡ work
light work fails = grind (arith, nat_le, leb-true, le-leb, ltb-false)

uncapped : (job : Written) → is_heavy job ≡ false → with_capped_work job ≡ job
uncapped job fails = ap (λ (work : ℕ). let kept : Written = record job { work = work } in kept) (light job.work fails)

by_weight : (job : Written) (jobs : List Written) (heavy : Bool) → is_heavy job ≡ heavy →
    (length jobs ≤ prefix_len (λ other. not (is_heavy other)) jobs → map with_capped_work jobs ≡ jobs) →
    suc (length jobs) ≤ cond (not heavy) (1 + prefix_len (λ other. not (is_heavy other)) jobs) 0 →
    with_capped_work job ∷ map with_capped_work jobs ≡ job ∷ jobs
by_weight job jobs true is rest within = absurd (omega arith)
by_weight job jobs false is rest within =
    ap₂ (λ (first : Written) (more : List Written). first ∷ more) (uncapped job is) (rest (omega arith))

none_capped : (jobs : List Written) → length jobs ≤ prefix_len (λ job. not (is_heavy job)) jobs → map with_capped_work jobs ≡ jobs
none_capped [] all = refl
none_capped (job ∷ jobs) all = by_weight job jobs (is_heavy job) refl (none_capped jobs) all

none_heavy : (jobs : List Written) → position is_heavy jobs ≡ None → map with_capped_work jobs ≡ jobs
none_heavy jobs none =
    none_capped jobs (ltb-false (prefix_len (λ job. not (is_heavy job)) jobs) (length jobs)
    (all_passed (nat_lt (prefix_len (λ job. not (is_heavy job)) jobs) (length jobs)) (prefix_len (λ job. not (is_heavy job)) jobs) none))

heavy_none : (units : Units) (jobs : List Written) → job_fault units jobs ≡ None → position is_heavy jobs ≡ None
heavy_none units jobs none =
    unmapped (work_fault units jobs) (position is_heavy jobs)
    (second_none (option_map (λ place. faults.TimeTooGreat place) (position is_beyond jobs)) (option_map (work_fault units jobs) (position is_heavy jobs))
    (second_none (option_map (λ place. faults.NameTooLong place) (position is_long_name jobs))
    (or_else (option_map (λ place. faults.TimeTooGreat place) (position is_beyond jobs)) (option_map (work_fault units jobs) (position is_heavy jobs))) none))

abbrev behind_jobs : Bool → Settled → Option DocumentFault
behind_jobs strict settled =
    or_else (speed_fault settled.units settled.judged)
    (or_else (fault_if (length settled.document.jobs == 0) (faults.NoJob (most_left_out settled.judged))) (late_fault strict settled.judged))

job_none : (strict : Bool) (settled : Settled) → limit_fault strict settled ≡ None → job_fault settled.units settled.document.jobs ≡ None
job_none strict settled none =
    first_none (job_fault settled.units settled.document.jobs) (behind_jobs strict settled)
    (second_none (fault_if (nat_lt MAX_SLOTS (length settled.document.runs)) faults.TooManyRuns)
    (or_else (job_fault settled.units settled.document.jobs) (behind_jobs strict settled))
    (second_none (fault_if (nat_lt MAX_JOBS (length settled.document.jobs)) faults.TooManyJobs)
    (or_else (fault_if (nat_lt MAX_SLOTS (length settled.document.runs)) faults.TooManyRuns)
    (or_else (job_fault settled.units settled.document.jobs) (behind_jobs strict settled))) none))

abbrev with_jobs : Settled → List Written → Settled
with_jobs settled jobs = record settled { document = record { jobs = jobs; runs = settled.document.runs } }

pub within_caps : (strict : Bool) (settled : Settled) → limit_fault strict settled ≡ None → with_capped_works settled ≡ settled
within_caps strict settled none =
    ap (with_jobs settled) (none_heavy settled.document.jobs (heavy_none settled.units settled.document.jobs (job_none strict settled none)))

-- # The same of a part

abbrev part_shaped : Asked → Bool → Cut → Settled → Bool → Option DocumentFault → Option DocumentFault
part_shaped asked strict cut settled none limit =
    if (asked.everywhere || nat_lt 0 cut.parts) && none then late_fault strict settled.judged else limit

pub part_limits_same : (asked : Asked) (strict : Bool) (cut : Cut) (settled : Settled) →
    part_limit_fault asked strict cut (with_capped_works settled) ≡ part_limit_fault asked strict cut settled
part_limits_same asked strict cut settled =
    ap₂ (part_shaped asked strict cut settled) (ap (λ (n : ℕ). n == 0) (length-map settled.document.jobs with_capped_work)) (limits_same strict settled)

no_jobs : (jobs : List Written) → (length jobs == 0) ≡ true → map with_capped_work jobs ≡ jobs
no_jobs [] none = refl
no_jobs (job ∷ jobs) none = absurd (omega (arith, eqb-true (length (job ∷ jobs)) 0 none))

within_one : (strict more none : Bool) (cut : Cut) (settled : Settled) → (length settled.document.jobs == 0) ≡ none →
    (if more && none then late_fault strict settled.judged else limit_fault strict settled) ≡ None →
    with_capped_works settled ≡ settled
within_one strict true true cut settled is none = ap (with_jobs settled) (no_jobs settled.document.jobs is)
within_one strict true false cut settled is none = within_caps strict settled none
within_one strict false true cut settled is none = within_caps strict settled none
within_one strict false false cut settled is none = within_caps strict settled none

pub part_within_caps : (asked : Asked) (strict : Bool) (cut : Cut) (settled : Settled) → part_limit_fault asked strict cut settled ≡ None →
    with_capped_works settled ≡ settled
part_within_caps asked strict cut settled none =
    within_one strict (asked.everywhere || nat_lt 0 cut.parts) (length settled.document.jobs == 0) cut settled refl none
