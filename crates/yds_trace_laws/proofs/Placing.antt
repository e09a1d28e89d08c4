-- The runs of a job among those of all jobs.
use Rattle.yds_model.proofs.Common.{◌≡◌, ℕ, zero, suc, ◌+◌, ◌<◌, ◌≤◌, ◌==◌, List, [], ◌∷◌, ◌∙◌, map, length, flat_map, Bool, true, false, if◌then◌else◌, Option, Some, None, refl, sym, ap, subst, arith, sum_by, sum_by-cons, sum_by-append, ne_eqb, eq-eqb}
use Rattle.std.specs.List.{AllByRecursion, enumerate_from, filter_map, cons_option, slice_index_or}
use Rattle.yds_trace.specs.WrittenTime.{Run, work_of_run, work_of_runs}
use Rattle.yds_trace.specs.Document.{Written, Placed, placed_runs}
pub use Rattle.yds_trace_laws.specs.Faithful.{IsAt}
use Rattle.yds_trace_laws.proofs.Ordered.{append-all_left, append-all_right}

-- # What a list gives of another

found_first : {B : Type 0} (o : Option B) (rest : List B) (w : B) → o ≡ Some w → (n : ℕ) × IsAt (cons_option o rest) n w
found_first None rest w given = cc
found_first (Some v) rest w given = let same : v ≡ w = cc in (0, same)

found_later : {B : Type 0} (o : Option B) (rest : List B) (w : B) → ((n : ℕ) × IsAt rest n w) → (n : ℕ) × IsAt (cons_option o rest) n w
found_later None rest w found = found
found_later (Some v) rest w found = (suc found.0, found.1)

pub found : {A B : Type 0} (h : A → Option B) (xs : List A) (i : ℕ) (d : A) (w : B) →
    i < length xs → h (slice_index_or xs i d) ≡ Some w → (n : ℕ) × IsAt (filter_map h xs) n w
found h [] i d w within given = absurd (omega arith)
found h (x ∷ xs) zero d w within given = found_first (h x) (filter_map h xs) w given
found h (x ∷ xs) (suc i) d w within given = found_later (h x) (filter_map h xs) w (found h xs i d w (omega arith) given)

-- # Works

-- the work of a run of the job of this number
abbrev pub mine : ℕ → Placed → ℕ
mine number placed = if number == placed.job then work_of_run placed.run else 0

abbrev pub place : ℕ → Run → Placed
place number run = record { job = number; run = run }

if_sum : (b : Bool) (x y : ℕ) → (if b then x else 0) + (if b then y else 0) ≡ (if b then x + y else 0)
if_sum true x y = refl
if_sum false x y = refl

if_same : (b : Bool) (x : ℕ) → x ≡ (if b then x else x)
if_same true x = refl
if_same false x = refl

placed_sum : (number job : ℕ) (runs : List Run) → sum_by (mine number) (map (place job) runs) ≡ (if number == job then work_of_runs runs else 0)
placed_sum number job [] = if_same (number == job) 0
placed_sum number job (run ∷ runs) =
    sum_by-cons (mine number) (place job run) (map (place job) runs)
    ∙ ap (λ n. mine number (place job run) + n) (placed_sum number job runs)
    ∙ if_sum (number == job) (work_of_run run) (work_of_runs runs)
    ∙ ap (λ n. if number == job then n else 0) (sym (sum_by-cons work_of_run run runs))

pub if_other : (b : Bool) (x : ℕ) → b ≡ false → (if b then x else 0) ≡ 0
if_other true x none = cc
if_other false x none = refl

if_true : (b : Bool) (x : ℕ) → b ≡ true → (if b then x else 0) ≡ x
if_true true x some = refl
if_true false x some = cc

placed_sum_other : (number job : ℕ) (runs : List Run) → number < job → sum_by (mine number) (map (place job) runs) ≡ 0
placed_sum_other number job runs below = placed_sum number job runs ∙ if_other (number == job) (work_of_runs runs) (ne_eqb number job (omega arith))

placed_sum_later : (number job : ℕ) (runs : List Run) → job < number → sum_by (mine number) (map (place job) runs) ≡ 0
placed_sum_later number job runs above = placed_sum number job runs ∙ if_other (number == job) (work_of_runs runs) (ne_eqb number job (omega arith))

placed_sum_same : (number job : ℕ) (runs : List Run) → number ≡ job → sum_by (mine number) (map (place job) runs) ≡ work_of_runs runs
placed_sum_same number job runs same = placed_sum number job runs ∙ if_true (number == job) (work_of_runs runs) (eq-eqb number job same)

-- no job from `start` on has a smaller number
given_before : (start number : ℕ) (jobs : List Written) → number < start → sum_by (mine number) (flat_map placed_runs (enumerate_from start jobs)) ≡ 0
given_before start number [] below = omega arith
given_before start number (job ∷ jobs) below =
    omega (
      arith,
      sum_by-append (mine number) (map (place start) job.runs) (flat_map placed_runs (enumerate_from (start + 1) jobs)),
      placed_sum_other number start job.runs below,
      given_before (start + 1) number jobs (omega arith),
    )

-- The runs give a job the works of its own.
pub given_at : (start number n : ℕ) (jobs : List Written) (job : Written) → number ≡ start + n → IsAt jobs n job →
    sum_by (mine number) (flat_map placed_runs (enumerate_from start jobs)) ≡ work_of_runs job.runs
given_at start number n [] job same at = absurd at
given_at start number zero (first ∷ jobs) job same at =
    let own : work_of_runs first.runs ≡ work_of_runs job.runs = ap (λ written. work_of_runs written.runs) at in
    omega (
      arith,
      sum_by-append (mine number) (map (place start) first.runs) (flat_map placed_runs (enumerate_from (start + 1) jobs)),
      placed_sum_same number start first.runs (omega arith),
      given_before (start + 1) number jobs (omega arith),
      own,
    )
given_at start number (suc n) (first ∷ jobs) job same at =
    omega (
      arith,
      sum_by-append (mine number) (map (place start) first.runs) (flat_map placed_runs (enumerate_from (start + 1) jobs)),
      placed_sum_later number start first.runs (omega arith),
      given_at (start + 1) number n jobs job (omega arith) at,
    )

-- # Ends

-- each run ends by its job's number's bound
abbrev pub IsWithin : (ℕ → ℕ) → Placed → Type 0
IsWithin bound placed = placed.run.to ≤ bound placed.job

placed_within : (bound : ℕ → ℕ) (job number : ℕ) (runs : List Run) → number ≡ job →
    AllByRecursion (IsWithin bound) (map (place job) runs) → AllByRecursion (λ run. run.to ≤ bound number) runs
placed_within bound job number [] same all = tt
placed_within bound job number (run ∷ runs) same all =
    let equal : bound number ≡ bound job = ap bound same in (omega (arith, all.0, equal), placed_within bound job number runs same all.1)

pub within_at : (bound : ℕ → ℕ) (start number n : ℕ) (jobs : List Written) (job : Written) → number ≡ start + n → IsAt jobs n job →
    AllByRecursion (IsWithin bound) (flat_map placed_runs (enumerate_from start jobs)) → AllByRecursion (λ run. run.to ≤ bound number) job.runs
within_at bound start number n [] job same at all = absurd at
within_at bound start number zero (first ∷ jobs) job same at all =
    let Holds : Written → Type 0 = λ written. AllByRecursion (λ run. run.to ≤ bound number) written.runs in
    subst Holds at (placed_within bound start number first.runs (omega arith)
    (append-all_left (IsWithin bound) (map (place start) first.runs) (flat_map placed_runs (enumerate_from (start + 1) jobs)) all))
within_at bound start number (suc n) (first ∷ jobs) job same at all =
    within_at bound (start + 1) number n jobs job (omega arith) at
    (append-all_right (IsWithin bound) (map (place start) first.runs) (flat_map placed_runs (enumerate_from (start + 1) jobs)) all)
