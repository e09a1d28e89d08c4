-- The runs of jobs in order of time: those of some jobs, and then those of others that begin no earlier.
use Rattle.yds_model.proofs.Common.{◌≡◌, ◌∙◌, ℕ, ◌+◌, ◌≤◌, List, [], ◌∷◌, ◌++◌, map, length, flat_map, Bool, true, false, cond, nat_le, refl, sym, ap, ap₂, arith, le-leb, map-append, flat_map-append}
use Rattle.std.specs.List.{AllByRecursion, enumerate_from}
use Rattle.yds_trace.specs.WrittenTime.{Run}
use Rattle.yds_trace.specs.Document.{put_in, in_order, Written, Placed, placed_runs, all_runs}
use Rattle.yds_trace_document.proofs.Sorting.{in_order_map}
use Rattle.yds_trace_document.proofs.Waits.{numbered_append}
use Rattle.yds_trace_laws.proofs.Ordered.{append-all, in_order-all}
use Rattle.yds_trace_laws.proofs.Runs.{all_weaker}
use Rattle.yds_trace_whole.specs.Whole.{run_later, placed_later}
use Rattle.yds_trace_whole.proofs.Later.{le_later}

-- # Two lists in order, one behind the other

put_front : {A : Type 0} (key : A → ℕ) (x : A) (ys : List A) → AllByRecursion (λ y. key x ≤ key y) ys → put_in key x ys ≡ x ∷ ys
put_front key x [] low = refl
put_front {A} key x (y ∷ ys) low = ap (λ (b : Bool). cond b (x ∷ y ∷ ys) (y ∷ put_in key x ys)) (le-leb (key x) (key y) low.0)

cond_append : {A : Type 0} (b : Bool) (xs ys more : List A) → cond b (xs ++ more) (ys ++ more) ≡ cond b xs ys ++ more
cond_append true xs ys more = refl
cond_append false xs ys more = refl

put_append : {A : Type 0} (key : A → ℕ) (x : A) (xs ys : List A) → AllByRecursion (λ y. key x ≤ key y) ys → put_in key x (xs ++ ys) ≡ put_in key x xs ++ ys
put_append key x [] ys low = put_front key x ys low
put_append {A} key x (z ∷ xs) ys low =
    ap (λ (rest : List A). cond (nat_le (key x) (key z)) (x ∷ z ∷ (xs ++ ys)) (z ∷ rest)) (put_append key x xs ys low)
    ∙ cond_append (nat_le (key x) (key z)) (x ∷ z ∷ xs) (z ∷ put_in key x xs) ys

in_order_append : {A : Type 0} (key : A → ℕ) (middle : ℕ) (xs ys : List A) → AllByRecursion (λ x. key x ≤ middle) xs → AllByRecursion (λ y. middle ≤ key y) ys →
    in_order key (xs ++ ys) ≡ in_order key xs ++ in_order key ys
in_order_append key middle [] ys first second = refl
in_order_append {A} key middle (x ∷ xs) ys first second =
    ap (put_in key x) (in_order_append key middle xs ys first.1 second)
    ∙ put_append key x (in_order key xs) (in_order key ys)
    (all_weaker (λ (y : A). middle ≤ key y) (λ (y : A). key x ≤ key y) (λ y late. omega (arith, first.0, late)) (in_order key ys)
    (in_order-all (λ (y : A). middle ≤ key y) key ys second))

-- # Keys that are so much later

put_later : {A : Type 0} (key : A → ℕ) (n : ℕ) (x : A) (xs : List A) → put_in (λ y. key y + n) x xs ≡ put_in key x xs
put_later key n x [] = refl
put_later {A} key n x (y ∷ ys) =
    ap₂ (λ (b : Bool) (rest : List A). cond b (x ∷ y ∷ ys) (y ∷ rest)) (let e : nat_le (key x + n) (key y + n) ≡ nat_le (key x) (key y) = le_later (key x) (key y) n in e)
    (put_later key n x ys)

in_order_later : {A : Type 0} (key : A → ℕ) (n : ℕ) (xs : List A) → in_order (λ x. key x + n) xs ≡ in_order key xs
in_order_later key n [] = refl
in_order_later {A} key n (x ∷ xs) = ap (put_in (λ (y : A). key y + n) x) (in_order_later key n xs) ∙ put_later key n x (in_order key xs)

-- # Runs of jobs

-- a run of the job of this number
abbrev pub placed_at : ℕ → Run → Placed
placed_at number run = record { job = number; run = run }

-- the runs of these jobs, which are numbered from here on
abbrev pub placed_from : ℕ → List Written → List Placed
placed_from start jobs = flat_map placed_runs (enumerate_from start jobs)

abbrev pub run_from : Placed → ℕ
run_from placed = placed.run.from

abbrev pub runs_at : ℕ → List Written → List Placed
runs_at start jobs = in_order run_from (placed_from start jobs)

abbrev pub HaveRuns : (Run → Type 0) → List Written → Type 0
HaveRuns P jobs = AllByRecursion (λ job. AllByRecursion P job.runs) jobs

placed_all : (P : Run → Type 0) (number : ℕ) (runs : List Run) → AllByRecursion P runs →
    AllByRecursion (λ placed. P placed.run) (map (λ run. placed_at number run) runs)
placed_all P number [] all = tt
placed_all P number (run ∷ runs) all = (all.0, placed_all P number runs all.1)

all_placed : (P : Run → Type 0) (start : ℕ) (jobs : List Written) → HaveRuns P jobs → AllByRecursion (λ placed. P placed.run) (placed_from start jobs)
all_placed P start [] all = tt
all_placed P start (job ∷ jobs) all =
    append-all (λ (placed : Placed). P placed.run) (map (λ run. placed_at start run) job.runs) (placed_from (start + 1) jobs) (placed_all P start job.runs all.0)
    (all_placed P (start + 1) jobs all.1)

-- Jobs whose runs begin no later than a time, and others whose runs begin no earlier.
pub runs_append : (start middle : ℕ) (front jobs : List Written) → HaveRuns (λ run. run.from ≤ middle) front → HaveRuns (λ run. middle ≤ run.from) jobs →
    runs_at start (front ++ jobs) ≡ runs_at start front ++ runs_at (start + length front) jobs
runs_append start middle front jobs first second =
    ap (λ (l : List (ℕ × Written)). in_order run_from (flat_map placed_runs l)) (numbered_append start front jobs)
    ∙ ap (in_order run_from) (flat_map-append placed_runs (enumerate_from start front) (enumerate_from (start + length front) jobs))
    ∙ in_order_append run_from middle (placed_from start front) (placed_from (start + length front) jobs)
    (all_placed (λ run. run.from ≤ middle) start front first) (all_placed (λ run. middle ≤ run.from) (start + length front) jobs second)

-- # Jobs whose runs are so many units later

abbrev pub HaveRunsLater : ℕ → List Written → List Written → Type 0
HaveRunsLater shift [] [] = Unit {0}
HaveRunsLater shift [] (job ∷ now) = ⊥
HaveRunsLater shift (job ∷ was) [] = ⊥
HaveRunsLater shift (job ∷ was) (other ∷ now) = (other.runs ≡ map (run_later shift) job.runs) × HaveRunsLater shift was now

pub later_length : (shift : ℕ) (was now : List Written) → HaveRunsLater shift was now → length was ≡ length now
later_length shift [] [] later = refl
later_length shift [] (job ∷ now) later = absurd later
later_length shift (job ∷ was) [] later = absurd later
later_length shift (job ∷ was) (other ∷ now) later = omega (arith, later_length shift was now later.1)

one_placed : (before start shift : ℕ) (runs : List Run) →
    map (λ run. placed_at (before + start) run) (map (run_later shift) runs) ≡ map (placed_later before shift) (map (λ run. placed_at start run) runs)
one_placed before start shift [] = refl
one_placed before start shift (run ∷ runs) = ap (λ (rest : List Placed). placed_at (before + start) (run_later shift run) ∷ rest) (one_placed before start shift runs)

placed_are_later : (before start shift : ℕ) (was now : List Written) → HaveRunsLater shift was now →
    placed_from (before + start) now ≡ map (placed_later before shift) (placed_from start was)
placed_are_later before start shift [] [] later = refl
placed_are_later before start shift [] (job ∷ now) later = absurd later
placed_are_later before start shift (job ∷ was) [] later = absurd later
placed_are_later before start shift (job ∷ was) (other ∷ now) later =
    ap₂ (λ (runs : List Run) (rest : List Placed). map (λ run. placed_at (before + start) run) runs ++ rest) later.0
    (ap (λ (n : ℕ). placed_from n now) (let e : before + start + 1 ≡ before + (start + 1) = omega arith in e) ∙ placed_are_later before (start + 1) shift was now later.1)
    ∙ ap (λ (front : List Placed). front ++ map (placed_later before shift) (placed_from (start + 1) was)) (one_placed before start shift job.runs)
    ∙ sym (map-append (placed_later before shift) (map (λ run. placed_at start run) job.runs) (placed_from (start + 1) was))

-- The runs of a document, behind those of so many jobs and so many units later.
pub runs_are_later : (before shift : ℕ) (was now : List Written) → HaveRunsLater shift was now → map (placed_later before shift) (all_runs was) ≡ runs_at before now
runs_are_later before shift was now later =
    ap (map (placed_later before shift)) (sym (in_order_later run_from shift (placed_from 0 was)))
    ∙ sym (in_order_map (placed_later before shift) run_from (placed_from 0 was))
    ∙ ap (in_order run_from) (sym (placed_are_later before 0 shift was now later))
    ∙ ap (λ (n : ℕ). runs_at n now) (let e : before + 0 ≡ before = omega arith in e)
