-- The jobs that wait are those that are shown and begin at the boundary or later.
use Rattle.base.proofs.Common.{◌≡◌, ℕ, suc, ◌+◌, ◌<◌, ◌≤◌, ◌&&◌, Bool, true, false, cond, List, [], ◌∷◌, ◌++◌, map, filter, length, get_or, ◌∙◌, refl, sym, ap, ap₂, subst, arith, nat_le, cond_both, lt-leb, All, All-head, All-tail, filter-append, map-append, append_assoc, length_push, get_or_at, enumerate_from, Option}
use Rattle.yds_kernel.specs.Event.{Said}
use Rattle.yds_trace.specs.declared.cut.Cut.{Cut}
use Rattle.yds_trace.specs.declared.shown.ShownTask.{ShownTask}
use Rattle.yds_trace.specs.Asked.{Task, Asked, no_task, task_at}
use Rattle.yds_trace.specs.Past.{first_time, last_time}
use Rattle.yds_trace.specs.Jobs.{Job}
use Rattle.yds_trace.specs.Shown.{IsShownTask}
use Rattle.yds_trace.specs.Views.{job_read}
use Rattle.yds_trace.specs.Document.{Judged, judged, judged_of, judged_from, jobs_of, shares_of, began_before, put_in, in_order, all_judged}
use Rattle.yds_trace.specs.Parts.{belongs, begins_from, is_before_end, of_part, waiting, part_until}
use Rattle.yds_trace_document.specs.Kept.{Within, within_of, judged_at, judged_jobs, shown_task, shown_tasks, begin_of, together}
use Rattle.yds_trace_document.specs.Part.{waiting_by_task, part_by_task}
use Rattle.yds_trace_document.specs.PartKept.{items_of_part}
use Rattle.std.specs.Prelude.{Vec}
use Rattle.std.specs.declared.alloc.Global.{Global}
use Rattle.yds_trace_document.specs.declared.judged.Judged.{Judged as JudgedKept}
use Rattle.yds_trace_document.specs.Views.{judged_lists}
use Rattle.yds_trace_document.proofs.Same.{map_same, one_same}
use Rattle.yds_trace_document.proofs.Sorting.{Rises, map_cond, filter_in_order, rises_in_order, rises_filter}

-- # Filters

cond_filter : {A : Type 0} (q : A → Bool) (b c : Bool) (x : A) (xs ys : List A) → q x ≡ c → ys ≡ filter q xs →
    cond (b && c) (x ∷ ys) ys ≡ filter q (cond b (x ∷ xs) xs)
cond_filter {A} q true c x xs ys is same = ap₂ (λ (kept : Bool) (l : List A). cond kept (x ∷ l) l) (sym is) same
cond_filter q false c x xs ys is same = same

pub filter_both : {A : Type 0} (p q : A → Bool) (xs : List A) → filter (λ x. p x && q x) xs ≡ filter q (filter p xs)
filter_both p q [] = refl
filter_both p q (x ∷ xs) = cond_filter q (p x) (q x) x (filter p xs) (filter (λ y. p y && q y) xs) refl (filter_both p q xs)

pub filter_of_map : {A B : Type 0} (p : B → Bool) (f : A → B) (xs : List A) → map f (filter (λ x. p (f x)) xs) ≡ filter p (map f xs)
filter_of_map p f [] = refl
filter_of_map {A} {B} p f (x ∷ xs) =
    map_cond f (p (f x)) (x ∷ filter (λ y. p (f y)) xs) (filter (λ y. p (f y)) xs)
    ∙ ap (λ (l : List B). cond (p (f x)) (f x ∷ l) l) (filter_of_map p f xs)

-- # One task

pub numbered_append : {A : Type 0} (n : ℕ) (xs ys : List A) → enumerate_from n (xs ++ ys) ≡ enumerate_from n xs ++ enumerate_from (n + length xs) ys
numbered_append {A} n [] ys = ap (λ (m : ℕ). enumerate_from m ys) (let e : n ≡ n + 0 = omega arith in e)
numbered_append {A} n (x ∷ xs) ys =
    ap (λ (l : List (ℕ × A)). let pair : ℕ × A = (n, x) in pair ∷ l)
    (numbered_append (n + 1) xs ys
    ∙ ap (λ (m : ℕ). enumerate_from (n + 1) xs ++ enumerate_from m ys) (let e : n + 1 + length xs ≡ n + suc (length xs) = omega arith in e))

-- none of the forgotten ones begins at the boundary or later
none_left : (within : Within) (number : ℕ) (task : Task) (before : Bool) (boundary n : ℕ) (jobs : List Job) → All (λ job. job.begin < boundary) jobs →
    filter (begins_from boundary) (map (judged_at within number task before) (enumerate_from n jobs)) ≡ []
none_left within number task before boundary n [] all = refl
none_left within number task before boundary n (job ∷ jobs) all =
    ap₂ (λ (b : Bool) (l : List Judged). cond b (judged_at within number task before (n, job) ∷ l) l)
    (lt-leb boundary job.begin (All-head (λ (one : Job). one.begin < boundary) job jobs all))
    (none_left within number task before boundary (n + 1) jobs (All-tail (λ (one : Job). one.begin < boundary) job jobs all))

kept_left : (within : Within) (number : ℕ) (task : Task) (before : Bool) (boundary : ℕ) (forgotten jobs : List Job) →
    All (λ job. job.begin < boundary) forgotten →
    filter (begins_from boundary) (judged_jobs within number task before 0 (forgotten ++ jobs))
    ≡ filter (begins_from boundary) (judged_jobs within number task before (length forgotten) jobs)
kept_left within number task before boundary forgotten jobs earlier =
    ap (λ (l : List (ℕ × Job)). filter (begins_from boundary) (map (judged_at within number task before) l)) (numbered_append 0 forgotten jobs)
    ∙ ap (filter (begins_from boundary)) (map-append (judged_at within number task before) (enumerate_from 0 forgotten) (enumerate_from (0 + length forgotten) jobs))
    ∙ filter-append (begins_from boundary) (judged_jobs within number task before 0 forgotten) (judged_jobs within number task before (0 + length forgotten) jobs)
    ∙ ap (λ (l : List Judged). l ++ filter (begins_from boundary) (judged_jobs within number task before (0 + length forgotten) jobs))
    (none_left within number task before boundary 0 forgotten earlier)
    ∙ ap (λ (n : ℕ). filter (begins_from boundary) (judged_jobs within number task before n jobs)) (let e : 0 + length forgotten ≡ length forgotten = omega arith in e)

shown_same : (asked : Asked) (past : List Said) (cut : Cut) (number : ℕ) (task : Task) (shown : ShownTask) → task_at asked number ≡ task →
    IsShownTask (shares_of asked past number) asked past cut.boundary number shown →
    shown_task (within_of asked (first_time 0 past) (last_time past)) cut.boundary number task shown ≡ filter (begins_from cut.boundary) (judged_of asked past number)
shown_same asked past cut number task shown is known =
    ap₂ (λ (before : Bool) (first : ℕ). filter (begins_from cut.boundary)
    (judged_jobs (within_of asked (first_time 0 past) (last_time past)) number task before first (map job_read shown.jobs.items))) known.before known.as_many
    ∙ sym (kept_left (within_of asked (first_time 0 past) (last_time past)) number task (began_before (jobs_of asked past number)) cut.boundary known.forgotten
    (map job_read shown.jobs.items) known.earlier)
    ∙ ap (λ (jobs : List Job). filter (begins_from cut.boundary)
    (judged_jobs (within_of asked (first_time 0 past) (last_time past)) number task (began_before (jobs_of asked past number)) 0 jobs)) (sym known.jobs)
    ∙ ap (λ (t : Task). filter (begins_from cut.boundary)
    (judged_jobs (within_of asked (first_time 0 past) (last_time past)) number t (began_before (jobs_of asked past number)) 0 (shares_of asked past number))) (sym is)
    ∙ ap (filter (begins_from cut.boundary))
    (map_same (judged_at (within_of asked (first_time 0 past) (last_time past)) number (task_at asked number) (began_before (jobs_of asked past number)))
    (judged asked past number (began_before (jobs_of asked past number)))
    (one_same asked past number (began_before (jobs_of asked past number))) (enumerate_from 0 (shares_of asked past number)))

-- # All tasks

tasks_shown : (asked : Asked) (past : List Said) (cut : Cut) (front tasks : List Task) (shown : List ShownTask) → asked.tasks ≡ front ++ tasks →
    length shown ≡ length tasks →
    ((i : ℕ) (d : ShownTask) → i < length tasks → IsShownTask (shares_of asked past (length front + i)) asked past cut.boundary (length front + i) (get_or shown i d)) →
    shown_tasks (within_of asked (first_time 0 past) (last_time past)) cut.boundary (length front) tasks shown ≡ waiting_by_task asked past cut (length front) tasks
tasks_shown asked past cut front [] shown is same each = refl
tasks_shown asked past cut front (task ∷ tasks) [] is same each = absurd (omega arith)
tasks_shown asked past cut front (task ∷ tasks) (one ∷ shown) is same each =
    let here : task_at asked (length front) ≡ task =
    ap (λ (ts : List Task). get_or ts (length front) no_task) is ∙ get_or_at front task tasks no_task (length front) refl in
    let counted : length (front ++ task ∷ []) ≡ length front + 1 = omega (arith, length_push front task) in
    let first : IsShownTask (shares_of asked past (length front)) asked past cut.boundary (length front) one =
    subst (λ (n : ℕ). IsShownTask (shares_of asked past n) asked past cut.boundary n one) (let e : length front + 0 ≡ length front = omega arith in e) (each 0 one (omega arith)) in
    let later : (i : ℕ) (d : ShownTask) → i < length tasks → IsShownTask (shares_of asked past (length (front ++ task ∷ []) + i)) asked past cut.boundary (length (front ++ task ∷ []) + i) (get_or shown i d) =
    λ i d within. subst (λ (n : ℕ). IsShownTask (shares_of asked past n) asked past cut.boundary n (get_or shown i d))
    (let e : length front + suc i ≡ length (front ++ task ∷ []) + i = omega (arith, counted) in e) (each (suc i) d (omega arith)) in
    let rest = subst (λ (n : ℕ). shown_tasks (within_of asked (first_time 0 past) (last_time past)) cut.boundary n tasks shown ≡ waiting_by_task asked past cut n tasks)
    counted (tasks_shown asked past cut (front ++ task ∷ []) tasks shown (is ∙ sym (append_assoc front (task ∷ []) tasks)) (omega (arith, same)) later) in
    ap₂ (λ (some : List Judged) (more : List (List Judged)). some ∷ more) (shown_same asked past cut (length front) task one here first) rest

pub all_shown : (asked : Asked) (past : List Said) (cut : Cut) (shown : List ShownTask) → length shown ≡ length asked.tasks →
    ((i : ℕ) (d : ShownTask) → i < length asked.tasks → IsShownTask (shares_of asked past i) asked past cut.boundary i (get_or shown i d)) →
    shown_tasks (within_of asked (first_time 0 past) (last_time past)) cut.boundary 0 asked.tasks shown ≡ waiting_by_task asked past cut 0 asked.tasks
all_shown asked past cut shown same each =
    tasks_shown asked past cut [] asked.tasks shown refl same
    (λ i d within. subst (λ (n : ℕ). IsShownTask (shares_of asked past n) asked past cut.boundary n (get_or shown i d)) (let e : i ≡ 0 + i = omega arith in e) (each i d within))

-- # The waiting jobs in order of begin

together_waiting : (asked : Asked) (past : List Said) (cut : Cut) (number : ℕ) (tasks : List Task) →
    together (waiting_by_task asked past cut number tasks) ≡ filter (begins_from cut.boundary) (judged_from asked past number tasks)
together_waiting asked past cut number [] = refl
together_waiting asked past cut number (task ∷ tasks) =
    ap (λ (more : List Judged). filter (begins_from cut.boundary) (judged_of asked past number) ++ more) (together_waiting asked past cut (number + 1) tasks)
    ∙ sym (filter-append (begins_from cut.boundary) (judged_of asked past number) (judged_from asked past (number + 1) tasks))

pub waiting_in_order : (asked : Asked) (past : List Said) (cut : Cut) →
    in_order begin_of (together (waiting_by_task asked past cut 0 asked.tasks)) ≡ waiting asked past cut
waiting_in_order asked past cut =
    ap (in_order begin_of) (together_waiting asked past cut 0 asked.tasks)
    ∙ sym (filter_in_order begin_of (begins_from cut.boundary) (judged_from asked past 0 asked.tasks))

-- # Those of a part

pub of_part_append : (asked : Asked) (until : Option ℕ) (jobs more : List Judged) → of_part asked until (jobs ++ more) ≡ of_part asked until jobs ++ of_part asked until more
of_part_append asked until jobs more =
    ap (filter (belongs asked)) (filter-append (is_before_end until) jobs more)
    ∙ filter-append (belongs asked) (filter (is_before_end until) jobs) (filter (is_before_end until) more)

of_part_together : (asked : Asked) (until : Option ℕ) (by_task : List (List Judged)) →
    together (map (of_part asked until) by_task) ≡ of_part asked until (together by_task)
of_part_together asked until [] = refl
of_part_together asked until (jobs ∷ by_task) =
    ap (λ (more : List Judged). of_part asked until jobs ++ more) (of_part_together asked until by_task)
    ∙ sym (of_part_append asked until jobs (together by_task))

of_part_in_order : (asked : Asked) (until : Option ℕ) (jobs : List Judged) → of_part asked until (in_order begin_of jobs) ≡ in_order begin_of (of_part asked until jobs)
of_part_in_order asked until jobs =
    ap (filter (belongs asked)) (filter_in_order begin_of (is_before_end until) jobs)
    ∙ filter_in_order begin_of (belongs asked) (filter (is_before_end until) jobs)

pub part_in_order : (asked : Asked) (past : List Said) (cut : Cut) (until : Option ℕ) →
    in_order begin_of (together (part_by_task asked past cut until)) ≡ part_until asked past cut until
part_in_order asked past cut until =
    ap (in_order begin_of) (of_part_together asked until (waiting_by_task asked past cut 0 asked.tasks))
    ∙ sym (of_part_in_order asked until (together (waiting_by_task asked past cut 0 asked.tasks)))
    ∙ ap (of_part asked until) (waiting_in_order asked past cut)

items_of : (asked : Asked) (until : Option ℕ) (by_task : List (Vec JudgedKept Global)) →
    map (items_of_part asked until) by_task ≡ map (of_part asked until) (judged_lists by_task)
items_of asked until [] = refl
items_of asked until (judged ∷ by_task) = ap (λ (more : List (List Judged)). items_of_part asked until judged ∷ more) (items_of asked until by_task)

pub all_of_part : (asked : Asked) (past : List Said) (cut : Cut) (until : Option ℕ) (by_task : List (Vec JudgedKept Global)) →
    judged_lists by_task ≡ waiting_by_task asked past cut 0 asked.tasks →
    map (items_of_part asked until) by_task ≡ part_by_task asked past cut until
all_of_part asked past cut until by_task are = items_of asked until by_task ∙ ap (map (of_part asked until)) are

-- # What is known of each that waits

-- each is of one of so many tasks
abbrev pub OfTasks : ℕ → List Judged → Type 0
OfTasks most [] = Unit {0}
OfTasks most (judged ∷ jobs) = (judged.task < most) × OfTasks most jobs

of_numbered : (asked : Asked) (past : List Said) (number most : ℕ) (before : Bool) (n : ℕ) (jobs : List Job) → number < most →
    OfTasks most (map (judged asked past number before) (enumerate_from n jobs))
of_numbered asked past number most before n [] within = tt
of_numbered asked past number most before n (job ∷ jobs) within = (within, of_numbered asked past number most before (n + 1) jobs within)

of_append : (most : ℕ) (front jobs : List Judged) → OfTasks most front → OfTasks most jobs → OfTasks most (front ++ jobs)
of_append most [] jobs all also = also
of_append most (judged ∷ front) jobs all also = (all.0, of_append most front jobs all.1 also)

of_from : (asked : Asked) (past : List Said) (number most : ℕ) (tasks : List Task) → number + length tasks ≤ most →
    OfTasks most (judged_from asked past number tasks)
of_from asked past number most [] within = tt
of_from asked past number most (task ∷ tasks) within =
    of_append most (judged_of asked past number) (judged_from asked past (number + 1) tasks)
    (of_numbered asked past number most (began_before (jobs_of asked past number)) 0 (shares_of asked past number) (omega (arith, within)))
    (of_from asked past (number + 1) most tasks (omega (arith, within)))

of_put : (most : ℕ) (key : Judged → ℕ) (one : Judged) (jobs : List Judged) → one.task < most → OfTasks most jobs → OfTasks most (put_in key one jobs)
of_put most key one [] within all = (within, tt)
of_put most key one (judged ∷ jobs) within all =
    cond_both (nat_le (key one) (key judged)) (one ∷ judged ∷ jobs) (judged ∷ put_in key one jobs) (OfTasks most) (λ held. (within, all))
    (λ denied. (all.0, of_put most key one jobs within all.1))

of_order : (most : ℕ) (key : Judged → ℕ) (jobs : List Judged) → OfTasks most jobs → OfTasks most (in_order key jobs)
of_order most key [] all = tt
of_order most key (judged ∷ jobs) all = of_put most key judged (in_order key jobs) all.0 (of_order most key jobs all.1)

of_filter : (most : ℕ) (p : Judged → Bool) (jobs : List Judged) → OfTasks most jobs → OfTasks most (filter p jobs)
of_filter most p [] all = tt
of_filter most p (judged ∷ jobs) all =
    cond_both (p judged) (judged ∷ filter p jobs) (filter p jobs) (OfTasks most) (λ held. (all.0, of_filter most p jobs all.1))
    (λ denied. of_filter most p jobs all.1)

pub waiting_of_tasks : (asked : Asked) (past : List Said) (cut : Cut) → OfTasks (length asked.tasks) (waiting asked past cut)
waiting_of_tasks asked past cut =
    of_filter (length asked.tasks) (begins_from cut.boundary) (all_judged asked past)
    (of_order (length asked.tasks) begin_of (judged_from asked past 0 asked.tasks)
    (of_from asked past 0 (length asked.tasks) asked.tasks (let e : 0 + length asked.tasks ≤ length asked.tasks = omega arith in e)))

pub waiting_rises : (asked : Asked) (past : List Said) (cut : Cut) → Rises begin_of (waiting asked past cut)
waiting_rises asked past cut =
    rises_filter begin_of (begins_from cut.boundary) (all_judged asked past) (rises_in_order begin_of (judged_from asked past 0 asked.tasks))
