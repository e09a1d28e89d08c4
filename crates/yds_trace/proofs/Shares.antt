-- Jobs as the documents of one processor have them: a job that moved is there what it ran on that processor.
use Rattle.base.proofs.Common.{◌≡◌, ◌∙◌, ℕ, zero, suc, ◌<◌, ◌≤◌, ◌==◌, ◌&&◌, ◌||◌, Bool, true, false, not, cond, if◌then◌else◌, List, [], ◌∷◌, ◌++◌, map, filter, reverse, length, get_or, All, All-weaker, Contains, eq-eqb, refl, sym, ap, ap₂, arith, length-map, map-append, reverse-append, filter-append, list_any}
use Rattle.std.proofs.lemmas.List.Elements.{All-filter, All-map}
use Rattle.std.proofs.lemmas.List.Folds.{list_any-append}
use Rattle.yds_kernel.specs.Event.{Said}
use Rattle.yds_trace.specs.declared.job.Stretch.{Stretch}
use Rattle.yds_trace.specs.declared.shown.Shown.{Shown}
use Rattle.yds_trace.specs.declared.shown.ShownTask.{ShownTask}
use Rattle.yds_trace.specs.Asked.{Asked}
use Rattle.yds_trace.specs.Jobs.{Job}
use Rattle.yds_trace.specs.Document.{is_elsewhere, has_run_on, is_shared_by, share_on, share_of, jobs_of, shares_of, began_before}
use Rattle.yds_trace.specs.Others.{goes_behind}
use Rattle.yds_trace.specs.Following.{Shares}
use Rattle.yds_trace.specs.Shown.{IsShownTask, IsShown, IsShared}
use Rattle.yds_trace.specs.Views.{job_read, span_read}
use Rattle.yds_trace.proofs.Behind.{suc_not_zero}

-- # Lists

or_comm : (b c : Bool) → (b || (c || false)) ≡ (c || b)
or_comm true true = refl
or_comm true false = refl
or_comm false true = refl
or_comm false false = refl

pub list_any_reverse : {A : Type 0} (p : A → Bool) (xs : List A) → list_any p (reverse xs) ≡ list_any p xs
list_any_reverse p [] = refl
list_any_reverse p (x ∷ xs) =
    ap (list_any p) (reverse-append (x ∷ []) xs)
    ∙ list_any-append p (reverse xs) (x ∷ [])
    ∙ ap (λ (b : Bool). b || (p x || false)) (list_any_reverse p xs)
    ∙ or_comm (list_any p xs) (p x)

filter_first : {A : Type 0} (p : A → Bool) (x : A) (xs : List A) → filter p (x ∷ xs) ≡ filter p (x ∷ []) ++ filter p xs
filter_first {A} p x xs = by (p x)
  where
    by : (b : Bool) → cond b (x ∷ filter p xs) (filter p xs) ≡ cond b (x ∷ []) [] ++ filter p xs
    by true = refl
    by false = refl

filter_one : {A : Type 0} (p : A → Bool) (x : A) → reverse (filter p (x ∷ [])) ≡ filter p (x ∷ [])
filter_one {A} p x = by (p x)
  where
    by : (b : Bool) → reverse (cond b (x ∷ []) []) ≡ cond b (x ∷ []) []
    by true = refl
    by false = refl

pub filter_reverse : {A : Type 0} (p : A → Bool) (xs : List A) → filter p (reverse xs) ≡ reverse (filter p xs)
filter_reverse p [] = refl
filter_reverse {A} p (x ∷ xs) =
    ap (filter p) (reverse-append (x ∷ []) xs)
    ∙ filter-append p (reverse xs) (x ∷ [])
    ∙ ap₂ (λ (ys zs : List A). ys ++ zs) (filter_reverse p xs) (sym (filter_one p x))
    ∙ sym (reverse-append (filter p (x ∷ [])) (filter p xs))
    ∙ ap reverse (sym (filter_first p x xs))

-- What is read of each item is changed, place by place.
pub changed_by_places : {A B : Type 0} (read : A → B) (change : B → B) (was now : List A) → length now ≡ length was →
    ((k : ℕ) (d : A) → k < length was → read (get_or now k d) ≡ change (read (get_or was k d))) → map read now ≡ map change (map read was)
changed_by_places read change [] [] same each = refl
changed_by_places read change [] (x ∷ now) same each = absurd (omega arith)
changed_by_places read change (y ∷ was) [] same each = absurd (omega arith)
changed_by_places {A} {B} read change (y ∷ was) (x ∷ now) same each =
    ap₂ (λ (z : B) (zs : List B). z ∷ zs) (each 0 y (omega arith))
    (changed_by_places read change was now (omega arith) (λ k d within. each (suc k) d (omega arith)))

first_has : {A : Type 0} (b : Bool) (y : A) (ys : List A) (x : A) → Contains ys x → Contains (cond b (y ∷ ys) ys) x
first_has true y ys x is = (suc is.0, omega (arith, is.1), is.2)
first_has false y ys x is = is

here_has : {A : Type 0} (b : Bool) (y : A) (ys : List A) (x : A) → b ≡ true → y ≡ x → Contains (cond b (y ∷ ys) ys) x
here_has true y ys x passes here = (0, omega arith, here)
here_has false y ys x passes here = cc

pub filter_has : {A : Type 0} (p : A → Bool) (xs : List A) (k : ℕ) (x : A) → p x ≡ true → k < length xs → get_or xs k x ≡ x → Contains (filter p xs) x
filter_has p [] k x passes within is = absurd (omega arith)
filter_has p (y ∷ ys) zero x passes within is = here_has (p y) y (filter p ys) x (ap p is ∙ passes) is
filter_has p (y ∷ ys) (suc k) x passes within is = first_has (p y) y (filter p ys) x (filter_has p ys k x passes (omega arith) is)

-- # A share

-- a job with some of its stretches
abbrev pub with_stretches : Job → List Stretch → Bool → Job
with_stretches job stretches shared = record job { stretches = stretches; shared = shared }

abbrev share_if : Bool → ℕ → Job → Job
share_if b processor job = if b then share_on processor job else job

pub share_alone : (asked : Asked) (job : Job) → asked.moved_parts ≡ false → share_of asked job ≡ job
share_alone asked job alone = ap (λ (b : Bool). share_if (b && is_shared_by asked.processor job) asked.processor job) alone

pub share_made : (asked : Asked) (job : Job) → asked.moved_parts ≡ true → is_shared_by asked.processor job ≡ true → share_on asked.processor job ≡ share_of asked job
share_made asked job moved shared = ap₂ (λ (parts here : Bool). share_if (parts && here) asked.processor job) (sym moved) (sym shared)

pub share_begin : (asked : Asked) (job : Job) → (share_of asked job).begin ≡ job.begin
share_begin asked job = by (asked.moved_parts && is_shared_by asked.processor job)
  where
    by : (b : Bool) → (share_if b asked.processor job).begin ≡ job.begin
    by true = refl
    by false = refl

pub share_begin_known : (asked : Asked) (job : Job) → (share_of asked job).begin_known ≡ job.begin_known
share_begin_known asked job = by (asked.moved_parts && is_shared_by asked.processor job)
  where
    by : (b : Bool) → (share_if b asked.processor job).begin_known ≡ job.begin_known
    by true = refl
    by false = refl

pub share_end : (asked : Asked) (job : Job) → (share_of asked job).end ≡ job.end
share_end asked job = by (asked.moved_parts && is_shared_by asked.processor job)
  where
    by : (b : Bool) → (share_if b asked.processor job).end ≡ job.end
    by true = refl
    by false = refl

-- Its stretches are some of the job's.
pub share_all : (asked : Asked) (job : Job) (P : Stretch → Type 0) → All P job.stretches → All P (share_of asked job).stretches
share_all asked job P all = by (asked.moved_parts && is_shared_by asked.processor job)
  where
    by : (b : Bool) → All P (share_if b asked.processor job).stretches
    by true = All-filter (λ (stretch : Stretch). stretch.processor == asked.processor) P job.stretches all
    by false = all

filter_length : {A : Type 0} (p : A → Bool) (xs : List A) → length (filter p xs) ≤ length xs
filter_length p [] = omega arith
filter_length {A} p (x ∷ xs) = by (p x) (filter_length p xs)
  where
    by : (b : Bool) → length (filter p xs) ≤ length xs → length (cond b (x ∷ filter p xs) (filter p xs)) ≤ length (x ∷ xs)
    by true less = omega arith
    by false less = omega arith

pub share_length : (asked : Asked) (job : Job) → length (share_of asked job).stretches ≤ length job.stretches
share_length asked job = by (asked.moved_parts && is_shared_by asked.processor job)
  where
    by : (b : Bool) → length (share_if b asked.processor job).stretches ≤ length job.stretches
    by true = filter_length (λ (stretch : Stretch). stretch.processor == asked.processor) job.stretches
    by false = omega arith

any_filter : {A : Type 0} (p : A → Bool) (xs : List A) → list_any p (filter p xs) ≡ list_any p xs
any_filter p [] = refl
any_filter {A} p (x ∷ xs) = by (p x) refl (any_filter p xs)
  where
    by : (b : Bool) → p x ≡ b → list_any p (filter p xs) ≡ list_any p xs → list_any p (cond b (x ∷ filter p xs) (filter p xs)) ≡ (b || list_any p xs)
    by true so rest = ap (λ (c : Bool). c || list_any p (filter p xs)) so
    by false so rest = rest

none_filter : {A : Type 0} (p : A → Bool) (xs : List A) → list_any (λ x. not (p x)) (filter p xs) ≡ false
none_filter p [] = refl
none_filter {A} p (x ∷ xs) = by (p x) refl (none_filter p xs)
  where
    by : (b : Bool) → p x ≡ b → list_any (λ y. not (p y)) (filter p xs) ≡ false → list_any (λ y. not (p y)) (cond b (x ∷ filter p xs) (filter p xs)) ≡ false
    by true so none = ap₂ (λ (c rest : Bool). not c || rest) so none
    by false so none = none

-- It ran on the processor where the job did.
pub share_has_run_on : (asked : Asked) (job : Job) → has_run_on asked.processor (share_of asked job) ≡ has_run_on asked.processor job
share_has_run_on asked job = by (asked.moved_parts && is_shared_by asked.processor job)
  where
    by : (b : Bool) → has_run_on asked.processor (share_if b asked.processor job) ≡ has_run_on asked.processor job
    by true = any_filter (λ (stretch : Stretch). stretch.processor == asked.processor) job.stretches
    by false = refl

some_any : {A : Type 0} (p : A → Bool) (xs : List A) → list_any p xs ≡ true → (length xs == 0) ≡ false
some_any p [] any = cc
some_any p (x ∷ xs) any = suc_not_zero (length xs)

-- It has a stretch where the job has one.
pub share_is_empty : (asked : Asked) (job : Job) → (length (share_of asked job).stretches == 0) ≡ (length job.stretches == 0)
share_is_empty asked job = by asked.moved_parts (has_run_on asked.processor job) (list_any (is_elsewhere asked.processor) job.stretches) refl
  where
    by : (moved here there : Bool) → has_run_on asked.processor job ≡ here →
        (length (share_if (moved && (here && there)) asked.processor job).stretches == 0) ≡ (length job.stretches == 0)
    by true true true on =
        some_any (λ (stretch : Stretch). stretch.processor == asked.processor) (share_on asked.processor job).stretches
        (any_filter (λ (stretch : Stretch). stretch.processor == asked.processor) job.stretches ∙ on)
        ∙ sym (some_any (λ (stretch : Stretch). stretch.processor == asked.processor) job.stretches on)
    by true true false on = refl
    by true false there on = refl
    by false here there on = refl

-- Told in parts, a job that ran on the processor has no stretch elsewhere.
pub share_stays : (asked : Asked) (job : Job) → asked.moved_parts ≡ true → has_run_on asked.processor job ≡ true →
    list_any (is_elsewhere asked.processor) (share_of asked job).stretches ≡ false
share_stays asked job moved on = by asked.moved_parts (has_run_on asked.processor job) (list_any (is_elsewhere asked.processor) job.stretches) moved on refl
  where
    by : (parts here there : Bool) → parts ≡ true → here ≡ true → list_any (is_elsewhere asked.processor) job.stretches ≡ there →
        list_any (is_elsewhere asked.processor) (share_if (parts && (here && there)) asked.processor job).stretches ≡ false
    by true true true is so away = none_filter (λ (stretch : Stretch). stretch.processor == asked.processor) job.stretches
    by true true false is so away = away
    by true false there is so away = cc
    by false here there is so away = cc

-- A job that didn't run on the processor is as it was.
pub share_stranger : (asked : Asked) (job : Job) → has_run_on asked.processor job ≡ false → share_of asked job ≡ job
share_stranger asked job off = by asked.moved_parts (has_run_on asked.processor job) off
  where
    by : (moved here : Bool) → here ≡ false → share_if (moved && (here && list_any (is_elsewhere asked.processor) job.stretches)) asked.processor job ≡ job
    by true false off = refl
    by true true off = cc
    by false here off = refl

-- What a job ran on the processor is in its share.
pub share_keeps : (asked : Asked) (job : Job) (stretch : Stretch) → stretch.processor ≡ asked.processor → Contains job.stretches stretch →
    Contains (share_of asked job).stretches stretch
share_keeps asked job stretch here is = by (asked.moved_parts && is_shared_by asked.processor job)
  where
    by : (b : Bool) → Contains (share_if b asked.processor job).stretches stretch
    by true = filter_has (λ (one : Stretch). one.processor == asked.processor) job.stretches is.0 stretch (eq-eqb stretch.processor asked.processor here) is.1 is.2
    by false = is

-- # The shares of a task

map_same : {A : Type 0} (f : A → A) → ((x : A) → f x ≡ x) → (xs : List A) → map f xs ≡ xs
map_same f same [] = refl
map_same {A} f same (x ∷ xs) = ap₂ (λ (y : A) (ys : List A). y ∷ ys) (same x) (map_same f same xs)

-- Where it isn't asked for, shares are the jobs themselves.
pub jobs_alone : (asked : Asked) (jobs : List Job) → asked.moved_parts ≡ false → map (share_of asked) jobs ≡ jobs
jobs_alone asked jobs alone = map_same (share_of asked) (λ job. share_alone asked job alone) jobs

pub all_alone : (asked : Asked) (all : List (List Job)) → asked.moved_parts ≡ false → map (map (share_of asked)) all ≡ all
all_alone asked all alone = map_same (map (share_of asked)) (λ jobs. jobs_alone asked jobs alone) all

pub shares_alone : (asked : Asked) (past : List Said) (number : ℕ) → asked.moved_parts ≡ false → shares_of asked past number ≡ jobs_of asked past number
shares_alone asked past number alone = jobs_alone asked (jobs_of asked past number) alone

map_after : {A B C : Type 0} (g : B → C) (h : A → C) (f : A → B) → ((x : A) → g (f x) ≡ h x) → (xs : List A) → map g (map f xs) ≡ map h xs
map_after g h f same [] = refl
map_after {A} {B} {C} g h f same (x ∷ xs) = ap₂ (λ (y : C) (ys : List C). y ∷ ys) (same x) (map_after g h f same xs)

pub shares_began_before : (asked : Asked) (jobs : List Job) → began_before (map (share_of asked) jobs) ≡ began_before jobs
shares_began_before asked [] = refl
shares_began_before asked (job ∷ jobs) = ap not (share_begin_known asked job)

-- # What is shown

-- Where it isn't asked for, all that is shown is what the documents have.
pub shown_shared : (asked : Asked) (past : List Said) (boundary : ℕ) (shown : Shown) → asked.moved_parts ≡ false → IsShown asked past boundary shown →
    IsShared asked past boundary shown
shown_shared asked past boundary shown alone is = record {
  as_many = is.as_many;
  tasks = λ number default within.
      let task = is.tasks number default within in
      record {
        forgotten = task.forgotten;
        jobs = shares_alone asked past number alone ∙ task.jobs;
        earlier = task.earlier;
        as_many = task.as_many;
        before = task.before;
      };
  others = is.others;
  first = is.first;
  last = is.last;
  tally = is.tally;
}

share_task : (asked : Asked) (past : List Said) (boundary number : ℕ) (shown own : ShownTask) → Shares asked shown own →
    IsShownTask (jobs_of asked past number) asked past boundary number shown → IsShownTask (shares_of asked past number) asked past boundary number own
share_task asked past boundary number shown own shares is = record {
  forgotten = map (share_of asked) is.forgotten;
  jobs = ap (map (share_of asked)) is.jobs
      ∙ map-append (share_of asked) is.forgotten (map job_read shown.jobs.items)
      ∙ ap (λ (jobs : List Job). map (share_of asked) is.forgotten ++ jobs) (sym shares.jobs);
  earlier = All-map (λ (job : Job). job.begin < boundary) (share_of asked) is.forgotten
      (All-weaker (λ (job : Job). job.begin < boundary) (λ (job : Job). (share_of asked job).begin < boundary)
      (λ job early. omega (arith, early, share_begin asked job)) is.forgotten is.earlier);
  as_many = shares.forgotten ∙ is.as_many ∙ sym (length-map is.forgotten (share_of asked));
  before = shares.before ∙ is.before;
}

-- Each task has its shares, and the spans are the same.
pub shared_all : (asked : Asked) (past : List Said) (boundary : ℕ) (shown own : Shown) → length own.tasks.items ≡ length shown.tasks.items →
    ((number : ℕ) (default was : ShownTask) → number < length shown.tasks.items →
    Shares asked (get_or shown.tasks.items number was) (get_or own.tasks.items number default)) →
    map span_read own.others.items ≡ map span_read shown.others.items → own.first ≡ shown.first → own.last ≡ shown.last → own.tally ≡ shown.tally →
    IsShown asked past boundary shown → IsShared asked past boundary own
shared_all asked past boundary shown own many each others first last tally is = record {
  as_many = many ∙ is.as_many;
  tasks = λ number default within.
      share_task asked past boundary number (get_or shown.tasks.items number default) (get_or own.tasks.items number default)
      (each number default default (omega (arith, is.as_many))) (is.tasks number default within);
  others = ap (filter (goes_behind boundary)) others ∙ is.others;
  first = first ∙ is.first;
  last = last ∙ is.last;
  tally = tally ∙ is.tally;
}
