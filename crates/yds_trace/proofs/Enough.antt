-- What waits is at most what is kept of the tasks.
use Rattle.base.proofs.Common.{◌≡◌, ◌∙◌, ℕ, suc, ◌+◌, ◌<◌, ◌≤◌, List, [], ◌∷◌, ◌++◌, map, filter, reverse, length, get_or, sum_by, enumerate_from, Bool, true, false, cond, nat_le, if◌then◌else◌, Option, Some, None, is_some, All, All-head, All-tail, All-weaker, refl, sym, ap, subst, arith, lt-leb, le-leb, leb-true, filter-append, sum_by-cons, sum_by-append, sum_by-map, sum_by-le-sum_by, sum_by-IsPermutation, length-reverse}
use Rattle.std.proofs.lemmas.List.Sorted.{IsPermutation-reverse}
use Rattle.yds_kernel.specs.Event.{Said}
use Rattle.yds_kernel.specs.Parts.{capped}
use Rattle.yds_trace.specs.declared.followed.Followed.{Followed}
use Rattle.yds_trace.specs.declared.job.Job.{Job as JobKept}
use Rattle.yds_trace.specs.declared.job.Standing.{Standing}
use Rattle.yds_trace.specs.declared.job.Woken.{Woken}
use Rattle.yds_trace.specs.declared.job.Stretch.{Stretch}
use Rattle.yds_trace.specs.declared.kept.Kept.{Kept as Amount}
use Rattle.yds_trace.specs.declared.others.Others.{Others as OthersKept}
use Rattle.yds_trace.specs.Asked.{Task, Start, Asked}
use Rattle.yds_trace.specs.Past.{up_to}
use Rattle.yds_trace.specs.Jobs.{Job, changed_last, ran}
use Rattle.yds_trace.specs.Late.{last_asked}
use Rattle.yds_trace.specs.Document.{Judged, judged, judged_of, judged_from, jobs_of, share_of, shares_of, began_before, put_in, in_order}
use Rattle.yds_trace.specs.Parts.{begins_from, waiting_from, stretches_of as waiting_stretches}
use Rattle.yds_trace.specs.Passing.{closed_at}
use Rattle.yds_trace.specs.Following.{jobs_in, stretches_in, stretches_of}
use Rattle.yds_trace.specs.Kept.{IsFollowed, AreOthersOf, IsEnough}
use Rattle.yds_trace.specs.Views.{job_read, jobs_listed, known_read}
use Rattle.yds_trace.proofs.Listed.{some_listed}
use Rattle.yds_trace.proofs.Showing.{jobs_behind}
use Rattle.yds_trace.proofs.Spans.{few_others}
use Rattle.yds_trace.proofs.Shares.{share_begin, share_length}

-- # Sums over what passes a test

one_more : {A : Type 0} (f : A → ℕ) (b : Bool) (x : A) (xs : List A) → sum_by f (cond b (x ∷ xs) xs) ≡ (if b then f x else 0) + sum_by f xs
one_more f true x xs = sum_by-cons f x xs
one_more f false x xs = omega arith

put_sum : {A : Type 0} (f : A → ℕ) (p : A → Bool) (key : A → ℕ) (x : A) (ys : List A) →
    sum_by f (filter p (put_in key x ys)) ≡ (if p x then f x else 0) + sum_by f (filter p ys)
put_sum f p key x [] = one_more f (p x) x []
put_sum f p key x (y ∷ ys) = by (nat_le (key x) (key y)) (put_sum f p key x ys)
  where
    by : (b : Bool) → sum_by f (filter p (put_in key x ys)) ≡ (if p x then f x else 0) + sum_by f (filter p ys) →
        sum_by f (filter p (if b then x ∷ y ∷ ys else y ∷ put_in key x ys)) ≡ (if p x then f x else 0) + sum_by f (filter p (y ∷ ys))
    by true rest = one_more f (p x) x (filter p (y ∷ ys))
    by false rest = omega (arith, one_more f (p y) y (filter p (put_in key x ys)), one_more f (p y) y (filter p ys), rest)

order_sum : {A : Type 0} (f : A → ℕ) (p : A → Bool) (key : A → ℕ) (xs : List A) → sum_by f (filter p (in_order key xs)) ≡ sum_by f (filter p xs)
order_sum f p key [] = refl
order_sum f p key (x ∷ xs) = omega (arith, put_sum f p key x (in_order key xs), order_sum f p key xs, one_more f (p x) x (filter p xs))

if_le : (b : Bool) (n : ℕ) → (if b then n else 0) ≤ n
if_le true n = omega arith
if_le false n = omega arith

if_less : (b : Bool) (m n : ℕ) → m ≤ n → (if b then m else 0) ≤ (if b then n else 0)
if_less true m n less = less
if_less false m n less = omega arith

filter_le : {A : Type 0} (f : A → ℕ) (p : A → Bool) (xs : List A) → sum_by f (filter p xs) ≤ sum_by f xs
filter_le f p [] = omega arith
filter_le f p (x ∷ xs) = omega (arith, one_more f (p x) x (filter p xs), sum_by-cons f x xs, filter_le f p xs, if_le (p x) (f x))

reverse_sum : {A : Type 0} (f : A → ℕ) (xs : List A) → sum_by f (reverse xs) ≡ sum_by f xs
reverse_sum f xs = sum_by-IsPermutation f xs (reverse xs) (IsPermutation-reverse xs)

ones : {A : Type 0} (xs : List A) → sum_by (λ (x : A). 1) xs ≡ length xs
ones [] = refl
ones {A} (x ∷ xs) = omega (arith, sum_by-cons (λ (y : A). 1) x xs, ones xs)

-- # A task

abbrev late_job : ℕ → Job → Bool
late_job boundary job = nat_le boundary job.begin

none_waits : (g : Job → ℕ) (boundary : ℕ) (jobs : List Job) → All (λ job. job.begin < boundary) jobs → sum_by g (filter (late_job boundary) jobs) ≡ 0
none_waits g boundary [] all = refl
none_waits g boundary (job ∷ jobs) all =
    let first : (if late_job boundary job then g job else 0) ≡ 0 =
    ap (λ (b : Bool). if b then g job else 0) (lt-leb boundary job.begin (All-head (λ (one : Job). one.begin < boundary) job jobs all)) in
    let rest : sum_by g (filter (late_job boundary) jobs) ≡ 0 = none_waits g boundary jobs (All-tail (λ (one : Job). one.begin < boundary) job jobs all) in
    omega (arith, one_more g (late_job boundary job) job (filter (late_job boundary) jobs), first, rest)

judged_sum : (g : Job → ℕ) (asked : Asked) (past : List Said) (number : ℕ) (before : Bool) (boundary k : ℕ) (jobs : List Job) →
    sum_by (λ (one : Judged). g one.job) (filter (begins_from boundary) (map (judged asked past number before) (enumerate_from k jobs)))
    ≡ sum_by g (filter (late_job boundary) jobs)
judged_sum g asked past number before boundary k [] = refl
judged_sum g asked past number before boundary k (job ∷ jobs) =
    one_more (λ (one : Judged). g one.job) (late_job boundary job) (judged asked past number before (k, job))
    (filter (begins_from boundary) (map (judged asked past number before) (enumerate_from (k + 1) jobs)))
    ∙ ap (λ (n : ℕ). (if late_job boundary job then g job else 0) + n) (judged_sum g asked past number before boundary (k + 1) jobs)
    ∙ sym (one_more g (late_job boundary job) job (filter (late_job boundary) jobs))

changed_sum : (g : Job → ℕ) (more : ℕ) (stretch : Stretch) (jobs : List Job) → ((job : Job) → g (ran stretch job) ≤ g job + more) →
    sum_by g (changed_last (ran stretch) jobs) ≤ sum_by g jobs + more
changed_sum g more stretch [] each = omega arith
changed_sum g more stretch (job ∷ jobs) each = omega (arith, sum_by-cons g (ran stretch job) jobs, sum_by-cons g job jobs, each job)

closed_sum : (g : Job → ℕ) (more until : ℕ) (start : Start) (counting : List Said) (on : Option Standing) (jobs : List Job) (woken : Woken) →
    ((stretch : Stretch) (job : Job) → g (ran stretch job) ≤ g job + more) →
    sum_by g (closed_at until start counting (record { jobs = jobs; on = on; woken = woken })) ≤ sum_by g jobs + (if is_some on then more else 0)
closed_sum g more until start counting None jobs woken each = omega arith
closed_sum g more until start counting (Some standing) jobs woken each = changed_sum g more _ jobs (each _)

shares_sum : (g : Job → ℕ) (asked : Asked) (boundary : ℕ) (jobs : List Job) → ((job : Job) → g (share_of asked job) ≤ g job) →
    sum_by g (filter (late_job boundary) (map (share_of asked) jobs)) ≤ sum_by g (filter (late_job boundary) jobs)
shares_sum g asked boundary [] less = omega arith
shares_sum g asked boundary (job ∷ jobs) less =
    let late : (if late_job boundary (share_of asked job) then g (share_of asked job) else 0) ≡ (if late_job boundary job then g (share_of asked job) else 0) =
    ap (λ (begin : ℕ). if nat_le boundary begin then g (share_of asked job) else 0) (share_begin asked job) in
    omega (
      arith,
      one_more g (late_job boundary (share_of asked job)) (share_of asked job) (filter (late_job boundary) (map (share_of asked) jobs)),
      one_more g (late_job boundary job) job (filter (late_job boundary) jobs),
      late,
      if_less (late_job boundary job) (g (share_of asked job)) (g job) (less job),
      shares_sum g asked boundary jobs less,
    )

task_sum : (g : Job → ℕ) (more : ℕ) → ((stretch : Stretch) (job : Job) → g (ran stretch job) ≤ g job + more) → (asked : Asked) (past : List Said)
    (behind boundary number : ℕ) (followed : Followed) → ((job : Job) → g (share_of asked job) ≤ g job) → behind ≤ boundary →
    IsFollowed asked (up_to asked.to past) behind number followed →
    sum_by (λ (one : Judged). g one.job) (filter (begins_from boundary) (judged_of asked past number))
    ≤ sum_by g (jobs_listed followed.known.jobs.items) + (if is_some followed.known.on then more else 0)
task_sum g more each asked past behind boundary number followed less within is =
    let rest : List Job = closed_at (last_asked asked past) asked.start (up_to asked.to past) (known_read followed.known) in
    let told : sum_by (λ (one : Judged). g one.job) (filter (begins_from boundary) (judged_of asked past number))
    ≡ sum_by g (filter (late_job boundary) (map (share_of asked) (jobs_of asked past number))) =
    judged_sum g asked past number (began_before (jobs_of asked past number)) boundary 0 (shares_of asked past number) in
    let fewer : sum_by g (filter (late_job boundary) (map (share_of asked) (jobs_of asked past number))) ≤ sum_by g (filter (late_job boundary) (jobs_of asked past number)) =
    shares_sum g asked boundary (jobs_of asked past number) less in
    let all : sum_by g (filter (late_job boundary) (jobs_of asked past number)) ≡ sum_by g (filter (late_job boundary) (is.forgotten ++ reverse rest)) =
    ap (λ (jobs : List Job). sum_by g (filter (late_job boundary) jobs)) (jobs_behind asked past behind number followed is) in
    let apart : sum_by g (filter (late_job boundary) (is.forgotten ++ reverse rest))
    ≡ sum_by g (filter (late_job boundary) is.forgotten) + sum_by g (filter (late_job boundary) (reverse rest)) =
    ap (sum_by g) (filter-append (late_job boundary) is.forgotten (reverse rest))
    ∙ sum_by-append g (filter (late_job boundary) is.forgotten) (filter (late_job boundary) (reverse rest)) in
    let none : sum_by g (filter (late_job boundary) is.forgotten) ≡ 0 = none_waits g boundary is.forgotten
    (All-weaker (λ (job : Job). job.begin < behind) (λ (job : Job). job.begin < boundary) (λ job early. omega (arith, early, within)) is.forgotten is.are_forgotten.earlier) in
    let few : sum_by g (filter (late_job boundary) (reverse rest)) ≤ sum_by g (reverse rest) = filter_le g (late_job boundary) (reverse rest) in
    let same : sum_by g (reverse rest) ≡ sum_by g rest = reverse_sum g rest in
    let shut : sum_by g rest ≤ sum_by g (jobs_listed followed.known.jobs.items) + (if is_some followed.known.on then more else 0) =
    closed_sum g more (last_asked asked past) asked.start (up_to asked.to past) followed.known.on (jobs_listed followed.known.jobs.items) followed.known.woken each in
    omega (arith, told, fewer, all, apart, none, few, same, shut)

-- # All tasks

tasks_sum : (f : Judged → ℕ) (weight : Followed → ℕ) (asked : Asked) (past : List Said) (boundary start : ℕ) (tasks : List Task) (kept : List Followed) →
    length kept ≡ length tasks →
    ((k n : ℕ) (d : Followed) → k < length tasks → start + k ≡ n → sum_by f (filter (begins_from boundary) (judged_of asked past n)) ≤ weight (get_or kept k d)) →
    sum_by f (filter (begins_from boundary) (judged_from asked past start tasks)) ≤ sum_by weight kept
tasks_sum f weight asked past boundary start [] [] many each = omega arith
tasks_sum f weight asked past boundary start [] (one ∷ kept) many each = absurd (omega arith)
tasks_sum f weight asked past boundary start (task ∷ tasks) [] many each = absurd (omega arith)
tasks_sum f weight asked past boundary start (task ∷ tasks) (one ∷ kept) many each =
    let apart : sum_by f (filter (begins_from boundary) (judged_of asked past start ++ judged_from asked past (start + 1) tasks))
    ≡ sum_by f (filter (begins_from boundary) (judged_of asked past start)) + sum_by f (filter (begins_from boundary) (judged_from asked past (start + 1) tasks)) =
    ap (sum_by f) (filter-append (begins_from boundary) (judged_of asked past start) (judged_from asked past (start + 1) tasks))
    ∙ sum_by-append f (filter (begins_from boundary) (judged_of asked past start)) (filter (begins_from boundary) (judged_from asked past (start + 1) tasks)) in
    let here : sum_by f (filter (begins_from boundary) (judged_of asked past start)) ≤ weight one = each 0 start one (omega arith) (omega arith) in
    let rest : sum_by f (filter (begins_from boundary) (judged_from asked past (start + 1) tasks)) ≤ sum_by weight kept =
    tasks_sum f weight asked past boundary (start + 1) tasks kept (omega arith) (λ k n d within is. each (suc k) n d (omega arith) (omega arith)) in
    omega (arith, apart, here, rest, sum_by-cons weight one kept)

waiting_sum : (f : Judged → ℕ) (weight : Followed → ℕ) (asked : Asked) (past : List Said) (boundary : ℕ) (kept : List Followed) →
    length kept ≡ length asked.tasks →
    ((k n : ℕ) (d : Followed) → k < length asked.tasks → 0 + k ≡ n → sum_by f (filter (begins_from boundary) (judged_of asked past n)) ≤ weight (get_or kept k d)) →
    sum_by f (waiting_from asked past boundary) ≤ sum_by weight kept
waiting_sum f weight asked past boundary kept many each =
    let same : sum_by f (waiting_from asked past boundary) ≡ sum_by f (filter (begins_from boundary) (judged_from asked past 0 asked.tasks)) =
    order_sum f (begins_from boundary) (λ (one : Judged). one.job.begin) (judged_from asked past 0 asked.tasks) in
    omega (arith, same, tasks_sum f weight asked past boundary 0 asked.tasks kept many each)

abbrev one_each : Job → ℕ
one_each job = 1

abbrev stretches_each : Job → ℕ
stretches_each job = length job.stretches

jobs_weigh : (followed : Followed) → sum_by one_each (jobs_listed followed.known.jobs.items) + (if is_some followed.known.on then 0 else 0) ≤ jobs_in followed
jobs_weigh followed =
    omega (arith, ones (jobs_listed followed.known.jobs.items), some_listed followed.known.jobs.items, if_le (is_some followed.known.on) 0)

stretches_weigh : (followed : Followed) →
    sum_by stretches_each (jobs_listed followed.known.jobs.items) + (if is_some followed.known.on then 1 else 0) ≤ stretches_of followed
stretches_weigh followed =
    let listed : sum_by stretches_each (jobs_listed followed.known.jobs.items) ≡ sum_by stretches_each (map job_read followed.known.jobs.items) =
    reverse_sum stretches_each (map job_read followed.known.jobs.items) in
    let mapped : sum_by stretches_each (map job_read followed.known.jobs.items) ≡ sum_by (λ (job : JobKept). stretches_each (job_read job)) followed.known.jobs.items =
    sum_by-map job_read stretches_each followed.known.jobs.items in
    let same : sum_by (λ (job : JobKept). stretches_each (job_read job)) followed.known.jobs.items ≤ sum_by stretches_in followed.known.jobs.items =
    sum_by-le-sum_by (λ (job : JobKept). stretches_each (job_read job)) stretches_in followed.known.jobs.items
    (λ job. omega (arith, length-reverse job.stretches.items)) in
    omega (arith, listed, mapped, same)

at_number : (asked : Asked) (past : List Said) (behind : ℕ) (kept : List Followed) →
    ((k : ℕ) (d : Followed) → k < length asked.tasks → IsFollowed asked (up_to asked.to past) behind k (get_or kept k d)) →
    (k n : ℕ) (d : Followed) → k < length asked.tasks → 0 + k ≡ n → IsFollowed asked (up_to asked.to past) behind n (get_or kept k d)
at_number asked past behind kept each k n d within is =
    let same : k ≡ n = omega arith in
    let P : ℕ → Type 0 = λ m. IsFollowed asked (up_to asked.to past) behind m (get_or kept k d) in
    subst P same (each k d within)

capped_rises : (a b : ℕ) → a ≤ b → capped a ≤ capped b
capped_rises a b less = grind (arith, nat_le, leb-true, le-leb)

le_of : (a b c : ℕ) → a ≤ b → c ≡ b → a ≤ c
le_of a b c less same = omega arith

pub enough : (asked : Asked) (past : List Said) (behind boundary : ℕ) → behind ≤ boundary → (kept : List Followed) (others : OthersKept) (amount : Amount) → length kept ≡ length asked.tasks →
    ((k : ℕ) (d : Followed) → k < length asked.tasks → IsFollowed asked (up_to asked.to past) behind k (get_or kept k d)) →
    AreOthersOf asked (up_to asked.to past) behind others → amount.others ≡ capped (length others.spans.items + (if is_some others.going then 1 else 0)) →
    amount.jobs ≡ capped (sum_by jobs_in kept) → amount.stretches ≡ capped (sum_by stretches_of kept) → IsEnough asked past boundary amount
enough asked past behind boundary within kept others amount many each are others_is jobs stretches =
    let few_jobs : sum_by (λ (one : Judged). one_each one.job) (waiting_from asked past boundary) ≤ sum_by jobs_in kept =
    waiting_sum (λ (one : Judged). one_each one.job) jobs_in asked past boundary kept many
    (λ k n d inside is.
    omega (
      arith,
      task_sum one_each 0 (λ stretch job. omega arith) asked past behind boundary n (get_or kept k d) (λ job. omega arith) within (at_number asked past behind kept each k n d inside is),
      jobs_weigh (get_or kept k d),
    )) in
    let few_stretches : waiting_stretches (waiting_from asked past boundary) ≤ sum_by stretches_of kept =
    waiting_sum (λ (one : Judged). stretches_each one.job) stretches_of asked past boundary kept many
    (λ k n d inside is.
    omega (
      arith,
      task_sum stretches_each 1 (λ stretch job. omega arith) asked past behind boundary n (get_or kept k d) (share_length asked) within (at_number asked past behind kept each k n d inside is),
      stretches_weigh (get_or kept k d),
    )) in
    let fewer : length (waiting_from asked past boundary) ≤ sum_by jobs_in kept = omega (arith, ones (waiting_from asked past boundary), few_jobs) in
    record {
      jobs = le_of _ _ _ (capped_rises _ _ fewer) jobs;
      stretches = le_of _ _ _ (capped_rises _ _ few_stretches) stretches;
      others = le_of _ _ _ (capped_rises _ _ (few_others asked past behind boundary others within are)) others_is;
    }
