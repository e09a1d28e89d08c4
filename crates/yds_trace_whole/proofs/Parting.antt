-- The parts put together: each part has the jobs that begin between two cuts, and what is before a cut stays.
use Rattle.yds_model.proofs.Common.{◌≡◌, ◌∙◌, ℕ, ◌+◌, ◌<◌, ◌≤◌, ◌⊎◌, inl, inr, ◌&&◌, ◌||◌, List, [], ◌∷◌, ◌++◌, map, filter, length, Bool, true, false, not, cond, nat_lt, nat_le, if◌then◌else◌, Option, Some, None, refl, sym, ap, ap₂, subst, arith, lt-ltb, le-ltb, le-leb, lt-leb, ltb-true, leb-true, cases_lt, true≢false, and_parts, append-nil, filter-append, flat_map-append, list_all}
use Rattle.std.specs.List.{AllByRecursion, enumerate_from}
use Rattle.yds_kernel.specs.Parts.{or_else}
use Rattle.yds_kernel.specs.Event.{Said}
use Rattle.yds_trace.specs.declared.cut.Cut.{Cut}
use Rattle.yds_trace.specs.declared.job.End.{End}
use Rattle.yds_trace.specs.declared.job.End.TheVariants as ends
use Rattle.yds_trace.specs.declared.job.Standing.{Standing}
use Rattle.yds_trace.specs.declared.job.Stretch.{Stretch}
use Rattle.yds_trace.specs.Asked.{Task, Asked, task_at}
use Rattle.yds_trace.specs.Past.{last_time, up_to, speed_after}
use Rattle.yds_trace.specs.Jobs.{Job, Known, unknown, changed_last, ran, known_after}
use Rattle.yds_trace.specs.Late.{last_asked, due}
use Rattle.yds_trace.specs.Document.{closed, jobs_of, share_of, shares_of, Judged, judged, judged_of, judged_from, all_judged, began_before, stands}
use Rattle.yds_trace.specs.Others.{others_from}
use Rattle.yds_trace.specs.Parts.{belongs, begin_of, begins_from, begins_before, is_over, is_settled, ended_by, is_done_by, each_before, has_job, is_quiet, has_own_job, is_closed_by, is_closed, last_where, place_among, is_much, is_due, no_cut, waiting, is_before_end, part_until, place_of, with_part, cut_at, cut_after, part_fault}
use Rattle.yds_trace_document.proofs.Sorting.{FromLow, Rises, rises_in_order}
use Rattle.yds_trace_laws.proofs.Ordered.{append-all, append-all_left, append-all_right, in_order-all, in_order-all_back}
use Rattle.yds_trace_laws.proofs.Runs.{all_weaker, reverse-all, reverse-all_back}
use Rattle.yds_trace_laws.proofs.Shares.{share_kept}
use Rattle.yds_trace_laws.proofs.Sharing.{GoesOn, lines_go_on}
use Rattle.yds_trace_whole.specs.Parts.{Part, made, made_with, made_at, parts_behind, judged_in_parts, KeepsParts}
use Rattle.yds_trace_whole.specs.Laws.{PartsAreTheWhole}
use Rattle.yds_trace_whole.proofs.Told.{told, Each}
use Rattle.yds_trace_whole.proofs.Going.{IsSound, IsSoundEnd, AreSound, IsDone, IsOff, IsLeft, StandsBy, Keeps}
use Rattle.yds_trace_whole.proofs.Lines.{beyond, until_most}
use Rattle.yds_trace_whole.proofs.Holding.{IsFirmEnd, IsFirm, ripe_from, counted, Holds, now_is, now_goes_on, goes_behind, line_keeps, line_holds}
use Rattle.yds_trace_whole.proofs.Same.{told_from, all_same}

-- # Lists

map_all : {A B : Type 0} (P : B → Type 0) (f : A → B) (xs : List A) → AllByRecursion (λ x. P (f x)) xs → AllByRecursion P (map f xs)
map_all P f [] all = tt
map_all P f (x ∷ xs) all = (all.0, map_all P f xs all.1)

pub filter_all_of : {A : Type 0} (P : A → Type 0) (p : A → Bool) (xs : List A) → AllByRecursion P xs → AllByRecursion (λ x. P x × (p x ≡ true)) (filter p xs)
filter_all_of P p [] all = tt
filter_all_of {A} P p (x ∷ xs) all = by (p x) refl (filter_all_of P p xs all.1)
  where
    by : (b : Bool) → p x ≡ b → AllByRecursion (λ (y : A). P y × (p y ≡ true)) (filter p xs) →
        AllByRecursion (λ (y : A). P y × (p y ≡ true)) (cond b (x ∷ filter p xs) (filter p xs))
    by true is rest = ((all.0, is), rest)
    by false is rest = rest

filter_all_back : {A : Type 0} (P : A → Type 0) (p : A → Bool) (xs : List A) → AllByRecursion P (filter p xs) → AllByRecursion (λ x. p x ≡ true → P x) xs
filter_all_back P p [] all = tt
filter_all_back {A} P p (x ∷ xs) all = by (p x) refl all (filter_all_back P p xs)
  where
    by : (b : Bool) → p x ≡ b → AllByRecursion P (cond b (x ∷ filter p xs) (filter p xs)) →
        (AllByRecursion P (filter p xs) → AllByRecursion (λ (y : A). p y ≡ true → P y) xs) →
        (p x ≡ true → P x) × AllByRecursion (λ (y : A). p y ≡ true → P y) xs
    by true is all back = (λ so. all.0, back all.1)
    by false is all back = (λ so. absurd (true≢false (sym so ∙ is)), back all)

list_all_each : {A : Type 0} (p : A → Bool) (xs : List A) → list_all p xs ≡ true → AllByRecursion (λ x. p x ≡ true) xs
list_all_each p [] all = tt
list_all_each p (x ∷ xs) all = let parts = and_parts (p x) (list_all p xs) all in (parts.0, list_all_each p xs parts.1)

-- # A list that rises, cut in two

none_before : (boundary low : ℕ) (jobs : List Judged) → boundary ≤ low → FromLow begin_of low jobs → filter (begins_before boundary) jobs ≡ []
none_before boundary low [] on from = refl
none_before boundary low (one ∷ jobs) on from =
    ap (λ (b : Bool). cond b (one ∷ filter (begins_before boundary) jobs) (filter (begins_before boundary) jobs)) (le-ltb one.job.begin boundary (omega (arith, on, from.0)))
    ∙ none_before boundary low jobs on from.1

all_from : (boundary low : ℕ) (jobs : List Judged) → boundary ≤ low → FromLow begin_of low jobs → filter (begins_from boundary) jobs ≡ jobs
all_from boundary low [] on from = refl
all_from boundary low (one ∷ jobs) on from =
    ap (λ (b : Bool). cond b (one ∷ filter (begins_from boundary) jobs) (filter (begins_from boundary) jobs)) (le-leb boundary one.job.begin (omega (arith, on, from.0)))
    ∙ ap (λ (l : List Judged). one ∷ l) (all_from boundary low jobs on from.1)

two_parts : (boundary : ℕ) (jobs : List Judged) → Rises begin_of jobs → filter (begins_before boundary) jobs ++ filter (begins_from boundary) jobs ≡ jobs
two_parts boundary [] rises = refl
two_parts boundary (one ∷ jobs) rises = by (cases_lt one.job.begin boundary) (two_parts boundary jobs rises.1)
  where
    by : (one.job.begin < boundary) ⊎ (boundary ≤ one.job.begin) → filter (begins_before boundary) jobs ++ filter (begins_from boundary) jobs ≡ jobs →
        filter (begins_before boundary) (one ∷ jobs) ++ filter (begins_from boundary) (one ∷ jobs) ≡ one ∷ jobs
    by (inl early) rest =
        ap₂ (λ (b c : Bool). cond b (one ∷ filter (begins_before boundary) jobs) (filter (begins_before boundary) jobs)
        ++ cond c (one ∷ filter (begins_from boundary) jobs) (filter (begins_from boundary) jobs))
        (lt-ltb one.job.begin boundary early) (lt-leb boundary one.job.begin early)
        ∙ ap (λ (l : List Judged). one ∷ l) rest
    by (inr late) rest =
        ap₂ (λ (b c : Bool). cond b (one ∷ filter (begins_before boundary) jobs) (filter (begins_before boundary) jobs)
        ++ cond c (one ∷ filter (begins_from boundary) jobs) (filter (begins_from boundary) jobs))
        (le-ltb one.job.begin boundary late) (le-leb boundary one.job.begin late)
        ∙ ap₂ (λ (first second : List Judged). first ++ one ∷ second) (none_before boundary one.job.begin jobs late rises.0) (all_from boundary one.job.begin jobs late rises.0)

still_before : (boundary time : ℕ) (jobs : List Judged) → boundary ≤ time → filter (begins_before time) (filter (begins_before boundary) jobs) ≡ filter (begins_before boundary) jobs
still_before boundary time [] on = refl
still_before boundary time (one ∷ jobs) on = by (nat_lt one.job.begin boundary) refl (still_before boundary time jobs on)
  where
    by : (b : Bool) → nat_lt one.job.begin boundary ≡ b → filter (begins_before time) (filter (begins_before boundary) jobs) ≡ filter (begins_before boundary) jobs →
        filter (begins_before time) (cond b (one ∷ filter (begins_before boundary) jobs) (filter (begins_before boundary) jobs))
        ≡ cond b (one ∷ filter (begins_before boundary) jobs) (filter (begins_before boundary) jobs)
    by true is rest =
        ap (λ (b : Bool). cond b (one ∷ filter (begins_before time) (filter (begins_before boundary) jobs)) (filter (begins_before time) (filter (begins_before boundary) jobs)))
        (lt-ltb one.job.begin time (omega (arith, ltb-true one.job.begin boundary is, on)))
        ∙ ap (λ (l : List Judged). one ∷ l) rest
    by false is rest = rest

-- What is before the first cut, and what is between it and the second, is what is before the second.
next_part : (boundary time : ℕ) (jobs : List Judged) → boundary ≤ time → Rises begin_of jobs →
    filter (begins_before boundary) jobs ++ filter (begins_before time) (filter (begins_from boundary) jobs) ≡ filter (begins_before time) jobs
next_part boundary time jobs on rises =
    ap (λ (l : List Judged). l ++ filter (begins_before time) (filter (begins_from boundary) jobs)) (sym (still_before boundary time jobs on))
    ∙ sym (filter-append (begins_before time) (filter (begins_before boundary) jobs) (filter (begins_from boundary) jobs))
    ∙ ap (filter (begins_before time)) (two_parts boundary jobs rises)

all_of_them : (jobs : List Judged) → filter (is_before_end None) jobs ≡ jobs
all_of_them [] = refl
all_of_them (one ∷ jobs) = ap (λ (l : List Judged). one ∷ l) (all_of_them jobs)

before_nothing : (jobs : List Judged) → [] ≡ filter (begins_before 0) jobs
before_nothing [] = refl
before_nothing (one ∷ jobs) =
    before_nothing jobs
    ∙ ap (λ (b : Bool). cond b (one ∷ filter (begins_before 0) jobs) (filter (begins_before 0) jobs)) (sym (le-ltb one.job.begin 0 (omega arith)))

-- # The jobs that belong to the processor

-- those that begin before a time
abbrev pub own_before : Asked → List Said → ℕ → List Judged
own_before asked past time = filter (belongs asked) (filter (begins_before time) (all_judged asked past))

pub own_nothing : (asked : Asked) (past : List Said) → [] ≡ own_before asked past 0
own_nothing asked past = ap (filter (belongs asked)) (before_nothing (all_judged asked past))

pub next_own : (asked : Asked) (past : List Said) (cut : Cut) (time : ℕ) → cut.boundary ≤ time →
    own_before asked past cut.boundary ++ part_until asked past cut (Some time) ≡ own_before asked past time
next_own asked past cut time on =
    sym (filter-append (belongs asked) (filter (begins_before cut.boundary) (all_judged asked past)) (filter (begins_before time) (waiting asked past cut)))
    ∙ ap (filter (belongs asked)) (next_part cut.boundary time (all_judged asked past) on (rises_in_order begin_of (judged_from asked past 0 asked.tasks)))

pub last_own : (asked : Asked) (past : List Said) (cut : Cut) →
    own_before asked past cut.boundary ++ part_until asked past cut None ≡ filter (belongs asked) (all_judged asked past)
last_own asked past cut =
    ap (λ (l : List Judged). own_before asked past cut.boundary ++ filter (belongs asked) l) (all_of_them (waiting asked past cut))
    ∙ sym (filter-append (belongs asked) (filter (begins_before cut.boundary) (all_judged asked past)) (waiting asked past cut))
    ∙ ap (filter (belongs asked)) (two_parts cut.boundary (all_judged asked past) (rises_in_order begin_of (judged_from asked past 0 asked.tasks)))

-- # What is known of each judged job, and of each job of a task

module _ (asked : Asked) (past : List Said) where
  pub numbered_all : (P : Judged → Type 0) (number : ℕ) (before : Bool) (Q : Job → Type 0) → ((place : ℕ) (job : Job) → Q job → P (judged asked past number before (place, job))) →
      (start : ℕ) (jobs : List Job) → AllByRecursion Q jobs → AllByRecursion P (map (judged asked past number before) (enumerate_from start jobs))
  numbered_all P number before Q each start [] all = tt
  numbered_all P number before Q each start (job ∷ jobs) all = (each start job all.0, numbered_all P number before Q each (start + 1) jobs all.1)

  all_numbered : (P : Judged → Type 0) (number : ℕ) (before : Bool) (Q : Job → Type 0) → ((place : ℕ) (job : Job) → P (judged asked past number before (place, job)) → Q job) →
      (start : ℕ) (jobs : List Job) → AllByRecursion P (map (judged asked past number before) (enumerate_from start jobs)) → AllByRecursion Q jobs
  all_numbered P number before Q each start [] all = tt
  all_numbered P number before Q each start (job ∷ jobs) all = (each start job all.0, all_numbered P number before Q each (start + 1) jobs all.1)

changed_all : (Q : Job → Type 0) (change : Job → Job) → ((job : Job) → Q job → Q (change job)) → (jobs : List Job) → AllByRecursion Q jobs → AllByRecursion Q (changed_last change jobs)
changed_all Q change keeps [] all = tt
changed_all Q change keeps (job ∷ jobs) all = (keeps job all.0, all.1)

all_changed : (Q : Job → Type 0) (change : Job → Job) → ((job : Job) → Q (change job) → Q job) → (jobs : List Job) → AllByRecursion Q (changed_last change jobs) → AllByRecursion Q jobs
all_changed Q change back [] all = tt
all_changed Q change back (job ∷ jobs) all = (back job all.0, all.1)

-- who still has its processor has had it until now
abbrev pub closing : Asked → List Said → Standing → Stretch
closing asked past standing = record {
  processor = standing.processor;
  from = standing.since;
  to = last_asked asked past;
  khz = speed_after asked.start standing.processor (up_to asked.to past);
}

-- what doesn't look at stretches holds of all jobs at the end
closed_all : (asked : Asked) (past : List Said) (Q : Job → Type 0) → ((job : Job) (stretch : Stretch) → Q job → Q (ran stretch job)) → (known : Known) →
    AllByRecursion Q known.jobs → AllByRecursion Q (closed asked past known)
closed_all asked past Q keeps known all = by known.on
  where
    by : (on : Option Standing) → AllByRecursion Q (elim on [ None ↦ known.jobs | Some standing ↦ changed_last (ran (closing asked past standing)) known.jobs ])
    by None = all
    by (Some standing) = changed_all Q (ran (closing asked past standing)) (λ job is. keeps job (closing asked past standing) is) known.jobs all

all_closed : (asked : Asked) (past : List Said) (Q : Job → Type 0) → ((job : Job) (stretch : Stretch) → Q (ran stretch job) → Q job) → (known : Known) →
    AllByRecursion Q (closed asked past known) → AllByRecursion Q known.jobs
all_closed asked past Q back known all = by known.on all
  where
    by : (on : Option Standing) → AllByRecursion Q (elim on [ None ↦ known.jobs | Some standing ↦ changed_last (ran (closing asked past standing)) known.jobs ]) →
        AllByRecursion Q known.jobs
    by None all = all
    by (Some standing) all = all_changed Q (ran (closing asked past standing)) (λ job is. back job (closing asked past standing) is) known.jobs all

-- and of what the processor's documents have of them
pub shares_all : (Q : Job → Type 0) (asked : Asked) → ((job : Job) → Q job → Q (share_of asked job)) → (jobs : List Job) → AllByRecursion Q jobs →
    AllByRecursion Q (map (share_of asked) jobs)
shares_all Q asked keeps jobs all = map_all Q (share_of asked) jobs (all_weaker Q (λ (job : Job). Q (share_of asked job)) keeps jobs all)

all_shares : (Q : Job → Type 0) (asked : Asked) → ((job : Job) → Q (share_of asked job) → Q job) → (jobs : List Job) → AllByRecursion Q (map (share_of asked) jobs) →
    AllByRecursion Q jobs
all_shares Q asked back [] all = tt
all_shares Q asked back (job ∷ jobs) all = (back job all.0, all_shares Q asked back jobs all.1)

-- of each listed task's jobs, and of each judged job
pub from_all : (asked : Asked) (past : List Said) (P : Judged → Type 0) (number : ℕ) (tasks : List Task) →
    ((k : ℕ) → k < number + length tasks → AllByRecursion P (judged_of asked past k)) → AllByRecursion P (judged_from asked past number tasks)
from_all asked past P number [] each = tt
from_all asked past P number (task ∷ tasks) each =
    append-all P (judged_of asked past number) (judged_from asked past (number + 1) tasks) (each number (omega arith))
    (from_all asked past P (number + 1) tasks (λ k within. each k (omega (arith, within))))

all_from_tasks : (asked : Asked) (past : List Said) (P : Judged → Type 0) (number : ℕ) (tasks : List Task) → AllByRecursion P (judged_from asked past number tasks) →
    (k : ℕ) → number ≤ k → k < number + length tasks → AllByRecursion P (judged_of asked past k)
all_from_tasks asked past P number [] all k from within = absurd (omega (arith, from, within))
all_from_tasks asked past P number (task ∷ tasks) all k from within =
    by (cases_lt number k)
    (all_from_tasks asked past P (number + 1) tasks (append-all_right P (judged_of asked past number) (judged_from asked past (number + 1) tasks) all) k)
  where
    by : (number < k) ⊎ (k ≤ number) → (number + 1 ≤ k → k < number + 1 + length tasks → AllByRecursion P (judged_of asked past k)) →
        AllByRecursion P (judged_of asked past k)
    by (inl more) rest = rest (omega (arith, more)) (omega (arith, within))
    by (inr here) rest =
        subst (λ (n : ℕ). AllByRecursion P (judged_of asked past n)) (let e : number ≡ k = omega (arith, here, from) in e)
        (append-all_left P (judged_of asked past number) (judged_from asked past (number + 1) tasks) all)

-- # What a cut needs

-- Each judged job begins by now.
all_begun : (asked : Asked) (past : List Said) (cut : Cut) → ((number : ℕ) → number < length asked.tasks → Holds asked past cut number) →
    AllByRecursion (λ one. one.job.begin ≤ last_asked asked past) (all_judged asked past)
all_begun asked past cut holds =
    let P : Judged → Type 0 = λ one. one.job.begin ≤ last_asked asked past in
    let Q : Job → Type 0 = λ job. job.begin ≤ last_asked asked past in
    in_order-all P begin_of (judged_from asked past 0 asked.tasks)
    (from_all asked past P 0 asked.tasks (λ number within.
    let known : Known = counted asked past number in
    numbered_all asked past P number (began_before (jobs_of asked past number)) Q (λ place job is. is) 0 (shares_of asked past number)
    (shares_all Q asked (share_kept Q (λ processor job is. is) asked) (jobs_of asked past number)
    (reverse-all Q (closed asked past known)
    (closed_all asked past Q (λ job stretch is. is) known
    (all_weaker (IsSound (last_asked asked past)) Q (λ job is. is.0) known.jobs (holds number (omega (arith, within))).keeps.sound))))))

last_where_is : (P : ℕ → Type 0) (test : ℕ → Bool) (times : List ℕ) (time : ℕ) → AllByRecursion P times → last_where test times ≡ Some time → P time × (test time ≡ true)
last_where_is P test [] time all is = cc is
last_where_is P test (one ∷ times) time all is = by (last_where test times) refl is (last_where_is P test times time all.1)
  where
    here : (b : Bool) → test one ≡ b → ◌≡◌ {A = Option ℕ} (if b then Some one else None) (Some time) → P time × (test time ≡ true)
    here true passes is = let same : one ≡ time = cc is in (subst P same all.0, subst (λ (t : ℕ). test t ≡ true) same passes)
    here false fails is = cc is

    by : (o : Option ℕ) → last_where test times ≡ o → or_else o (if test one then Some one else None) ≡ Some time →
        (last_where test times ≡ Some time → P time × (test time ≡ true)) → P time × (test time ≡ true)
    by None none is rest = here (test one) refl is
    by (Some other) some is rest = rest (some ∙ is)

-- a place lies between the cut and now, and there it is quiet
pub record IsPlace (asked : Asked) (past : List Said) (cut : Cut) (time : ℕ) : Type 0 where
  pub from : cut.boundary ≤ time
  pub by : time ≤ last_asked asked past
  pub quiet : is_quiet asked past (waiting asked past cut) time ≡ true

abbrev IsBetween : Asked → List Said → Cut → ℕ → Type 0
IsBetween asked past cut time = (cut.boundary ≤ time) × (time ≤ last_asked asked past)

waiting_between : (asked : Asked) (past : List Said) (cut : Cut) → ((number : ℕ) → number < length asked.tasks → Holds asked past cut number) →
    AllByRecursion (IsBetween asked past cut) (map begin_of (waiting asked past cut))
waiting_between asked past cut holds =
    map_all (IsBetween asked past cut) begin_of (waiting asked past cut)
    (all_weaker (λ (one : Judged). (one.job.begin ≤ last_asked asked past) × (begins_from cut.boundary one ≡ true)) (λ (one : Judged). IsBetween asked past cut one.job.begin)
    (λ one is. (leb-true cut.boundary one.job.begin is.1, is.0)) (waiting asked past cut)
    (filter_all_of (λ one. one.job.begin ≤ last_asked asked past) (begins_from cut.boundary) (all_judged asked past) (all_begun asked past cut holds)))

among_is : (asked : Asked) (past : List Said) (cut : Cut) (time : ℕ) → ((number : ℕ) → number < length asked.tasks → Holds asked past cut number) →
    place_among asked past (waiting asked past cut) ≡ Some time → IsPlace asked past cut time
among_is asked past cut time holds is = by (last_where (is_closed asked past jobs) begins) refl is
  where
    jobs : List Judged
    jobs = waiting asked past cut

    begins : List ℕ
    begins = map begin_of jobs

    by : (o : Option ℕ) → last_where (is_closed asked past jobs) begins ≡ o → or_else o (last_where (is_quiet asked past jobs) begins) ≡ Some time → IsPlace asked past cut time
    by None none is =
        let found = last_where_is (IsBetween asked past cut) (is_quiet asked past jobs) begins time (waiting_between asked past cut holds) is in
        record { from = found.0.0; by = found.0.1; quiet = found.1 }
    by (Some other) some is =
        let found = last_where_is (IsBetween asked past cut) (is_closed asked past jobs) begins time (waiting_between asked past cut holds) (some ∙ is) in
        record { from = found.0.0; by = found.0.1; quiet = (and_parts (is_quiet asked past jobs time) (has_own_job asked time jobs) (and_parts (is_quiet asked past jobs time && has_own_job asked time jobs) (each_before (is_closed_by asked time) time jobs) found.1).0).0 }

pub place_is : (asked : Asked) (past : List Said) (cut : Cut) (time : ℕ) → ((number : ℕ) → number < length asked.tasks → Holds asked past cut number) →
    place_of asked past cut ≡ Some time → IsPlace asked past cut time
place_is asked past cut time holds is = by (is_due past && is_much (waiting asked past cut) (others_from asked past cut.boundary)) is
  where
    by : (b : Bool) → (if b then place_among asked past (waiting asked past cut) else None) ≡ Some time → IsPlace asked past cut time
    by true is = among_is asked past cut time holds is
    by false is = cc is

-- # A cut

abbrev IsSettledJob : Asked → List Said → ℕ → Job → Type 0
IsSettledJob asked past number job =
    (is_over (last_asked asked past) (due (task_at asked number) job) job.end
    && nat_le (job.begin + (task_at asked number).apart) (last_time past)) ≡ true

-- of those that wait
abbrev SettledBetween : Asked → List Said → ℕ → ℕ → ℕ → Job → Type 0
SettledBetween asked past boundary time number job = boundary ≤ job.begin → job.begin < time → IsSettledJob asked past number job

abbrev SettledJudged : Asked → List Said → ℕ → ℕ → Judged → Type 0
SettledJudged asked past boundary time one = boundary ≤ one.job.begin → one.job.begin < time → is_settled asked past one ≡ true

passed : (b c : Bool) → (b || c) ≡ true → b ≡ false → c ≡ true
passed true c held off = absurd (true≢false off)
passed false c held off = held

abbrev pub DoneJudged : Asked → List Said → ℕ → ℕ → Judged → Type 0
DoneJudged asked past boundary time one = boundary ≤ one.job.begin → one.job.begin < time → is_done_by asked past time one ≡ true

-- Each judged job that begins between is settled, and has no run after the cut.
pub judged_done : (asked : Asked) (past : List Said) (cut : Cut) (time : ℕ) → is_quiet asked past (waiting asked past cut) time ≡ true →
    AllByRecursion (DoneJudged asked past cut.boundary time) (all_judged asked past)
judged_done asked past cut time quiet =
    let jobs : List Judged = waiting asked past cut in
    let test : Judged → Bool = λ judged. begins_from time judged || is_done_by asked past time judged in
    let each = (and_parts (has_job asked time jobs) (each_before (is_done_by asked past time) time jobs) quiet).1 in
    all_weaker (λ (one : Judged). begins_from cut.boundary one ≡ true → test one ≡ true) (DoneJudged asked past cut.boundary time)
    (λ one is from before. passed (begins_from time one) (is_done_by asked past time one) (is (le-leb cut.boundary one.job.begin from)) (lt-leb time one.job.begin before))
    (all_judged asked past)
    (filter_all_back (λ one. test one ≡ true) (begins_from cut.boundary) (all_judged asked past) (list_all_each test jobs each))

judged_settled : (asked : Asked) (past : List Said) (cut : Cut) (time : ℕ) → is_quiet asked past (waiting asked past cut) time ≡ true →
    AllByRecursion (SettledJudged asked past cut.boundary time) (all_judged asked past)
judged_settled asked past cut time quiet =
    all_weaker (DoneJudged asked past cut.boundary time) (SettledJudged asked past cut.boundary time)
    (λ one done from before. (and_parts (is_settled asked past one) (not (stands one) || ended_by time one.job.end) (done from before)).0)
    (all_judged asked past) (judged_done asked past cut time quiet)

-- So each job of a task that begins between is settled.
jobs_settled : (asked : Asked) (past : List Said) (cut : Cut) (time number : ℕ) → is_quiet asked past (waiting asked past cut) time ≡ true → number < length asked.tasks →
    AllByRecursion (SettledBetween asked past cut.boundary time number) (counted asked past number).jobs
jobs_settled asked past cut time number quiet within =
    let Q : Job → Type 0 = SettledBetween asked past cut.boundary time number in
    let P : Judged → Type 0 = SettledJudged asked past cut.boundary time in
    all_closed asked past Q (λ job stretch is. is) (counted asked past number)
    (reverse-all_back Q (closed asked past (counted asked past number))
    (all_shares Q asked (λ job. share_kept (λ (j : Job). Q j → Q job) (λ processor j back. back) asked job (λ is. is)) (jobs_of asked past number)
    (all_numbered asked past P number (began_before (jobs_of asked past number)) Q (λ place job is. is) 0 (shares_of asked past number)
    (all_from_tasks asked past P 0 asked.tasks (in_order-all_back P begin_of (judged_from asked past 0 asked.tasks) (judged_settled asked past cut time quiet))
    number (omega arith) (omega (arith, within))))))

beyond_most : (to : Option ℕ) (time : ℕ) → beyond to time ≤ time
beyond_most None time = omega arith
beyond_most (Some to) time = omega arith

module _ (asked : Asked) (past : List Said) (cut : Cut) (time number : ℕ) where
  now_by : last_asked asked past ≤ last_time past
  now_by = omega (arith, now_is asked past, until_most asked.to (last_time past))

  -- one that was settled before
  old_firm : (decided ripe deadline : ℕ) (end : End) → IsSoundEnd (last_asked asked past) end → IsFirmEnd (last_asked asked past) decided (last_time past) ripe deadline end →
      IsFirmEnd (last_asked asked past) (last_time past) (last_time past) ripe deadline end
  old_firm decided ripe deadline ends.Open sound firm = firm
  old_firm decided ripe deadline (ends.Ended end) sound firm = (omega (arith, sound, now_by), firm.1)
  old_firm decided ripe deadline (ends.Lost since) sound firm = (omega (arith, sound, now_by), firm.1, firm.2)

  -- one that is settled now
  new_firm : (until_then deadline : ℕ) (end : End) → IsSoundEnd (last_asked asked past) end →
      (is_over (last_asked asked past) deadline end && nat_le until_then (last_time past)) ≡ true →
      IsFirmEnd (last_asked asked past) (last_time past) (last_time past) (beyond asked.to until_then) deadline end
  new_firm until_then deadline ends.Open sound settled = cc settled
  new_firm until_then deadline (ends.Ended end) sound settled =
      (omega (arith, sound, now_by), omega (arith, beyond_most asked.to until_then, leb-true until_then (last_time past) settled))
  new_firm until_then deadline (ends.Lost since) sound settled =
      let over = and_parts (nat_lt since (last_asked asked past)) (nat_le deadline (last_asked asked past))
      (and_parts (nat_lt since (last_asked asked past) && nat_le deadline (last_asked asked past)) (nat_le until_then (last_time past)) settled).0 in
      (omega (arith, sound, now_by), ltb-true since (last_asked asked past) over.0, leb-true deadline (last_asked asked past) over.1)

  job_firm : (job : Job) → IsSound (last_asked asked past) job → (job.begin < cut.boundary → IsFirm asked past cut.decided number job) →
      SettledBetween asked past cut.boundary time number job → job.begin < time → IsFirm asked past (last_time past) number job
  job_firm job sound firm settled before = by (cases_lt job.begin cut.boundary)
    where
      by : (job.begin < cut.boundary) ⊎ (cut.boundary ≤ job.begin) → IsFirm asked past (last_time past) number job
      by (inl early) = old_firm cut.decided (ripe_from asked number job) (due (task_at asked number) job) job.end sound.1 (firm early)
      by (inr from) =
          new_firm (job.begin + (task_at asked number).apart) (due (task_at asked number) job) job.end sound.1 (settled from before)

  jobs_firm : (jobs : List Job) → AreSound (last_asked asked past) jobs → Each (IsFirm asked past cut.decided number) cut.boundary jobs →
      AllByRecursion (SettledBetween asked past cut.boundary time number) jobs → Each (IsFirm asked past (last_time past) number) time jobs
  jobs_firm [] sound firm settled = tt
  jobs_firm (job ∷ jobs) sound firm settled = (job_firm job sound.0 firm.0 settled.0, jobs_firm jobs sound.1 firm.1 settled.1)

  off : (on : Option Standing) (job : Job) (jobs : List Job) → StandsBy (last_asked asked past) on (job ∷ jobs) → IsDone job.end → IsOff on
  off None job jobs stands done = tt
  off (Some standing) job jobs stands done = subst IsDone stands.1 done

  -- what is settled is done
  done_now : (ripe deadline : ℕ) (end : End) → (is_over (last_asked asked past) deadline end && nat_le ripe (last_time past)) ≡ true → IsDone end
  done_now ripe deadline ends.Open settled = cc settled
  done_now ripe deadline (ends.Ended end) settled = tt
  done_now ripe deadline (ends.Lost since) settled = tt

  last_left : (on : Option Standing) (jobs : List Job) → IsLeft cut.boundary on jobs → StandsBy (last_asked asked past) on jobs →
      AllByRecursion (SettledBetween asked past cut.boundary time number) jobs → IsLeft time on jobs
  last_left on [] last stands settled = tt
  last_left on (job ∷ jobs) last stands settled = by (cases_lt job.begin time) last
    where
      finished : (cut.boundary ≤ job.begin) → job.begin < time → IsDone job.end
      finished from before = done_now (job.begin + (task_at asked number).apart) (due (task_at asked number) job) job.end (settled.0 from before)

      by : (job.begin < time) ⊎ (time ≤ job.begin) → (cut.boundary ≤ job.begin) ⊎ (IsDone job.end × IsOff on) → (time ≤ job.begin) ⊎ (IsDone job.end × IsOff on)
      by (inr late) last = inl late
      by (inl before) (inr done) = inr done
      by (inl before) (inl from) = let done : IsDone job.end = finished from before in inr (done, off on job jobs stands done)

  -- What holds behind the parts so far holds behind one more.
  cut_holds : IsPlace asked past cut time → number < length asked.tasks → Holds asked past cut number → (now : Cut) → now.boundary ≡ time → now.decided ≡ last_time past →
      Holds asked past now number
  cut_holds place within holds now at decided =
      let settled = jobs_settled asked past cut time number place.quiet within in
      let known : Known = counted asked past number in
      let firm : Each (IsFirm asked past (last_time past) number) time known.jobs = jobs_firm known.jobs holds.keeps.sound holds.firm settled in
      let last : IsLeft time known.on known.jobs = last_left known.on known.jobs holds.keeps.last holds.keeps.stands settled in
      record {
        keeps = record {
          told = refl;
          sound = holds.keeps.sound;
          last = subst (λ (t : ℕ). IsLeft t known.on known.jobs) (sym at) last;
          stands = holds.keeps.stands;
          started = holds.keeps.started;
        };
        firm = subst (λ (t : ℕ). Each (IsFirm asked past now.decided number) t known.jobs) (sym at)
            (subst (λ (d : ℕ). Each (IsFirm asked past d number) time known.jobs) (sym decided) firm);
      }

-- # All lines

pub record Stands (asked : Asked) (past : List Said) (cut : Cut) (parts : List Part) : Type 0 where
  pub holds : (number : ℕ) → number < length asked.tasks → Holds asked past cut number
  pub begun : cut.boundary ≤ last_asked asked past
  pub decided : cut.boundary ≤ cut.decided
  pub same : judged_in_parts parts ≡ own_before asked past cut.boundary

no_lines : (asked : Asked) (number : ℕ) → unknown ≡ counted asked [] number
no_lines asked number = by asked.to
  where
    by : (to : Option ℕ) → unknown ≡ known_after asked number (up_to to [])
    by None = refl
    by (Some to) = refl

pub at_first : (asked : Asked) (number : ℕ) → Holds asked [] no_cut number
at_first asked number = record {
  keeps = subst (λ (known : Known). Keeps 0 (last_asked asked []) (told 0 known.jobs) known) (no_lines asked number) (record { told = refl; sound = tt; last = tt; stands = tt; started = λ at none. absurd (cc none) });
  firm = subst (λ (known : Known). Each (IsFirm asked [] 0 number) 0 known.jobs) (no_lines asked number) tt;
}

-- A part without a job isn't written: so the jobs of what is written are those of the part either way.
judged_made : (asked : Asked) (past : List Said) (cut : Cut) (time : ℕ) (part : List Judged) → part_until asked past cut (Some time) ≡ part →
    judged_in_parts (made_with asked past cut time part) ≡ part_until asked past cut (Some time)
judged_made asked past cut time [] is = sym is
judged_made asked past cut time (one ∷ part) is = append-nil (part_until asked past cut (Some time))

pub part_more : (asked : Asked) (past : List Said) (cut : Cut) (parts : List Part) (o : Option ℕ) → place_of asked past cut ≡ o → Stands asked past cut parts →
    Stands asked past (cut_at asked past cut o) (parts ++ made_at asked past cut o)
part_more asked past cut parts None none stands =
    record { holds = stands.holds; begun = stands.begun; decided = stands.decided; same = ap judged_in_parts (append-nil parts) ∙ stands.same }
part_more asked past cut parts (Some time) some stands =
    let place : IsPlace asked past cut time = place_is asked past cut time stands.holds some in
    let part : List Judged = part_until asked past cut (Some time) in
    let now : Cut = with_part past time part cut in
    record {
      holds = λ number within. cut_holds asked past cut time number place within (stands.holds number within) now refl refl;
      begun = place.by;
      decided = omega (arith, place.by, now_is asked past, until_most asked.to (last_time past));
      same = flat_map-append (λ (one : Part). one.settled.judged) parts (made_with asked past cut time part)
          ∙ ap₂ (λ (first second : List Judged). first ++ second) stands.same (judged_made asked past cut time part refl)
          ∙ next_own asked past cut time place.from;
    }

pub line_more : (asked : Asked) (said : Said) (past : List Said) (cut : Cut) (parts : List Part) → GoesOn asked.to (said ∷ past) → part_fault asked past cut said ≡ None →
    Stands asked past cut parts → Stands asked (said ∷ past) cut parts
line_more asked said past cut parts goes none stands =
    let on : last_asked asked past ≤ last_asked asked (said ∷ past) = now_goes_on asked said past goes in
    record {
      holds = λ number within. line_holds asked past cut number within stands.begun stands.decided (stands.holds number within) said goes none;
      begun = omega (arith, stands.begun, on);
      decided = stands.decided;
      same = stands.same
          ∙ ap (filter (belongs asked)) (sym (all_same asked past (said ∷ past) cut on stands.holds
          (λ number within. told_from asked said past cut number (goes_behind asked.to said past goes) (stands.holds number within))
          (λ number within. line_keeps asked past cut number within stands.begun stands.decided (stands.holds number within) said goes none)));
    }

pub parts_stand : (asked : Asked) (past : List Said) → GoesOn asked.to past → KeepsParts asked past → Stands asked past (cut_after asked past) (parts_behind asked past)
parts_stand asked [] goes kept =
    record { holds = λ number within. at_first asked number; begun = omega arith; decided = omega arith; same = own_nothing asked [] }
parts_stand asked (said ∷ past) goes kept =
    let cut : Cut = cut_after asked past in
    part_more asked (said ∷ past) cut (parts_behind asked past) (place_of asked (said ∷ past) cut) refl
    (line_more asked said past cut (parts_behind asked past) goes kept.0 (parts_stand asked past (goes_behind asked.to said past goes) kept.1))

-- the law
pub parts_are_the_whole : PartsAreTheWhole
parts_are_the_whole asked past none kept =
    let cut : Cut = cut_after asked past in
    let stands : Stands asked past cut (parts_behind asked past) = parts_stand asked past (lines_go_on asked past none) kept in
    flat_map-append (λ (one : Part). one.settled.judged) (parts_behind asked past) (made asked past cut None ∷ [])
    ∙ ap₂ (λ (first second : List Judged). first ++ second) stands.same (append-nil (part_until asked past cut None))
    ∙ last_own asked past cut
