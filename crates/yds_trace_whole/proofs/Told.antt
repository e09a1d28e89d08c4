-- The jobs of a task that begin before a boundary, as they are told: each with its number, and with whether the task's first job began before the trace.
-- They are told whole; judged is what the processor's documents have of them.
use Rattle.yds_model.proofs.Common.{◌≡◌, ◌∙◌, ℕ, ◌+◌, ◌<◌, ◌≤◌, List, [], ◌∷◌, ◌++◌, map, length, reverse, filter, Bool, true, false, not, cond, nat_lt, if◌then◌else◌, refl, sym, ap, ap₂, subst, arith, lt-ltb, le-ltb, ltb-true, append-nil, map-append, filter-append, reverse-append, length-reverse, length-map, map-map}
use Rattle.std.specs.List.{enumerate_from, AllByRecursion}
use Rattle.yds_kernel.specs.Event.{Said}
use Rattle.yds_trace.specs.Asked.{Asked}
use Rattle.yds_trace.specs.Jobs.{Job}
use Rattle.yds_trace.specs.Document.{share_of, Judged, judged, began_before}
use Rattle.yds_trace.specs.Parts.{begins_before}
use Rattle.yds_trace.proofs.Shares.{share_begin}
use Rattle.yds_trace_document.proofs.Lists.{enumerate_push}
use Rattle.yds_trace_document.proofs.Sorting.{map_cond}
use Rattle.yds_trace_laws.proofs.Ordered.{append-all, append-all_left, append-all_right}

pub record Told : Type 0 where
  -- the task's first job began before the trace
  pub before : Bool
  pub numbered : ℕ × Job

abbrev pub with_number : ℕ → Job → ℕ × Job
with_number number job = (number, job)

abbrev pub told_by : Bool → ℕ × Job → Told
told_by before numbered = record { before = before; numbered = numbered }

-- of jobs whose last one stands first: those that begin before the boundary, the first one first
abbrev pub early : ℕ → List Job → List (ℕ × Job)
early boundary [] = []
early boundary (job ∷ jobs) = early boundary jobs ++ (if nat_lt job.begin boundary then with_number (length jobs) job ∷ [] else [])

-- whether the first of them began before the trace
abbrev pub first_before : List Job → Bool
first_before [] = false
first_before (job ∷ []) = not job.begin_known
first_before (job ∷ next ∷ jobs) = first_before (next ∷ jobs)

abbrev pub told : ℕ → List Job → List Told
told boundary jobs = map (told_by (first_before jobs)) (early boundary jobs)

-- # One job more, or another in its place

-- the last job, where it isn't before the boundary
last_left : (boundary number : ℕ) (job : Job) → boundary ≤ job.begin →
    (if nat_lt job.begin boundary then with_number number job ∷ [] else []) ≡ []
last_left boundary number job late =
    ap (λ (b : Bool). if b then with_number number job ∷ [] else []) (le-ltb job.begin boundary late)

-- A job that doesn't begin before the boundary changes nothing that is told.
pub new_told : (boundary : ℕ) (job : Job) (jobs : List Job) → boundary ≤ job.begin → told boundary (job ∷ jobs) ≡ told boundary jobs
new_told boundary job [] late = ap (map (told_by (not job.begin_known))) (last_left boundary 0 job late)
new_told boundary job (next ∷ jobs) late =
    ap (λ (rest : List (ℕ × Job)). map (told_by (first_before (next ∷ jobs))) (early boundary (next ∷ jobs) ++ rest)) (last_left boundary (length (next ∷ jobs)) job late)
    ∙ ap (map (told_by (first_before (next ∷ jobs)))) (append-nil (early boundary (next ∷ jobs)))

pub changed_told : (boundary : ℕ) (was now : Job) (jobs : List Job) → boundary ≤ was.begin → boundary ≤ now.begin →
    told boundary (now ∷ jobs) ≡ told boundary (was ∷ jobs)
changed_told boundary was now jobs late still = new_told boundary now jobs still ∙ sym (new_told boundary was jobs late)

-- # Jobs that are alike before the boundary

-- one job is another, but for what isn't told of one that doesn't begin before the boundary
pub record IsAlike (boundary : ℕ) (was now : Job) : Type 0 where
  pub begin : now.begin ≡ was.begin
  pub known : now.begin_known ≡ was.begin_known
  pub same : was.begin < boundary → now ≡ was

abbrev pub AreAlike : ℕ → List Job → List Job → Type 0
AreAlike boundary [] [] = Unit {0}
AreAlike boundary [] (job ∷ now) = ⊥
AreAlike boundary (job ∷ was) [] = ⊥
AreAlike boundary (job ∷ was) (other ∷ now) = IsAlike boundary job other × AreAlike boundary was now

alike_length : (boundary : ℕ) (was now : List Job) → AreAlike boundary was now → length now ≡ length was
alike_length boundary [] [] alike = refl
alike_length boundary [] (job ∷ now) alike = absurd alike
alike_length boundary (job ∷ was) [] alike = absurd alike
alike_length boundary (job ∷ was) (other ∷ now) alike = omega (arith, alike_length boundary was now alike.1)

alike_first : (boundary : ℕ) (was now : List Job) → AreAlike boundary was now → first_before now ≡ first_before was
alike_first boundary [] [] alike = refl
alike_first boundary [] (job ∷ now) alike = absurd alike
alike_first boundary (job ∷ was) [] alike = absurd alike
alike_first boundary (job ∷ []) (other ∷ []) alike = ap not alike.0.known
alike_first boundary (job ∷ []) (other ∷ next ∷ now) alike = absurd alike.1
alike_first boundary (job ∷ next ∷ was) (other ∷ []) alike = absurd alike.1
alike_first boundary (job ∷ next ∷ was) (other ∷ later ∷ now) alike = alike_first boundary (next ∷ was) (later ∷ now) alike.1

one_alike : (boundary number other : ℕ) (was now : Job) → IsAlike boundary was now → other ≡ number →
    (if nat_lt now.begin boundary then with_number other now ∷ [] else []) ≡ (if nat_lt was.begin boundary then with_number number was ∷ [] else [])
one_alike boundary number other was now alike same =
    ap (λ (begin : ℕ). if nat_lt begin boundary then with_number other now ∷ [] else []) alike.begin ∙ by (nat_lt was.begin boundary) refl
  where
    by : (b : Bool) → nat_lt was.begin boundary ≡ b → (if b then with_number other now ∷ [] else []) ≡ (if b then with_number number was ∷ [] else [])
    by true is = ap₂ (λ (n : ℕ) (job : Job). with_number n job ∷ []) same (alike.same (ltb-true was.begin boundary is))
    by false is = refl

alike_early : (boundary : ℕ) (was now : List Job) → AreAlike boundary was now → early boundary now ≡ early boundary was
alike_early boundary [] [] alike = refl
alike_early boundary [] (job ∷ now) alike = absurd alike
alike_early boundary (job ∷ was) [] alike = absurd alike
alike_early boundary (job ∷ was) (other ∷ now) alike =
    ap₂ (λ (front rest : List (ℕ × Job)). front ++ rest) (alike_early boundary was now alike.1)
    (one_alike boundary (length was) (length now) job other alike.0 (alike_length boundary was now alike.1))

pub alike_told : (boundary : ℕ) (was now : List Job) → AreAlike boundary was now → told boundary now ≡ told boundary was
alike_told boundary was now alike =
    ap₂ (λ (b : Bool) (jobs : List (ℕ × Job)). map (told_by b) jobs) (alike_first boundary was now alike) (alike_early boundary was now alike)

-- # What holds of each that is told

abbrev pub Each : (Job → Type 0) → ℕ → List Job → Type 0
Each P boundary jobs = AllByRecursion (λ job. job.begin < boundary → P job) jobs

abbrev OfJob : (Job → Type 0) → ℕ × Job → Type 0
OfJob P numbered = P numbered.1

each_one : (P : Job → Type 0) (boundary number : ℕ) (job : Job) → (job.begin < boundary → P job) →
    AllByRecursion (OfJob P) (if nat_lt job.begin boundary then with_number number job ∷ [] else [])
each_one P boundary number job holds = by (nat_lt job.begin boundary) refl
  where
    by : (b : Bool) → nat_lt job.begin boundary ≡ b → AllByRecursion (OfJob P) (if b then with_number number job ∷ [] else [])
    by true is = (holds (ltb-true job.begin boundary is), tt)
    by false is = tt

one_each : (P : Job → Type 0) (boundary number : ℕ) (job : Job) →
    AllByRecursion (OfJob P) (if nat_lt job.begin boundary then with_number number job ∷ [] else []) → job.begin < boundary → P job
one_each P boundary number job all before =
    (subst (λ (b : Bool). AllByRecursion (OfJob P) (if b then with_number number job ∷ [] else [])) (lt-ltb job.begin boundary before) all).0

each_early : (P : Job → Type 0) (boundary : ℕ) (jobs : List Job) → Each P boundary jobs → AllByRecursion (OfJob P) (early boundary jobs)
each_early P boundary [] each = tt
each_early P boundary (job ∷ jobs) each =
    append-all (OfJob P) (early boundary jobs) (if nat_lt job.begin boundary then with_number (length jobs) job ∷ [] else [])
    (each_early P boundary jobs each.1) (each_one P boundary (length jobs) job each.0)

early_each : (P : Job → Type 0) (boundary : ℕ) (jobs : List Job) → AllByRecursion (OfJob P) (early boundary jobs) → Each P boundary jobs
early_each P boundary [] all = tt
early_each P boundary (job ∷ jobs) all =
    let last : List (ℕ × Job) = if nat_lt job.begin boundary then with_number (length jobs) job ∷ [] else [] in (
      one_each P boundary (length jobs) job (append-all_right (OfJob P) (early boundary jobs) last all),
      early_each P boundary jobs (append-all_left (OfJob P) (early boundary jobs) last all),
    )

abbrev pub OfTold : (Job → Type 0) → Told → Type 0
OfTold P one = P one.numbered.1

told_all : (P : Job → Type 0) (before : Bool) (jobs : List (ℕ × Job)) → AllByRecursion (OfJob P) jobs → AllByRecursion (OfTold P) (map (told_by before) jobs)
told_all P before [] all = tt
told_all P before (job ∷ jobs) all = (all.0, told_all P before jobs all.1)

all_told : (P : Job → Type 0) (before : Bool) (jobs : List (ℕ × Job)) → AllByRecursion (OfTold P) (map (told_by before) jobs) → AllByRecursion (OfJob P) jobs
all_told P before [] all = tt
all_told P before (job ∷ jobs) all = (all.0, all_told P before jobs all.1)

pub each_told : (P : Job → Type 0) (boundary : ℕ) (jobs : List Job) → Each P boundary jobs → AllByRecursion (OfTold P) (told boundary jobs)
each_told P boundary jobs each = told_all P (first_before jobs) (early boundary jobs) (each_early P boundary jobs each)

pub told_each : (P : Job → Type 0) (boundary : ℕ) (jobs : List Job) → AllByRecursion (OfTold P) (told boundary jobs) → Each P boundary jobs
told_each P boundary jobs all = early_each P boundary jobs (all_told P (first_before jobs) (early boundary jobs) all)

-- # What is told is judged

-- as the processor's documents have it
abbrev pub shared : Asked → ℕ × Job → ℕ × Job
shared asked numbered = with_number numbered.0 (share_of asked numbered.1)

abbrev pub judge_shared : Asked → List Said → ℕ → Bool → ℕ × Job → Judged
judge_shared asked past number before numbered = judged asked past number before (shared asked numbered)

abbrev pub judge : Asked → List Said → ℕ → Told → Judged
judge asked past number one = judge_shared asked past number one.before one.numbered

began_reverse : (jobs : List Job) → began_before (reverse jobs) ≡ first_before jobs
began_reverse [] = refl
began_reverse (job ∷ []) = refl
began_reverse (job ∷ next ∷ jobs) =
    ap began_before (reverse-append (job ∷ []) (next ∷ jobs)) ∙ front (reverse (next ∷ jobs)) (length-reverse (next ∷ jobs)) ∙ began_reverse (next ∷ jobs)
  where
    front : (all : List Job) → length all ≡ length (next ∷ jobs) → began_before (all ++ job ∷ []) ≡ began_before all
    front [] many = absurd (omega (arith, many))
    front (first ∷ all) many = refl

filter_one : (asked : Asked) (past : List Said) (number : ℕ) (before : Bool) (boundary place : ℕ) (job : Job) →
    filter (begins_before boundary) (judged asked past number before (with_number place (share_of asked job)) ∷ [])
    ≡ map (judge_shared asked past number before) (if nat_lt job.begin boundary then with_number place job ∷ [] else [])
filter_one asked past number before boundary place job =
    let one : Judged = judged asked past number before (with_number place (share_of asked job)) in
    ap (λ (begin : ℕ). cond (nat_lt begin boundary) (one ∷ []) []) (share_begin asked job)
    ∙ sym (map_cond (judge_shared asked past number before) (nat_lt job.begin boundary) (with_number place job ∷ []) [])

filter_early : (asked : Asked) (past : List Said) (number : ℕ) (before : Bool) (boundary : ℕ) (jobs : List Job) →
    filter (begins_before boundary) (map (judged asked past number before) (enumerate_from 0 (map (share_of asked) (reverse jobs))))
    ≡ map (judge_shared asked past number before) (early boundary jobs)
filter_early asked past number before boundary [] = refl
filter_early asked past number before boundary (job ∷ jobs) =
    let one : ℕ × Job → Judged = judged asked past number before in
    let shares : List Job = map (share_of asked) (reverse jobs) in
    let front : List (ℕ × Job) = enumerate_from 0 shares in
    let last : Job = share_of asked job in
    let place : 0 + length shares ≡ length jobs = omega (arith, length-map (reverse jobs) (share_of asked), length-reverse jobs) in
    ap (λ (l : List Job). filter (begins_before boundary) (map one (enumerate_from 0 (map (share_of asked) l)))) (reverse-append (job ∷ []) jobs)
    ∙ ap (λ (l : List Job). filter (begins_before boundary) (map one (enumerate_from 0 l))) (map-append (share_of asked) (reverse jobs) (job ∷ []))
    ∙ ap (λ (l : List (ℕ × Job)). filter (begins_before boundary) (map one l)) (enumerate_push 0 shares last)
    ∙ ap (λ (n : ℕ). filter (begins_before boundary) (map one (front ++ with_number n last ∷ []))) place
    ∙ ap (filter (begins_before boundary)) (map-append one front (with_number (length jobs) last ∷ []))
    ∙ filter-append (begins_before boundary) (map one front) (one (with_number (length jobs) last) ∷ [])
    ∙ ap₂ (λ (some rest : List Judged). some ++ rest) (filter_early asked past number before boundary jobs)
    (filter_one asked past number before boundary (length jobs) job)
    ∙ sym (map-append (judge_shared asked past number before) (early boundary jobs) (if nat_lt job.begin boundary then with_number (length jobs) job ∷ [] else []))

-- Of a task's judged jobs those that begin before the boundary are those that are told.
pub judged_told : (asked : Asked) (past : List Said) (number boundary : ℕ) (jobs : List Job) →
    filter (begins_before boundary) (map (judged asked past number (began_before (reverse jobs))) (enumerate_from 0 (map (share_of asked) (reverse jobs))))
    ≡ map (judge asked past number) (told boundary jobs)
judged_told asked past number boundary jobs =
    filter_early asked past number (began_before (reverse jobs)) boundary jobs
    ∙ ap (λ (b : Bool). map (judge_shared asked past number b) (early boundary jobs)) (began_reverse jobs)
    ∙ sym (map-map (judge asked past number) (told_by (first_before jobs)) (early boundary jobs))
