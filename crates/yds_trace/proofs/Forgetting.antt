-- The first jobs of a task are forgotten, which begin before the boundary.
use Rattle.base.proofs.Common.{◌≡◌, ◌∙◌, ℕ, zero, suc, ◌<◌, ◌≤◌, ◌==◌, List, [], ◌∷◌, ◌++◌, map, reverse, length, take, drop, Bool, if◌then◌else◌, Option, All-append, All-map, All-weaker, refl, sym, ap, ap₂, subst, arith, append-nil, append_assoc, map-append, reverse-append, length-append, length-map, length-take, length-drop}
use Rattle.std.proofs.lemmas.List.{take-append-drop}
use Rattle.yds_kernel.specs.Event.{Said}
use Rattle.yds_trace.specs.declared.followed.Followed.{Followed}
use Rattle.yds_trace.specs.declared.job.Job.{Job as JobKept}
use Rattle.yds_trace.specs.declared.job.Standing.{Standing}
use Rattle.yds_trace.specs.declared.job.Woken.{Woken}
use Rattle.yds_trace.specs.Asked.{Asked}
use Rattle.yds_trace.specs.Jobs.{Job}
use Rattle.yds_trace.specs.Document.{began_before}
use Rattle.yds_trace.specs.Following.{Forgets}
use Rattle.yds_trace.specs.Kept.{behind, KeepsLast, AreForgotten, IsFollowed}
use Rattle.yds_trace.specs.Views.{job_read, jobs_listed}
use Rattle.yds_trace.proofs.Behind.{suc_not_zero}
use Rattle.yds_trace.proofs.Listed.{some_listed}

-- The jobs in order of begin, and the forgotten ones before them.
listed_apart : (items : List JobKept) (forgotten : List Job) (count : ℕ) →
    jobs_listed (drop count items) ++ reverse (forgotten ++ map job_read (take count items)) ≡ jobs_listed items ++ reverse forgotten
listed_apart items forgotten count =
    ap (λ (jobs : List Job). jobs_listed (drop count items) ++ jobs) (reverse-append forgotten (map job_read (take count items)))
    ∙ sym (append_assoc (jobs_listed (drop count items)) (reverse (map job_read (take count items))) (reverse forgotten))
    ∙ ap (λ (jobs : List Job). jobs ++ reverse forgotten)
    (sym (reverse-append (map job_read (take count items)) (map job_read (drop count items)))
    ∙ ap reverse (sym (map-append job_read (take count items) (drop count items)))
    ∙ ap jobs_listed (take-append-drop count items))

keeps_some : (jobs forgotten : List Job) → 1 ≤ length jobs → KeepsLast jobs forgotten
keeps_some [] forgotten some = absurd (omega arith)
keeps_some (job ∷ jobs) forgotten some = tt

keeps_rest : (items : List JobKept) (forgotten : List Job) (count : ℕ) → (1 ≤ count → count < length items) → KeepsLast (jobs_listed items) (reverse forgotten) →
    KeepsLast (jobs_listed (drop count items)) (reverse (forgotten ++ map job_read (take count items)))
keeps_rest items forgotten zero some last = subst (λ (jobs : List Job). KeepsLast (jobs_listed items) (reverse jobs)) (sym (append-nil forgotten)) last
keeps_rest items forgotten (suc count) some last =
    keeps_some (jobs_listed (drop (suc count) items)) (reverse (forgotten ++ map job_read (take (suc count) items)))
    (omega (arith, some_listed (drop (suc count) items), length-drop (suc count) items, some (omega arith)))

-- # Whether the first job began before the trace

first_taken : (items : List JobKept) (count : ℕ) → began_before (map job_read items) ≡ began_before (map job_read (take (suc count) items))
first_taken [] count = refl
first_taken (job ∷ items) count = refl

first_forgotten : (boundary : ℕ) (forgotten : List Job) (items : List JobKept) (number : ℕ) (before : Bool) (count : ℕ) → AreForgotten boundary forgotten number before →
    (if count == 0 then before else (if number == 0 then began_before (map job_read items) else before)) ≡ began_before (forgotten ++ map job_read (take count items))
first_forgotten boundary [] items number before zero are = are.before
first_forgotten boundary [] items number before (suc count) are = let none : number ≡ 0 = are.as_many in rw (suc_not_zero count, none) (first_taken items count)
first_forgotten boundary (first ∷ forgotten) items number before zero are = are.before
first_forgotten boundary (first ∷ forgotten) items zero before (suc count) are = absurd (omega (arith, are.as_many))
first_forgotten boundary (first ∷ forgotten) items (suc number) before (suc count) are = rw (suc_not_zero count, suc_not_zero number) are.before

-- # A task

count_within : (items : List JobKept) (count : ℕ) → (1 ≤ count → count < length items) → count ≤ length items
count_within items zero some = omega arith
count_within items (suc count) some = omega (arith, some (omega arith))

pub followed_forgets : (asked : Asked) (counting : List Said) (before boundary number : ℕ) (was now : Followed) → before ≤ boundary →
    IsFollowed asked counting before number was → Forgets boundary was now → IsFollowed asked counting boundary number now
followed_forgets asked counting before boundary number was now later is forgets =
    let items : List JobKept = was.known.jobs.items in
    let more : List Job = map job_read (take forgets.count items) in
    let within : forgets.count ≤ length items = count_within items forgets.count forgets.last in
    record {
      forgotten = is.forgotten ++ more;
      known = ap₂ (λ (jobs : List JobKept) (woken : Woken). behind (reverse (is.forgotten ++ more)) (record { jobs = jobs_listed jobs; on = now.known.on; woken = woken }))
          forgets.jobs forgets.woken
          ∙ ap (λ (on : Option Standing). record { jobs = jobs_listed (drop forgets.count items) ++ reverse (is.forgotten ++ more); on = on; woken = was.known.woken }) forgets.on
          ∙ ap (λ (jobs : List Job). record { jobs = jobs; on = was.known.on; woken = was.known.woken }) (listed_apart items is.forgotten forgets.count)
          ∙ is.known;
      last = subst (λ (jobs : List JobKept). KeepsLast (jobs_listed jobs) (reverse (is.forgotten ++ more))) (sym forgets.jobs)
          (keeps_rest items is.forgotten forgets.count forgets.last is.last);
      are_forgotten = record {
        earlier = All-append (λ (job : Job). job.begin < boundary) is.forgotten more
            (All-weaker (λ (job : Job). job.begin < before) (λ (job : Job). job.begin < boundary) (λ job early. omega (arith, early)) is.forgotten is.are_forgotten.earlier)
            (All-map (λ (job : Job). job.begin < boundary) job_read (take forgets.count items) forgets.earlier);
        as_many = omega (
          arith,
          forgets.forgotten,
          is.are_forgotten.as_many,
          length-append is.forgotten more,
          length-map (take forgets.count items) job_read,
          length-take forgets.count items,
        );
        before = forgets.before ∙ first_forgotten before is.forgotten items was.forgotten was.before forgets.count is.are_forgotten;
      };
      pid = forgets.pid ∙ is.pid;
    }
