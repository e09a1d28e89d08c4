-- The best interval of those seen so far, and of all.
use Rattle.yds_model.proofs.Common.{◌≡◌, ℕ, ◌+◌, ◌-◌, ◌*◌, ◌<◌, ◌≤◌, ◌∙◌, List, Option, Some, None, length, map, inl, inr, sym, ap, subst, refl, arith, IfSome, All, Contains, cases_lt, cases_eq, get_or-map, length-map, get_or_default, nil_from_length, get_or-le-sum_by, mul-pos, mul-lt-mul_of_pos_left, Job, IsJob, job_at, no_job, place_cases, work_within}
use Rattle.model_lemmas.proofs.Confined.{part_within, part_inside}
use Rattle.yds_intensity.specs.declared.sweeping.Sum.{Sum}
use Rattle.yds_intensity.specs.Sums.{AreSums, sum_at, no_sum}
use Rattle.yds_critical.specs.declared.interval.Interval.{Interval}
use Rattle.yds_critical.specs.Leading.{Leads}
use Rattle.yds_critical.specs.Critical.{IsCandidate, IsCriticalOf}
use Rattle.yds_critical.specs.Choice.{TakesTime, IsLedBy, interval_of, AreLater, IsPreferred, IsFoundAmongAll}
use Rattle.yds_critical.proofs.Leading.{leads_total, leads_trans, leads_itself}
use Rattle.yds_critical.proofs.Shrinking.{IsShrunk, shrinks}

-- the other one where the best so far doesn't lead it
pub prefers_other : (first other : Interval) → TakesTime first → TakesTime other → (Leads first other → ⊥) → IsPreferred (Some first) other other
prefers_other first other f g not = record {
  chosen = inr refl;
  leads_other = leads_itself other;
  leads = λ third h led. elim (leads_total first other) [ inl leads ↦ absurd (not leads) | inr leads ↦ leads_trans other first third g f h leads led ];
}

-- what the search knows after the first n releases
pub record IsBestAmong (n : ℕ) (jobs : List Job) (best : Option Interval) : Type 0 where
  pub candidate : IfSome best (IsCandidate jobs)
  pub valid : (i : ℕ) → i < n → IsJob (job_at jobs i)
  pub leads : (i end : ℕ) → i < n → (job_at jobs i).release < end → Contains (map (λ job. job.deadline) jobs) end →
      IsLedBy best (record { start = (job_at jobs i).release; end = end; work = work_within jobs (job_at jobs i).release end })

release_stands : (jobs : List Job) (i : ℕ) → i < length jobs → Contains (map (λ job. job.release) jobs) (job_at jobs i).release
release_stands jobs i within = (i, omega (arith, length-map jobs (λ (job : Job). job.release)), get_or-map (λ (job : Job). job.release) jobs i no_job (job_at jobs i).release within)

deadline_stands : (jobs : List Job) (i : ℕ) → i < length jobs → Contains (map (λ job. job.deadline) jobs) (job_at jobs i).deadline
deadline_stands jobs i within = (i, omega (arith, length-map jobs (λ (job : Job). job.deadline)), get_or-map (λ (job : Job). job.deadline) jobs i no_job (job_at jobs i).deadline within)

sum_stands : (sums : List Sum) (k : ℕ) → k < length sums → Contains (map (λ sum. sum.end) sums) (sum_at sums k).end
sum_stands sums k within = (k, omega (arith, length-map sums (λ (sum : Sum). sum.end)), get_or-map (λ (sum : Sum). sum.end) sums k no_sum (sum_at sums k).end within)

-- sums end later than their start
pub sums_later : (jobs : List Job) (start : ℕ) (sums : List Sum) → AreSums jobs start sums → AreLater start sums
sums_later jobs start sums are k d within =
    omega (arith, ((are.ends (sum_at sums k).end).0 (sum_stands sums k within)).0, ap (λ (sum : Sum). sum.end) (get_or_default sums k d no_sum within))

-- a sum with this end is the work that is confined
led_at : (jobs : List Job) (start end : ℕ) (sums : List Sum) (found : Option Interval) → AreSums jobs start sums →
    ((k : ℕ) → k < length sums → IsLedBy found (interval_of start (sum_at sums k))) → Contains (map (λ sum. sum.end) sums) end →
    IsLedBy found (record { start = start; end = end; work = work_within jobs start end })
led_at jobs start end sums found are each (k, within, is) =
    let inside : k < length sums = omega (arith, length-map sums (λ (sum : Sum). sum.end)) in
    let here : (sum_at sums k).end ≡ end = sym (get_or-map (λ (sum : Sum). sum.end) sums k no_sum end inside) ∙ is in
    subst (λ (e : ℕ). IsLedBy found (record { start = start; end = e; work = work_within jobs start e })) here
    (subst (λ (w : ℕ). IsLedBy found (record { start = start; end = (sum_at sums k).end; work = w })) (are.works k no_sum inside) (each k inside))

-- one release more
pub best_more : (n : ℕ) (jobs : List Job) (best found : Option Interval) (sums : List Sum) → n < length jobs → IsJob (job_at jobs n) →
    AreSums jobs (job_at jobs n).release sums → IsFoundAmongAll best (job_at jobs n).release sums found → IsBestAmong n jobs best → IsBestAmong (n + 1) jobs found
best_more n jobs best found sums within valid are is so_far =
    let start : ℕ = (job_at jobs n).release in
    record {
      candidate = elim is.chosen [
        | inl same ↦ subst (λ (o : Option Interval). IfSome o (IsCandidate jobs)) (sym same) so_far.candidate
        | inr (k, inside, chose) ↦
            let end = (are.ends (sum_at sums k).end).0 (sum_stands sums k inside) in
            subst (λ (o : Option Interval). IfSome o (IsCandidate jobs)) (sym chose) (record {
              forward = end.0;
              is_release = release_stands jobs n within;
              is_deadline = end.1;
              is_work = are.works k no_sum inside;
            })
      ];
      valid = λ i before. elim (place_cases i n before) [
        | inl less ↦ so_far.valid i less
        | inr here ↦ subst (λ (k : ℕ). IsJob (job_at jobs k)) (sym here) valid
      ];
      leads = λ i end before after stands. elim (place_cases i n before) [
        | inl less ↦ is.leads (record { start = (job_at jobs i).release; end = end; work = work_within jobs (job_at jobs i).release end }) after (so_far.leads i end less after stands)
        | inr here ↦
            let own : start < end = subst (λ (k : ℕ). (job_at jobs k).release < end) here after in
            subst (λ (k : ℕ). IsLedBy found (record { start = (job_at jobs k).release; end = end; work = work_within jobs (job_at jobs k).release end })) (sym here)
            (led_at jobs start end sums found are is.leads_each ((are.ends end).1 (own, stands)))
      ];
    }

-- the best interval confines work, since it goes before the window of the first job
pub best_works : (jobs : List Job) (best : Interval) → 0 < length jobs → IsJob (job_at jobs 0) → 1 ≤ (job_at jobs 0).work → TakesTime best →
    Leads best (record { start = (job_at jobs 0).release; end = (job_at jobs 0).deadline; work = work_within jobs (job_at jobs 0).release (job_at jobs 0).deadline }) →
    1 ≤ best.work
best_works jobs best some valid works forward leads =
    let job : Job = job_at jobs 0 in
    let own : job.work ≤ work_within jobs job.release job.deadline =
    omega (arith, get_or-le-sum_by (part_within job.release job.deadline) jobs 0 no_job some, part_inside job.release job.deadline job (omega arith) (omega arith)) in
    let product : 1 ≤ work_within jobs job.release job.deadline * (best.end - best.start) = mul-pos (omega arith) (omega arith) in
    elim (cases_eq best.work 0) [
      | inl idle ↦
          let none : best.work * (job.deadline - job.release) ≡ 0 = rw idle (omega arith) in
          elim leads [ inl denser ↦ absurd (omega arith) | inr same ↦ absurd (omega (arith, same.0)) ]
      | inr more ↦ omega arith
    ]

-- what goes before the shrunk interval goes before the whole one
leads_wider : (jobs : List Job) (best : Interval) (from to start end : ℕ) → TakesTime best → 1 ≤ best.work → from < to → IsShrunk jobs from to start end →
    Leads best (record { start = start; end = end; work = work_within jobs start end }) →
    Leads best (record { start = from; end = to; work = work_within jobs from to })
leads_wider jobs best from to start end forward works window shrunk leads = elim (cases_lt (end - start) (to - from)) [
  | inl wider ↦
      let more : best.work * (end - start) < best.work * (to - from) = mul-lt-mul_of_pos_left wider works in
      let same : work_within jobs from to * (best.end - best.start) ≡ work_within jobs start end * (best.end - best.start) = ap (λ (w : ℕ). w * (best.end - best.start)) shrunk.same in
      elim leads [ inl denser ↦ inl (omega arith) | inr equal ↦ inl (omega (arith, equal.0)) ]
  | inr whole ↦
      let begins : start ≡ from = omega (arith, shrunk.begins, shrunk.ends, shrunk.forward) in
      let ends : end ≡ to = omega (arith, shrunk.begins, shrunk.ends, shrunk.forward) in
      subst (λ (e : ℕ). Leads best (record { start = from; end = e; work = work_within jobs from e })) ends
      (subst (λ (s : ℕ). Leads best (record { start = s; end = end; work = work_within jobs s end })) begins leads)
]

no_work_within : (best : Interval) (from to : ℕ) → 1 ≤ best.work → from < to → (work : ℕ) → work ≡ 0 → Leads best (record { start = from; end = to; work = work })
no_work_within best from to works window work none =
    let nothing : work * (best.end - best.start) ≡ 0 = rw none (omega arith) in
    let product : 1 ≤ best.work * (to - from) = mul-pos works (omega arith) in
    inl (omega arith)

some_job : (jobs : List Job) (number : ℕ) → Contains (map (λ job. job.release) jobs) number → 0 < length jobs
some_job jobs number (k, within, is) = omega (arith, length-map jobs (λ (job : Job). job.release))

at_release : (jobs : List Job) (best : Interval) (start end : ℕ) → IsBestAmong (length jobs) jobs (Some best) → start < end →
    Contains (map (λ job. job.release) jobs) start → Contains (map (λ job. job.deadline) jobs) end →
    Leads best (record { start = start; end = end; work = work_within jobs start end })
at_release jobs best start end found forward (k, within, is) ends =
    let inside : k < length jobs = omega (arith, length-map jobs (λ (job : Job). job.release)) in
    let here : (job_at jobs k).release ≡ start = sym (get_or-map (λ (job : Job). job.release) jobs k no_job start inside) ∙ is in
    subst (λ (s : ℕ). Leads best (record { start = s; end = end; work = work_within jobs s end })) here
    (found.leads k end inside (omega arith) ends)

leads_all : (jobs : List Job) (best : Interval) → All (λ job. 1 ≤ job.work) jobs → IsBestAmong (length jobs) jobs (Some best) → (from to : ℕ) → from < to →
    Leads best (record { start = from; end = to; work = work_within jobs from to })
leads_all jobs best works found from to window =
    let some : 0 < length jobs = some_job jobs best.start found.candidate.is_release in
    let first : IsJob (job_at jobs 0) = found.valid 0 some in
    let busy : 1 ≤ best.work = best_works jobs best some first (works 0 no_job some) found.candidate.forward
    (found.leads 0 (job_at jobs 0).deadline some first.has_window (deadline_stands jobs 0 some)) in
    let valid : All IsJob jobs = λ k d within. subst IsJob (get_or_default jobs k no_job d within) (found.valid k within) in
    elim (shrinks jobs from to valid) [
      | inl none ↦ no_work_within best from to busy window (work_within jobs from to) none
      | inr (start, end, shrunk) ↦ leads_wider jobs best from to start end found.candidate.forward busy window shrunk
          (at_release jobs best start end found shrunk.forward shrunk.is_release shrunk.is_deadline)
    ]

-- the best of all releases is the critical interval
pub critical_found : (jobs : List Job) (best : Option Interval) → All (λ job. 1 ≤ job.work) jobs → IsBestAmong (length jobs) jobs best → IsCriticalOf jobs best
critical_found jobs None works found = elim (cases_lt 0 (length jobs)) [
  | inl some ↦ absurd (found.leads 0 (job_at jobs 0).deadline some (found.valid 0 some).has_window (deadline_stands jobs 0 some))
  | inr none ↦ nil_from_length jobs (omega arith)
]
critical_found jobs (Some best) works found = record {
  candidate = found.candidate;
  leads = λ from to window. leads_all jobs best works found from to window;
}
