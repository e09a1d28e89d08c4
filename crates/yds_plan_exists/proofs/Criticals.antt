-- Jobs with work have a critical interval: of the finitely many intervals from a release to a deadline the one that goes before all others.
use Rattle.yds_model.proofs.Common.{◌≡◌, ℕ, zero, suc, ◌+◌, ◌-◌, ◌*◌, ◌/◌, ◌<◌, ◌≤◌, ◌⊎◌, List, length, arith, inl, inr, refl, sym, ap, subst, ◌∙◌, Some, All, cases_lt, get_or-map, length-map, div-lt_iff_lt-mul, div-mul-add, mul-le-mul_right, Job, IsJob, no_job, job_at, work_within}
use Rattle.yds_critical.specs.declared.interval.Interval.{Interval}
use Rattle.yds_critical.specs.Leading.{Leads}
use Rattle.yds_critical.specs.Choice.{TakesTime}
use Rattle.yds_critical.specs.Critical.{IsCritical}
use Rattle.yds_critical.proofs.Leading.{leads_total, leads_trans, leads_itself}
use Rattle.yds_critical.proofs.Searching.{IsBestAmong, critical_found}

-- # The leader of some intervals

-- One of the intervals at places below a number that take time goes before the others, or none of them takes time.
leader : (n : ℕ) (at : ℕ → Interval) → ((k : ℕ) × (k < n) × TakesTime (at k) × ((j : ℕ) → j < n → TakesTime (at j) → Leads (at k) (at j)))
    ⊎ ((k : ℕ) → k < n → TakesTime (at k) → ⊥)
leader zero at = inr (λ k within takes. absurd (omega (arith, within)))
leader (suc n) at = elim (cases_lt (at n).start (at n).end) [
  | inr none ↦ elim (leader n at) [
    | inl (k, within, takes, leads) ↦ inl (
      k,
      omega (arith, within),
      takes,
      λ j inside forward. elim (cases_lt j n) [
        | inl before ↦ leads j before forward
        | inr last ↦
            let same : j ≡ n = omega (arith, inside, last) in
            absurd (omega (arith, none, subst (λ (i : ℕ). TakesTime (at i)) same forward))
      ],
    )
    | inr nothing ↦ inr (λ k inside forward. elim (cases_lt k n) [
      | inl before ↦ nothing k before forward
      | inr last ↦
          let same : k ≡ n = omega (arith, inside, last) in
          absurd (omega (arith, none, subst (λ (i : ℕ). TakesTime (at i)) same forward))
    ])
  ]
  | inl own ↦ elim (leader n at) [
    | inr nothing ↦ inl (
      n,
      omega arith,
      own,
      λ j inside forward. elim (cases_lt j n) [
        | inl before ↦ absurd (nothing j before forward)
        | inr last ↦
            let same : n ≡ j = omega (arith, inside, last) in
            subst (λ (i : ℕ). Leads (at n) (at i)) same (leads_itself (at n))
      ],
    )
    | inl (k, within, takes, leads) ↦ elim (leads_total (at k) (at n)) [
      | inl first ↦ inl (
        k,
        omega (arith, within),
        takes,
        λ j inside forward. elim (cases_lt j n) [
          | inl before ↦ leads j before forward
          | inr last ↦
              let same : n ≡ j = omega (arith, inside, last) in
              subst (λ (i : ℕ). Leads (at k) (at i)) same first
        ],
      )
      | inr other ↦ inl (
        n,
        omega arith,
        own,
        λ j inside forward. elim (cases_lt j n) [
          | inl before ↦ leads_trans (at n) (at k) (at j) own takes forward other (leads j before forward)
          | inr last ↦
              let same : n ≡ j = omega (arith, inside, last) in
              subst (λ (i : ℕ). Leads (at n) (at i)) same (leads_itself (at n))
        ],
      )
    ]
  ]
]

-- # From a release to a deadline

-- by the numbers of two jobs
abbrev between : List Job → ℕ → ℕ → Interval
between jobs one other = record {
  start = (job_at jobs one).release;
  end = (job_at jobs other).deadline;
  work = work_within jobs (job_at jobs one).release (job_at jobs other).deadline;
}

-- by one number
abbrev interval_at : List Job → ℕ → Interval
interval_at jobs k = between jobs (k / length jobs) (k - k / length jobs * length jobs)

module _ (jobs : List Job) (valid : All IsJob jobs) (works : All (λ job. 1 ≤ job.work) jobs) (some : 1 ≤ length jobs) where
  -- each pair of numbers has one
  at_pair : (one other : ℕ) → other < length jobs → interval_at jobs (one * length jobs + other) ≡ between jobs one other
  at_pair one other within =
      let first : (one * length jobs + other) / length jobs ≡ one = div-mul-add one (length jobs) other within in
      let second : one * length jobs + other - (one * length jobs + other) / length jobs * length jobs ≡ other = omega (arith, ap (λ n. n * length jobs) first) in
      ap (λ (n : ℕ). between jobs n (one * length jobs + other - (one * length jobs + other) / length jobs * length jobs)) first ∙ ap (between jobs one) second

  -- the leader of them is critical
  pub critical_exists : (interval : Interval) × IsCritical jobs interval
  critical_exists =
      let n : ℕ = length jobs in
      elim (leader (n * n) (interval_at jobs)) [
        | inr none ↦
            let first : interval_at jobs (0 * n + 0) ≡ between jobs 0 0 = at_pair 0 0 some in
            absurd (none (0 * n + 0) (omega (arith, mul-le-mul_right n some, some)) (subst TakesTime (sym first) (valid 0 no_job some).has_window))
        | inl (k, within, takes, leads) ↦
            let i : ℕ = k / n in
            let j : ℕ = k - i * n in
            let first : i < n = (div-lt_iff_lt-mul {k = n} {x = k} {y = n} some).1 within in
            let high : k < (k / n + 1) * n = (div-lt_iff_lt-mul {k = n} {x = k} {y = k / n + 1} some).0 (omega arith) in
            let second : j < n = omega (arith, high, some) in
            let best = interval_at jobs k in
            let found : IsBestAmong n jobs (Some best) = record {
              candidate = record {
                forward = takes;
                is_release = (i, omega (arith, first, length-map jobs (λ (job : Job). job.release)), get_or-map (λ (job : Job). job.release) jobs i no_job (job_at jobs i).release first);
                is_deadline = (j, omega (arith, second, length-map jobs (λ (job : Job). job.deadline)), get_or-map (λ (job : Job). job.deadline) jobs j no_job (job_at jobs j).deadline second);
                is_work = refl;
              };
              valid = λ number below. valid number no_job below;
              leads = λ one end below forward (other, there, same).
                  let known : other < n = omega (arith, there, length-map jobs (λ (job : Job). job.deadline)) in
                  let due : (job_at jobs other).deadline ≡ end = sym (get_or-map (λ (job : Job). job.deadline) jobs other no_job end known) ∙ same in
                  let pair = at_pair one other known in
                  let takes_too : TakesTime (interval_at jobs (one * n + other)) = subst TakesTime (sym pair) (omega (arith, forward, due)) in
                  let lesser : one * n + other < n * n = omega (arith, known, mul-le-mul_right n below) in
                  subst (λ (time : ℕ). Leads best (record { start = (job_at jobs one).release; end = time; work = work_within jobs (job_at jobs one).release time })) due
                  (subst (Leads best) pair (leads (one * n + other) lesser takes_too));
            } in
            (best, critical_found jobs (Some best) works found)
      ]
