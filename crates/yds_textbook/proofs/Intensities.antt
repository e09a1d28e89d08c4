-- Intensities don't rise from stage to stage: an interval of the time that is left once a critical interval is removed, if it were denser
-- than that, would have been denser before, together with the critical interval where it touches it. It is the mediant of the two.
use Rattle.yds_model.proofs.Common.{◌≡◌, ℕ, ◌+◌, ◌-◌, ◌*◌, ◌<◌, ◌≤◌, List, get_or, ap, arith, inl, inr, cond, refl, true, min, nat_le, not, All, sum_by, cases_lt, cases_Bool, le-leb, leb-true, and_from, and_parts, not_from_true, not_from_false, mul-le-mul_right, Job, job_at, Piece, sum_by-add, sum_by_at_most, sum_by-map, sum_by-filter, window_is_within, work_within}
use Rattle.model_lemmas.proofs.Confined.{part_within}
use Rattle.yds_critical.specs.declared.interval.Interval.{Interval}
use Rattle.yds_critical.specs.Critical.{IsCritical}
use Rattle.yds_contract.specs.Contracted.{AreApartFrom, place, Removes}
use Rattle.yds_contract.proofs.ContractedPlaces.{place_removes}
use Rattle.yds_textbook.specs.Waiting.{contracted, contracted_jobs, CanWait, lies_in, outside}
use Rattle.yds_textbook.proofs.Densest.{is_denser}

-- a window lies between two times
inside_of : (from to : ℕ) (job : Job) → window_is_within from to job ≡ true → (from ≤ job.release) × (job.deadline ≤ to)
inside_of from to job lies =
    let parts = and_parts (nat_le from job.release) (nat_le job.deadline to) lies in (leb-true from job.release parts.0, leb-true job.deadline to parts.1)

is_inside : (from to : ℕ) (job : Job) → from ≤ job.release → job.deadline ≤ to → window_is_within from to job ≡ true
is_inside from to job begins ends = and_from _ _ (le-leb from job.release begins) (le-leb job.deadline to ends)

-- where each window that lies between two times lies between two others, so does its work
share_more : (from to low high : ℕ) (one other : Job) → one.work ≡ other.work →
    (from ≤ one.release → one.deadline ≤ to → (low ≤ other.release) × (other.deadline ≤ high)) → part_within from to one ≤ part_within low high other
share_more from to low high one other work wider = grind (arith, cases_Bool, inside_of, is_inside)

-- the mediant: w + W of l + L, which are no denser than W of L, are so where w of l is no denser
mediant : (w l W L : ℕ) → (w + W) * L ≤ W * (l + L) → w * L ≤ W * l
mediant w l W L within = omega (arith, within)

module _ (jobs : List Job) (removed changed : List Piece) (waiting : List ℕ) (interval : Interval) (apart : AreApartFrom 0 removed)
    (can : All (CanWait jobs removed) waiting) (critical : IsCritical (contracted_jobs jobs removed waiting) interval)
    (removes : Removes removed interval.start interval.end changed) where
  abbrev before : ℕ → Job
  before n = contracted removed (job_at jobs n)

  abbrev after : ℕ → Job
  after n = contracted changed (job_at jobs n)

  place_after : (time : ℕ) → place changed time ≡ min (place removed time) interval.start + (place removed time - interval.end)
  place_after = place_removes interval.start interval.end removed changed apart critical.candidate.forward removes

  -- the work of those that wait on, as a sum over those that waited
  work_after : (from to : ℕ) → work_within (contracted_jobs jobs changed (outside jobs removed interval waiting)) from to
      ≡ sum_by (λ n. cond (not (lies_in jobs removed interval n)) (part_within from to (after n)) 0) waiting
  work_after from to = grind (arith, part_within, sum_by-filter, sum_by-map)

  work_before : (from to : ℕ) → work_within (contracted_jobs jobs removed waiting) from to ≡ sum_by (λ n. part_within from to (before n)) waiting
  work_before from to = sum_by-map before (part_within from to) waiting

  -- an interval that doesn't touch the removed one is an interval of the time before
  moved : (from to low high : ℕ) → ((n : ℕ) → from ≤ (after n).release → (after n).deadline ≤ to → (low ≤ (before n).release) × ((before n).deadline ≤ high)) →
      work_within (contracted_jobs jobs changed (outside jobs removed interval waiting)) from to ≤ work_within (contracted_jobs jobs removed waiting) low high
  moved from to low high wider =
      let one = λ (n : ℕ). cond (not (lies_in jobs removed interval n)) (part_within from to (after n)) 0 in
      let at_most : (n : ℕ) → one n ≤ part_within low high (before n) = λ n. elim (cases_Bool (lies_in jobs removed interval n)) [
        | inl inside ↦ rw (not_from_true (lies_in jobs removed interval n) inside) (omega arith)
        | inr other ↦ rw (not_from_false (lies_in jobs removed interval n) other) (share_more from to low high (after n) (before n) refl (wider n))
      ] in
      omega (
        arith,
        work_after from to,
        work_before low high,
        sum_by_at_most one (λ n. part_within low high (before n)) waiting (λ k d within. at_most (get_or waiting k d)),
      )

  -- one that touches it has with it an interval of the time before
  touching : (from to : ℕ) → from ≤ interval.start → interval.start ≤ to →
      work_within (contracted_jobs jobs changed (outside jobs removed interval waiting)) from to + interval.work
      ≤ work_within (contracted_jobs jobs removed waiting) from (to + (interval.end - interval.start))
  touching from to early late =
      let high = to + (interval.end - interval.start) in
      let one = λ (n : ℕ). cond (not (lies_in jobs removed interval n)) (part_within from to (after n)) 0 in
      let own = λ (n : ℕ). part_within interval.start interval.end (before n) in
      let at_most : (n : ℕ) → one n + own n ≤ part_within from high (before n) = λ n. elim (cases_Bool (lies_in jobs removed interval n)) [
        | inl inside ↦ rw (not_from_true (lies_in jobs removed interval n) inside)
            (omega (arith, share_more interval.start interval.end from high (before n) (before n) refl (λ begins ends. (omega (arith, begins, early), omega (arith, ends, late, critical.candidate.forward)))))
        | inr other ↦
            let none : own n ≡ 0 = rw other refl in
            rw (not_from_false (lies_in jobs removed interval n) other)
            (omega (
              arith,
              none,
              share_more from to from high (after n) (before n) refl (λ begins ends. (
                omega (arith, begins, place_after (job_at jobs n).release, critical.candidate.forward),
                omega (arith, ends, place_after (job_at jobs n).deadline, critical.candidate.forward),
              )),
            ))
      ] in
      omega (
        arith,
        work_after from to,
        critical.candidate.is_work,
        work_before interval.start interval.end,
        work_before from high,
        sum_by-add one own waiting,
        sum_by_at_most (λ n. one n + own n) (λ n. part_within from high (before n)) waiting (λ k d within. at_most (get_or waiting k d)),
      )

  denser : (from to : ℕ) → from < to → work_within (contracted_jobs jobs removed waiting) from to * (interval.end - interval.start) ≤ interval.work * (to - from)
  denser = is_denser jobs removed waiting interval can critical

  -- Intensities don't rise from stage to stage.
  pub intensities_dont_rise : (from to : ℕ) → from < to →
      work_within (contracted_jobs jobs changed (outside jobs removed interval waiting)) from to * (interval.end - interval.start) ≤ interval.work * (to - from)
  intensities_dont_rise from to forward =
      let long = interval.end - interval.start in
      let work = work_within (contracted_jobs jobs changed (outside jobs removed interval waiting)) from to in
      elim (cases_lt to interval.start) [
        | inl early ↦
            let less = moved from to from to (λ n begins ends. (
              omega (arith, begins, place_after (job_at jobs n).release, critical.candidate.forward),
              omega (arith, ends, early, place_after (job_at jobs n).deadline),
            )) in
            omega (arith, mul-le-mul_right long less, denser from to forward)
        | inr touches ↦ elim (cases_lt interval.start from) [
          | inl late ↦
              let less = moved from to (from + long) (to + long) (λ n begins ends. (
                omega (arith, begins, late, place_after (job_at jobs n).release, critical.candidate.forward),
                omega (arith, ends, place_after (job_at jobs n).deadline, critical.candidate.forward),
              )) in
              let same : to + long - (from + long) ≡ to - from = omega arith in
              omega (arith, mul-le-mul_right long less, denser (from + long) (to + long) (omega arith), ap (λ n. interval.work * n) same)
          | inr begins ↦
              let more = touching from to begins touches in
              let span : to + long - from ≡ (to - from) + long = omega (arith, forward) in
              mediant work (to - from) interval.work long
              (omega (arith, mul-le-mul_right long more, denser from (to + long) (omega (arith, forward)), ap (λ n. interval.work * n) span))
        ]
      ]
