-- The work in an interval, of jobs by falling releases and of jobs that leave none overfull.
use Rattle.yds_model.proofs.Common.{◌≡◌, ℕ, zero, suc, ◌+◌, ◌-◌, ◌*◌, ◌<◌, ◌≤◌, List, [], ◌∷◌, ◌++◌, length, get_or, take, drop, ◌∙◌, sym, subst, arith, inl, inr, ap, cond, nat_le, ◌==◌, All, Any, sum_by, IsPermutation, IsNonDecreasing, cases_lt, eqb-true, eqb-false, get_or_default, get_or-take, get_or-drop, get_or_append_left, get_or_push, length-take-le, length-drop, length_push, sum_by-take-drop, sum_by-IsPermutation, mul-le-mul_left, Job, IsJob, no_job, job_at, numbers_of, sum_by_same, sum_by_zero, found_or_none, work_within}
use Rattle.model_lemmas.proofs.Confined.{part_within, part_inside, part_early, part_late}
use Rattle.yds_admit.specs.Interval.{HasRoomFrom}
use Rattle.yds_admit.specs.Chain.{due_work}
use Rattle.yds_admit.specs.Pieces.{AreDue}
use Rattle.yds_laws.specs.AdmissionLaws.{HasRoom}
use Rattle.yds_laws.proofs.Served.{room_from, confined_sum}
use Rattle.yds_admit.proofs.Overfull.{jobs_work}
use Rattle.yds_admit.proofs.Sweep.{released_all}

-- the work in an interval is that of the pieces up to the last one released in it
pub work_of_first : (jobs : List Job) (n from to : ℕ) → n ≤ length jobs → ((i : ℕ) → i < n → from ≤ (job_at jobs i).release) →
    ((i : ℕ) → n ≤ i → i < length jobs → (job_at jobs i).release < from) → work_within jobs from to ≡ due_work (take n jobs) to
work_of_first jobs n from to within early late = omega (
  arith,
  sum_by-take-drop (part_within from to) jobs n,
  first_work jobs n from to within early,
  sum_by_zero (part_within from to) (drop n jobs)
      (λ i d below.
      let there : n + i < length jobs = omega (arith, below, length-drop n jobs) in
      part_early from to (get_or (drop n jobs) i d) (omega (
        arith,
        late (n + i) (omega arith) there,
        ap (λ (job : Job). job.release) (get_or-drop n jobs i d),
        ap (λ (job : Job). job.release) (get_or_default jobs (n + i) d no_job there),
      ))),
) where
  first_work : (jobs : List Job) (n from to : ℕ) → n ≤ length jobs → ((i : ℕ) → i < n → from ≤ (job_at jobs i).release) →
      sum_by (part_within from to) (take n jobs) ≡ due_work (take n jobs) to
  first_work jobs n from to within early =
      sum_by_same (part_within from to) (λ (job : Job). cond (nat_le job.deadline to) job.work 0) (take n jobs)
      (λ i d below.
      let short : i < n = omega (arith, below, length-take-le n jobs within) in
      released_all from to (get_or (take n jobs) i d) (omega (
        arith,
        early i short,
        ap (λ (job : Job). job.release) (get_or-take n jobs i d short),
        ap (λ (job : Job). job.release) (get_or_default jobs i d no_job (omega (arith, short, within))),
      )))

-- at least that of the first ones
pub first_at_most : (jobs : List Job) (n from to : ℕ) → n ≤ length jobs → ((i : ℕ) → i < n → from ≤ (job_at jobs i).release) → due_work (take n jobs) to ≤ work_within jobs from to
first_at_most jobs n from to within early = omega (
  arith,
  sum_by-take-drop (part_within from to) jobs n,
  sum_by_same (part_within from to) (λ (job : Job). cond (nat_le job.deadline to) job.work 0) (take n jobs)
      (λ i d below.
      let short : i < n = omega (arith, below, length-take-le n jobs within) in
      released_all from to (get_or (take n jobs) i d) (omega (
        arith,
        early i short,
        ap (λ (job : Job). job.release) (get_or-take n jobs i d short),
        ap (λ (job : Job). job.release) (get_or_default jobs i d no_job (omega (arith, short, within))),
      ))),
)

-- # Room in any interval

-- jobs that leave no interval overfull have room in any
module _ (top : ℕ) (all : List Job) (are : All IsJob all) (room : HasRoom top all) (from : ℕ) where
  known_deadline : (to i : ℕ) → i < length all → (job_at all i).deadline ≡ to → work_within all from to ≤ top * (to - from)
  known_deadline to i known is = subst (λ (end : ℕ). work_within all from end ≤ top * (end - from)) is (omega (
    arith,
    room_from top all are room i known (job_at all i).deadline from (omega arith),
    confined_sum all (numbers_of all) from (job_at all i).deadline,
    jobs_work all from (job_at all i).deadline,
  ))

  same_term : (to : ℕ) (job : Job) → (job.deadline ≡ suc to → ⊥) → part_within from (suc to) job ≡ part_within from to job
  same_term to job other = elim (cases_lt job.release from) [
    | inl less ↦ part_early from (suc to) job less ∙ sym (part_early from to job less)
    | inr first ↦ elim (cases_lt to job.deadline) [
      | inl more ↦ part_late from (suc to) job (apart job.deadline (suc to) (omega (arith, more)) other) ∙ sym (part_late from to job more)
      | inr due ↦ part_inside from (suc to) job first (omega (arith, due)) ∙ sym (part_inside from to job first due)
    ]
  ] where
    apart : (x y : ℕ) → y ≤ x → (x ≡ y → ⊥) → y < x
    apart x y most other = elim (cases_lt y x) [ inl less ↦ less | inr more ↦ absurd (other (omega (arith, most, more))) ]

  pub room_to : (to : ℕ) → work_within all from to ≤ top * (to - from)
  room_to zero = omega (arith, sum_by_zero (part_within from 0) all (λ k d below. part_late from 0 (get_or all k d) (omega (arith, (are k d below).has_window))))
  room_to (suc to) = elim (found_or_none (length all) (λ i. (job_at all i).deadline == suc to)) [
    | inl found ↦ known_deadline (suc to) found.0 found.1 (eqb-true (job_at all found.0).deadline (suc to) found.2)
    | inr none ↦ omega (
      arith,
      sum_by_same (part_within from (suc to)) (part_within from to) all (λ k d below. same_term to (get_or all k d) (λ e.
          eqb-false (job_at all k).deadline (suc to) (none k below) (ap (λ (job : Job). job.deadline) (get_or_default all k no_job d below) ∙ e))),
      room_to to,
      mul-le-mul_left top (let less : to - from ≤ suc to - from = omega arith in less),
    )
  ]

-- # The deadlines of jobs, with one job more

module _ (times : List ℕ) (all : List Job) (row : Job) (end m : ℕ) (long : length times ≡ m + 1) (short : end ≤ m) (is_end : get_or times end 0 ≡ row.deadline)
    (rising : IsNonDecreasing times) (due : AreDue times all) where
  pub at_most : (from to : ℕ) → part_within from to row ≤ row.work
  at_most from to = grind (arith, cases_lt, part_early, part_inside, part_late)

  -- a deadline of the jobs that isn't before the job's own is one of the later times
  pub time_of : (to : ℕ) → row.deadline ≤ to → (row.deadline < to → Any (λ (job : Job). job.deadline ≡ to) (all ++ row ∷ [])) →
      (q : ℕ) × (end ≤ q) × (q ≤ m) × (get_or times q 0 ≡ to)
  time_of to beyond deadline = elim (cases_lt row.deadline to) [
    | inr soon ↦ (end, omega arith, short, omega (arith, is_end, beyond, soon))
    | inl later ↦
        let some = deadline later in
        elim (cases_lt some.0 (length all)) [
          | inr last ↦
              let own : row.deadline ≡ to =
              ap (λ (job : Job). job.deadline) (sym (get_or_push all row some.1 some.0 (omega (arith, last, some.2, length_push all row))) ∙ some.3) ∙ some.4 in
              absurd (omega (arith, own, later))
          | inl known ↦
              let there = due some.0 some.1 known in
              let is : (get_or all some.0 some.1).deadline ≡ to =
              ap (λ (job : Job). job.deadline) (sym (get_or_append_left all (row ∷ []) some.1 some.0 known) ∙ some.3) ∙ some.4 in
              let at : get_or times there.0 0 ≡ to = get_or_default times there.0 0 (get_or all some.0 some.1).deadline there.1 ∙ there.2 ∙ is in (
                there.0,
                elim (cases_lt there.0 end) [
                  | inr most ↦ most
                  | inl less ↦ absurd (omega (arith, rising there.0 end 0 (omega (arith, less)) (omega (arith, short, long)), at, is_end, later))
                ],
                omega (arith, there.1, long),
                at,
              )
        ]
  ]

-- # Jobs that leave no interval overfull, in another order

module _ (top : ℕ) (jobs others : List Job) (are : All IsJob jobs) (same : IsPermutation jobs others) (room : HasRoom top jobs) where
  -- they have room from any time on
  pub room_alone : (from : ℕ) → HasRoomFrom top others from
  room_alone from to forward = omega (arith, room_to top jobs are room from to, sum_by-IsPermutation (part_within from to) jobs others same)
