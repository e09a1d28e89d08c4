-- One job more than jobs that leave no interval overfull: only an interval that begins before its deadline and ends then or later can be.
use Rattle.yds_model.proofs.Common.{◌≡◌, ℕ, suc, ◌-◌, ◌*◌, ◌<◌, ◌≤◌, ◌⊎◌, List, [], ◌∷◌, ◌++◌, Option, Some, None, MatchOption, length, ◌∙◌, refl, sym, subst, arith, inl, inr, ap, cond, ◌==◌, get_or, All, Any, sum_by, IsPermutation, cases_lt, cases_eq, cases_order, eq-eqb, ne_eqb, get_or_default, get_or_append_left, get_or_push, length_push, sum_by_push, sum_by-cons, get_or-le-sum_by, sum_by-IsPermutation, Job, IsJob, no_job, job_at, numbers_of, IsOverfull, IsFirstOverfull, All-front, All-last, work_within}
use Rattle.model_lemmas.proofs.Confined.{part_within, part_early, part_late}
use Rattle.yds_laws.specs.AdmissionLaws.{HasRoom}
use Rattle.yds_laws.proofs.Served.{room_from, confined_sum, confined_term}
use Rattle.yds_admit.specs.Interval.{IsFirstFrom, IsFirstWith}
use Rattle.yds_admit.specs.Chain.{HasRoomOver}
use Rattle.yds_admit.proofs.Overfull.{any_of_all, number_of_any, jobs_work}

-- # Jobs with the same sums

-- a value that some job has is counted, and one that is counted some job has
any_counted : (f : Job → ℕ) (v : ℕ) (jobs : List Job) → Any (λ job. f job ≡ v) jobs → 1 ≤ sum_by (λ job. cond (f job == v) 1 0) jobs
any_counted f v jobs (k, job, within, is, holds) = omega (
  arith,
  get_or-le-sum_by (λ one. cond (f one == v) 1 0) jobs k job within,
  ap {B = ℕ} (λ b. cond b 1 0) (eq-eqb (f (get_or jobs k job)) v (ap f is ∙ holds)),
)

counted_any : (f : Job → ℕ) (v : ℕ) (jobs : List Job) → 1 ≤ sum_by (λ job. cond (f job == v) 1 0) jobs → Any (λ job. f job ≡ v) jobs
counted_any f v [] some = absurd (omega (arith, some))
counted_any f v (x ∷ xs) some = elim (cases_eq (f x) v) [
  | inl same ↦ (0, x, omega arith, refl, same)
  | inr other ↦
      let there = counted_any f v xs (omega (
        arith,
        some,
        sum_by-cons (λ job. cond (f job == v) 1 0) x xs,
        ap {B = ℕ} (λ b. cond b 1 0) (ne_eqb (f x) v other),
      )) in
      (suc there.0, there.1, omega (arith, there.2), there.3, there.4)
]

-- each value that one list has the other has too
pub any_same : (f : Job → ℕ) (v : ℕ) (jobs others : List Job) → ((g : Job → ℕ) → sum_by g others ≡ sum_by g jobs) → Any (λ job. f job ≡ v) jobs → Any (λ job. f job ≡ v) others
any_same f v jobs others same some = counted_any f v others (omega (arith, any_counted f v jobs some, same (λ job. cond (f job == v) 1 0)))

-- where the one list leaves no interval overfull, the other doesn't either
pub room_same : (top : ℕ) (jobs others : List Job) → ((g : Job → ℕ) → sum_by g others ≡ sum_by g jobs) → HasRoom top jobs → HasRoom top others
room_same top jobs others same room from to full = room from to (record {
  forward = full.forward;
  is_release = number_of_any (λ job. job.release ≡ from) jobs
      (any_same (λ job. job.release) from others jobs (λ g. sym (same g)) (any_of_all (λ job. job.release ≡ from) others full.is_release));
  is_deadline = number_of_any (λ job. job.deadline ≡ to) jobs
      (any_same (λ job. job.deadline) to others jobs (λ g. sym (same g)) (any_of_all (λ job. job.deadline ≡ to) others full.is_deadline));
  too_much = omega (arith, full.too_much, jobs_work jobs from to, jobs_work others from to, same (part_within from to));
})

-- # One job more

module _ (top : ℕ) (jobs : List Job) (row : Job) (are : All IsJob (jobs ++ row ∷ [])) (room : HasRoom top jobs) where
  -- an interval that ends before the job's deadline, or begins there or later, has room
  elsewhere_fits : (from to : ℕ) → (to < row.deadline) ⊎ (row.deadline ≤ from) → IsOverfull (jobs ++ row ∷ []) top (numbers_of (jobs ++ row ∷ [])) from to → ⊥
  elsewhere_fits from to apart full =
      let ends = any_of_all (λ job. job.deadline ≡ to) (jobs ++ row ∷ []) full.is_deadline in
      let window = (All-last IsJob jobs row are).has_window in
      let added : part_within from to row ≡ 0 = elim apart [
        | inl soon ↦ part_late from to row soon
        | inr late ↦ part_early from to row (omega (arith, window, late))
      ] in
      elim (cases_lt ends.0 (length jobs)) [
        | inl known ↦
            let due : (job_at jobs ends.0).deadline ≡ to =
            ap (λ (job : Job). job.deadline) (sym (get_or_append_left jobs (row ∷ []) no_job ends.0 known) ∙ get_or_default (jobs ++ row ∷ []) ends.0 no_job ends.1 ends.2 ∙ ends.3)
            ∙ ends.4 in
            absurd (omega (
              arith,
              full.too_much,
              jobs_work (jobs ++ row ∷ []) from to,
              sum_by_push (part_within from to) jobs row,
              added,
              jobs_work jobs from to,
              confined_sum jobs (numbers_of jobs) from to,
              subst (λ (end : ℕ). sum_by (confined_term jobs from end) (numbers_of jobs) ≤ top * (end - from)) due
                  (room_from top jobs (All-front IsJob jobs (row ∷ []) are) room ends.0 known (job_at jobs ends.0).deadline from (omega arith)),
            ))
        | inr last ↦
            let here : length jobs ≡ ends.0 = omega (arith, ends.2, length_push jobs row, last) in
            let due : row.deadline ≡ to =
            ap (λ (job : Job). job.deadline) (sym (get_or_push jobs row ends.1 ends.0 here) ∙ ends.3) ∙ ends.4 in
            absurd (apart_due row.deadline from to apart due full.forward)
      ]
    where
      apart_due : (due from to : ℕ) → (to < due) ⊎ (due ≤ from) → due ≡ to → from < to → ⊥
      apart_due due from to (inl soon) is forward = omega arith
      apart_due due from to (inr late) is forward = omega arith

  -- an overfull interval from a release that has room over the deadline
  no_overfull : (from to : ℕ) → (from < row.deadline → Any (λ (job : Job). job.release ≡ from) (jobs ++ row ∷ []) → HasRoomOver top row.deadline (jobs ++ row ∷ []) from) →
      IsOverfull (jobs ++ row ∷ []) top (numbers_of (jobs ++ row ∷ [])) from to → ⊥
  no_overfull from to over full = elim (cases_lt to row.deadline) [
    | inl soon ↦ elsewhere_fits from to (inl soon) full
    | inr beyond ↦ elim (cases_lt from row.deadline) [
      | inr late ↦ elsewhere_fits from to (inr late) full
      | inl ahead ↦ absurd (omega (
        arith,
        full.too_much,
        jobs_work (jobs ++ row ∷ []) from to,
        over ahead (any_of_all (λ job. job.release ≡ from) (jobs ++ row ∷ []) full.is_release) to beyond
            (λ later. any_of_all (λ job. job.deadline ≡ to) (jobs ++ row ∷ []) full.is_deadline),
      ))
    ]
  ]

  -- no overfull interval begins before a release, from each earlier one of which there is room over the deadline
  pub none_before : (from : ℕ) →
      ((other : ℕ) → other < from → Any (λ (job : Job). job.release ≡ other) (jobs ++ row ∷ []) → HasRoomOver top row.deadline (jobs ++ row ∷ []) other) →
      (other_from other_to : ℕ) → other_from < from → IsOverfull (jobs ++ row ∷ []) top (numbers_of (jobs ++ row ∷ [])) other_from other_to → ⊥
  none_before from earlier other_from other_to less full = no_overfull other_from other_to (λ ahead begins. earlier other_from less begins) full

-- # The first of all overfull intervals

-- no interval before it is overfull, and of those that begin with it it ends first
module _ (top : ℕ) (all by_deadline : List Job) (deadlines : IsPermutation all by_deadline) where
  same_work : (from to : ℕ) → work_within by_deadline from to ≡ work_within all from to
  same_work from to = sum_by-IsPermutation (part_within from to) all by_deadline deadlines

  pub first_with : (start from to work : ℕ) → Any (λ (job : Job). job.release ≡ start) all →
      ((other_from other_to : ℕ) → other_from < start → IsOverfull all top (numbers_of all) other_from other_to → ⊥) →
      IsFirstFrom top by_deadline start from to work → IsFirstWith top all from to work
  first_with start from to work begins none found = record {
    first = subst (λ begin. IsFirstOverfull all top (numbers_of all) begin to) (sym found.begins) (record {
      overfull = record {
        forward = found.ends.forward;
        is_release = number_of_any (λ job. job.release ≡ start) all begins;
        is_deadline = number_of_any (λ job. job.deadline ≡ to) all
            (any_same (λ job. job.deadline) to by_deadline all (λ g. sym (sum_by-IsPermutation g all by_deadline deadlines)) found.ends.is_deadline);
        too_much = omega (arith, found.ends.too_much, same_work start to, jobs_work all start to);
      };
      first = λ other_from other_to full. elim (cases_order start other_from) [
        | inr (inl less) ↦ inl less
        | inr (inr more) ↦ absurd (none other_from other_to more full)
        | inl equal ↦ inr (
          equal,
          elim (cases_lt other_to to) [
            | inr late ↦ late
            | inl early ↦ absurd (omega (
              arith,
              subst (λ (s : ℕ). top * (other_to - s) < work_within by_deadline s other_to) (sym equal)
                  (omega (arith, full.too_much, jobs_work all other_from other_to, same_work other_from other_to)),
              found.ends.first other_to (omega (arith, equal, full.forward)) early,
            ))
          ],
        )
      ];
    });
    all = found.all ∙ same_work start to ∙ ap (λ begin. work_within all begin to) (sym found.begins);
  }

-- what an option holds, told otherwise
pub MatchOption-then : {T : Type 0} (some : Option T) {A B : Type 0} {P Q : T → Type 0} → MatchOption some A P → (A → B) → ((x : T) → P x → Q x) → MatchOption some B Q
MatchOption-then None told none found = none told
MatchOption-then (Some x) told none found = found x told
