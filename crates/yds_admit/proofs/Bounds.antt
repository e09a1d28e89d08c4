-- Pieces and what is idle beside them: one job more among them, and what they say of another.
use Rattle.yds_model.proofs.Common.{◌≡◌, ℕ, zero, suc, ◌+◌, ◌-◌, ◌*◌, ◌<◌, ◌≤◌, ◌⊎◌, List, [], ◌∷◌, ◌++◌, insert, length, get_or, ◌∙◌, refl, sym, subst, arith, inl, inr, ap, cond, nat_le, All, Any, sum_by, IsNonDecreasing, cases_lt, cases_eq, get_or_default, get_or_append_left, get_or_push, length_push, get_or-insert_below, get_or-insert_at, get_or-insert_above, length-insert, sum_by_push, sum_by-insert, mul-sub, mul-le-mul_left, mul-le-mul_right, Job, no_job, job_at, Any-append_left, work_within}
use Rattle.model_lemmas.proofs.Confined.{part_within, part_inside, part_early, part_late}
use Rattle.base.specs.declared.limits.TheConstants.{MAX_JOBS, MAX_WORK}
use Rattle.model_lemmas.proofs.SumsBelow.{sum_below_same}
use Rattle.yds_admit.specs.Chain.{IsFalling, IsEnd, HasRoomOver}
use Rattle.yds_admit.specs.Pieces.{went, AreDue, IsCount, AreBounds, AreExact, AreUsed, AreMore, IsAdded, IsLeastBound, HasTooMuch}
use Rattle.yds_admit.specs.Idle.{HasIdle, IsIdleFrom, IsTakenFrom, Fits, idle_before}
use Rattle.yds_admit.proofs.Cutting.{next_went, went_fits, went_grows, yes}
use Rattle.yds_admit.proofs.Idleness.{fewer_between, later_idle, same_before, count_from}
use Rattle.yds_admit.proofs.Least.{at_most, time_of}

-- # Jobs with a release

release_at : (jobs : List Job) (from : ℕ) (some : Any (λ (job : Job). job.release ≡ from) jobs) → (job_at jobs some.0).release ≡ from
release_at jobs from some = ap (λ (job : Job). job.release) (get_or_default jobs some.0 no_job some.1 some.2 ∙ some.3) ∙ some.4

pub any_at : (jobs : List Job) (from i : ℕ) → i < length jobs → (job_at jobs i).release ≡ from → Any (λ (job : Job). job.release ≡ from) jobs
any_at jobs from i below is = (i, job_at jobs i, below, get_or_default jobs i (job_at jobs i) no_job below, is)

-- the last of jobs, or the others
with_last : (all : List Job) (row : Job) (from : ℕ) → Any (λ (job : Job). job.release ≡ from) (all ++ row ∷ []) →
    Any (λ (job : Job). job.release ≡ from) all ⊎ (row.release ≡ from)
with_last all row from some = grind (arith, cases_lt, get_or_append_left, get_or_push, length_push)

last_of_all : (all : List Job) (row : Job) → Any (λ (job : Job). job.release ≡ row.release) (all ++ row ∷ [])
last_of_all all row = (length all, row, omega (arith, length_push all row), get_or_push all row row (length all) refl, refl)

-- the number of pieces that are released at a time or later
pub counted : (jobs : List Job) → IsFalling jobs → (from : ℕ) → (n : ℕ) × IsCount jobs n from
counted jobs falling from =
    let found = count_from jobs falling from (length jobs) (omega arith) in
    (found.0, record { within = found.1; early = found.2; late = found.3 })

-- # One piece more

module _ (jobs : List Job) (places : List ℕ) (row : Job) (place number : ℕ) (long : length places ≡ length jobs) (count : IsCount jobs number row.release) where
  abbrev with_job : List Job
  with_job = insert jobs number row

  abbrev with_place : List ℕ
  with_place = insert places number place

  more_jobs : length with_job ≡ length jobs + 1
  more_jobs = length-insert jobs number row count.within

  front : (i : ℕ) → i < number → (job_at with_job i).release ≡ (job_at jobs i).release
  front i less = ap (λ (job : Job). job.release) (get_or-insert_below jobs number row no_job i less count.within)

  here : (job_at with_job number).release ≡ row.release
  here = ap (λ (job : Job). job.release) (get_or-insert_at jobs number row no_job count.within)

  back : (i : ℕ) → number ≤ i → (job_at with_job (i + 1)).release ≡ (job_at jobs i).release
  back i behind = ap (λ (job : Job). job.release) (get_or-insert_above jobs number row no_job i behind count.within)

  falls : IsFalling jobs → IsFalling with_job
  falls falling i j order below =
      let next_i : number < i → i - 1 + 1 ≡ i = λ (more : number < i). omega (arith, more) in
      let next_j : number < j → j - 1 + 1 ≡ j = λ (more : number < j). omega (arith, more) in
      elim (cases_lt j number) [
        | inl first ↦ omega (arith, front i (omega (arith, order, first)), front j first, falling i j order (omega (arith, first, count.within)))
        | inr at ↦ elim (cases_lt number j) [
          | inr same ↦
              let e : j ≡ number = omega (arith, at, same) in
              let own : (job_at with_job j).release ≡ row.release = ap (λ k. (job_at with_job k).release) e ∙ here in
              elim (cases_lt i number) [
                | inl less ↦ omega (arith, own, front i less, count.early i less)
                | inr most ↦ let d : i ≡ j = omega (arith, most, e, order) in omega (arith, ap (λ k. (job_at with_job k).release) d)
              ]
          | inl later ↦
              let last : (job_at with_job j).release ≡ (job_at jobs (j - 1)).release = ap (λ k. (job_at with_job k).release) (sym (next_j later)) ∙ back (j - 1) (omega (arith, later)) in
              let there : j - 1 < length jobs = omega (arith, below, more_jobs, later) in
              elim (cases_lt i number) [
                | inl less ↦ omega (arith, last, front i less, falling i (j - 1) (omega (arith, less, later)) there)
                | inr most ↦ elim (cases_lt number i) [
                  | inr same ↦
                      let d : i ≡ number = omega (arith, most, same) in
                      omega (arith, last, ap (λ k. (job_at with_job k).release) d ∙ here, count.late (j - 1) (omega (arith, later)) there)
                  | inl more ↦ omega (
                    arith,
                    last,
                    ap (λ k. (job_at with_job k).release) (sym (next_i more)) ∙ back (i - 1) (omega (arith, more)),
                    falling (i - 1) (j - 1) (omega (arith, order)) there,
                  )
                ]
              ]
        ]
      ]

  went_front : (n q : ℕ) → n ≤ number → went n with_job with_place q ≡ went n jobs places q
  went_front n q few = grind (arith, get_or-insert_below, nat_le, sum_below_same)

  went_back : (more q : ℕ) → went (number + 1 + more) with_job with_place q ≡ went (number + more) jobs places q + cond (nat_le place q) row.work 0
  went_back zero q =
      let e : number + 1 + zero ≡ number + 1 = omega arith in
      let d : number + zero ≡ number = omega arith in
      let last : cond (nat_le (get_or with_place number 0) q) (job_at with_job number).work 0 ≡ cond (nat_le place q) row.work 0 =
      rw (get_or-insert_at places number place 0 (omega (arith, count.within, long)), get_or-insert_at jobs number row no_job count.within) refl in
      omega (
        arith,
        ap (λ k. went k with_job with_place q) e,
        ap (λ k. went k jobs places q) d,
        next_went number with_job with_place q,
        went_front number q (omega arith),
        last,
      )
  went_back (suc more) q =
      let e : number + 1 + suc more ≡ number + more + 1 + 1 = omega arith in
      let f : number + 1 + more ≡ number + more + 1 = omega arith in
      let d : number + suc more ≡ number + more + 1 = omega arith in
      let same : cond (nat_le (get_or with_place (number + more + 1) 0) q) (job_at with_job (number + more + 1)).work 0
      ≡ cond (nat_le (get_or places (number + more) 0) q) (job_at jobs (number + more)).work 0 =
      rw (
        get_or-insert_above places number place 0 (number + more) (omega arith) (omega (arith, count.within, long)),
        get_or-insert_above jobs number row no_job (number + more) (omega arith) count.within,
      ) refl in
      omega (
        arith,
        ap (λ k. went k with_job with_place q) e,
        ap (λ k. went k with_job with_place q) f,
        ap (λ k. went k jobs places q) d,
        went_back more q,
        next_went (number + more + 1) with_job with_place q,
        next_went (number + more) jobs places q,
        same,
      )

  -- the pieces before, of those that are released at a time or later
  with_it : (n from : ℕ) → IsCount with_job n from → from ≤ row.release → (k : ℕ) × (n ≡ number + 1 + k) × IsCount jobs (number + k) from
  with_it n from new counts =
      let there : number < n = elim (cases_lt number n) [
        | inl less ↦ less
        | inr most ↦ absurd (omega (arith, new.late number most (omega (arith, more_jobs, count.within)), here, counts))
      ] in
      let is : number + (n - (number + 1)) + 1 ≡ n = omega (arith, there) in (
        n - (number + 1),
        omega (arith, there),
        record {
          within = omega (arith, new.within, more_jobs, is);
          early = λ i below. elim (cases_lt i number) [
            | inl less ↦ omega (arith, front i less, new.early i (omega (arith, less, there)))
            | inr most ↦ omega (arith, back i most, new.early (i + 1) (omega (arith, below, is)))
          ];
          late = λ i behind below. omega (
            arith,
            back i (omega (arith, behind)),
            new.late (i + 1) (omega (arith, behind, is)) (omega (arith, below, more_jobs)),
          );
        },
      )

  without_it : (n from : ℕ) → IsCount with_job n from → row.release < from → (n ≤ number) × IsCount jobs n from
  without_it n from new late =
      let few : n ≤ number = elim (cases_lt number n) [
        | inl more ↦ absurd (omega (arith, new.early number more, here, late))
        | inr most ↦ most
      ] in (
        few,
        record {
          within = omega (arith, few, count.within);
          early = λ i below. omega (arith, front i (omega (arith, below, few)), new.early i below);
          late = λ i behind below. elim (cases_lt i number) [
            | inl less ↦ omega (arith, front i less, new.late i behind (omega (arith, below, more_jobs)))
            | inr most ↦ omega (arith, back i most, new.late (i + 1) (omega (arith, behind)) (omega (arith, below, more_jobs)))
          ];
        },
      )

  any_with : (from : ℕ) → Any (λ (job : Job). job.release ≡ from) jobs → Any (λ (job : Job). job.release ≡ from) with_job
  any_with from some = elim (cases_lt some.0 number) [
    | inl less ↦ any_at with_job from some.0 (omega (arith, some.2, more_jobs)) (front some.0 less ∙ release_at jobs from some)
    | inr most ↦ any_at with_job from (some.0 + 1) (omega (arith, some.2, more_jobs)) (back some.0 most ∙ release_at jobs from some)
  ]

  any_without : (from : ℕ) → Any (λ (job : Job). job.release ≡ from) with_job → Any (λ (job : Job). job.release ≡ from) jobs ⊎ (row.release ≡ from)
  any_without from some = elim (cases_lt some.0 number) [
    | inl less ↦ inl (any_at jobs from some.0 (omega (arith, less, count.within)) (sym (front some.0 less) ∙ release_at with_job from some))
    | inr most ↦ elim (cases_lt number some.0) [
      | inr same ↦ inr (sym here ∙ ap (λ k. (job_at with_job k).release) (let e : number ≡ some.0 = omega (arith, most, same) in e) ∙ release_at with_job from some)
      | inl more ↦
          let e : some.0 - 1 + 1 ≡ some.0 = omega (arith, more) in
          inl (any_at jobs from (some.0 - 1) (omega (arith, more, some.2, more_jobs))
          (sym (back (some.0 - 1) (omega (arith, more))) ∙ ap (λ k. (job_at with_job k).release) e ∙ release_at with_job from some))
    ]
  ]

  -- One job more takes its units from what is idle, or from a place on as much as that is.
  module _ (top : ℕ) (times : List ℕ) (all : List Job) (old new : List ℕ) (bounds : AreBounds top times all jobs places old) (end : ℕ) (is_end : IsEnd times row.deadline end)
      (light : row.work ≤ MAX_WORK) (less : (q : ℕ) → get_or new q 0 ≤ get_or old q 0)
      (gain : (a : ℕ) → a < place → idle_before new end + idle_before old a + row.work ≤ idle_before old end + idle_before new a) where
    most_more : (from n a b : ℕ) → IsCount with_job n from → a ≤ b → b < length times →
        work_within (all ++ row ∷ []) from (get_or times b 0) + top * get_or times a 0 + idle_before new b
        ≤ went n with_job with_place a + top * get_or times b 0 + idle_before new a
    most_more from n a b counts forward below =
        let time : ℕ = get_or times b 0 in
        let added = sum_by_push (part_within from time) all row in
        let fewer = fewer_between old new less a b forward in
        elim (cases_lt row.release from) [
          | inl late ↦
              let before = without_it n from counts late in
              omega (arith, added, part_early from time row late, bounds.most from n a b before.1 forward below, went_front n a before.0, fewer)
          | inr own ↦
              let before = with_it n from counts own in
              let is = bounds.most from (number + before.0) a b before.2 forward below in
              let units = went_back before.0 a in
              let same = ap (λ k. went k with_job with_place a) before.1 in
              elim (cases_lt time row.deadline) [
                | inl soon ↦ omega (arith, added, part_late from time row soon, is, units, same, fewer)
                | inr due ↦ elim (cases_lt a place) [
                  | inr counted ↦ omega (arith, added, part_inside from time row own due, is, units, same, yes place a row.work counted, fewer)
                  | inl ahead ↦
                      let later : end ≤ b = elim (cases_lt b end) [
                        | inr most ↦ most
                        | inl sooner ↦ absurd (omega (arith, is_end.is.before b sooner, due))
                      ] in
                      omega (arith, added, part_inside from time row own due, is, units, same, gain a ahead, fewer_between old new less end b later)
                ]
              ]
        ]

    pub bounds_more : AreBounds top times (all ++ row ∷ []) with_job with_place new
    bounds_more = record {
      as_long = omega (arith, more_jobs, length-insert places number place (omega (arith, count.within, long)), long);
      falling = falls bounds.falling;
      few = omega (arith, sum_by-insert (λ (job : Job). job.work) jobs number row, bounds.few, light, length_push all row);
      kept = λ from some. elim (with_last all row from some) [
        | inl others ↦ any_with from (bounds.kept from others)
        | inr own ↦ any_at with_job from number (omega (arith, more_jobs, count.within)) (here ∙ own)
      ];
      known = λ from some. elim (any_without from some) [
        | inl others ↦ Any-append_left (λ (job : Job). job.release ≡ from) all (row ∷ []) (bounds.known from others)
        | inr own ↦ subst (λ (time : ℕ). Any (λ (job : Job). job.release ≡ time) (all ++ row ∷ [])) own (last_of_all all row)
      ];
      most = most_more;
    }

  -- all units before a place
  pub all_more : (q : ℕ) → went (length with_job) with_job with_place q ≡ went (length jobs) jobs places q + cond (nat_le place q) row.work 0
  all_more q =
      let e : number + 1 + (length jobs - number) ≡ length with_job = omega (arith, more_jobs, count.within) in
      let d : number + (length jobs - number) ≡ length jobs = omega (arith, count.within) in
      omega (arith, went_back (length jobs - number) q, ap (λ k. went k with_job with_place q) e, ap (λ k. went k jobs places q) d)

-- they fit
pub few_used : (times : List ℕ) (all jobs : List Job) (places used : List ℕ) → length all ≤ MAX_JOBS → sum_by (λ job. job.work) jobs ≤ length all * MAX_WORK → AreUsed times jobs places used →
    All (λ units. units ≤ MAX_JOBS * MAX_WORK) used
few_used times all jobs places used few works are k d below = grind (arith, get_or_default, mul-le-mul_right, went_fits)

-- the units before each of the times with what was added
pub used_added : (times : List ℕ) (jobs : List Job) (places used : List ℕ) (row : Job) (place : ℕ) (new_jobs : List Job) (new_places new_used : List ℕ) →
    length places ≡ length jobs → IsAdded jobs places row place new_jobs new_places → AreUsed times jobs places used → AreMore used new_used place row.work →
    AreUsed times new_jobs new_places new_used
used_added times jobs places used row place new_jobs new_places new_used long added before more = grind (arith, all_more)

-- the same of what was added
pub bounds_added : (jobs : List Job) (places : List ℕ) (row : Job) (place : ℕ) (new_jobs : List Job) (new_places : List ℕ) → IsAdded jobs places row place new_jobs new_places →
    (top : ℕ) (times : List ℕ) (all : List Job) (old new : List ℕ) → AreBounds top times all jobs places old → (end : ℕ) → IsEnd times row.deadline end → row.work ≤ MAX_WORK →
    ((q : ℕ) → get_or new q 0 ≤ get_or old q 0) →
    ((a : ℕ) → a < place → idle_before new end + idle_before old a + row.work ≤ idle_before old end + idle_before new a) →
    AreBounds top times (all ++ row ∷ []) new_jobs new_places new
bounds_added jobs places row place new_jobs new_places added top times all old new bounds end is_end light less gain =
    rw (added.jobs_are, added.places_are)
    (bounds_more jobs places row place added.number bounds.as_long added.count top times all old new bounds end is_end light less gain)

-- # What they say of one job more

module _ (top : ℕ) (jobs : List Job) (places : List ℕ) (row : Job) (end : ℕ) where
  -- the first n pieces and the job leave room from this release on
  abbrev pub LeavesRoom : ℕ → ℕ → Type 0
  LeavesRoom n from = row.work + went n jobs places end + top * from ≤ top * row.deadline

  -- so do the pieces from the n-th on up to the m-th, each with those before it from its release on
  abbrev pub AllLeaveRoom : ℕ → ℕ → Type 0
  AllLeaveRoom n m = (k : ℕ) → n ≤ k → k < m → LeavesRoom (k + 1) (job_at jobs k).release

  pub one_more : (n m : ℕ) → AllLeaveRoom (n + 1) m → LeavesRoom (n + 1) (job_at jobs n).release → AllLeaveRoom n m
  one_more n m others leaves k behind below = grind (arith, cases_eq)

  -- So do those from the n-th on, if the n-th does, which is released last, with all units of the others.
  pub many_more : IsFalling jobs → (n count m : ℕ) → count ≤ length jobs → AllLeaveRoom count m → LeavesRoom count (job_at jobs n).release → AllLeaveRoom n m
  many_more falling n count m within others leaves k behind below = grind (arith, cases_lt, mul-le-mul_left, went_grows)

module _ (top : ℕ) (times : List ℕ) (rising : IsNonDecreasing times) (all jobs : List Job) (places idle : List ℕ) (bounds : AreBounds top times all jobs places idle) (row : Job) (end : ℕ)
    (is_end : IsEnd times row.deadline end) (window : row.release < row.deadline) where
  abbrev FitsFrom : ℕ → Type 0
  FitsFrom = Fits top times all row end idle

  abbrev Leaves : ℕ → ℕ → Type 0
  Leaves = LeavesRoom top jobs places row end

  fits_leaves : (n from : ℕ) → IsCount jobs n from → from ≤ row.release → Leaves n from → FitsFrom from
  fits_leaves n from count until leaves b later below = grind (arith, mul-le-mul_left, mul-sub)

  module _ (has : HasIdle top times all idle) (near : ℕ) (enough : IsIdleFrom idle end row.work near) (m : ℕ) (early : IsCount jobs m (get_or times near 0 + 1)) where
    pub fits_idle : (from : ℕ) → from ≤ get_or times near 0 → FitsFrom from
    fits_idle from ahead b later below = omega (arith, has.room from near b (omega (arith, enough.order, later)) below ahead, enough.enough)

    -- from a time on, after which some piece behind the n-th is released, and none after the last of these
    fits_behind : (n from : ℕ) → AllLeaveRoom top jobs places row end n m → from ≤ row.release → get_or times near 0 < from → (k : ℕ) → n ≤ k → IsCount jobs (k + 1) from → FitsFrom from
    fits_behind n from others until after k behind count =
        let released = count.early k (omega arith) in
        let below : k < m = elim (cases_lt k m) [
          | inl less ↦ less
          | inr most ↦ absurd (omega (arith, released, after, early.late k most (omega (arith, count.within))))
        ] in
        fits_leaves (k + 1) from count until (omega (arith, others k behind below, mul-le-mul_left top released))

    -- The first n pieces are released with the job or later.
    pub fits_all : (n : ℕ) → IsCount jobs n row.release → Leaves n row.release → AllLeaveRoom top jobs places row end n m → (from : ℕ) → from ≤ row.release → FitsFrom from
    fits_all n own leaves others from until = elim (cases_lt (get_or times near 0) from) [
      | inr ahead ↦ fits_idle from ahead
      | inl after ↦
          let count = counted jobs bounds.falling from in
          elim (cases_lt n count.0) [
            | inl more ↦
                let is : count.0 - 1 + 1 ≡ count.0 = omega (arith, more) in
                fits_behind n from others until after (count.0 - 1) (omega (arith, more)) (subst (λ (k : ℕ). IsCount jobs k from) (sym is) count.1)
            | inr few ↦
                let same : count.0 ≡ n = elim (cases_lt count.0 n) [
                  | inr most ↦ omega (arith, few, most)
                  | inl less ↦ absurd (omega (arith, own.early count.0 less, count.1.late count.0 (omega arith) (omega (arith, less, own.within)), until))
                ] in
                fits_leaves n from (subst (λ (k : ℕ). IsCount jobs k from) same count.1) until (omega (arith, leaves, mul-le-mul_left top until))
          ]
    ]

    -- The first n pieces are released at this time or later: an earlier release is that of a piece behind them.
    pub fits_earlier : (n from : ℕ) → n ≤ length jobs → ((i : ℕ) → i < n → from ≤ (job_at jobs i).release) → from ≤ row.release → AllLeaveRoom top jobs places row end n m →
        (other : ℕ) → other < from → Any (λ (job : Job). job.release ≡ other) (all ++ row ∷ []) → FitsFrom other
    fits_earlier n from within released until others other less some = elim (cases_lt (get_or times near 0) other) [
      | inr ahead ↦ fits_idle other ahead
      | inl after ↦ elim (with_last all row other some) [
        | inr own ↦ absurd (omega (arith, own, less, until))
        | inl known ↦
            let piece = bounds.kept other known in
            let at = release_at jobs other piece in
            let count = counted jobs bounds.falling other in
            let more : piece.0 < count.0 = elim (cases_lt piece.0 count.0) [
              | inl less ↦ less
              | inr most ↦ absurd (omega (arith, count.1.late piece.0 most piece.2, at))
            ] in
            let behind : n ≤ piece.0 = elim (cases_lt piece.0 n) [
              | inr most ↦ most
              | inl front ↦ absurd (omega (arith, released piece.0 front, at, less))
            ] in
            let is : count.0 - 1 + 1 ≡ count.0 = omega (arith, more) in
            fits_behind n other others (omega (arith, less, until)) after (count.0 - 1) (omega (arith, behind, more)) (subst (λ (k : ℕ). IsCount jobs k other) (sym is) count.1)
      ]
    ]

  -- what the first n pieces have too much, if they are exact
  pub too_much : AreExact top times all jobs places idle → (n from : ℕ) → n ≤ length jobs → ((i : ℕ) → i < n → from ≤ (job_at jobs i).release) → from ≤ row.release →
      top * row.deadline < row.work + went n jobs places end + top * from → HasTooMuch top all row from
  too_much exact n from within released until much =
      let found = exact.tight n from end within released is_end.within in
      let to : ℕ = get_or times found.0 0 in
      let due : row.deadline ≤ to = omega (arith, is_end.there, rising end found.0 0 found.1 found.2) in
      let forward : from < to = omega (arith, until, window, due) in (
        to,
        forward,
        omega (
          arith,
          found.3,
          much,
          sum_by_push (part_within from to) all row,
          part_inside from to row until due,
          ap (λ t. top * t) is_end.there,
          mul-sub top to from,
          mul-le-mul_left top (let most : from ≤ to = omega (arith, forward) in most),
        ),
      )

  -- one of the pieces' releases or the job's own
  pub least_piece : (from : ℕ) → from ≤ row.release → (row.release ≡ from) ⊎ Any (λ (job : Job). job.release ≡ from) jobs →
      ((other : ℕ) → other < from → Any (λ (job : Job). job.release ≡ other) (all ++ row ∷ []) → FitsFrom other) → IsLeastBound top times all row end idle from
  least_piece from until is earlier = record {
    until = until;
    is_release = elim is [
      | inl own ↦ subst (λ (time : ℕ). Any (λ (job : Job). job.release ≡ time) (all ++ row ∷ [])) own (last_of_all all row)
      | inr piece ↦ Any-append_left (λ (job : Job). job.release ≡ from) all (row ∷ []) (bounds.known from piece)
    ];
    earlier = earlier;
  }

  -- none of the competing jobs is released before all pieces and the job
  pub none_sooner : (from : ℕ) → ((i : ℕ) → i < length jobs → from ≤ (job_at jobs i).release) → from ≤ row.release →
      (other : ℕ) → other < from → Any (λ (job : Job). job.release ≡ other) (all ++ row ∷ []) → FitsFrom other
  none_sooner from released until other less some = elim (with_last all row other some) [
    | inr own ↦ absurd (omega (arith, own, less, until))
    | inl known ↦
        let piece = bounds.kept other known in
        absurd (omega (arith, released piece.0 piece.2, release_at jobs other piece, less))
  ]

  -- where less is idle than the job wants, all of them have too much
  pub all_too_much : AreExact top times all jobs places idle → idle_before idle end < row.work → (from : ℕ) → ((i : ℕ) → i < length jobs → from ≤ (job_at jobs i).release) →
      from ≤ row.release → HasTooMuch top all row from
  all_too_much exact little from released until = too_much exact (length jobs) from (omega arith) released until
      (omega (arith, exact.rest end is_end.within, little, ap (λ t. top * t) is_end.there))

-- an interval that holds the job's window has room over its deadline
pub fits_over : (top : ℕ) (times : List ℕ) → IsNonDecreasing times → (all : List Job) (idle : List ℕ) (row : Job) (end : ℕ) → IsEnd times row.deadline end → AreDue times all →
    (from : ℕ) → Fits top times all row end idle from → HasRoomOver top row.deadline (all ++ row ∷ []) from
fits_over top times rising all idle row end is_end due from fits to beyond deadline =
    let m : ℕ = length times - 1 in
    let long : length times ≡ m + 1 = omega (arith, is_end.within) in
    let short : end ≤ m = omega (arith, is_end.within) in
    let at = time_of times all row end m long short is_end.there rising due to beyond deadline in
    omega (
      arith,
      sum_by_push (part_within from to) all row,
      at_most times all row end m long short is_end.there rising due from to,
      fits at.0 at.1 (omega (arith, at.2, long)),
      later_idle idle end at.0 at.1,
      ap (λ t. work_within all from t) at.3,
      ap (λ t. top * (t - from)) at.3,
    )

-- # What one job more takes of what is idle

pub before_gain : (old new : List ℕ) (end units after : ℕ) → IsTakenFrom old new end units after → (a : ℕ) → a < after →
    idle_before new end + idle_before old a + units ≤ idle_before old end + idle_before new a
before_gain old new end units after taken a before =
    omega (arith, taken.sum (omega (arith, before)), same_before old new a (λ q less. taken.early q (omega (arith, less, before))))
