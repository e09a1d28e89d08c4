-- The walk by falling releases over a chain, and what it finds.
use Rattle.yds_model.proofs.Common.{◌≡◌, ℕ, zero, suc, ◌+◌, ◌*◌, ◌<◌, ◌≤◌, List, length, get_or, take, drop, ◌∙◌, refl, sym, arith, inl, inr, ap, cond, Bool, true, false, ◌==◌, nat_le, Any, sum_by, IsPermutation, cases_lt, cases_eq, cases_Bool, eq-eqb, ne_eqb, le-leb, lt-leb, leb-true, leb-false, true≢false, get_or_default, get_or-take, get_or-drop, length-take-le, length-drop, sum_by_more, sum_by-take-drop, Job, no_job, job_at, sum_by_same, sum_by_zero, work_within}
use Rattle.model_lemmas.proofs.Confined.{part_within, part_early}
use Rattle.yds_admit.specs.Chain.{IsFalling, AreTimes, due_work, IsChain, Takes}
use Rattle.yds_admit.proofs.GoingOn.{ended}

-- # What a chain says of the units that went on before it

module _ (m : ℕ) (reach due_by done : ℕ → ℕ) (gaps : List ℕ) (chain : IsChain m reach due_by done gaps 0 0) where
  pub step_is : (q : ℕ) → q < m → done q + reach (q + 1) ≡ done (q + 1) + reach q + get_or gaps q 0
  step_is q below = omega (arith, chain.steps q below, ap {B = ℕ} (λ b. cond b 0 0) (ne_eqb (q + 1) 0 (λ e. omega (arith, e))))

  -- between two places at most what the top speed does there
  pub no_more : (p more : ℕ) → p + more ≤ m → done (p + more) + reach p ≤ done p + reach (p + more)
  no_more p zero within = let e : p + zero ≡ p = omega arith in omega (arith, ap done e, ap reach e)
  no_more p (suc more) within =
      let e : p + more + 1 ≡ p + suc more = omega arith in
      omega (arith, no_more p more (omega arith), step_is (p + more) (omega arith), ap done e, ap reach e)

  -- none was done by a place where nothing was taken before it
  pub none_before : (full : List ℕ) (last : ℕ) → last ≤ m → ((q : ℕ) → q < m → get_or full q 0 + reach q ≡ reach (q + 1)) →
      ((q : ℕ) → q < last → get_or gaps q 0 ≡ get_or full q 0) → done last ≡ done 0
  none_before full zero within each same = refl
  none_before full (suc last) within each same =
      let e : last + 1 ≡ suc last = omega arith in
      omega (
        arith,
        none_before full last (omega arith) each (λ q less. same q (omega arith)),
        step_is last (omega arith),
        each last (omega arith),
        same last (omega arith),
        ap done e,
        ap reach e,
      )

  -- and as many as are due by some later time beyond what it does
  pub attained : (rest q : ℕ) → q + rest ≡ m → (p : ℕ) × (q ≤ p) × (p ≤ m) × (due_by p + reach q ≡ done q + reach p)
  attained zero q is = let e : q ≡ m = omega (arith, is) in (m, omega (arith, e), omega arith, omega (arith, chain.last, ap done e, ap reach e))
  attained (suc rest) q is = elim (cases_lt 0 (get_or gaps q 0)) [
    | inl some ↦ (q, omega arith, omega (arith, is), omega (arith, chain.exact q (omega (arith, is)) some))
    | inr none ↦
        let found = attained rest (q + 1) (omega (arith, is)) in
        (found.0, omega (arith, found.1), found.2, omega (arith, found.3, step_is q (omega (arith, is)), none))
  ]

at_first : (place x : ℕ) → cond (nat_le place 0) x 0 ≡ cond (place == 0) x 0
at_first place x = grind (arith, cases_eq, cases_lt, eq-eqb, le-leb, lt-leb, ne_eqb)

-- # The walk

module _ (top due : ℕ) (jobs : List Job) (times : List ℕ) (m : ℕ) where
  abbrev pub reach : ℕ → ℕ
  reach q = top * get_or times q 0

  -- the units of the first n jobs that are due by a time
  abbrev pub due_units : ℕ → ℕ → ℕ
  due_units n q = due_work (take n jobs) (get_or times q 0)

-- The times are m and one more, and the walk has come to the n-th job.
module _ (top due : ℕ) (jobs : List Job) (times : List ℕ) (m : ℕ) (long : length times ≡ m + 1) where
  module _ (n : ℕ) (within : n < length jobs) (job : Job) (is : job ≡ job_at jobs n) (place : ℕ) (fits_in : place ≤ m)
      (early : (q : ℕ) → q < place → get_or times q 0 < job.deadline) (late : (q : ℕ) → place ≤ q → q < length times → job.deadline ≤ get_or times q 0) where
    -- what one more job adds to what is due
    more_due : (q : ℕ) → q ≤ m → due_units top due jobs times m (n + 1) q ≡ due_units top due jobs times m n q + cond (nat_le place q) job.work 0
    more_due q below = grind (arith, cases_lt, le-leb, lt-leb, nat_le, sum_by_more)

    loaded : (done : ℕ → ℕ) (gaps : List ℕ) → IsChain m (reach top due jobs times m) (due_units top due jobs times m n) done gaps 0 0 →
        IsChain m (reach top due jobs times m) (due_units top due jobs times m (n + 1)) (λ q. done q + cond (nat_le place q) job.work 0) gaps place job.work
    loaded done gaps chain = grind (arith, cases_eq, cases_lt, eq-eqb, le-leb, lt-leb, more_due, ne_eqb, step_is)

    -- the chain after its units went on
    pub record Passed (new : List ℕ) (passed : ℕ) : Type 0 where
      pub done : ℕ → ℕ
      pub chain : IsChain m (reach top due jobs times m) (due_units top due jobs times m (n + 1)) done new 0 0
      pub passed_is : passed ≡ done 0

    pub goes_through : (done : ℕ → ℕ) (gaps new : List ℕ) (passed result : ℕ) →
        IsChain m (reach top due jobs times m) (due_units top due jobs times m n) done gaps 0 0 → passed ≡ done 0 →
        Takes gaps place job.work new 0 result → Passed new (passed + result)
    goes_through done gaps new passed result chain passed_is takes =
        let reached = takes.chain m (reach top due jobs times m) (due_units top due jobs times m (n + 1)) (λ q. done q + cond (nat_le place q) job.work 0)
        (loaded done gaps chain) in
        record {
          done = reached.0;
          chain = ended m (reach top due jobs times m) (due_units top due jobs times m (n + 1)) reached.0 new 0 result 0 reached.1 (inr refl);
          passed_is = omega (arith, passed_is, reached.2, at_first place job.work);
        }

-- # What was found

pub released_all : (from to : ℕ) (job : Job) → from ≤ job.release → part_within from to job ≡ cond (nat_le job.deadline to) job.work 0
released_all from to job released = rw (le-leb from job.release released) refl

-- of some numbers that pass a test the last
pub last_of : (n : ℕ) (test : ℕ → Bool) (j : ℕ) → j < n → test j ≡ true →
    (k : ℕ) × (k < n) × (test k ≡ true) × ((i : ℕ) → k < i → i < n → test i ≡ false)
last_of zero test j below passes = absurd (omega arith)
last_of (suc n) test j below passes = elim (cases_Bool (test n)) [
  | inl here ↦ (n, omega arith, here, λ i after within. absurd (omega (arith, after, within)))
  | inr fails ↦ elim (cases_eq j n) [
    | inl same ↦ absurd (true≢false (sym passes ∙ ap test same ∙ fails))
    | inr other ↦
        let found = last_of n test j (omega arith) passes in (
          found.0,
          omega (arith, found.1),
          found.2,
          λ i after within. elim (cases_eq i n) [
            | inl same ↦ ap test same ∙ fails
            | inr differs ↦ found.3 i after (omega arith)
          ],
        )
  ]
]

module _ (top due : ℕ) (jobs others : List Job) (times : List ℕ) (m : ℕ) (long : length times ≡ m + 1) (are : AreTimes due others times) (same : IsPermutation others jobs)
    (falling : IsFalling jobs) where
  front : (k from to : ℕ) → k < length jobs → from ≤ (job_at jobs k).release → sum_by (part_within from to) (take (k + 1) jobs) ≡ due_work (take (k + 1) jobs) to
  front k from to within released =
      sum_by_same (part_within from to) (λ (job : Job). cond (nat_le job.deadline to) job.work 0) (take (k + 1) jobs)
      (λ i d below.
      let short : i < k + 1 = omega (arith, below, length-take-le (k + 1) jobs (omega arith)) in
      released_all from to (get_or (take (k + 1) jobs) i d) (omega (
        arith,
        released,
        falling i k (omega arith) within,
        ap (λ (job : Job). job.release) (get_or-take (k + 1) jobs i d short),
        ap (λ (job : Job). job.release) (get_or_default jobs i d no_job (omega arith)),
      )))

  -- the work in an interval from a release is that of the jobs up to the last one with that release
  pub work_of_front : (k from to : ℕ) → k < length jobs → from ≤ (job_at jobs k).release → ((i : ℕ) → k < i → i < length jobs → (job_at jobs i).release < from) →
      work_within jobs from to ≡ due_work (take (k + 1) jobs) to
  work_of_front k from to within released last =
      omega (
        arith,
        front k from to within released,
        sum_by-take-drop (part_within from to) jobs (k + 1),
        sum_by_zero (part_within from to) (drop (k + 1) jobs)
            (λ i d below.
            let there : k + 1 + i < length jobs = omega (arith, below, length-drop (k + 1) jobs) in
            part_early from to (get_or (drop (k + 1) jobs) i d) (omega (
              arith,
              last (k + 1 + i) (omega arith) there,
              ap (λ (job : Job). job.release) (get_or-drop (k + 1) jobs i d),
              ap (λ (job : Job). job.release) (get_or_default jobs (k + 1 + i) d no_job there),
            ))),
      )

  -- the last job with a release
  pub last_with : (from : ℕ) → Any (λ (job : Job). job.release ≡ from) jobs →
      (k : ℕ) × (k < length jobs) × (from ≡ (job_at jobs k).release) × ((i : ℕ) → k < i → i < length jobs → (job_at jobs i).release < from)
  last_with from some =
      let j = some.0 in
      let read : (job_at jobs j).release ≡ from =
      ap (λ (job : Job). job.release) (get_or_default jobs j no_job some.1 some.2 ∙ some.3) ∙ some.4 in
      let found = last_of (length jobs) (λ i. nat_le from (job_at jobs i).release) j some.2 (le-leb from (job_at jobs j).release (omega (arith, read))) in (
        found.0,
        found.1,
        elim (cases_lt found.0 j) [
          | inl before ↦ absurd (true≢false (sym (le-leb from (job_at jobs j).release (omega (arith, read))) ∙ found.3 j before some.2))
          | inr after ↦ omega (arith, leb-true from (job_at jobs found.0).release found.2, falling j found.0 after found.1, read)
        ],
        λ i after below. leb-false from (job_at jobs i).release (found.3 i after below),
      )
