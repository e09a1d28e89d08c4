-- Average Rate itself in a unit of time: at most what stands there of another schedule's work, each job's work spread evenly over its window. The
-- lemmas up to `slot_spread` are those of `yds_ratios` (AverageSpeeds), which keeps them to itself.
use Rattle.yds_model.proofs.Common.{◌≡◌, ℕ, ◌+◌, ◌-◌, ◌*◌, ◌/◌, ◌<◌, ◌≤◌, ◌∣◌, ◌∙◌, ◌==◌, if◌then◌else◌, map, Bool, false, refl, filter, filter_passes, All-filter, All-tail, List, [], ◌∷◌, length, get_or, sym, ap, arith, inl, inr, cond, true, nat_le, nat_lt, sum_by, sum_by-cons, All, cases_eq, cases_Bool, eq-eqb, ne_eqb, and_parts, cond-true, cond-false, le-leb, lt-ltb, leb-true, ltb-true, mul-le-mul_left, mul-le-mul_right, div-mul_cancel, Job, job_at, WholeSlot, work_given, Piece, stretches, stretch_at, IsFeasibleAt, numbers_of, is_live, sum_by-add, sum_by-mul, sum_by_same, sum_by_at_most, sum_by-filter}
use Rattle.model_lemmas.proofs.Runs.{run_forward}
use Rattle.yds_events.proofs.Neighbours.{deadline_outside}
use Rattle.yds_laws.proofs.Group.{group, group-nil, group-cons, group_at_most}
use Rattle.yds_laws.proofs.Served.{all_numbers, counted_once}
use Rattle.yds_laws.proofs.JobNumbers.{sum_by_number}
use Rattle.model_lemmas.proofs.Time.{before, here}
use Rattle.yds_ratios.proofs.Telescoped.{after, is_since, is_until, left, right}
use Rattle.yds_ratios.proofs.WholeSpeeds.{takes}
use Rattle.yds_ratios.proofs.AverageSpeeds.{window, share, live_share, live_work, begins, ends, rate}
use Rattle.yds_point_laws.specs.PolicyRate.{sum_of, rate_of, policy_speed}

-- # What another schedule gives

-- of a job's own slots its number's weight counts, and of another's nothing
own_weight : (weight : ℕ → ℕ) (job number work : ℕ) → cond (job == number) 1 0 * (weight job * work) ≡ weight number * (if number == job then work else 0)
own_weight weight job number work = elim (cases_eq job number) [
  | inl same ↦ rw (eq-eqb job number same, eq-eqb number job (sym same), same) (omega arith)
  | inr other ↦ rw (ne_eqb job number other, ne_eqb number job (λ is. other (sym is))) (omega arith)
]

-- what slots give numbers, each times its weight, is the sum over their slots
weighed_together : (weight : ℕ → ℕ) (members : List ℕ) (slots : List WholeSlot) →
    sum_by (λ number. weight number * work_given slots number) members ≡ group (λ slot. weight slot.job * slot.work) members slots
weighed_together weight [] slots = omega (arith, group-nil (λ slot. weight slot.job * slot.work) slots)
weighed_together weight (x ∷ xs) slots =
    omega (
      arith,
      sum_by-cons (λ number. weight number * work_given slots number) x xs,
      group-cons (λ slot. weight slot.job * slot.work) x xs slots,
      sum_by_same (λ slot. cond (slot.job == x) 1 0 * (weight slot.job * slot.work)) (λ slot. weight x * (if x == slot.job then slot.work else 0)) slots
          (λ k d within. own_weight weight (get_or slots k d).job x (get_or slots k d).work),
      sum_by-mul (weight x) (λ slot. if x == slot.job then slot.work else 0) slots,
      weighed_together weight xs slots,
    )

-- in plain numbers: a slot's parts before a unit and from it on are all of it
all_spread : (base work weight part per long since until late early : ℕ) → weight ≡ part → since ≡ 1 → until ≡ 1 → late + early ≡ long → per * long ≡ base →
    base * (weight * work) ≤ since * (work * per * part) * late + until * (work * per * part) * early
all_spread base work weight part per long since until late early is begun unended all times =
    rw (is, begun, unended, ← times, ← all) (omega arith)

module _ (jobs : List Job) (scale base windows : ℕ) where
  -- the other schedule gives the live jobs that work
  work_spread : (others : List WholeSlot) (stretch : Piece) → IsFeasibleAt jobs scale others →
      scale * live_work jobs windows stretch ≤ sum_by (λ slot. live_share jobs windows stretch slot.job * slot.work) others
  work_spread others stretch feasible =
      let weight = live_share jobs windows stretch in
      omega (
        arith,
        sum_by-mul scale (λ number. weight number * (job_at jobs number).work) (numbers_of jobs),
        sum_by_same (λ number. scale * (weight number * (job_at jobs number).work)) (λ number. weight number * work_given others number) (numbers_of jobs)
            (all_numbers (λ number. scale * (weight number * (job_at jobs number).work) ≡ weight number * work_given others number) jobs
            (λ number known. omega (arith, ap (λ m. weight number * m) (feasible.served number known)))),
        weighed_together weight (numbers_of jobs) others,
        group_at_most (λ slot. weight slot.job * slot.work) (numbers_of jobs) others (λ number. counted_once number 0 (length jobs)),
      )

  -- in a unit of the stretch, of a slot of a live job stands what comes at that unit or later, and what comes before
  slot_spread : (k unit : ℕ) (slot : WholeSlot) → k < length (stretches jobs) → (stretch_at jobs k).from * scale ≤ unit → unit < (stretch_at jobs k).to * scale →
      slot.from < slot.to → slot.job < length jobs → takes slot ∣ base →
      base * (live_share jobs windows (stretch_at jobs k) slot.job * slot.work)
      ≤ is_since (begins jobs scale slot) unit * rate jobs base windows slot * after slot.from slot.to unit
      + is_until (ends jobs scale slot) unit * rate jobs base windows slot * before slot.from slot.to unit
  slot_spread k unit slot within from below forward known divides =
      let stretch = stretch_at jobs k in
      let job = job_at jobs slot.job in
      let part : ℕ = rate jobs base windows slot in
      elim (cases_Bool (is_live stretch job)) [
        | inr dead ↦ omega (arith, ap (λ m. base * (m * slot.work)) (cond-false {A = ℕ} (is_live stretch job) (share jobs windows slot.job) 0 dead))
        | inl live ↦
            let both = and_parts (nat_le job.release stretch.from) (nat_lt stretch.from job.deadline) live in
            let due : stretch.to ≤ job.deadline = elim (deadline_outside jobs slot.job k known within) [
              | inl over ↦ absurd (omega (arith, over, ltb-true _ _ both.1))
              | inr upto ↦ upto
            ] in
            let since : is_since (begins jobs scale slot) unit ≡ 1 =
            cond-true {A = ℕ} _ 1 0 (le-leb _ _ (omega (arith, from, mul-le-mul_right scale (leb-true _ _ both.0)))) in
            let until : is_until (ends jobs scale slot) unit ≡ 1 =
            cond-true {A = ℕ} _ 1 0 (lt-ltb _ _ (omega (arith, below, mul-le-mul_right scale due))) in
            let all : after slot.from slot.to unit + before slot.from slot.to unit ≡ takes slot = omega (arith, forward) in
            all_spread base slot.work (live_share jobs windows stretch slot.job) (share jobs windows slot.job) (base / takes slot) (takes slot)
            (is_since (begins jobs scale slot) unit) (is_until (ends jobs scale slot) unit) (after slot.from slot.to unit) (before slot.from slot.to unit)
            (cond-true {A = ℕ} (is_live stretch job) (share jobs windows slot.job) 0 live) since until all (div-mul_cancel (takes slot) divides)
      ]

  -- so in a unit of a stretch as much stands, of what is to come and of what has come, as the live jobs' shares
  pub unit_policy : (k unit : ℕ) (others : List WholeSlot) → k < length (stretches jobs) → (stretch_at jobs k).from * scale ≤ unit → unit < (stretch_at jobs k).to * scale →
      IsFeasibleAt jobs scale others → All (λ other. takes other ∣ base) others →
      base * (scale * live_work jobs windows (stretch_at jobs k))
      ≤ left (rate jobs base windows) (begins jobs scale) (ends jobs scale) others unit unit + right (rate jobs base windows) (begins jobs scale) (ends jobs scale) others unit unit
  unit_policy k unit others within from below feasible divides =
      let stretch = stretch_at jobs k in
      let forward = run_forward 0 others feasible.one_at_a_time in
      let come = λ (other : WholeSlot). is_since (begins jobs scale other) unit * rate jobs base windows other * after other.from other.to unit in
      let gone = λ (other : WholeSlot). is_until (ends jobs scale other) unit * rate jobs base windows other * before other.from other.to unit in
      omega (
        arith,
        mul-le-mul_left base (work_spread others stretch feasible),
        sum_by-mul base (λ other. live_share jobs windows stretch other.job * other.work) others,
        sum_by_at_most (λ other. base * (live_share jobs windows stretch other.job * other.work)) (λ other. come other + gone other) others
            (λ i d inside. slot_spread k unit (get_or others i d) within from below (forward i d inside) (feasible.in_windows i d inside).known (divides i d inside)),
        sum_by-add come gone others,
      )

-- # The policy's speed

-- a live job's window is as long as it is
live_window : (stretch : Piece) (job : Job) → is_live stretch job ≡ true → window job ≡ job.deadline - job.release
live_window stretch job live = grind arith

-- in plain numbers: one job's share more
shares_more : (windows window part work all den num : ℕ) → part * window ≡ windows → all * den ≡ windows * num → (part * work + all) * (window * den) ≡ windows * (work * den + num * window)
shares_more windows window part work all den num here rest = omega (arith, ap (λ n. n * work * den) here, ap (λ n. n * window) rest)

-- the shares of live jobs' work are the policy's speed, times the multiple of the windows
shares_are : (windows : ℕ) (stretch : Piece) (jobs : List Job) → All (λ job. is_live stretch job ≡ true) jobs → All (λ job. window job ∣ windows) jobs →
    sum_by (λ job. windows / window job * job.work) jobs * (sum_of (map rate_of jobs)).den ≡ windows * (sum_of (map rate_of jobs)).num
shares_are windows stretch [] live divided = omega arith
shares_are windows stretch (job ∷ jobs) live divided =
    let long : window job ≡ job.deadline - job.release = live_window stretch job (live 0 job (omega arith)) in
    let rest = sum_of (map rate_of jobs) in
    rw (sum_by-cons (λ (one : Job). windows / window one * one.work) job jobs)
    (shares_more windows (job.deadline - job.release) (windows / window job) job.work (sum_by (λ one. windows / window one * one.work) jobs) rest.den rest.num
    (ap (λ n. windows / window job * n) (sym long) ∙ div-mul_cancel (window job) (divided 0 job (omega arith)))
    (shares_are windows stretch jobs (All-tail (λ one. is_live stretch one ≡ true) job jobs live) (All-tail (λ one. window one ∣ windows) job jobs divided)))

-- so it is of the live jobs of all
pub policy_shares : (jobs : List Job) (windows : ℕ) (stretch : Piece) → All (λ job. window job ∣ windows) jobs →
    live_work jobs windows stretch * (policy_speed jobs stretch).den ≡ windows * (policy_speed jobs stretch).num
policy_shares jobs windows stretch divided =
    let live : List Job = filter (is_live stretch) jobs in
    let part = λ (job : Job). windows / window job * job.work in
    let same : live_work jobs windows stretch ≡ sum_by part live =
    sum_by_same (λ number. live_share jobs windows stretch number * (job_at jobs number).work)
    (λ number. cond (is_live stretch (job_at jobs number)) (part (job_at jobs number)) 0) (numbers_of jobs)
    (λ k d within. live_part (is_live stretch (job_at jobs (get_or (numbers_of jobs) k d))) (share jobs windows (get_or (numbers_of jobs) k d)) (job_at jobs (get_or (numbers_of jobs) k d)).work)
    ∙ sum_by_number (λ job. cond (is_live stretch job) (part job) 0) jobs ∙ sym (sum_by-filter (is_live stretch) part jobs) in
    ap (λ n. n * (policy_speed jobs stretch).den) same
    ∙ shares_are windows stretch live (filter_passes (is_live stretch) jobs) (All-filter (is_live stretch) (λ job. window job ∣ windows) jobs divided)
  where
    -- of a live job or none
    live_part : (live : Bool) (part work : ℕ) → cond live part 0 * work ≡ cond live (part * work) 0
    live_part true part work = refl
    live_part false part work = omega arith
