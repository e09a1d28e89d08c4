-- The speed of Average Rate, where it never rounded: in each unit it is what stands there of another schedule's work, each job's work
-- spread evenly over its window.
use Rattle.yds_model.proofs.Common.{◌≡◌, ℕ, suc, ◌+◌, ◌-◌, ◌*◌, ◌/◌, ◌^◌, ◌<◌, ◌≤◌, ◌∣◌, ◌∙◌, ◌==◌, if◌then◌else◌, max, List, [], ◌∷◌, length, get_or, sym, subst, ap, arith, inl, inr, cond, true, nat_le, nat_lt, sum_by, sum_by-cons, All, All-contains, Contains, Contains-get_or, contains_filter, IsRunAt, slots_in, mul_comm, cases_eq, cases_Bool, eq-eqb, ne_eqb, and_parts, cond-true, cond-false, le-leb, lt-ltb, leb-true, ltb-true, mul-pos, mul-le-mul_left, mul-le-mul_right, eq_of_mul-eq-mul_left, eq_of_mul-eq-mul_right, div-mul_cancel, Job, no_job, job_at, WholeSlot, work_given, Piece, stretches, stretch_at, LiesIn, IsFeasibleAt, numbers_of, is_live, term_of, terms_of, work_in, sum_by-add, sum_by-mul, sum_by_same, sum_by_at_most, sum_by-filter}
use Rattle.model_lemmas.proofs.Runs.{run_forward}
use Rattle.base.specs.Numbers.{sum_below}
use Rattle.model_lemmas.proofs.SumsBelow.{sum_below_at_most}
use Rattle.yds_events.specs.Stretch.{no_stretch}
use Rattle.yds_events.proofs.Neighbours.{stretch_forward, deadline_outside}
use Rattle.yds_laws.specs.RunLaws.{HasWholeTerms, DoesItsTerms}
use Rattle.yds_laws.proofs.Group.{group, group-nil, group-cons, group_at_most}
use Rattle.yds_laws.proofs.Served.{all_numbers, counted_once}
use Rattle.yds_laws.proofs.JobNumbers.{sum_by_number}
use Rattle.yds_laws.proofs.ExactRates.{stretch_of_slot}
use Rattle.std.proofs.Math.Nat.{pow-le-pow_left}
use Rattle.model_lemmas.proofs.Time.{before, here, one_running}
use Rattle.yds_energy.proofs.SpentEnergy.{IsEven}
use Rattle.yds_energy.proofs.EvenStretches.{run_even}
use Rattle.yds_energy.proofs.StretchSlots.{lies, lies_passes}
use Rattle.yds_ratios.proofs.Below.{sum_below_list, count_here}
use Rattle.yds_ratios.proofs.Telescoped.{after, is_since, is_until, left, right}
use Rattle.yds_ratios.proofs.Balanced.{once, here_few, here_told}
use Rattle.yds_ratios.proofs.WholeSpeeds.{takes, speed, HasSpeed, spent}

-- # The share of a stretch

-- how long a job's window is, or 1
abbrev pub window : Job → ℕ
window job = max 1 (job.deadline - job.release)

-- a multiple of the windows' lengths, over the job's
abbrev pub share : List Job → ℕ → ℕ → ℕ
share jobs windows number = windows / window (job_at jobs number)

-- it, where the stretch lies in the job's window
abbrev pub live_share : List Job → ℕ → Piece → ℕ → ℕ
live_share jobs windows stretch number = cond (is_live stretch (job_at jobs number)) (share jobs windows number) 0

-- the work of the live jobs, each times its share
abbrev pub live_work : List Job → ℕ → Piece → ℕ
live_work jobs windows stretch = sum_by (λ number. live_share jobs windows stretch number * (job_at jobs number).work) (numbers_of jobs)

-- a live job's window is as long as it is
live_window : (stretch : Piece) (job : Job) → is_live stretch job ≡ true → window job ≡ job.deadline - job.release
live_window stretch job live = grind arith

module _ (jobs : List Job) (windows : ℕ) (divided : All (λ job. window job ∣ windows) jobs) where
  -- a share times the window's length is the multiple
  shared : (number : ℕ) → number < length jobs → share jobs windows number * window (job_at jobs number) ≡ windows
  shared number known = div-mul_cancel (window (job_at jobs number)) (divided number no_job known)

  -- a job's part of a stretch, times the multiple
  term_shared : (grid : ℕ) (stretch : Piece) (number : ℕ) → number < length jobs → HasWholeTerms jobs grid stretch →
      windows * cond (is_live stretch (job_at jobs number)) (term_of grid stretch (job_at jobs number)) 0
      ≡ grid * (stretch.to - stretch.from) * (live_share jobs windows stretch number * (job_at jobs number).work)
  term_shared grid stretch number known whole = elim (cases_Bool (is_live stretch (job_at jobs number))) [
    | inr dead ↦ rw dead (omega arith)
    | inl live ↦
        let job = job_at jobs number in
        let part = whole number no_job known live in
        let long = live_window stretch job live in
        rw live (omega (
          arith,
          ap (λ m. m * term_of grid stretch job) (shared number known),
          ap (λ m. share jobs windows number * term_of grid stretch job * m) long,
          ap (λ m. share jobs windows number * m) part,
        ))
  ]

  -- all parts of a stretch, times it
  terms_shared : (grid : ℕ) (stretch : Piece) → HasWholeTerms jobs grid stretch →
      windows * terms_of jobs grid stretch ≡ grid * (stretch.to - stretch.from) * live_work jobs windows stretch
  terms_shared grid stretch whole =
      ap (λ m. windows * m) (sum_by-filter (is_live stretch) (term_of grid stretch) jobs
      ∙ sym (sum_by_number (λ job. cond (is_live stretch job) (term_of grid stretch job) 0) jobs))
      ∙ sym (sum_by-mul windows (λ number. cond (is_live stretch (job_at jobs number)) (term_of grid stretch (job_at jobs number)) 0) (numbers_of jobs))
      ∙ sum_by_same (λ number. windows * cond (is_live stretch (job_at jobs number)) (term_of grid stretch (job_at jobs number)) 0)
      (λ number. grid * (stretch.to - stretch.from) * (live_share jobs windows stretch number * (job_at jobs number).work)) (numbers_of jobs)
      (all_numbers (λ number. windows * cond (is_live stretch (job_at jobs number)) (term_of grid stretch (job_at jobs number)) 0
      ≡ grid * (stretch.to - stretch.from) * (live_share jobs windows stretch number * (job_at jobs number).work)) jobs
      (λ number known. term_shared grid stretch number known whole))
      ∙ sum_by-mul (grid * (stretch.to - stretch.from)) (λ number. live_share jobs windows stretch number * (job_at jobs number).work) (numbers_of jobs)

  -- so what the stretch does
  pub work_shared : (grid scale : ℕ) (slots : List WholeSlot) (stretch : Piece) → 1 ≤ grid → DoesItsTerms jobs grid scale slots stretch →
      work_in scale stretch slots * windows ≡ scale * (stretch.to - stretch.from) * live_work jobs windows stretch
  work_shared grid scale slots stretch some does =
      eq_of_mul-eq-mul_left grid some (work_in scale stretch slots * windows) (scale * (stretch.to - stretch.from) * live_work jobs windows stretch)
      (omega (
        arith,
        ap (λ m. m * windows) does.does,
        ap (λ m. scale * m) (terms_shared grid stretch does.whole),
      ))

-- # What another schedule gives

-- of a job's own slots its number's weight counts, and of another's nothing
own_weight : (weight : ℕ → ℕ) (job number work : ℕ) → cond (job == number) 1 0 * (weight job * work) ≡ weight number * (if number == job then work else 0)
own_weight weight job number work = elim (cases_eq job number) [
  | inl same ↦ rw (eq-eqb job number same, eq-eqb number job (sym same), same) (omega arith)
  | inr other ↦ rw (ne_eqb job number other, ne_eqb number job (λ is. other (sym is))) (omega arith)
]

-- what slots give numbers, each times its weight, is the sum over their slots
weighed_together : (weight : ℕ → ℕ) (members : List ℕ) (slots : List WholeSlot) →
    sum_by (λ number. weight number * work_given slots number) members ≡ group (λ slot. weight slot.job * slot.work) members slots
weighed_together weight [] slots = omega (arith, group-nil (λ slot. weight slot.job * slot.work) slots)
weighed_together weight (x ∷ xs) slots =
    omega (
      arith,
      sum_by-cons (λ number. weight number * work_given slots number) x xs,
      group-cons (λ slot. weight slot.job * slot.work) x xs slots,
      sum_by_same (λ slot. cond (slot.job == x) 1 0 * (weight slot.job * slot.work)) (λ slot. weight x * (if x == slot.job then slot.work else 0)) slots
          (λ k d within. own_weight weight (get_or slots k d).job x (get_or slots k d).work),
      sum_by-mul (weight x) (λ slot. if x == slot.job then slot.work else 0) slots,
      weighed_together weight xs slots,
    )

-- in plain numbers: a slot's parts before a unit and from it on are all of it
all_spread : (base work weight part per long since until late early : ℕ) → weight ≡ part → since ≡ 1 → until ≡ 1 → late + early ≡ long → per * long ≡ base →
    base * (weight * work) ≤ since * (work * per * part) * late + until * (work * per * part) * early
all_spread base work weight part per long since until late early is begun unended all times =
    rw (is, begun, unended, ← times, ← all) (omega arith)

-- # The speed of a slot

-- where the window of a slot's job begins, in parts of the scale
abbrev pub begins : List Job → ℕ → WholeSlot → ℕ
begins jobs scale slot = (job_at jobs slot.job).release * scale

-- and where it ends
abbrev pub ends : List Job → ℕ → WholeSlot → ℕ
ends jobs scale slot = (job_at jobs slot.job).deadline * scale

-- a slot's speed at the multiple, spread over its job's window
abbrev pub rate : List Job → ℕ → ℕ → WholeSlot → ℕ
rate jobs base windows slot = slot.work * (base / takes slot) * share jobs windows slot.job

-- the multiple at which all speeds are whole, and all rates
abbrev pub whole : ℕ → ℕ → ℕ → ℕ
whole scale base windows = base * (windows * scale)

module _ (jobs : List Job) (scale base windows : ℕ) (positive : 1 ≤ scale) (some : 1 ≤ windows) (divided : All (λ job. window job ∣ windows) jobs) where
  -- a slot of the run has the stretch's speed
  run_speed : (grid : ℕ) (slots : List WholeSlot) (stretch : Piece) (slot : WholeSlot) → 1 ≤ grid → stretch.from < stretch.to →
      DoesItsTerms jobs grid scale slots stretch → slot.work * ((stretch.to - stretch.from) * scale) ≡ work_in scale stretch slots * takes slot →
      HasSpeed (whole scale base windows) slot → speed (whole scale base windows) slot ≡ base * (scale * live_work jobs windows stretch)
  run_speed grid slots stretch slot some_grid forward does even has =
      let long : ℕ = (stretch.to - stretch.from) * scale in
      let shared = work_shared jobs windows divided grid scale slots stretch some_grid does in
      let work : windows * slot.work ≡ live_work jobs windows stretch * takes slot =
      eq_of_mul-eq-mul_left long (mul-pos (let ahead : 1 ≤ stretch.to - stretch.from = omega (arith, forward) in ahead) positive)
      (windows * slot.work) (live_work jobs windows stretch * takes slot)
      (omega (arith, ap (λ m. m * windows) even, ap (λ m. m * takes slot) shared)) in
      eq_of_mul-eq-mul_right (takes slot) has.some (speed (whole scale base windows) slot) (base * (scale * live_work jobs windows stretch))
      (omega (arith, has.is, ap (λ m. base * scale * m) work))

  -- the other schedule gives the live jobs that work
  work_spread : (others : List WholeSlot) (stretch : Piece) → IsFeasibleAt jobs scale others →
      scale * live_work jobs windows stretch ≤ sum_by (λ slot. live_share jobs windows stretch slot.job * slot.work) others
  work_spread others stretch feasible =
      let weight = live_share jobs windows stretch in
      omega (
        arith,
        sum_by-mul scale (λ number. weight number * (job_at jobs number).work) (numbers_of jobs),
        sum_by_same (λ number. scale * (weight number * (job_at jobs number).work)) (λ number. weight number * work_given others number) (numbers_of jobs)
            (all_numbers (λ number. scale * (weight number * (job_at jobs number).work) ≡ weight number * work_given others number) jobs
            (λ number known. omega (arith, ap (λ m. weight number * m) (feasible.served number known)))),
        weighed_together weight (numbers_of jobs) others,
        group_at_most (λ slot. weight slot.job * slot.work) (numbers_of jobs) others (λ number. counted_once number 0 (length jobs)),
      )

  -- in a unit of the stretch, of a slot of a live job stands what comes at that unit or later, and what comes before
  slot_spread : (k unit : ℕ) (slot : WholeSlot) → k < length (stretches jobs) → (stretch_at jobs k).from * scale ≤ unit → unit < (stretch_at jobs k).to * scale →
      slot.from < slot.to → slot.job < length jobs → takes slot ∣ base →
      base * (live_share jobs windows (stretch_at jobs k) slot.job * slot.work)
      ≤ is_since (begins jobs scale slot) unit * rate jobs base windows slot * after slot.from slot.to unit
      + is_until (ends jobs scale slot) unit * rate jobs base windows slot * before slot.from slot.to unit
  slot_spread k unit slot within from below forward known divides =
      let stretch = stretch_at jobs k in
      let job = job_at jobs slot.job in
      let part : ℕ = rate jobs base windows slot in
      elim (cases_Bool (is_live stretch job)) [
        | inr dead ↦ omega (arith, ap (λ m. base * (m * slot.work)) (cond-false {A = ℕ} (is_live stretch job) (share jobs windows slot.job) 0 dead))
        | inl live ↦
            let both = and_parts (nat_le job.release stretch.from) (nat_lt stretch.from job.deadline) live in
            let due : stretch.to ≤ job.deadline = elim (deadline_outside jobs slot.job k known within) [
              | inl over ↦ absurd (omega (arith, over, ltb-true _ _ both.1))
              | inr upto ↦ upto
            ] in
            let since : is_since (begins jobs scale slot) unit ≡ 1 =
            cond-true {A = ℕ} _ 1 0 (le-leb _ _ (omega (arith, from, mul-le-mul_right scale (leb-true _ _ both.0)))) in
            let until : is_until (ends jobs scale slot) unit ≡ 1 =
            cond-true {A = ℕ} _ 1 0 (lt-ltb _ _ (omega (arith, below, mul-le-mul_right scale due))) in
            let all : after slot.from slot.to unit + before slot.from slot.to unit ≡ takes slot = omega (arith, forward) in
            all_spread base slot.work (live_share jobs windows stretch slot.job) (share jobs windows slot.job) (base / takes slot) (takes slot)
            (is_since (begins jobs scale slot) unit) (is_until (ends jobs scale slot) unit) (after slot.from slot.to unit) (before slot.from slot.to unit)
            (cond-true {A = ℕ} (is_live stretch job) (share jobs windows slot.job) 0 live) since until all (div-mul_cancel (takes slot) divides)
      ]

  -- So in a unit of one of the run's slots as much stands, of what is to come and of what has come, as the slot's speed.
  unit_speed : (grid k unit : ℕ) (slots others : List WholeSlot) (slot : WholeSlot) → 1 ≤ grid → k < length (stretches jobs) →
      (stretch_at jobs k).from * scale ≤ unit → unit < (stretch_at jobs k).to * scale → DoesItsTerms jobs grid scale slots (stretch_at jobs k) →
      slot.work * (((stretch_at jobs k).to - (stretch_at jobs k).from) * scale) ≡ work_in scale (stretch_at jobs k) slots * takes slot →
      HasSpeed (whole scale base windows) slot → IsFeasibleAt jobs scale others → All (λ other. takes other ∣ base) others →
      speed (whole scale base windows) slot
      ≤ left (rate jobs base windows) (begins jobs scale) (ends jobs scale) others unit unit + right (rate jobs base windows) (begins jobs scale) (ends jobs scale) others unit unit
  unit_speed grid k unit slots others slot some_grid within from below does even has feasible divides =
      let stretch = stretch_at jobs k in
      let forward = run_forward 0 others feasible.one_at_a_time in
      let come = λ (other : WholeSlot). is_since (begins jobs scale other) unit * rate jobs base windows other * after other.from other.to unit in
      let gone = λ (other : WholeSlot). is_until (ends jobs scale other) unit * rate jobs base windows other * before other.from other.to unit in
      omega (
        arith,
        run_speed grid slots stretch slot some_grid (stretch_forward jobs k within) does even has,
        mul-le-mul_left base (work_spread others stretch feasible),
        sum_by-mul base (λ other. live_share jobs windows stretch other.job * other.work) others,
        sum_by_at_most (λ other. base * (live_share jobs windows stretch other.job * other.work)) (λ other. come other + gone other) others
            (λ i d inside. slot_spread k unit (get_or others i d) within from below (forward i d inside) (feasible.in_windows i d inside).known (divides i d inside)),
        sum_by-add come gone others,
      )

-- # The run

-- nothing stands in an empty list
none_there : (slot : WholeSlot) → Contains [] slot → ⊥
none_there slot (k, within, is) = omega arith

-- a slot of an even stretch has the speed of all of it
even_at : (scale : ℕ) (stretch : Piece) (slots : List WholeSlot) (slot : WholeSlot) → IsEven scale slots stretch → Contains slots slot → LiesIn scale slot stretch →
    slot.work * ((stretch.to - stretch.from) * scale) ≡ work_in scale stretch slots * takes slot
even_at scale stretch slots slot even has lie =
    let there : Contains (slots_in scale stretch slots) slot = contains_filter (lies scale stretch) slots slot (lies_passes scale stretch slot lie) has in
    elim even [
      | inl none ↦ absurd (none_there slot (subst (λ (here : List WholeSlot). Contains here slot) none there))
      | inr full ↦ All-contains (λ one. one.work * ((stretch.to - stretch.from) * scale) ≡ work_in scale stretch slots * takes one) (slots_in scale stretch slots) slot
          full.speeds there
    ]

-- what counts at most once is at most once as much
once_more : (often n m : ℕ) → often ≤ 1 → often * n ≤ often * m → n * often ≤ m
once_more often n m few less = omega (arith, less, mul-le-mul_right m few)

module _ (n grid scale base windows : ℕ) (jobs : List Job) (slots others : List WholeSlot) (capacity : Piece → ℕ) (some_grid : 1 ≤ grid) (positive : 1 ≤ scale)
    (some : 1 ≤ windows) (divided : All (λ job. window job ∣ windows) jobs) (run : IsRunAt jobs grid scale capacity slots)
    (does : All (DoesItsTerms jobs grid scale slots) (stretches jobs)) (has : All (HasSpeed (whole scale base windows)) slots)
    (feasible : IsFeasibleAt jobs scale others) (divides : All (λ other. takes other ∣ base) others) where
  -- what stands in a unit
  abbrev pub stands : ℕ → ℕ
  stands unit =
      left (rate jobs base windows) (begins jobs scale) (ends jobs scale) others unit unit
      + right (rate jobs base windows) (begins jobs scale) (ends jobs scale) others unit unit

  -- a slot in a unit, where it runs there
  slot_stands : (unit i : ℕ) (d : WholeSlot) → i < length slots →
      speed (whole scale base windows) (get_or slots i d) ^ suc n * here (get_or slots i d).from (get_or slots i d).to unit ≤ stands unit ^ suc n
  slot_stands unit i d within =
      let slot = get_or slots i d in
      let (k, inside, lie) = stretch_of_slot jobs scale slot (run.served.uncut i d within) in
      let there = here_few slot.from slot.to unit in
      once_more (here slot.from slot.to unit) (speed (whole scale base windows) slot ^ suc n) (stands unit ^ suc n) there
      (once (here slot.from slot.to unit) (speed (whole scale base windows) slot ^ suc n) (stands unit ^ suc n) there (λ is.
      let told = here_told slot.from slot.to unit is in
      pow-le-pow_left (unit_speed jobs scale base windows positive some divided grid k unit slots others slot some_grid inside
      (omega (arith, lie.from, told.0)) (omega (arith, lie.to, told.1)) (does k no_stretch inside)
      (even_at scale (stretch_at jobs k) slots slot
      (run_even jobs grid scale capacity slots positive run k no_stretch inside)
      (Contains-get_or slots i d within) lie)
      (has i d within) feasible divides) (suc n)))

  -- Over all units: the run's times by the powers of its speeds are at most the powers of what stands in each unit.
  pub run_powers : (end : ℕ) → All (λ slot. slot.to ≤ end) slots → spent n (whole scale base windows) slots ≤ sum_below end (λ unit. stands unit ^ suc n)
  run_powers end ended =
      let power = λ (slot : WholeSlot). speed (whole scale base windows) slot ^ suc n in
      omega (
        arith,
        sum_by_same (λ slot. takes slot * power slot) (λ slot. sum_below end (here slot.from slot.to) * power slot) slots
            (λ i d within.
            let slot = get_or slots i d in
            let over = ended i d within in
            let all : takes slot ≡ sum_below end (here slot.from slot.to) = omega (arith, count_here slot.from slot.to end, over) in
            ap (λ m. m * power slot) all),
        sum_below_list (λ unit slot. here slot.from slot.to unit) power slots end,
        sum_below_at_most end (λ unit. sum_by (λ slot. here slot.from slot.to unit * power slot) slots) (λ unit. stands unit ^ suc n)
            (λ unit inside. omega (
              arith,
              sum_by_same (λ slot. here slot.from slot.to unit * power slot) (λ slot. power slot * here slot.from slot.to unit) slots
                  (λ i d within. mul_comm _ _),
              one_running power 0 unit (stands unit ^ suc n) slots run.feasible.one_at_a_time (λ i d within. slot_stands unit i d within),
            )),
      )
