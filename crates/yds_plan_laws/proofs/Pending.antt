-- Optimal Available goes by the plan of what is pending: the work that a pending deadline asks for is what is due by it of the pending jobs, and the
-- greatest quotient is the first level's speed.
use Rattle.yds_model.proofs.Common.{◌≡◌, ℕ, zero, suc, ◌+◌, ◌-◌, ◌*◌, ◌<◌, ◌≤◌, List, [], ◌∷◌, length, get_or, map, filter, fold, max, refl, sym, ap, ◌∙◌, arith, inl, inr, cond, nat_le, nat_lt, ◌&&◌, All, All-cons, All-nil, All-map, All-filter, All-weaker, cases_lt, and_parts, ltb-true, filter_passes, get_or-map, length-map, get_or_default, get_or-le-sum_by, le-leb, subst, slots_at, slots_in, ServesCapacity, optimal_available, sum_by-filter, sum_by-map, div-lt_iff_lt-mul, mul-le-mul_right, mul-le-mul_left, mul-pos, le_of_mul-le-mul_right, eq_of_mul-eq-mul_right, Job, no_job, job_at, WrittenSlot, WholeSlot, Piece, stretches, stretch_at, Level, no_level, level_at, IsPlan, div_up, work_given, pending_at, numbers_of, pending_jobs, due_units, pending_deadlines, asked, units_asked}
use Rattle.std.proofs.Math.Nat.{mul-zero, div-zero}
use Rattle.yds_events.specs.Stretch.{no_stretch, IsOutside}
use Rattle.yds_events.proofs.Neighbours.{deadline_outside, stretch_forward}
use Rattle.yds_laws.specs.RunLaws.{HasGreatestSpeed}
use Rattle.yds_laws.proofs.ExactRuns.{optimal_available_is_exact}
use Rattle.yds_laws.proofs.Served.{all_numbers}
use Rattle.yds_plan_laws.specs.PendingLaws.{what_is_pending, OptimalAvailableGoesByThePlan, TheFirstLevelLasts, OptimalAvailableRunsAsPlanned}
use Rattle.yds_plan_laws.proofs.RunsAlong.{fills_speed}
use Rattle.yds_plan_laws.proofs.FirstLevel.{due_by, none_denser, IsLatest, latest_member, attained, later, one_piece}

-- # Quotients rounded up

-- rounded up, a quotient times the divisor is at least the number (as in `yds_laws`, where it is private),
up_bound : (x y : ℕ) → 1 ≤ y → x ≤ div_up x y * y
up_bound x y some =
    let high : x + (y - 1) < (div_up x y + 1) * y = (div-lt_iff_lt-mul {k = y} {x = x + (y - 1)} {y = div_up x y + 1} some).0 (omega arith) in
    omega (arith, high)

-- and it is the least that is
up_least : (x y n : ℕ) → 1 ≤ y → x ≤ n * y → div_up x y ≤ n
up_least x y n some most =
    let low : div_up x y < n + 1 = (div-lt_iff_lt-mul {k = y} {x = x + (y - 1)} {y = n + 1} some).1 (omega (arith, most, some)) in
    omega (arith, low)

-- so a lesser quotient is less, rounded up
up_less : (x y more size : ℕ) → 1 ≤ y → 1 ≤ size → x * size ≤ more * y → div_up x y ≤ div_up more size
up_less x y more size some takes less =
    up_least x y (div_up more size) some (le_of_mul-le-mul_right {k = size} (omega (arith, less, mul-le-mul_right y (up_bound more size takes))) takes)

-- also where there is none, by 0
up_less_or_none : (x y more size : ℕ) → 1 ≤ size → x * size ≤ more * y → div_up x y ≤ div_up more size
up_less_or_none x zero more size takes less = omega (arith, div-zero (x + (0 - 1)))
up_less_or_none x (suc y) more size takes less = up_less x (suc y) more size (omega arith) takes less

-- # The greatest of some numbers

-- it is at least where it began,
greatest_begins : (a : ℕ) (xs : List ℕ) → a ≤ fold max a xs
greatest_begins a [] = omega arith
greatest_begins a (x ∷ xs) = omega (arith, greatest_begins (max a x) xs)

-- at least each of them,
greatest_above : (a : ℕ) (xs : List ℕ) → All (λ x. x ≤ fold max a xs) xs
greatest_above a [] = All-nil (λ x. x ≤ a)
greatest_above a (x ∷ xs) = All-cons (λ y. y ≤ fold max (max a x) xs) x xs (omega (arith, greatest_begins (max a x) xs)) (greatest_above (max a x) xs)

-- and at most what they all are
greatest_below : (a most : ℕ) (xs : List ℕ) → a ≤ most → All (λ x. x ≤ most) xs → fold max a xs ≤ most
greatest_below a most [] begins each = begins
greatest_below a most (x ∷ xs) begins each =
    greatest_below (max a x) most xs (omega (arith, begins, each 0 x (omega arith))) (λ k d within. each (suc k) d (omega (arith, within)))

-- # What is pending

module _ (jobs : List Job) (scale : ℕ) (slots : List WholeSlot) (stretch : Piece) where
  -- a pending job, as it is in the list of what is pending
  abbrev pending_job : ℕ → Job
  pending_job job = record { release = stretch.from; deadline = (job_at jobs job).deadline; work = pending_at jobs scale slots stretch.from job }

  -- the jobs of that list are the pending ones
  pending_there : (k : ℕ) → k < length (what_is_pending jobs scale slots stretch) →
      job_at (what_is_pending jobs scale slots stretch) k ≡ pending_job (get_or (pending_jobs jobs scale slots stretch) k 0)
  pending_there k within =
      get_or-map pending_job (pending_jobs jobs scale slots stretch) k 0 no_job (omega (arith, within, length-map (pending_jobs jobs scale slots stretch) pending_job))

  -- all released as the stretch starts
  pending_released : (k : ℕ) → k < length (what_is_pending jobs scale slots stretch) → (job_at (what_is_pending jobs scale slots stretch) k).release ≡ stretch.from
  pending_released k within = ap (λ (job : Job). job.release) (pending_there k within)

  -- what a deadline asks for is the work due by it
  due_pending : (grid deadline : ℕ) → due_units jobs grid scale slots stretch deadline ≡ grid * due_by (what_is_pending jobs scale slots stretch) deadline
  due_pending grid deadline =
      ap (λ n. grid * n)
      (sum_by-filter (λ job. nat_le (job_at jobs job).deadline deadline) (pending_at jobs scale slots stretch.from) (pending_jobs jobs scale slots stretch)
      ∙ sym (sum_by-map pending_job (λ (job : Job). cond (nat_le job.deadline deadline) job.work 0) (pending_jobs jobs scale slots stretch)))

  -- where something is pending the scale is one
  some_scale : 0 < length (pending_jobs jobs scale slots stretch) → 1 ≤ scale
  some_scale some =
      let job = get_or (pending_jobs jobs scale slots stretch) 0 0 in
      let passes = filter_passes (λ one. nat_le (job_at jobs one).release stretch.from && nat_lt 0 (pending_at jobs scale slots stretch.from one)) (numbers_of jobs) 0 0 some in
      let left = ltb-true 0 (pending_at jobs scale slots stretch.from job)
      (and_parts (nat_le (job_at jobs job).release stretch.from) (nat_lt 0 (pending_at jobs scale slots stretch.from job)) passes).1 in
      positive (job_at jobs job).work scale (work_given (filter (λ slot. nat_le slot.to (stretch.from * scale)) slots) job) left
    where
      -- a product that leaves something isn't by 0
      positive : (work scale gone : ℕ) → 0 < work * scale - gone → 1 ≤ scale
      positive work zero gone left = absurd (omega (arith, left))
      positive work (suc scale) gone left = omega arith

  -- each has work left
  pending_works : (k : ℕ) → k < length (what_is_pending jobs scale slots stretch) → 1 ≤ (job_at (what_is_pending jobs scale slots stretch) k).work
  pending_works k within =
      let job = get_or (pending_jobs jobs scale slots stretch) k 0 in
      let inside : k < length (pending_jobs jobs scale slots stretch) = omega (arith, within, length-map (pending_jobs jobs scale slots stretch) pending_job) in
      let passes = filter_passes (λ one. nat_le (job_at jobs one).release stretch.from && nat_lt 0 (pending_at jobs scale slots stretch.from one)) (numbers_of jobs) k 0 inside in
      omega (
        arith,
        ap (λ (one : Job). one.work) (pending_there k within),
        ltb-true 0 (pending_at jobs scale slots stretch.from job)
            (and_parts (nat_le (job_at jobs job).release stretch.from) (nat_lt 0 (pending_at jobs scale slots stretch.from job)) passes).1,
      )

  -- where a plan of what is pending has no level nothing is
  none_pending : (planned : List WrittenSlot) → IsPlan (what_is_pending jobs scale slots stretch) planned [] → pending_jobs jobs scale slots stretch ≡ []
  none_pending planned plan = empty (pending_jobs jobs scale slots stretch) (elim (cases_lt 0 (length (what_is_pending jobs scale slots stretch))) [
    | inl some ↦ absurd (omega (arith, (plan.proper.members 0 some).with_work (pending_works 0 some)))
    | inr none ↦ omega (arith, none, length-map (pending_jobs jobs scale slots stretch) pending_job)
  ])
    where
      -- a list of no length is empty
      empty : (xs : List ℕ) → length xs ≤ 0 → xs ≡ []
      empty [] none = refl
      empty (x ∷ xs) none = absurd (omega (arith, none))

  module _ (grid : ℕ) (planned : List WrittenSlot) (levels : List Level) (plan : IsPlan (what_is_pending jobs scale slots stretch) planned levels)
      (some : 0 < length levels) where
    -- what the level does in the stretch, in units of the grid
    abbrev level_does : ℕ
    level_does = div_up (grid * (level_at levels 0).work * (stretch.to - stretch.from)) (scale * (level_at levels 0).length)

    -- no deadline asks for more,
    each_less : All (λ units. units ≤ level_does) (map (asked jobs grid scale slots stretch) (pending_deadlines jobs scale slots stretch))
    each_less =
        All-map (λ units. units ≤ level_does) (asked jobs grid scale slots stretch) (pending_deadlines jobs scale slots stretch) (λ k d within.
        let deadline = get_or (pending_deadlines jobs scale slots stretch) k d in
        let level = level_at levels 0 in
        let long = stretch.to - stretch.from in
        let due = due_by (what_is_pending jobs scale slots stretch) deadline in
        let positive = some_scale (omega (arith, within, length-map (pending_jobs jobs scale slots stretch) (λ job. (job_at jobs job).deadline))) in
        up_less_or_none (due_units jobs grid scale slots stretch deadline * long) (scale * (deadline - stretch.from)) (grid * level.work * long) (scale * level.length)
        (mul-pos positive (plan.proper.well_formed.positive 0 no_level some).1)
        (omega (
          arith,
          mul-le-mul_left (grid * long * scale) (none_denser (what_is_pending jobs scale slots stretch) planned levels plan some stretch.from pending_released deadline),
          ap (λ n. n * long * (scale * level.length)) (due_pending grid deadline),
        )))

    -- and the latest of the level's members does just as much
    latest_asks : (number : ℕ) → IsLatest (what_is_pending jobs scale slots stretch) planned levels plan some stretch.from pending_released number →
        level_does ≤ units_asked jobs grid scale slots stretch
    latest_asks number is =
        let pending = what_is_pending jobs scale slots stretch in
        let numbers = pending_jobs jobs scale slots stretch in
        let deadlines = pending_deadlines jobs scale slots stretch in
        let level = level_at levels 0 in
        let long = stretch.to - stretch.from in
        let deadline = (job_at pending number).deadline in
        let inside : number < length numbers = omega (arith, is.known, length-map numbers pending_job) in
        let there : number < length deadlines = omega (arith, inside, length-map numbers (λ job. (job_at jobs job).deadline)) in
        let positive = some_scale (omega (arith, inside)) in
        let own : get_or (map (asked jobs grid scale slots stretch) deadlines) number 0 ≡ asked jobs grid scale slots stretch deadline =
        get_or-map (asked jobs grid scale slots stretch) deadlines number 0 0 there
        ∙ ap (asked jobs grid scale slots stretch)
        (get_or-map (λ job. (job_at jobs job).deadline) numbers number 0 0 inside ∙ sym (ap (λ (job : Job). job.deadline) (pending_there number is.known))) in
        omega (
          arith,
          up_less (grid * level.work * long) (scale * level.length) (due_units jobs grid scale slots stretch deadline * long) (scale * (deadline - stretch.from))
              (mul-pos positive (plan.proper.well_formed.positive 0 no_level some).1)
              (mul-pos positive (omega (arith, later pending planned levels plan some stretch.from pending_released number is)))
              (omega (
                arith,
                mul-le-mul_left (grid * long * scale) (attained pending planned levels plan some stretch.from pending_released number is),
                ap (λ n. n * long * (scale * level.length)) (due_pending grid deadline),
              )),
          own,
          greatest_above 0 (map (asked jobs grid scale slots stretch) deadlines) number 0
              (omega (arith, there, length-map deadlines (asked jobs grid scale slots stretch))),
        )

    -- each deadline of a pending job is later than the start: the plan serves its work
    deadline_later : (k deadline : ℕ) → k < length (pending_deadlines jobs scale slots stretch) → get_or (pending_deadlines jobs scale slots stretch) k deadline ≡ deadline →
        1 ≤ deadline - stretch.from
    deadline_later k deadline within is =
        let pending = what_is_pending jobs scale slots stretch in
        let numbers = pending_jobs jobs scale slots stretch in
        let inside : k < length numbers = omega (arith, within, length-map numbers (λ job. (job_at jobs job).deadline)) in
        let known : k < length pending = omega (arith, inside, length-map numbers pending_job) in
        let own : (job_at pending k).deadline ≡ deadline =
        ap (λ (job : Job). job.deadline) (pending_there k known) ∙ sym (get_or-map (λ job. (job_at jobs job).deadline) numbers k 0 deadline inside) ∙ is in
        let asks : 1 ≤ due_by pending deadline = omega (
          arith,
          pending_works k known,
          get_or-le-sum_by (λ (job : Job). cond (nat_le job.deadline deadline) job.work 0) pending k no_job known,
          ap {B = ℕ} (λ b. cond b (job_at pending k).work 0) (le-leb (job_at pending k).deadline deadline (omega (arith, own))),
        ) in
        time_left (due_by pending deadline) (level_at levels 0).length (level_at levels 0).work (deadline - stretch.from) asks
        (plan.proper.well_formed.positive 0 no_level some).1 (none_denser pending planned levels plan some stretch.from pending_released deadline)
      where
        -- what has work has time
        time_left : (due size work long : ℕ) → 1 ≤ due → 1 ≤ size → due * size ≤ work * long → 1 ≤ long
        time_left due size work zero some takes does = absurd (omega (arith, does, mul-pos {m = due} {n = size} some takes))
        time_left due size work (suc long) some takes does = omega arith

-- # The laws

-- with no level nothing is pending, and with one the greatest quotient is its speed
pub optimal_available_goes_by_the_plan : OptimalAvailableGoesByThePlan
optimal_available_goes_by_the_plan jobs grid scale slots stretch planned [] plan =
    ap (λ (numbers : List ℕ). fold max 0 (map (asked jobs grid scale slots stretch) (map (λ job. (job_at jobs job).deadline) numbers)))
    (none_pending jobs scale slots stretch planned plan)
    ∙ sym (ap (λ n. div_up (grid * 0 * (stretch.to - stretch.from)) n) (mul-zero scale) ∙ div-zero (grid * 0 * (stretch.to - stretch.from) + (0 - 1)))
optimal_available_goes_by_the_plan jobs grid scale slots stretch planned (level ∷ levels) plan =
    let some : 0 < length (level ∷ levels) = omega arith in
    let (number, is) = latest_member (what_is_pending jobs scale slots stretch) planned (level ∷ levels) plan some stretch.from (pending_released jobs scale slots stretch) in
    omega (
      arith,
      latest_asks jobs scale slots stretch grid planned (level ∷ levels) plan some number is,
      greatest_below 0 (level_does jobs scale slots stretch grid planned (level ∷ levels) plan some)
          (map (asked jobs grid scale slots stretch) (pending_deadlines jobs scale slots stretch)) (omega arith)
          (each_less jobs scale slots stretch grid planned (level ∷ levels) plan some),
    )

-- the latest of the level's members is due at an event point, so not before the stretch's end
pub the_first_level_lasts : TheFirstLevelLasts
the_first_level_lasts jobs scale slots stretch planned levels time (k, within, is) plan some from to =
    let pending = what_is_pending jobs scale slots stretch in
    let numbers = pending_jobs jobs scale slots stretch in
    let (number, latest) = latest_member pending planned levels plan some stretch.from (pending_released jobs scale slots stretch) in
    let inside : number < length numbers = omega (arith, latest.known, length-map numbers (pending_job jobs scale slots stretch)) in
    let known : get_or numbers number 0 < length jobs =
    All-filter (λ one. nat_le (job_at jobs one).release stretch.from && nat_lt 0 (pending_at jobs scale slots stretch.from one)) (λ one. one < length jobs) (numbers_of jobs)
    (all_numbers (λ one. one < length jobs) jobs (λ i below. below)) number 0 inside in
    let there : stretch_at jobs k ≡ stretch = get_or_default (stretches jobs) k no_stretch stretch within ∙ is in
    let due = ap (λ (job : Job). job.deadline) (pending_there jobs scale slots stretch number latest.known) in
    let after = later pending planned levels plan some stretch.from (pending_released jobs scale slots stretch) number latest in
    let ends : stretch.to ≤ (job_at pending number).deadline =
    elim (subst (λ (one : Piece). IsOutside one (job_at jobs (get_or numbers number 0)).deadline) there (deadline_outside jobs (get_or numbers number 0) k known within)) [
      | inl before ↦ absurd (omega (arith, before, due, after))
      | inr enough ↦ omega (arith, enough, due)
    ] in
    rw (one_piece pending planned levels plan some stretch.from (pending_released jobs scale slots stretch) number latest)
    (0, record { from = stretch.from; to = (job_at pending number).deadline }, omega arith, refl, (from, omega (arith, to, ends)))

-- where a deadline asks for just so many units, the level does just that
level_exact : (jobs : List Job) (grid scale : ℕ) (slots : List WholeSlot) (stretch : Piece) (planned : List WrittenSlot) (levels : List Level) → 1 ≤ scale →
    HasGreatestSpeed jobs grid scale slots stretch → IsPlan (what_is_pending jobs scale slots stretch) planned levels →
    units_asked jobs grid scale slots stretch * (scale * (level_at levels 0).length) ≡ grid * (level_at levels 0).work * (stretch.to - stretch.from)
level_exact jobs grid scale slots stretch planned [] positive exact plan = omega arith
level_exact jobs grid scale slots stretch planned (level ∷ levels) positive exact plan =
    let some : 0 < length (level ∷ levels) = omega arith in
    let units = units_asked jobs grid scale slots stretch in
    let long = stretch.to - stretch.from in
    let enough : grid * level.work * long ≤ units * (scale * level.length) = omega (
      arith,
      up_bound (grid * level.work * long) (scale * level.length) (mul-pos positive (plan.proper.well_formed.positive 0 no_level some).1),
      ap (λ n. n * (scale * level.length)) (optimal_available_goes_by_the_plan jobs grid scale slots stretch planned (level ∷ levels) plan),
    ) in
    elim exact.attained [
      | inl none ↦ omega (arith, enough, ap (λ n. n * (scale * level.length)) none)
      | inr (k, deadline, within, is, just) ↦
          let later : 1 ≤ deadline - stretch.from = deadline_later jobs scale slots stretch grid planned (level ∷ levels) plan some k deadline within is in
          let most : units * (scale * level.length) ≤ grid * level.work * long = le_of_mul-le-mul_right {k = deadline - stretch.from} (omega (
            arith,
            ap (λ n. n * level.length) just,
            ap (λ n. n * long * level.length) (due_pending jobs scale slots stretch grid deadline),
            mul-le-mul_left (grid * long) (none_denser (what_is_pending jobs scale slots stretch) planned (level ∷ levels) plan some stretch.from
                (pending_released jobs scale slots stretch) deadline),
          )) later in
          omega (arith, enough, most)
    ]

-- a slot of a stretch that does just so much has the level's speed
slot_exact : (grid scale long units work size given time : ℕ) → 1 ≤ grid → 1 ≤ long → units * (scale * size) ≡ grid * work * long →
    given * (grid * long * scale) ≡ scale * units * time → given * (scale * size) ≡ work * time
slot_exact grid scale long units work size given time some lasts does speed =
    eq_of_mul-eq-mul_right (grid * long) (mul-pos some lasts) (given * (scale * size)) (work * time)
    (omega (arith, ap (λ n. n * size) speed, ap (λ n. n * time) does))

-- each slot of a stretch has the speed of what the stretch serves
served_speed : (grid scale capacity : ℕ) (stretch : Piece) (slots : List WholeSlot) → ServesCapacity grid scale capacity stretch slots →
    All (λ slot. slot.work * (grid * (stretch.to - stretch.from) * scale) ≡ capacity * (slot.to - slot.from)) (slots_in scale stretch slots)
served_speed grid scale zero stretch slots nothing =
    rw nothing (All-nil (λ (slot : WholeSlot). slot.work * (grid * (stretch.to - stretch.from) * scale) ≡ 0 * (slot.to - slot.from)))
served_speed grid scale (suc capacity) stretch slots fills =
    fills_speed (suc capacity) (grid * (stretch.to - stretch.from) * scale) (stretch.from * scale) (stretch.to * scale) (slots_in scale stretch slots) fills

-- so each slot of a run that never rounded does
pub optimal_available_runs_as_planned : OptimalAvailableRunsAsPlanned
optimal_available_runs_as_planned jobs grid scale slots planned stretch levels some run is (k, within, same) plan =
    let whole = slots_at scale slots in
    let stands = (run.run.holds scale is).each k stretch within in
    let there : stretch_at jobs k ≡ stretch = get_or_default (stretches jobs) k no_stretch stretch within ∙ same in
    let lasts : 1 ≤ stretch.to - stretch.from = omega (
      arith,
      stretch_forward jobs k within,
      ap (λ (one : Piece). one.from) there,
      ap (λ (one : Piece). one.to) there,
    ) in
    let exact : HasGreatestSpeed jobs grid scale whole stretch =
    subst (HasGreatestSpeed jobs grid scale whole) same ((optimal_available_is_exact jobs grid slots some run).holds scale is k stretch within) in
    let does = level_exact jobs grid scale whole stretch planned levels is.positive exact plan in
    let units = units_asked jobs grid scale whole stretch in
    let size = (level_at levels 0).length in
    let work = (level_at levels 0).work in
    let long = stretch.to - stretch.from in
    All-weaker (λ slot. slot.work * (grid * long * scale) ≡ scale * units * (slot.to - slot.from)) (λ slot. slot.work * (scale * size) ≡ work * (slot.to - slot.from))
    (λ slot speed. slot_exact grid scale long units work size slot.work (slot.to - slot.from) some lasts does speed) (slots_in scale stretch whole)
    (served_speed grid scale (scale * units) stretch whole
    (subst (λ (one : Piece). ServesCapacity grid scale (optimal_available jobs grid scale whole one) one whole) same stands))
