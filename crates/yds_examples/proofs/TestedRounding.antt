-- Tests of rounding and admission: energy on points, the parts of a split, which jobs can be served, and which interval is the first to be overfull.
use Rattle.yds_model.proofs.Common.{◌≡◌, ℕ, zero, suc, ◌+◌, ◌-◌, ◌*◌, ◌<◌, ◌≤◌, ◌⊎◌, List, [], ◌∷◌, ◌++◌, length, map, Bool, true, false, ◌&&◌, ◌==◌, nat_lt, refl, arith, inl, inr, eqb-true, All, Contains, cases_lt, and_parts, ltb-true, All-contains, Contains-get_or, count, AreDifferent, Job, job_at, work_of, Fraction, numerator, WrittenSlot, WholeSlot, slots_at, work_given, Piece, Level, Point, no_point, point_at, idle, SpendsAtPoints, LiesWritten, top_of, IsTooFast, jobs_in_turn, RunsAtPoint, RunsOn, HasSplitDenominators, AreNeighbours, SplitsStretch, RoundsStretches, IsEnergyOf, IsWithinTop, CanServe, IsOverfull, IsFirstOverfull, counted_contains}
use Rattle.yds_laws.proofs.Bound.{served_at_speed}
use Rattle.yds_energy.proofs.RoundingScale.{one_scale_decides_energy, one_scale_decides_split}
use Rattle.yds_examples.proofs.Tests.{Test, tests, proved, test_never, test_le, test_like, test_both, test_implied, test_all}
use Rattle.yds_examples.proofs.TestedSchedules.{is_scale, feasible_at}

-- # Energy

-- each slot runs at the speed of the point at its place
abbrev pub run_at_places : List Point → List ℕ → List WholeSlot → Bool
run_at_places points [] [] = true
run_at_places points (place ∷ places) (slot ∷ slots) =
    nat_lt place (length points) && ((slot.work == (point_at points place).speed * (slot.to - slot.from)) && run_at_places points places slots)
run_at_places points _ _ = false

-- what they spend then
abbrev pub spent_at_places : List Point → List ℕ → List WholeSlot → ℕ
spent_at_places points (place ∷ places) (slot ∷ slots) = (point_at points place).power * (slot.to - slot.from) + spent_at_places points places slots
spent_at_places points _ _ = 0

-- so this is what the slots spend
spends_by_test : (points : List Point) (places : List ℕ) (slots : List WholeSlot) → run_at_places points places slots ≡ true →
    SpendsAtPoints points slots (spent_at_places points places slots)
spends_by_test points [] [] passed = refl
spends_by_test points (place ∷ places) [] passed = absurd cc
spends_by_test points [] (slot ∷ slots) passed = absurd cc
spends_by_test points (place ∷ places) (slot ∷ slots) passed =
    let within = and_parts (nat_lt place (length points)) _ passed in
    let runs = and_parts (slot.work == (point_at points place).speed * (slot.to - slot.from)) (run_at_places points places slots) within.1 in (
      point_at points place,
      spent_at_places points places slots,
      Contains-get_or points place no_point (ltb-true place (length points) within.0),
      eqb-true slot.work ((point_at points place).speed * (slot.to - slot.from)) runs.0,
      spends_by_test points places slots runs.1,
      refl,
    )

module _ (jobs : List Job) (points : List Point) (places : List ℕ) (slots : List WrittenSlot) (energy : Fraction) (scale : ℕ) where
  -- what they spend at a scale, with the idle time
  abbrev pub spent_with_idle : ℕ
  spent_with_idle = spent_at_places points places (slots_at scale slots) + (point_at points 0).power * idle jobs scale (slots_at scale slots)

  -- the energy on points, where it is this fraction at one scale, is so at each
  pub energy_by_test : (is_scale scale slots).passes ≡ true → 1 ≤ energy.den → run_at_places points places (slots_at scale slots) ≡ true →
      spent_with_idle * energy.den ≡ numerator energy * scale → IsEnergyOf jobs points slots energy
  energy_by_test is positive runs same =
      one_scale_decides_energy jobs points slots energy scale spent_with_idle positive (proved (is_scale scale slots) is)
      (spent_at_places points places (slots_at scale slots), spends_by_test points places (slots_at scale slots) runs, refl) same

-- # Splits

-- no number stands twice
abbrev pub different : (numbers : List ℕ) → Test (AreDifferent numbers)
different numbers =
    test_like (λ h number. elim (cases_lt (count number numbers) 1) [
      | inl none ↦ omega (arith, none)
      | inr some ↦ All-contains (λ number. count number numbers ≤ 1) numbers number h (counted_contains number numbers some)
    ]) (λ different i number within. different _) (test_all (λ number. test_le (count number numbers) 1) numbers)

-- the denominators of a split
abbrev pub split_denominators : (level : Level) (gap speed : ℕ) (slot : WrittenSlot) → Test (HasSplitDenominators level gap speed slot)
split_denominators level gap speed slot = hlevel tests

-- levels that aren't too fast
abbrev pub slow_enough : (points : List Point) (levels : List Level) → Test (All (λ level. IsTooFast points level → ⊥) levels)
slow_enough points levels = test_all (λ level. test_implied (test_le (suc (top_of points * level.length)) level.work) test_never) levels

-- slots that run at a speed without a gap
abbrev pub runs_at_point : (speed from to : ℕ) (slots : List WholeSlot) → Test (RunsAtPoint speed from to slots)
runs_at_point speed from to [] = hlevel tests
runs_at_point speed from to (slot ∷ slots) = hlevel (tests, runs_at_point speed slot.to to slots)

-- or not at all at the speed 0
abbrev pub runs_on : (speed from to : ℕ) (slots : List WholeSlot) → Test (RunsOn speed from to slots)
runs_on zero from to slots = hlevel tests
runs_on (suc speed) from to slots = runs_at_point (suc speed) from to slots

-- a written slot in a stretch
abbrev pub lies_written : (stretch : Piece) (slot : WrittenSlot) → Test (LiesWritten slot stretch)
lies_written stretch slot = hlevel tests

-- The points at a place of the hull and the next one stand around a level's speed.
module _ (place : ℕ) (hull : List Point) (level : Level) where
  abbrev pub low : Point
  low = point_at hull place

  abbrev pub high : Point
  high = point_at hull (place + 1)

  abbrev pub are_around : Test ((place + 1 < length hull) × (low.speed * level.length < level.work) × (level.work < high.speed * level.length))
  are_around = hlevel tests

  pub neighbours_by_test : are_around.passes ≡ true → AreNeighbours hull level low high
  neighbours_by_test passed =
      let beside = proved are_around passed in record { place = place; within = beside.0; is_low = refl; is_high = refl; above_low = beside.1; below_high = beside.2 }

-- The slots at the two points of a place of the hull and the next one, with so much time at the faster one.
module _ (scale time place : ℕ) (hull : List Point) (level : Level) (stretch : Piece) (planned fast slow : List WrittenSlot) where
  abbrev pub faster : Point
  faster = high place hull level

  abbrev pub slower : Point
  slower = low place hull level

  -- all slots of the split at the scale, and the plan's
  abbrev pub whole : List WholeSlot
  whole = slots_at scale fast ++ slots_at scale slow

  -- they run in the plan's order; each job has one slot at each of the two points, with the denominators of a split
  abbrev pub is_split : Test (
      (time * (level.length * (faster.speed - slower.speed)) ≡ (level.work - slower.speed * level.length) * ((stretch.to - stretch.from) * scale))
      × RunsAtPoint faster.speed (stretch.from * scale) (stretch.from * scale + time) (slots_at scale fast)
      × RunsOn slower.speed (stretch.from * scale + time) (stretch.to * scale) (slots_at scale slow)
      × (jobs_in_turn whole ≡ jobs_in_turn (slots_at scale planned)) × AreDifferent (map (λ slot. slot.job) fast) × AreDifferent (map (λ slot. slot.job) slow)
      × All (HasSplitDenominators level (faster.speed - slower.speed) faster.speed) fast × All (HasSplitDenominators level (faster.speed - slower.speed) slower.speed) slow)
  is_split = hlevel (tests, runs_at_point, runs_on, different, split_denominators)

  -- written slots are a split where they pass the tests at one scale and do the same work
  pub splits_by_test : (are_around place hull level).passes ≡ true → (is_scale scale (planned ++ fast ++ slow)).passes ≡ true → is_split.passes ≡ true →
      ((job : ℕ) → work_given whole job ≡ work_given (slots_at scale planned) job) →
      SplitsStretch hull level stretch planned (fast ++ slow)
  splits_by_test around is split same =
      let at = proved is_split split in
      record {
        low = slower;
        high = faster;
        around = neighbours_by_test place hull level around;
        fast = fast;
        slow = slow;
        parts = refl;
        split = one_scale_decides_split level slower faster stretch planned fast slow scale (proved (is_scale scale (planned ++ fast ++ slow)) is)
            (record { time = time; is_time = at.0; first = at.1; then_slow = at.2; same_order = at.3; same_work = same });
        fast_once = at.4;
        slow_once = at.5;
        fast_denominators = at.6;
        slow_denominators = at.7;
      }

-- the slots of a stretch lie in it, and their jobs are members of a level
abbrev pub are_served : (stretch : Piece) (level : Level) (slots : List WrittenSlot) →
    Test (All (λ slot. LiesWritten slot stretch) slots × All (λ slot. Contains level.members slot.job) slots)
are_served stretch level slots = hlevel (tests, lies_written stretch)

-- so where they are split, and the stretches after this one are rounded, the stretches from this one on are
pub rounds_next : {hull : List Point} {level : Level} {stretch : Piece} {here made : List WrittenSlot} (levels : List Level) (others : List Piece)
    (later made_later : List WrittenSlot) → Contains levels level → (are_served stretch level here).passes ≡ true → SplitsStretch hull level stretch here made →
    RoundsStretches hull levels others later made_later → RoundsStretches hull levels (stretch ∷ others) (here ++ later) (made ++ made_later)
rounds_next {level = level} {stretch = stretch} {here = here} {made = made} levels others later made_later is passed splits rest =
    let served = proved (are_served stretch level here) passed in (here, later, made, made_later, refl, refl, served.0, inr (level, is, served.1, inr splits), rest)

-- # Admission

-- a slot that isn't faster than the top speed
abbrev pub within_top : (top : ℕ) (slot : WholeSlot) → Test (IsWithinTop top slot)
within_top top slot = hlevel tests

-- Slots of whole numbers, none faster than the top speed, that are feasible serve the jobs.
pub can_serve : (top : ℕ) (jobs : List Job) (slots : List WholeSlot) → (feasible_at jobs 1 slots).passes ≡ true →
    (test_all (within_top top) slots).passes ≡ true → CanServe top jobs
can_serve top jobs slots feasible within =
    let at_most = proved (test_all (within_top top) slots) within in
    record { scale = 1; positive = omega arith; slots = slots; feasible = proved (feasible_at jobs 1 slots) feasible; within_top = at_most }

module _ (top from to : ℕ) (jobs : List Job) (numbers : List ℕ) where
  -- Different jobs that lie in an interval and want more than the top speed can serve there can't be served.
  abbrev pub is_crowd : Test (AreDifferent numbers × All (λ number. number < length jobs) numbers
      × All (λ number. (from ≤ (job_at jobs number).release) × ((job_at jobs number).deadline ≤ to)) numbers)
  is_crowd =
      hlevel (tests, different, test_all (λ number. test_both (test_le from (job_at jobs number).release) (test_le (job_at jobs number).deadline to)) numbers)

  pub cant_serve : from < to → is_crowd.passes ≡ true → top * (to - from) < work_of jobs numbers → CanServe top jobs → ⊥
  cant_serve forward passed much serve =
      let crowd = proved is_crowd passed in
      absurd (omega (
        arith,
        served_at_speed jobs serve.scale top from to serve.slots numbers serve.positive forward serve.feasible serve.within_top crowd.0 crowd.1 crowd.2,
      ))

-- the interval comes no later than another one, if that is overfull
abbrev pub ComesFirst : List Job → ℕ → List ℕ → ℕ → ℕ → ℕ → ℕ → Type 0
ComesFirst jobs top numbers from to other_from other_to =
    IsOverfull jobs top numbers other_from other_to → (from < other_from) ⊎ ((from ≡ other_from) × (to ≤ other_to))

module _ (jobs : List Job) (top : ℕ) (numbers : List ℕ) where
  -- an overfull interval
  abbrev pub overfull : (from to : ℕ) → Test (IsOverfull jobs top numbers from to)
  overfull from to = hlevel tests

  module _ (from to : ℕ) where
    -- one from a job's release to another's deadline
    abbrev pub comes_first : (one other : ℕ) → Test (ComesFirst jobs top numbers from to (job_at jobs one).release (job_at jobs other).deadline)
    comes_first one other = hlevel (tests, overfull)

    -- each of them
    abbrev pub ComesFirstOfAll : Type 0
    ComesFirstOfAll = All (λ one. All (λ other. ComesFirst jobs top numbers from to (job_at jobs one).release (job_at jobs other).deadline) numbers) numbers

    -- Each overfull interval begins at a release and ends at a deadline, so it is enough to try those.
    pub first_of_all : ComesFirstOfAll → (other_from other_to : ℕ) → ComesFirst jobs top numbers from to other_from other_to
    first_of_all tried other_from other_to full = grind (arith, All-contains)

    -- the first overfull interval
    abbrev pub first_overfull : Test (IsFirstOverfull jobs top numbers from to)
    first_overfull = hlevel (
      tests,
      overfull,
      test_like first_of_all (λ first i one within j other below. first _ _)
          (test_all (λ one. test_all (λ other. comes_first one other) numbers) numbers),
    )
