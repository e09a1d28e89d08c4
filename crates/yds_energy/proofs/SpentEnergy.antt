-- What a schedule spends on a table's points, stretch by stretch, is its energy by the table's lower hull, where each stretch is empty or
-- full of slots of one speed.
use Rattle.yds_model.proofs.Common.{◌≡◌, ℕ, suc, ◌+◌, ◌-◌, ◌*◌, ◌<◌, ◌≤◌, ◌⊎◌, List, [], ◌∷◌, length, get_or, map, refl, sym, ap, subst, ◌∙◌, arith, inl, inr, add-one, sum_by, ℤ, pos, ◌+ℤ◌, ◌≤ℤ◌, All, Contains, ints, All-tail, Contains-get_or, sum_by-cons, mul-add, mul-pos, mul-le-mul_left, le_of_mul-le-mul_left, le_of_mul-le-mul_right, eq_of_mul-eq-mul_left, Job, WholeSlot, Piece, IsFeasibleAt, multiple_of_all, Point, no_point, point_at, AreRising, IsTable, IsHullOf, hull_of, hull_multiple, gaps_of, busy, idle, horizon, product, total, interpolated_energy, stretches, IsUncut, slots_in, top_of, work_in, time_at, all_energy, HoldsStretch, sum_by-add, sum_by-mul, sum_by_zero}
use Rattle.model_lemmas.proofs.Front.{pieces_forward}
use Rattle.model_lemmas.proofs.Horizon.{busy_and_idle}
use Rattle.model_lemmas.proofs.HullExists.{hull_exists}
use Rattle.model_lemmas.proofs.Runs.{run_forward}
use borrow.Author.Differences.{up, down}
use Rattle.yds_events.specs.Stretch.{length_of}
use Rattle.yds_events.proofs.Neighbours.{stretches_run}
use Rattle.yds_energy.proofs.Differences.{total_is}
use Rattle.yds_energy.proofs.Hinges.{gains, losses}
use Rattle.yds_energy.proofs.OneEnergy.{places_rise}
use Rattle.yds_energy.proofs.HullCosts.{IsAtLeast, power_of, lines_at_least, hull_in}
use Rattle.yds_energy.proofs.HullMixed.{between_under}
use Rattle.yds_energy.proofs.PlansEnergy.{hull_table}
use Rattle.yds_energy.proofs.PointTimes.{hull_top, point_energy, find_place, place_energy, only_energy, idle_energy}
use Rattle.yds_energy.proofs.RoundedCheapest.{gaps_positive}
use Rattle.yds_energy.proofs.RoundedRuns.{all_work}
use Rattle.yds_energy.proofs.StretchSlots.{sum_in_stretches}

-- # Stretches of one speed

-- the slots take all of the stretch, and each has the speed of all
pub record IsFull (scale : ℕ) (stretch : Piece) (slots : List WholeSlot) : Type 0 where
  pub full : busy slots ≡ (stretch.to - stretch.from) * scale
  pub speeds : All (λ slot. slot.work * ((stretch.to - stretch.from) * scale) ≡ all_work slots * (slot.to - slot.from)) slots

-- in the stretch nothing runs, or its slots do so
abbrev pub IsEven : ℕ → List WholeSlot → Piece → Type 0
IsEven scale slots stretch = (slots_in scale stretch slots ≡ []) ⊎ IsFull scale stretch (slots_in scale stretch slots)

-- # Energy as a difference

-- the energies of slots by a table, the parts above 0 and below it
abbrev pub ups : List Point → List WholeSlot → ℕ
ups points slots = sum_by (λ slot. up (power_of points slot)) slots

abbrev pub downs : List Point → List WholeSlot → ℕ
downs points slots = sum_by (λ slot. down (power_of points slot)) slots

-- their difference is the energy of all
pub energy_is : (points : List Point) (slots : List WholeSlot) →
    up (total (map (power_of points) slots)) + downs points slots ≡ ups points slots + down (total (map (power_of points) slots))
energy_is points slots = total_is (λ slot. up (power_of points slot)) (λ slot. down (power_of points slot)) (power_of points) slots (λ slot. refl)

-- # A full stretch

-- the slot's speed is between those of the points
record IsBetween (low high : Point) (slot : WholeSlot) : Type 0 where
  above : low.speed * (slot.to - slot.from) ≤ slot.work
  below : slot.work ≤ high.speed * (slot.to - slot.from)

-- slots between two points of the hull cost at most what the line between them says
slots_between : (points hull : List Point) (low high : Point) (slots : List WholeSlot) → AreRising points → IsHullOf points hull → 2 ≤ length hull →
    Contains points low → Contains points high → low.speed < high.speed → All (IsBetween low high) slots →
    (high.speed - low.speed) * ups hull slots + product (gaps_of hull) * losses low high (busy slots) (all_work slots)
    ≤ (high.speed - low.speed) * downs hull slots + product (gaps_of hull) * gains low high (busy slots) (all_work slots)
slots_between points hull low high [] rising is_hull some has_low has_high rises between = omega arith
slots_between points hull low high (slot ∷ slots) rising is_hull some has_low has_high rises between =
    let all : ℕ = product (gaps_of hull) in
    let gap : ℕ = high.speed - low.speed in
    let here = between 0 slot (omega arith) in
    simp sum_by-cons (omega (
      arith,
      between_under points hull low high (slot.to - slot.from) slot.work rising is_hull some has_low has_high rises here.above here.below,
      slots_between points hull low high slots rising is_hull some has_low has_high rises (All-tail (IsBetween low high) slot slots between),
    ))

-- and at least that
slots_above : (hull : List Point) (k : ℕ) (slots : List WholeSlot) → suc k < length hull →
    product (gaps_of hull) * gains (point_at hull k) (point_at hull (suc k)) (busy slots) (all_work slots)
    + ((point_at hull (suc k)).speed - (point_at hull k).speed) * downs hull slots
    ≤ ((point_at hull (suc k)).speed - (point_at hull k).speed) * ups hull slots
    + product (gaps_of hull) * losses (point_at hull k) (point_at hull (suc k)) (busy slots) (all_work slots)
slots_above hull k slots within =
    let gap : ℕ = (point_at hull (suc k)).speed - (point_at hull k).speed in
    let all : ℕ = product (gaps_of hull) in
    let energy = total (map (power_of hull) slots) in
    let least : IsAtLeast (all * gains (point_at hull k) (point_at hull (suc k)) (busy slots) (all_work slots))
    (all * losses (point_at hull k) (point_at hull (suc k)) (busy slots) (all_work slots)) gap energy =
    rw add-one at (lines_at_least hull k slots (omega (arith, within))) in
    omega (arith, least, ap (λ n. gap * n) (energy_is hull slots))

-- a slot of a full stretch is between the points that the stretch is between
slot_between : (low high long work time slot_work : ℕ) → 1 ≤ long → low * long ≤ work → work ≤ high * long → slot_work * long ≡ work * time →
    (low * time ≤ slot_work) × (slot_work ≤ high * time)
slot_between low high long work time slot_work some above below is =
    let from : low * time * long ≤ slot_work * long = omega (arith, is, mul-le-mul_left time above) in
    let to : slot_work * long ≤ high * time * long = omega (arith, is, mul-le-mul_left time below) in
    (le_of_mul-le-mul_right {k = long} from some, le_of_mul-le-mul_right {k = long} to some)

-- both bounds together, in plain numbers
both_bounds : (gap all multiple cost gains losses ups downs : ℕ) → 0 < gap → gap * cost + multiple * losses ≡ multiple * gains →
    all * gains + gap * downs ≤ gap * ups + all * losses → gap * ups + all * losses ≤ gap * downs + all * gains → all * cost + multiple * downs ≡ multiple * ups
both_bounds gap all multiple cost gains losses ups downs some is least most =
    let same : all * gains + gap * downs ≡ gap * ups + all * losses = omega (arith, least, most) in
    eq_of_mul-eq-mul_left gap some (all * cost + multiple * downs) (multiple * ups)
    (omega (arith, ap (λ n. all * n) is, ap (λ n. multiple * n) same))

-- # A stretch

-- What the stretch costs, and what its slots and its time without a slot have by the hull, times the product of the gaps and the common
-- multiple.
pub record IsCost (points hull : List Point) (scale : ℕ) (stretch : Piece) (here : List WholeSlot) : Type 0 where
  pub short : busy here ≤ (stretch.to - stretch.from) * scale
  pub cost : product (gaps_of hull) * point_energy points (multiple_of_all (gaps_of hull)) ((stretch.to - stretch.from) * scale) (all_work here) hull
      + multiple_of_all (gaps_of hull) * downs hull here
      ≡ multiple_of_all (gaps_of hull) * ups hull here
      + multiple_of_all (gaps_of hull) * (product (gaps_of hull) * ((point_at hull 0).power * ((stretch.to - stretch.from) * scale - busy here)))

-- in plain numbers: an empty one
empty_is : (gaps multiple power time cost : ℕ) → cost ≡ power * (time * multiple) → gaps * cost + multiple * 0 ≡ multiple * 0 + multiple * (gaps * (power * (time - 0)))
empty_is gaps multiple power time cost is = grind arith

empty_cost : (points : List Point) (low : Point) (hull : List Point) (scale : ℕ) (stretch : Piece) → AreRising points → AreRising (low ∷ hull) → Contains points low →
    IsCost points (low ∷ hull) scale stretch []
empty_cost points low hull scale stretch rising rises has = grind (arith, empty_is, idle_energy, point_energy, ℕ)

-- the energies of slots by a table of one point
only_ups : (only : Point) (slots : List WholeSlot) → ups (only ∷ []) slots ≡ only.power * busy slots
only_ups only slots = sum_by-mul only.power (λ slot. slot.to - slot.from) slots

only_downs : (only : Point) (slots : List WholeSlot) → downs (only ∷ []) slots ≡ 0
only_downs only slots = sum_by_zero (λ slot. down (power_of (only ∷ []) slot)) slots (λ k d within. refl)

-- a full one
full_cost : (points hull : List Point) (scale : ℕ) (stretch : Piece) (here : List WholeSlot) → IsTable points → IsHullOf points hull → IsTable hull →
    1 ≤ (stretch.to - stretch.from) * scale → IsFull scale stretch here → all_work here ≤ top_of hull * ((stretch.to - stretch.from) * scale) →
    IsCost points hull scale stretch here
full_cost points [] scale stretch here table is_hull hull_is some is holds = absurd (omega (arith, hull_is.some))
full_cost points (only ∷ []) scale stretch here table is_hull hull_is some is holds =
    let time : ℕ = (stretch.to - stretch.from) * scale in
    record {
      short = omega (arith, is.full);
      cost = omega (
        arith,
        only_energy points only 1 time (all_work here) table.rising (hull_in points (only ∷ []) only is_hull (0, omega arith, refl)),
        only_ups only here,
        only_downs only here,
        ap (λ n. only.power * n) is.full,
        (let none : time - busy here ≡ 0 = omega (arith, is.full) in ap (λ n. only.power * n) none),
      );
    }
full_cost points (first ∷ second ∷ others) scale stretch here table is_hull hull_is some is holds =
    let hull : List Point = first ∷ second ∷ others in
    let time : ℕ = (stretch.to - stretch.from) * scale in
    let multiple : ℕ = multiple_of_all (gaps_of hull) in
    let at = find_place multiple time (all_work here) hull (omega arith) (omega (arith, ap (λ n. n * time) hull_is.idle)) holds in
    let low = point_at hull at.place in
    let high = point_at hull (suc at.place) in
    let has : (k : ℕ) → k < length hull → Contains points (point_at hull k) = λ k within. hull_in points hull (point_at hull k) is_hull (Contains-get_or hull k no_point within) in
    let rises : low.speed < high.speed = places_rise hull at.place (suc at.place) hull_is.rising (omega arith) at.within in
    let cost = place_energy points hull time (all_work here) table.rising hull_is.rising has at in
    let between : All (IsBetween low high) here = λ k d within.
    let slot = get_or here k d in
    let both = slot_between low.speed high.speed time (all_work here) (slot.to - slot.from) slot.work some at.above_low at.below_high (is.speeds k d within) in
    record { above = both.0; below = both.1 } in
    let least = slots_above hull at.place here at.within in
    let most = slots_between points hull low high here table.rising is_hull (omega arith) (has at.place (omega (arith, at.within))) (has (suc at.place) at.within) rises between in
    let none : time - busy here ≡ 0 = omega (arith, is.full) in
    record {
      short = omega (arith, is.full);
      cost = omega (
        arith,
        both_bounds (high.speed - low.speed) (product (gaps_of hull)) multiple (point_energy points multiple time (all_work here) hull) (gains low high time (all_work here))
            (losses low high time (all_work here)) (ups hull here) (downs hull here) (omega (arith, rises)) cost
            (rw is.full at least) (rw is.full at most),
        ap (λ n. multiple * (product (gaps_of hull) * (first.power * n))) none,
      );
    }

-- so each that is even
even_cost : (points hull : List Point) (scale : ℕ) (stretch : Piece) (slots : List WholeSlot) → IsTable points → IsHullOf points hull → IsTable hull →
    1 ≤ (stretch.to - stretch.from) * scale → IsEven scale slots stretch → all_work (slots_in scale stretch slots) ≤ top_of hull * ((stretch.to - stretch.from) * scale) →
    IsCost points hull scale stretch (slots_in scale stretch slots)
even_cost points [] scale stretch slots table is_hull hull_is some even holds = absurd (omega (arith, hull_is.some))
even_cost points (low ∷ hull) scale stretch slots table is_hull hull_is some (inl none) holds =
    subst (IsCost points (low ∷ hull) scale stretch) (sym none)
    (empty_cost points low hull scale stretch table.rising hull_is.rising (hull_in points (low ∷ hull) low is_hull (0, omega arith, refl)))
even_cost points (low ∷ hull) scale stretch slots table is_hull hull_is some (inr full) holds =
    full_cost points (low ∷ hull) scale stretch (slots_in scale stretch slots) table is_hull hull_is some full holds

-- # All stretches

-- the energy by the points is that by the stretches
by_stretches : (points : List Point) (time : ℕ → Piece → ℕ) (all : List Piece) →
    sum_by (λ point. point.power * sum_by (time point.speed) all) points ≡ sum_by (λ stretch. sum_by (λ point. point.power * time point.speed stretch) points) all
by_stretches points time [] = sum_by_zero (λ point. point.power * 0) points (λ k d within. omega arith)
by_stretches points time (stretch ∷ all) =
    simp (sum_by-cons, mul-add, sum_by-add) (omega (arith, by_stretches points time all))

-- What stretches cost together, as each does; `left` is the time without a slot.
record AreCosts (points hull : List Point) (scale : ℕ) (slots : List WholeSlot) (all : List Piece) : Type 0 where
  left : ℕ
  is_left : left + sum_by (λ stretch. busy (slots_in scale stretch slots)) all ≡ scale * sum_by length_of all
  costs : product (gaps_of hull)
      * sum_by (λ stretch. point_energy points (multiple_of_all (gaps_of hull)) ((stretch.to - stretch.from) * scale) (all_work (slots_in scale stretch slots)) hull) all
      + multiple_of_all (gaps_of hull) * sum_by (λ stretch. downs hull (slots_in scale stretch slots)) all
      ≡ multiple_of_all (gaps_of hull) * sum_by (λ stretch. ups hull (slots_in scale stretch slots)) all
      + multiple_of_all (gaps_of hull) * (product (gaps_of hull) * ((point_at hull 0).power * left))

all_costs : (points hull : List Point) (scale : ℕ) (slots : List WholeSlot) (all : List Piece) →
    All (λ stretch. IsCost points hull scale stretch (slots_in scale stretch slots)) all → AreCosts points hull scale slots all
all_costs points hull scale slots [] each = record { left = 0; is_left = omega arith; costs = omega arith }
all_costs points hull scale slots (stretch ∷ all) each =
    let here = each 0 stretch (omega arith) in
    let rest = all_costs points hull scale slots all (All-tail (λ one. IsCost points hull scale one (slots_in scale one slots)) stretch all each) in
    record {
      left = ((stretch.to - stretch.from) * scale - busy (slots_in scale stretch slots)) + rest.left;
      is_left = simp sum_by-cons (omega (arith, here.short, rest.is_left));
      costs = simp sum_by-cons (omega (arith, here.cost, rest.costs));
    }

-- # The schedule

-- What the schedule spends on the points, and its energy by the hull, with the time without a slot in the stretches.
pub record IsEnergy (jobs : List Job) (points : List Point) (scale : ℕ) (slots : List WholeSlot) : Type 0 where
  pub left : ℕ
  pub is_left : left + busy slots ≡ scale * sum_by length_of (stretches jobs)
  pub energy : product (gaps_of (hull_of points)) * all_energy jobs points scale slots + hull_multiple points * downs (hull_of points) slots
      ≡ hull_multiple points * ups (hull_of points) slots + hull_multiple points * (product (gaps_of (hull_of points)) * ((point_at (hull_of points) 0).power * left))

pub even_energy : (jobs : List Job) (points : List Point) (scale : ℕ) (slots : List WholeSlot) → 1 ≤ scale → IsTable points → IsFeasibleAt jobs scale slots →
    All (IsUncut jobs scale) slots → All (IsEven scale slots) (stretches jobs) → All (HoldsStretch points scale slots) (stretches jobs) → IsEnergy jobs points scale slots
even_energy jobs points scale slots positive table feasible uncut even holds =
    let hull : List Point = hull_of points in
    let is_hull = hull_exists points table.rising in
    let multiple : ℕ = hull_multiple points in
    let gaps : ℕ = product (gaps_of hull) in
    let takes = run_forward 0 slots feasible.one_at_a_time in
    let run = stretches_run jobs in
    let forward : All (λ stretch. stretch.from < stretch.to) (stretches jobs) = pieces_forward 0 (stretches jobs) run in
    let top : top_of points ≡ top_of hull = hull_top points hull is_hull in
    let each : All (λ stretch. IsCost points hull scale stretch (slots_in scale stretch slots)) (stretches jobs) = λ k d within.
    let stretch = get_or (stretches jobs) k d in
    even_cost points hull scale stretch slots table is_hull (hull_table points hull table is_hull) (mul-pos (let ahead = forward k d within in omega (arith, ahead)) positive)
    (even k d within) (let held = holds k d within in omega (arith, held, ap (λ n. n * ((stretch.to - stretch.from) * scale)) top)) in
    let costs = all_costs points hull scale slots (stretches jobs) each in
    let together = λ (f : WholeSlot → ℕ). sum_in_stretches f scale 0 (stretches jobs) slots run takes uncut in
    let swapped : all_energy jobs points scale slots
    ≡ sum_by (λ stretch. point_energy points multiple ((stretch.to - stretch.from) * scale) (all_work (slots_in scale stretch slots)) hull) (stretches jobs) =
    by_stretches points (λ speed stretch. time_at multiple ((stretch.to - stretch.from) * scale) (work_in scale stretch slots) hull speed) (stretches jobs) in
    record {
      left = costs.left;
      is_left = omega (arith, costs.is_left, together (λ slot. slot.to - slot.from));
      energy = omega (
        arith,
        costs.costs,
        ap (λ n. gaps * n) swapped,
        ap (λ n. multiple * n) (together (λ slot. up (power_of hull slot))),
        ap (λ n. multiple * n) (together (λ slot. down (power_of hull slot))),
      );
    }

-- # Two schedules

-- in plain numbers: with the same horizon, and the same time of the stretches
compared : (gaps multiple power first_left other_left first_busy other_busy first_idle other_idle first_cost other_cost first_ups first_downs other_ups other_downs long whole : ℕ)
    (first other : ℤ) → 1 ≤ gaps → up first + first_downs ≡ first_ups + down first → up other + other_downs ≡ other_ups + down other →
    first_left + first_busy ≡ long → other_left + other_busy ≡ long → first_busy + first_idle ≡ whole → other_busy + other_idle ≡ whole →
    gaps * first_cost + multiple * first_downs ≡ multiple * first_ups + multiple * (gaps * (power * first_left)) →
    gaps * other_cost + multiple * other_downs ≡ multiple * other_ups + multiple * (gaps * (power * other_left)) →
    (first +ℤ pos (gaps * (power * first_idle))) ≤ℤ (other +ℤ pos (gaps * (power * other_idle))) → first_cost ≤ other_cost
compared gaps multiple power first_left other_left first_busy other_busy first_idle other_idle first_cost other_cost first_ups first_downs other_ups other_downs long whole
    first other some first_is other_is first_time other_time first_horizon other_horizon first_costs other_costs most =
    let times : first_left + other_idle ≡ other_left + first_idle = omega (arith, first_time, other_time, first_horizon, other_horizon) in
    let idles : gaps * (power * first_left) + gaps * (power * other_idle) ≡ gaps * (power * other_left) + gaps * (power * first_idle) =
    omega (arith, ap (λ n. gaps * power * n) times) in
    let less : first_ups + gaps * (power * first_left) + other_downs ≤ other_ups + gaps * (power * other_left) + first_downs =
    omega (arith, ints, most, first_is, other_is, idles) in
    let all : gaps * first_cost ≤ gaps * other_cost = omega (arith, first_costs, other_costs, mul-le-mul_left multiple less) in
    le_of_mul-le-mul_left {k = gaps} all some

-- a schedule of no more energy by the hull spends no more
pub spends_no_more : (jobs : List Job) (points : List Point) (scale : ℕ) (slots others : List WholeSlot) → IsTable points → IsFeasibleAt jobs scale slots →
    IsFeasibleAt jobs scale others → IsEnergy jobs points scale slots → IsEnergy jobs points scale others →
    interpolated_energy jobs (hull_of points) scale slots ≤ℤ interpolated_energy jobs (hull_of points) scale others →
    all_energy jobs points scale slots ≤ all_energy jobs points scale others
spends_no_more jobs points scale slots others table feasible other_feasible is other most =
    let hull : List Point = hull_of points in
    compared (product (gaps_of hull)) (hull_multiple points) (point_at hull 0).power is.left other.left (busy slots) (busy others) (idle jobs scale slots) (idle jobs scale others)
    (all_energy jobs points scale slots) (all_energy jobs points scale others) (ups hull slots) (downs hull slots) (ups hull others) (downs hull others)
    (scale * sum_by length_of (stretches jobs)) (scale * horizon jobs) (total (map (power_of hull) slots)) (total (map (power_of hull) others))
    (gaps_positive hull (hull_table points hull table (hull_exists points table.rising)).rising) (energy_is hull slots) (energy_is hull others) is.is_left other.is_left
    (busy_and_idle jobs scale slots feasible) (busy_and_idle jobs scale others other_feasible) is.energy other.energy most

-- in plain numbers: where the stretches are the horizon
spent_whole : (gaps multiple power left busy idle cost ups downs spent long : ℕ) (energy : ℤ) → 1 ≤ gaps → up energy + downs ≡ ups + down energy → left + busy ≡ long →
    busy + idle ≡ long → gaps * cost + multiple * downs ≡ multiple * ups + multiple * (gaps * (power * left)) → (energy +ℤ pos (gaps * (power * idle))) ≡ pos (gaps * spent) →
    cost ≡ multiple * spent
spent_whole gaps multiple power left busy idle cost ups downs spent long energy some is time horizon costs whole =
    let same : left ≡ idle = omega (arith, time, horizon) in
    let idles : gaps * (power * left) ≡ gaps * (power * idle) = ap (λ n. gaps * (power * n)) same in
    let balance : ups + gaps * (power * left) ≡ gaps * spent + downs = omega (arith, ints, whole, is, idles) in
    eq_of_mul-eq-mul_left gaps some cost (multiple * spent) (omega (arith, costs, ap (λ n. multiple * n) balance))

-- what a schedule spends, where the hull gives it so much energy and the stretches are the horizon
pub spends_energy : (jobs : List Job) (points : List Point) (scale spent : ℕ) (slots : List WholeSlot) → IsTable points → IsFeasibleAt jobs scale slots →
    sum_by length_of (stretches jobs) ≡ horizon jobs → IsEnergy jobs points scale slots →
    interpolated_energy jobs (hull_of points) scale slots ≡ pos (product (gaps_of (hull_of points)) * spent) → all_energy jobs points scale slots ≡ hull_multiple points * spent
spends_energy jobs points scale spent slots table feasible long is whole =
    let hull : List Point = hull_of points in
    spent_whole (product (gaps_of hull)) (hull_multiple points) (point_at hull 0).power is.left (busy slots) (idle jobs scale slots) (all_energy jobs points scale slots)
    (ups hull slots) (downs hull slots) spent (scale * horizon jobs) (total (map (power_of hull) slots))
    (gaps_positive hull (hull_table points hull table (hull_exists points table.rising)).rising) (energy_is hull slots)
    (is.is_left ∙ ap (λ n. scale * n) long) (busy_and_idle jobs scale slots feasible) is.energy whole
