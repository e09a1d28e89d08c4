-- Rounding, tried where the switch from one point to the other falls between two jobs: a with work 2 and b with work 5, both from 0
-- to 3, on the points of the speeds 0, 2 and 4, whose powers are 0, 1 and 3. And changes of it that are refused.
use Rattle.yds_model.proofs.Common.{◌≡◌, ◌==◌, ℕ, zero, suc, ◌+◌, ◌-◌, ◌*◌, ◌<◌, List, [], ◌∷◌, ◌++◌, map, refl, sym, ap, subst, ◌∙◌, arith, inl, inr, append_assoc, true, cond, Any, append-nil, AreDifferent, nat_tests, Job, Fraction, of_whole, WrittenSlot, IsScale, slot_at_scale, slots_at, IsFeasible, Piece, Level, IsProper, Point, point_at, hull_of, stretches, HasPointSpeed, AreNeighbours, RunsAtPoint, HasSplitDenominators, IsSplitAt, SplitsStretch, RoundsStretches, IsEnergyOf, IsRounding, count-cons}
use Rattle.yds_examples.proofs.Tests.{proved, refuted, test_eq, test_any}
use Rattle.yds_examples.proofs.TestedSchedules.{is_scale, feasible_by_test}
use Rattle.yds_examples.proofs.TestedPlans.{proper_by_test}
use Rattle.yds_examples.proofs.TestedRounding.{energy_by_test, slow_enough, split_denominators, splits_by_test, rounds_next}

-- a and b
abbrev jobs : List Job
jobs = record { release = 0; deadline = 3; work = 2 } ∷ record { release = 0; deadline = 3; work = 5 } ∷ []

-- the table, which is its own hull
abbrev points : List Point
points = record { speed = 0; power = 0 } ∷ record { speed = 2; power = 1 } ∷ record { speed = 4; power = 3 } ∷ []

-- since its slopes never fall
its_hull : hull_of points ≡ points
its_hull = refl

-- a part below one
abbrev part : ℕ → ℕ → ℕ → Fraction
part whole num den = record { whole = whole; num = num; den = den }

-- a slot of whole work
abbrev slot : ℕ → Fraction → Fraction → ℕ → WrittenSlot
slot job from to work = record { job = job; from = from; to = to; work = of_whole work }

-- the plan: both at the speed 7/3, a until 6/7
abbrev planned : List WrittenSlot
planned = slot 0 (of_whole 0) (part 0 6 7) 2 ∷ slot 1 (part 0 6 7) (of_whole 3) 5 ∷ []

-- both in one level
abbrev level : Level
level = record { work = 7; length = 3; pieces = record { from = 0; to = 3 } ∷ []; members = 0 ∷ 1 ∷ [] }

-- the level is proper for the plan's slots
planned_proper : IsProper jobs planned (level ∷ [])
planned_proper = proper_by_test jobs planned (level ∷ []) refl refl refl

-- the whole time is one stretch
abbrev stretch : Piece
stretch = record { from = 0; to = 3 }

-- no job begins or ends within
one_stretch : stretches jobs ≡ stretch ∷ []
one_stretch = refl

-- rounded: a at the speed 4 until 1/2, and b at 2 from there on; the switch is written over 12 at the faster point and over 6 at the slower
abbrev written : List WrittenSlot
written = slot 0 (of_whole 0) (part 0 6 12) 2 ∷ slot 1 (part 0 3 6) (of_whole 3) 5 ∷ []

-- both jobs get their work
written_feasible : IsFeasible jobs written
written_feasible = feasible_by_test jobs written 12 refl refl

-- the slots are a split, at the scale 84 of all of them
split : SplitsStretch (hull_of points) level stretch planned written
split =
    splits_by_test 84 42 1 (hull_of points) level stretch planned (slot 0 (of_whole 0) (part 0 6 12) 2 ∷ []) (slot 1 (part 0 3 6) (of_whole 3) 5 ∷ [])
    refl refl refl (λ job. grind (arith, nat_tests))

-- so the one stretch is rounded
rounds : RoundsStretches (hull_of points) (level ∷ []) (stretches jobs) planned written
rounds = rounds_next (level ∷ []) [] [] [] (0, omega arith, refl) refl split (refl, refl)

-- 3/2 for a and 5/2 for b
energy : IsEnergyOf jobs points written (of_whole 4)
energy = energy_by_test jobs points (2 ∷ 1 ∷ []) written (of_whole 4) 12 refl (omega arith) refl refl

-- So this is the rounding of the plan.
rounding : IsRounding jobs points planned (level ∷ []) written (of_whole 4)
rounding = grind (arith, energy, proved, rounds, slow_enough)

-- # What is refused

-- the switch written as 1/2 has no denominator of the split
half_refused : HasSplitDenominators level 2 4 (slot 0 (of_whole 0) (part 0 1 2) 2) → ⊥
half_refused = refuted (split_denominators level 2 4 (slot 0 (of_whole 0) (part 0 1 2) 2)) refl

-- the level has no point's speed
at_no_point : Any (HasPointSpeed level) (hull_of points) → ⊥
at_no_point = refuted (test_any (λ (point : Point). test_eq level.work (point.speed * level.length)) (hull_of points)) refl

-- so in the one stretch a rounding is a split
is_split : (slots : List WrittenSlot) → RoundsStretches (hull_of points) (level ∷ []) (stretches jobs) planned slots → SplitsStretch (hull_of points) level stretch planned slots
is_split slots (here, [], made, [], is_here, is_made, lies, inl none, rest) = absurd cc
is_split slots (here, [], made, [], is_here, is_made, lies, inr (one, (zero, within, is), members, inl keeps), rest) =
    absurd (at_no_point (subst (λ (one : Level). Any (HasPointSpeed one) (hull_of points)) (sym is) keeps.at_point))
is_split slots (here, [], made, [], is_here, is_made, lies, inr (one, (zero, within, is), members, inr splits), rest) =
    subst (λ (one : Level). SplitsStretch (hull_of points) one stretch planned slots) (sym is)
    (subst (λ (here : List WrittenSlot). SplitsStretch (hull_of points) one stretch here slots) (sym (is_here ∙ append-nil here))
    (subst (λ (made : List WrittenSlot). SplitsStretch (hull_of points) one stretch here made) (sym (is_made ∙ append-nil made)) splits))
is_split slots (here, [], made, [], is_here, is_made, lies, inr (one, (suc i, within, is), members, kind), rest) = absurd (omega (arith, within))
is_split slots (here, slot ∷ later, made, made_later, is_here, is_made, lies, kind, rest) = absurd (let none = rest.0 in cc)
is_split slots (here, [], made, slot ∷ made_later, is_here, is_made, lies, kind, rest) = absurd (let none = rest.1 in cc)

-- 84 is a scale of the slots of a split, where it is one of the plan's and the written ones
scale_of_split : (slots fast slow : List WrittenSlot) → (is_scale 84 (planned ++ slots)).passes ≡ true → slots ≡ fast ++ slow → IsScale 84 (planned ++ fast ++ slow)
scale_of_split slots fast slow is parts =
    subst (IsScale 84) (ap (λ written. planned ++ written) parts ∙ sym (append_assoc planned fast slow)) (proved (is_scale 84 (planned ++ slots)) is)

-- some time passes at the faster point, since the level is faster than the slower one
some_time : (time slower gap : ℕ) → slower * 3 < 7 → time * (3 * gap) ≡ (7 - slower * 3) * ((3 - 0) * 84) → 0 ≡ 0 + time → ⊥
some_time time slower gap above same none = absurd (omega (arith, above, same, none, ap (λ n. n * (3 * gap)) none))

-- the slot that comes first at the faster point has its speed
first_speed : (speed time : ℕ) (first slot : WrittenSlot) (rest : List WrittenSlot) → first ≡ slot → RunsAtPoint speed 0 time (slots_at 84 (slot ∷ rest)) →
    (slot_at_scale 84 first).work ≡ speed * ((slot_at_scale 84 first).to - (slot_at_scale 84 first).from)
first_speed speed time first slot rest same runs =
    subst (λ (s : WrittenSlot). (slot_at_scale 84 s).work ≡ speed * ((slot_at_scale 84 s).to - (slot_at_scale 84 s).from)) (sym same) runs.2

-- The slower point first: b at 2, and then a at 4.
abbrev slower_first : List WrittenSlot
slower_first = slot 1 (of_whole 0) (part 2 3 6) 5 ∷ slot 0 (part 2 6 12) (of_whole 3) 2 ∷ []

-- this serves both jobs too, at the same energy,
slower_feasible : IsFeasible jobs slower_first × IsEnergyOf jobs points slower_first (of_whole 4)
slower_feasible = (feasible_by_test jobs slower_first 12 refl refl, energy_by_test jobs points (1 ∷ 2 ∷ []) slower_first (of_whole 4) 12 refl (omega arith) refl refl)

-- but what comes first has the speed 2, which isn't that of the faster point
faster_comes_first : (fast slow : List WrittenSlot) (low high : Point) → low.speed * 3 < 7 → 7 < high.speed * 3 → slower_first ≡ fast ++ slow →
    IsSplitAt 84 level low high stretch (slots_at 84 planned) (slots_at 84 fast) (slots_at 84 slow) → ⊥
faster_comes_first [] slow low high above below parts split = some_time split.time low.speed (high.speed - low.speed) above split.is_time split.first
faster_comes_first (first ∷ fast) slow low high above below parts split =
    let same : slot 1 (of_whole 0) (part 2 3 6) 5 ≡ first = cc in
    absurd (omega (arith, below, first_speed high.speed (0 + split.time) (slot 1 (of_whole 0) (part 2 3 6) 5) first fast same split.first))

-- so it is no rounding
slower_refused : IsRounding jobs points planned (level ∷ []) slower_first (of_whole 4) → ⊥
slower_refused is =
    let splits = is_split slower_first is.rounds in
    faster_comes_first splits.fast splits.slow splits.low splits.high splits.around.above_low splits.around.below_high splits.parts
    (splits.split.holds 84 (scale_of_split slower_first splits.fast splits.slow refl splits.parts))

-- a's slot at the faster point cut in two
abbrev twice : List WrittenSlot
twice = slot 0 (of_whole 0) (part 0 3 12) 1 ∷ slot 0 (part 0 3 12) (part 0 6 12) 1 ∷ slot 1 (part 0 3 6) (of_whole 3) 5 ∷ []

-- this too serves both jobs at the same energy,
twice_feasible : IsFeasible jobs twice × IsEnergyOf jobs points twice (of_whole 4)
twice_feasible = (feasible_by_test jobs twice 12 refl refl, energy_by_test jobs points (2 ∷ 2 ∷ 1 ∷ []) twice (of_whole 4) 12 refl (omega arith) refl refl)

-- between the points 2 and 4 a quarter of a unit of time at the faster one is too little
too_short : (low high : Point) (around : AreNeighbours (hull_of points) level low high) (time : ℕ) → 84 ≡ high.speed * 21 → 21 ≡ time →
    time * (3 * (high.speed - low.speed)) ≡ (7 - low.speed * 3) * ((3 - 0) * 84) → ⊥
too_short low high around time speed end same = by around.place around.within around.is_low around.is_high where
  -- by the place of the slower point
  by : (place : ℕ) → place + 1 < 3 → point_at (hull_of points) place ≡ low → point_at (hull_of points) (place + 1) ≡ high → ⊥
  by zero within is_low is_high = absurd (omega (arith, speed, ap (λ (x : Point). x.speed) is_high))
  by (suc zero) within is_low is_high =
      let slower : 2 ≡ low.speed = ap (λ (x : Point). x.speed) is_low in
      let faster : high.speed - low.speed ≡ 2 = omega (arith, speed, slower) in
      absurd (omega (arith, same, end, slower, ap (λ n. time * n) faster))
  by (suc (suc place)) within is_low is_high = absurd (omega (arith, within))

-- but a has two slots at the faster point, or too little time passes there
one_slot_each : (fast slow : List WrittenSlot) (low high : Point) → AreNeighbours (hull_of points) level low high → twice ≡ fast ++ slow →
    AreDifferent (map (λ slot. slot.job) fast) → IsSplitAt 84 level low high stretch (slots_at 84 planned) (slots_at 84 fast) (slots_at 84 slow) → ⊥
one_slot_each [] slow low high around parts once split = some_time split.time low.speed (high.speed - low.speed) around.above_low split.is_time split.first
one_slot_each (first ∷ []) slow low high around parts once split =
    let same : slot 0 (of_whole 0) (part 0 3 12) 1 ≡ first = cc in
    let end : 21 ≡ 0 + split.time = ap (λ (s : WrittenSlot). (slot_at_scale 84 s).to) same ∙ split.first.3 in
    too_short low high around split.time (first_speed high.speed (0 + split.time) (slot 0 (of_whole 0) (part 0 3 12) 1) first [] same split.first) (omega (arith, end)) split.is_time
one_slot_each (first ∷ second ∷ fast) slow low high around parts once split =
    let one : slot 0 (of_whole 0) (part 0 3 12) 1 ≡ first = cc in
    let two : slot 0 (part 0 3 12) (part 0 6 12) 1 ≡ second = cc in
    let first_job : 0 ≡ first.job = ap (λ (s : WrittenSlot). s.job) one in
    let second_job : 0 ≡ second.job = ap (λ (s : WrittenSlot). s.job) two in
    let jobs : List ℕ = map (λ slot. slot.job) fast in
    absurd (omega (
      arith,
      once 0,
      count-cons 0 first.job (second.job ∷ jobs),
      count-cons 0 second.job jobs,
      ap {B = ℕ} (λ (n : ℕ). cond (0 == n) 1 0) first_job,
      ap {B = ℕ} (λ (n : ℕ). cond (0 == n) 1 0) second_job,
    ))

-- so it is no rounding
twice_refused : IsRounding jobs points planned (level ∷ []) twice (of_whole 4) → ⊥
twice_refused is =
    let splits = is_split twice is.rounds in
    one_slot_each splits.fast splits.slow splits.low splits.high splits.around splits.parts splits.fast_once
    (splits.split.holds 84 (scale_of_split twice splits.fast splits.slow refl splits.parts))
