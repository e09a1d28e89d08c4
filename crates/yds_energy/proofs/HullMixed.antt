-- What a hull gives at a speed between two of its points is at most what the line between them says.
use Rattle.yds_model.proofs.Common.{◌≡◌, ℕ, ◌+◌, ◌-◌, ◌*◌, ◌<◌, ◌≤◌, List, [], ◌∷◌, length, arith, ap, Contains, ints, mul-sub, mul-le-mul_left, Point, AreRising, IsConvex, IsHullOf, gaps_of, product, interpolated_power}
use borrow.Author.Differences.{up, down}
use Rattle.yds_energy.proofs.Hinges.{gains, losses, hinges, lines_are}
use Rattle.yds_energy.proofs.HullEnergy.{hull_rising, slot_under}

-- # A mix of two: times a number, its time and its work are those of both together

-- what a mix has above a speed is at most what its parts have
term_mixed : (times weight speed time work first_time first_work second_time second_work : ℕ) → times * time ≡ first_time + second_time →
    times * work ≡ first_work + second_work →
    times * (weight * (1 * work - speed * time)) ≤ weight * (1 * first_work - speed * first_time) + weight * (1 * second_work - speed * second_time)
term_mixed times weight speed time work first_time first_work second_time second_work is_time is_work =
    let above : times * (1 * work - speed * time) ≤ (1 * first_work - speed * first_time) + (1 * second_work - speed * second_time) =
    omega (arith, mul-sub times (1 * work) (speed * time), ap (λ n. speed * n) is_time, is_work) in
    omega (arith, mul-le-mul_left weight above)

-- and so it is of all that the points add
hinges_mixed : (times before : ℕ) (points : List Point) (time work first_time first_work second_time second_work : ℕ) → times * time ≡ first_time + second_time →
    times * work ≡ first_work + second_work →
    times * hinges before points time work ≤ hinges before points first_time first_work + hinges before points second_time second_work
hinges_mixed times before [] time work first_time first_work second_time second_work is_time is_work = omega arith
hinges_mixed times before (point ∷ []) time work first_time first_work second_time second_work is_time is_work = omega arith
hinges_mixed times before (low ∷ high ∷ []) time work first_time first_work second_time second_work is_time is_work = omega arith
hinges_mixed times before (low ∷ high ∷ next ∷ points) time work first_time first_work second_time second_work is_time is_work =
    let weight : ℕ = before * product (gaps_of (next ∷ points)) * ((low.power * (next.speed - high.speed) + next.power * (high.speed - low.speed)) - high.power * (next.speed - low.speed)) in
    omega (
      arith,
      term_mixed times weight high.speed time work first_time first_work second_time second_work is_time is_work,
      hinges_mixed times (before * (high.speed - low.speed)) (high ∷ next ∷ points) time work first_time first_work second_time second_work is_time is_work,
    )

-- in plain numbers: the numbers of three slots, each the first line's and what the points add
mixed : (times all p r high low time work hinge first_time first_work first_hinge second_time second_work second_hinge up_mix down_mix up_first down_first up_second down_second : ℕ) →
    times * time ≡ first_time + second_time → times * work ≡ first_work + second_work → times * hinge ≤ first_hinge + second_hinge →
    up_mix + all * (p * work + r * (low * time)) ≡ all * (p * (high * time) + r * work) + hinge + down_mix →
    up_first + all * (p * first_work + r * (low * first_time)) ≡ all * (p * (high * first_time) + r * first_work) + first_hinge + down_first →
    up_second + all * (p * second_work + r * (low * second_time)) ≡ all * (p * (high * second_time) + r * second_work) + second_hinge + down_second →
    times * up_mix + (down_first + down_second) ≤ times * down_mix + (up_first + up_second)
mixed times all p r high low time work hinge first_time first_work first_hinge second_time second_work second_hinge up_mix down_mix up_first down_first up_second down_second is_time is_work more
    mix first second =
    omega (
      arith,
      more,
      ap (λ n. times * n) mix,
      first,
      second,
      ap (λ n. all * p * n) is_work,
      ap (λ n. all * r * n) is_work,
      ap (λ n. all * r * low * n) is_time,
      ap (λ n. all * p * high * n) is_time,
    )

-- so a mix costs at most what its parts do
power_mixed : (low high : Point) (points : List Point) (times time work first_time first_work second_time second_work : ℕ) → AreRising (low ∷ high ∷ points) →
    IsConvex (low ∷ high ∷ points) → times * time ≡ first_time + second_time → times * work ≡ first_work + second_work →
    times * up (interpolated_power (low ∷ high ∷ points) time work)
    + (down (interpolated_power (low ∷ high ∷ points) first_time first_work) + down (interpolated_power (low ∷ high ∷ points) second_time second_work))
    ≤ times * down (interpolated_power (low ∷ high ∷ points) time work)
    + (up (interpolated_power (low ∷ high ∷ points) first_time first_work) + up (interpolated_power (low ∷ high ∷ points) second_time second_work))
power_mixed low high points times time work first_time first_work second_time second_work rising convex is_time is_work =
    let hull : List Point = low ∷ high ∷ points in
    let mix = interpolated_power hull time work in
    let first = interpolated_power hull first_time first_work in
    let second = interpolated_power hull second_time second_work in
    mixed times (1 * product (gaps_of (high ∷ points))) low.power high.power high.speed low.speed time work (hinges 1 hull time work) first_time first_work
    (hinges 1 hull first_time first_work) second_time second_work (hinges 1 hull second_time second_work) (up mix) (down mix) (up first) (down first) (up second) (down second)
    is_time is_work (hinges_mixed times 1 hull time work first_time first_work second_time second_work is_time is_work)
    (lines_are 1 low high points time work rising convex) (lines_are 1 low high points first_time first_work rising convex)
    (lines_are 1 low high points second_time second_work rising convex)

-- # Between two points

-- in plain numbers: the time at the slower of two speeds, and at the faster
parted_time : (low gap high time work slow fast : ℕ) → low + gap ≡ high → slow + work ≡ high * time → fast + low * time ≡ work → gap * time ≡ slow + fast
parted_time low gap high time work slow fast is_high is_slow is_fast = omega (arith, is_slow, is_fast, ap (λ n. n * time) is_high)

-- and their work
parted_work : (low gap high time work slow fast : ℕ) → low + gap ≡ high → slow + work ≡ high * time → fast + low * time ≡ work → gap * work ≡ low * slow + high * fast
parted_work low gap high time work slow fast is_high is_slow is_fast =
    omega (arith, ap (λ n. low * n) is_slow, ap (λ n. high * n) is_fast, ap (λ n. n * work) is_high)

-- from the two points' costs to the line's
on_the_line : (gap all p r high low time work slow fast up_mix down_mix up_slow down_slow up_fast down_fast : ℕ) → slow + work ≡ high * time → fast + low * time ≡ work →
    gap * up_mix + (down_slow + down_fast) ≤ gap * down_mix + (up_slow + up_fast) → up_slow ≤ all * (p * slow) + down_slow → up_fast ≤ all * (r * fast) + down_fast →
    gap * up_mix + all * (p * work + r * (low * time)) ≤ gap * down_mix + all * (p * (high * time) + r * work)
on_the_line gap all p r high low time work slow fast up_mix down_mix up_slow down_slow up_fast down_fast is_slow is_fast mix at_slow at_fast =
    omega (arith, mix, at_slow, at_fast, ap (λ n. all * p * n) is_slow, ap (λ n. all * r * n) is_fast)

-- A slot between the speeds of two points of the hull costs at most what the line between them says; both times the points' gap.
pub between_under : (points hull : List Point) (low high : Point) (time work : ℕ) → AreRising points → IsHullOf points hull → 2 ≤ length hull → Contains points low →
    Contains points high → low.speed < high.speed → low.speed * time ≤ work → work ≤ high.speed * time →
    (high.speed - low.speed) * up (interpolated_power hull time work) + product (gaps_of hull) * losses low high time work
    ≤ (high.speed - low.speed) * down (interpolated_power hull time work) + product (gaps_of hull) * gains low high time work
between_under points [] low high time work rising is_hull some has_low has_high rises above below = absurd (omega (arith, some))
between_under points (only ∷ []) low high time work rising is_hull some has_low has_high rises above below = absurd (omega (arith, some))
between_under points (first ∷ second ∷ others) low high time work rising is_hull some has_low has_high rises above below =
    let hull : List Point = first ∷ second ∷ others in
    let gap : ℕ = high.speed - low.speed in
    let slow : ℕ = high.speed * time - work in
    let fast : ℕ = work - low.speed * time in
    let is_high : low.speed + gap ≡ high.speed = omega (arith, rises) in
    let is_slow : slow + work ≡ high.speed * time = omega (arith, below) in
    let is_fast : fast + low.speed * time ≡ work = omega (arith, above) in
    let mix = interpolated_power hull time work in
    let at_slow = interpolated_power hull slow (low.speed * slow) in
    let at_fast = interpolated_power hull fast (high.speed * fast) in
    let slow_cost : up at_slow ≤ product (gaps_of hull) * (low.power * slow) + down at_slow = omega (arith, ints, slot_under points hull low slow rising is_hull has_low) in
    let fast_cost : up at_fast ≤ product (gaps_of hull) * (high.power * fast) + down at_fast = omega (arith, ints, slot_under points hull high fast rising is_hull has_high) in
    on_the_line gap (product (gaps_of hull)) low.power high.power high.speed low.speed time work slow fast (up mix) (down mix) (up at_slow) (down at_slow) (up at_fast) (down at_fast)
    is_slow is_fast
    (power_mixed first second others gap time work slow (low.speed * slow) fast (high.speed * fast) (hull_rising points hull rising is_hull) is_hull.convex
    (parted_time low.speed gap high.speed time work slow fast is_high is_slow is_fast) (parted_work low.speed gap high.speed time work slow fast is_high is_slow is_fast))
    slow_cost fast_cost
