-- What the rounded slots of a plan spend on a table's points: the energy of the plan's schedule by the lower hull.
use Rattle.yds_model.proofs.Common.{◌≡◌, ℕ, ◌+◌, ◌-◌, ◌*◌, ◌<◌, ◌≤◌, List, [], ◌∷◌, ◌++◌, length, get_or, map, refl, sym, ap, subst, ◌∙◌, arith, inl, inr, ℤ, pos, ◌+ℤ◌, ◌≤ℤ◌, All, Contains, ints, All-head, All-tail, All-contains, Contains-get_or, sum_by-cons, sum_by-append, mul-sub, mul-le-mul_right, lt_of_mul-lt-mul_right, eq_of_mul-eq-mul_left, eq_of_mul-eq-mul_right, Job, WrittenSlot, WholeSlot, IsScale, slots_at, Piece, Level, IsPlan, Point, no_point, point_at, AreRising, IsTable, IsHullOf, hull_of, gaps_of, busy, idle, horizon, product, total, interpolated_energy, SpendsAtPoints, IsEnergyOnPoints, stretches, AreNeighbours, IsSplitAt, RoundsStretches}
use Rattle.model_lemmas.proofs.Horizon.{busy_and_idle}
use Rattle.model_lemmas.proofs.HullExists.{hull_exists}
use Rattle.yds_energy.specs.RoundingLaws.{RoundedAttainsTheHull}
use Rattle.yds_laws.proofs.Bound.{scale_left, scale_right}
use Rattle.yds_energy.proofs.Differences.{total-cons}
use Rattle.yds_energy.proofs.Hinges.{gains, losses}
use Rattle.yds_energy.proofs.HullEnergy.{hull_first, hull_rising}
use Rattle.yds_energy.proofs.OneEnergy.{read_point, one_point, spends_once}
use Rattle.yds_energy.proofs.PlansEnergy.{plans_cost_least_on_points}
use Rattle.yds_energy.proofs.Members.{same_work}
use Rattle.yds_energy.proofs.PlanParts.{IsPartOfPlan}
use Rattle.yds_energy.proofs.RoundedRuns.{all_work, rate_together, RunAt, runs_at, at_spend, runs_busy, runs_work, runs_on_work, SpendsOn, runs_on_spend}
use Rattle.yds_energy.proofs.RoundedFeasible.{RoundsAt, rounds_fold, time_within, written_feasible}
use Rattle.yds_energy.proofs.HullCosts.{IsAtLeast, at_least_plus, cancel_gap, power_of, lines_at_least, point_at_least, hull_in}

-- # Sums of two parts

-- the energies of two parts together
pub total_joined : (f : WholeSlot → ℤ) (slots others : List WholeSlot) → total (map f (slots ++ others)) ≡ total (map f slots) +ℤ total (map f others)
total_joined f [] others = omega (arith, ints)
total_joined f (slot ∷ slots) others =
    omega (arith, ints, total-cons (f slot) (map f (slots ++ others)), total-cons (f slot) (map f slots), total_joined f slots others)

-- what two parts spend
pub spends_joined : (points : List Point) (slots others : List WholeSlot) (one other : ℕ) → SpendsAtPoints points slots one → SpendsAtPoints points others other →
    SpendsAtPoints points (slots ++ others) (one + other)
spends_joined points [] others one other first second = subst (SpendsAtPoints points others) (omega (arith, first)) second
spends_joined points (slot ∷ slots) others one other (point, rest, has, at, later, sum) second =
    (point, rest + other, has, at, spends_joined points slots others rest other later second, omega (arith, sum))

-- # A stretch

-- What the written slots spend and what the time without a slot costs, at a power, is at most the energy of the planned ones, and of
-- what they have as time without a slot; all of it times the product of the hull's gaps.
pub record CostsAtMost (points hull : List Point) (power : ℕ) (planned written : List WholeSlot) : Type 0 where
  pub spent : ℕ
  pub spends : SpendsAtPoints points written spent
  pub bound : IsAtLeast (product (gaps_of hull) * (spent + power * busy planned)) (product (gaps_of hull) * (power * busy written)) 1
      (total (map (power_of hull) planned))

-- slots at a point's speed cost at least the point's power
kept_costs : (hull : List Point) (k : ℕ) (slots : List WholeSlot) → AreRising hull → k < length hull → All (RunAt (point_at hull k).speed) slots →
    IsAtLeast (product (gaps_of hull) * ((point_at hull k).power * busy slots)) 0 1 (total (map (power_of hull) slots))
kept_costs hull k [] rising within at = omega (arith, ints)
kept_costs hull k (slot ∷ slots) rising within at =
    let point = point_at hull k in
    let all = product (gaps_of hull) in
    let time : ℕ = slot.to - slot.from in
    let here : slot.work ≡ point.speed * time = All-head (RunAt point.speed) slot slots at in
    let first : IsAtLeast (all * (point.power * time)) 0 1 (power_of hull slot) =
    rw here (point_at_least hull k time rising within) in
    rw (total-cons (power_of hull slot) (map (power_of hull) slots))
    (omega (
      arith,
      at_least_plus (all * (point.power * time)) 0 (all * (point.power * busy slots)) 0 1 (power_of hull slot) (total (map (power_of hull) slots)) first
          (kept_costs hull k slots rising within (All-tail (RunAt point.speed) slot slots at)),
      ap (λ n. all * (point.power * n)) (sum_by-cons (λ (one : WholeSlot). one.to - one.from) slot slots),
    ))

-- a slot at the speed of a level that has a point's is at the point's
pub level_at_point : (work time level long speed : ℕ) → 1 ≤ long → work * long ≡ level * time → level ≡ speed * long → work ≡ speed * time
level_at_point work time level long speed some at is =
    eq_of_mul-eq-mul_right long some work (speed * time) (omega (arith, at, ap (λ n. n * time) is))

-- the slots of a stretch that stay
stretch_kept : (points hull : List Point) (power : ℕ) (point : Point) (planned : List WholeSlot) → AreRising hull → IsHullOf points hull → Contains hull point →
    All (RunAt point.speed) planned → CostsAtMost points hull power planned planned
stretch_kept points hull power point planned rising is_hull has at =
    let found = read_point hull point has in
    let costs : IsAtLeast (product (gaps_of hull) * (point.power * busy planned)) 0 1 (total (map (power_of hull) planned)) =
    subst (λ (one : Point). IsAtLeast (product (gaps_of hull) * (one.power * busy planned)) 0 1 (total (map (power_of hull) planned))) found
    (kept_costs hull has.0 planned rising has.1 (subst (λ (one : Point). All (RunAt one.speed) planned) (sym found) at)) in
    record {
      spent = point.power * busy planned;
      spends = at_spend points point planned (hull_in points hull point is_hull has) at;
      bound = omega (arith, costs);
    }

-- The next two are of plain numbers: the speeds `low` and `low + gap`, so long at each, and the level's work and length.
filled : (low gap time rest work long busy given : ℕ) → 1 ≤ work → low * long ≤ work → given * long ≡ work * busy →
    given ≡ (low + gap) * time + low * rest → time * (long * gap) ≡ (work - low * long) * (time + rest) → busy ≡ time + rest
filled low gap time rest work long busy given some above level does is =
    let over : (work - low * long) + low * long ≡ work = omega (arith, above) in
    eq_of_mul-eq-mul_left work some busy (time + rest)
    (omega (arith, level, ap (λ n. n * long) does, is, ap (λ n. n * (time + rest)) over))

-- the line at the work of both
on_the_line : (all p r low gap time rest : ℕ) →
    all * (p * ((low + gap) * (time + rest)) + r * ((low + gap) * time + low * rest))
    ≡ all * (p * ((low + gap) * time + low * rest) + r * (low * (time + rest))) + gap * (all * (p * rest + r * time))
on_the_line all p r low gap time rest = omega arith

-- so the line's number is what the two points cost, times the gap
line_of_split : (all p r low high gap time rest busy given : ℕ) → low + gap ≡ high → busy ≡ time + rest → given ≡ (low + gap) * time + low * rest →
    all * (p * (high * busy) + r * given) ≡ all * (p * given + r * (low * busy)) + gap * (all * (p * rest + r * time))
line_of_split all p r low high gap time rest busy given rises is_busy is_given = rw (← rises, is_busy, is_given) (on_the_line all p r low gap time rest)

-- what is spent, and the time without a slot
split_sum : (p r idle time rest fast slow busy written : ℕ) → fast ≡ time → busy ≡ time + rest → p * slow + idle * rest ≡ p * rest + idle * slow →
    written ≡ fast + slow → (r * fast + p * slow) + idle * busy ≡ (p * rest + r * time) + idle * written
split_sum p r idle time rest fast slow busy written is_fast is_busy same both = grind arith

-- What a stretch that is split spends: the plan's slots fill the time at the two points, and the time that the slower one leaves idle
-- costs the same at the idle power.
pub record SplitSpends (points : List Point) (power : ℕ) (level : Level) (low high : Point) (planned written : List WholeSlot) : Type 0 where
  pub faster : low.speed < high.speed
  pub time : ℕ
  pub rest : ℕ
  pub fills : busy planned ≡ time + rest
  pub does : all_work planned ≡ (low.speed + (high.speed - low.speed)) * time + low.speed * rest
  pub spent : ℕ
  pub spends : SpendsAtPoints points written spent
  pub is_spent : spent + power * busy planned ≡ (low.power * rest + high.power * time) + power * busy written

-- a point of speed 0 is the first of the table
idle_power_is : (points : List Point) (low : Point) → IsTable points → Contains points low → low.speed ≡ 0 → low.power ≡ (point_at points 0).power
idle_power_is points low table has none =
    ap (λ (x : Point). x.power) (one_point points low (point_at points 0) table.rising has (Contains-get_or points 0 no_point table.some) (none ∙ sym table.idle))

-- so it is for the slots of a split
pub split_spends : (points hull : List Point) (scale : ℕ) (level : Level) (low high : Point) (stretch : Piece) (planned fast slow : List WholeSlot) →
    IsTable points → IsHullOf points hull → AreNeighbours hull level low high → 1 ≤ level.work → stretch.from < stretch.to →
    All (λ slot. slot.work * level.length ≡ level.work * (slot.to - slot.from)) planned → IsSplitAt scale level low high stretch planned fast slow →
    SplitSpends points (point_at points 0).power level low high planned (fast ++ slow)
split_spends points hull scale level low high stretch planned fast slow table is_hull around some forward speeds is =
    let idle_power : ℕ = (point_at points 0).power in
    let start : ℕ = stretch.from * scale in
    let switch : ℕ = start + is.time in
    let end : ℕ = stretch.to * scale in
    let rest : ℕ = end - switch in
    let gap : ℕ = high.speed - low.speed in
    let within = time_within scale level low high stretch planned fast slow around.above_low around.below_high is in
    let long : (stretch.to - stretch.from) * scale + start ≡ end =
    omega (arith, mul-sub scale stretch.to stretch.from, mul-le-mul_right scale forward) in
    let whole : is.time + rest ≡ (stretch.to - stretch.from) * scale = omega (arith, within, long) in
    let order : switch ≤ end = omega (arith, within, long) in
    let faster : low.speed < high.speed = lt_of_mul-lt-mul_right level.length (omega (arith, around.above_low, around.below_high)) in
    let rises : low.speed + gap ≡ high.speed = omega (arith, faster) in
    let has_low : Contains hull low = subst (Contains hull) around.is_low (Contains-get_or hull around.place no_point (omega (arith, around.within))) in
    let has_high : Contains hull high = subst (Contains hull) around.is_high (Contains-get_or hull (around.place + 1) no_point around.within) in
    let fast_busy : busy fast ≡ is.time = omega (arith, runs_busy high.speed start switch fast is.first) in
    let does : all_work planned ≡ (low.speed + gap) * is.time + low.speed * rest = omega (
      arith,
      same_work planned (fast ++ slow) (λ job. sym (is.same_work job)),
      sum_by-append (λ (slot : WholeSlot). slot.work) fast slow,
      runs_work high.speed start switch fast is.first,
      ap (λ n. high.speed * n) fast_busy,
      ap (λ n. n * is.time) rises,
      runs_on_work low.speed switch end slow order is.then_slow,
    ) in
    let is_time : is.time * (level.length * gap) ≡ (level.work - low.speed * level.length) * (is.time + rest) =
    is.is_time ∙ ap (λ n. (level.work - low.speed * level.length) * n) (sym whole) in
    let fills : busy planned ≡ is.time + rest =
    filled low.speed gap is.time rest level.work level.length (busy planned) (all_work planned) some (omega (arith, around.above_low))
    (rate_together level.work level.length planned speeds) does is_time in
    let slower : SpendsOn points idle_power low.power rest slow =
    runs_on_spend points low.speed low idle_power switch end slow (hull_in points hull low is_hull has_low) refl
    (idle_power_is points low table (hull_in points hull low is_hull has_low)) order is.then_slow in
    record {
      faster = faster;
      time = is.time;
      rest = rest;
      fills = fills;
      does = does;
      spent = high.power * busy fast + low.power * busy slow;
      spends = spends_joined points fast slow (high.power * busy fast) (low.power * busy slow)
          (at_spend points high fast (hull_in points hull high is_hull has_high) (runs_at high.speed start switch fast is.first)) slower.spends;
      is_spent = split_sum low.power high.power idle_power is.time rest (busy fast) (busy slow) (busy planned) (busy (fast ++ slow)) fast_busy fills slower.rest
          (sum_by-append (λ (slot : WholeSlot). slot.to - slot.from) fast slow);
    }

-- and it costs at most the plan's energy there
stretch_split : (points hull : List Point) (level : Level) (low high : Point) (planned written : List WholeSlot) → AreNeighbours hull level low high →
    SplitSpends points (point_at points 0).power level low high planned written → CostsAtMost points hull (point_at points 0).power planned written
stretch_split points hull level low high planned written around is =
    let all : ℕ = product (gaps_of hull) in
    let gap : ℕ = high.speed - low.speed in
    let energy = total (map (power_of hull) planned) in
    let on_line = rw (around.is_low, around.is_high) at (lines_at_least hull around.place planned around.within) in
    let rises : low.speed + gap ≡ high.speed = omega (arith, is.faster) in
    let costs = cancel_gap gap (all * gains low high (busy planned) (all_work planned)) (all * losses low high (busy planned) (all_work planned))
    (all * (low.power * is.rest + high.power * is.time)) energy (omega (arith, is.faster)) on_line
    (line_of_split all low.power high.power low.speed high.speed gap is.time is.rest (busy planned) (all_work planned) rises is.fills is.does) in
    record {
      spent = is.spent;
      spends = is.spends;
      bound = omega (arith, costs, ap (λ n. all * n) is.is_spent);
    }

-- what is written for a stretch costs at most what the plan does there
stretch_costs : (jobs : List Job) (points hull : List Point) (levels : List Level) (scale : ℕ) (stretch : Piece) (planned written : List WholeSlot) →
    IsTable points → IsHullOf points hull → AreRising hull → All (λ level. (1 ≤ level.work) × (1 ≤ level.length)) levels → stretch.from < stretch.to →
    IsPartOfPlan jobs levels planned scale → RoundsAt hull levels scale stretch planned written → CostsAtMost points hull (point_at points 0).power planned written
stretch_costs jobs points hull levels scale stretch planned written table is_hull rising positive forward part (inl (none, empty)) =
    rw (none, empty) record { spent = 0; spends = refl; bound = omega (arith, ints) }
stretch_costs jobs points hull levels scale stretch planned written table is_hull rising positive forward part (inr (level, has, members, inl ((k, point, within, read, at), kept))) =
    let some = All-contains (λ level. (1 ≤ level.work) × (1 ≤ level.length)) levels level positive has in
    subst (CostsAtMost points hull (point_at points 0).power planned) (sym kept)
    (stretch_kept points hull (point_at points 0).power point planned rising is_hull (k, within, read)
    (λ i d inside. let slot = get_or planned i d in
    level_at_point slot.work (slot.to - slot.from) level.work level.length point.speed some.1 (part.speeds i d inside level has (members i d inside)) at))
stretch_costs jobs points hull levels scale stretch planned written table is_hull rising positive forward part (inr (level, has, members, inr split)) =
    let some = All-contains (λ level. (1 ≤ level.work) × (1 ≤ level.length)) levels level positive has in
    subst (CostsAtMost points hull (point_at points 0).power planned) (sym split.parts)
    (stretch_split points hull level split.low split.high planned (split.fast ++ split.slow) split.around
    (split_spends points hull scale level split.low split.high stretch planned split.fast split.slow table is_hull split.around some.0 forward
    (λ i d inside. part.speeds i d inside level has (members i d inside)) split.split))

-- # All stretches

-- two parts cost at most together what each does
costs_joined : (points hull : List Point) (power : ℕ) (planned others written made : List WholeSlot) → CostsAtMost points hull power planned written →
    CostsAtMost points hull power others made → CostsAtMost points hull power (planned ++ others) (written ++ made)
costs_joined points hull power planned others written made one other =
    let all : ℕ = product (gaps_of hull) in
    record {
      spent = one.spent + other.spent;
      spends = spends_joined points written made one.spent other.spent one.spends other.spends;
      bound = rw (total_joined (power_of hull) planned others) (omega (
        arith,
        at_least_plus (all * (one.spent + power * busy planned)) (all * (power * busy written)) (all * (other.spent + power * busy others)) (all * (power * busy made)) 1
            (total (map (power_of hull) planned)) (total (map (power_of hull) others)) one.bound other.bound,
        ap (λ n. all * (power * n)) (sum_by-append (λ (slot : WholeSlot). slot.to - slot.from) planned others),
        ap (λ n. all * (power * n)) (sum_by-append (λ (slot : WholeSlot). slot.to - slot.from) written made),
      ));
    }

-- so all that is written costs at most what the plan does
written_costs : (jobs : List Job) (points hull : List Point) (levels : List Level) (scale : ℕ) (planned written : List WrittenSlot) → IsPlan jobs planned levels →
    IsTable points → IsHullOf points hull → IsScale scale planned → IsScale scale written → RoundsStretches hull levels (stretches jobs) planned written →
    CostsAtMost points hull (point_at points 0).power (slots_at scale planned) (slots_at scale written)
written_costs jobs points hull levels scale planned written plan table is_hull is is_written rounds =
    let power : ℕ = (point_at points 0).power in
    rounds_fold jobs hull levels scale (CostsAtMost points hull power) (record { spent = 0; spends = refl; bound = omega (arith, ints) })
    (λ stretch here made forward part at.
    stretch_costs jobs points hull levels scale stretch here made table is_hull (hull_rising points hull table.rising is_hull) plan.proper.well_formed.positive forward part at)
    (λ here later made made_later one other. costs_joined points hull power here later made made_later one other) planned written plan is is_written rounds

-- # The law

-- an energy that is at most another and at least it is it
both_ways : (x : ℤ) (n : ℕ) → x ≤ℤ pos n → pos n ≤ℤ x → x ≡ pos n
both_ways x n one other = omega (arith, ints, one, other)

-- with the idle time
with_idle : (all power spent energy busy_planned busy_written idle_planned idle_written whole : ℕ) (z : ℤ) →
    IsAtLeast (all * (spent + power * busy_planned)) (all * (power * busy_written)) 1 z → busy_planned + idle_planned ≡ whole → busy_written + idle_written ≡ whole →
    energy ≡ spent + power * idle_written → pos (all * energy) ≤ℤ (z +ℤ pos (all * (power * idle_planned)))
with_idle all power spent energy busy_planned busy_written idle_planned idle_written whole z bound one other is =
    omega (
      arith,
      ints,
      bound,
      ap (λ n. all * power * n) one,
      ap (λ n. all * power * n) other,
      ap (λ n. all * n) is,
    )

-- What the rounded slots spend at a scale, which is the energy of the plan's by the hull.
pub record Attains (jobs : List Job) (points : List Point) (scale : ℕ) (planned written : List WholeSlot) : Type 0 where
  pub spent : ℕ
  pub on_points : IsEnergyOnPoints jobs points scale written spent
  pub energy : interpolated_energy jobs (hull_of points) scale planned ≡ pos (product (gaps_of (hull_of points)) * spent)

pub attains_the_hull : (jobs : List Job) (points : List Point) (planned : List WrittenSlot) (levels : List Level) (written : List WrittenSlot) (scale : ℕ) →
    IsPlan jobs planned levels → IsTable points → RoundsStretches (hull_of points) levels (stretches jobs) planned written → IsScale scale (planned ++ written) →
    Attains jobs points scale (slots_at scale planned) (slots_at scale written)
attains_the_hull jobs points planned levels written scale plan table rounds is =
    let hull : List Point = hull_of points in
    let is_hull = hull_exists points table.rising in
    let left = scale_left scale planned written is in
    let feasible = written_feasible jobs hull levels planned written scale plan rounds is in
    let costs = written_costs jobs points hull levels scale planned written plan table is_hull left (scale_right scale planned written is) rounds in
    let bottom : (point_at points 0).power ≡ (point_at hull 0).power = ap (λ (x : Point). x.power) (hull_first points hull is_hull) in
    let spent : ℕ = costs.spent + (point_at points 0).power * idle jobs scale (slots_at scale written) in
    record {
      spent = spent;
      on_points = (costs.spent, costs.spends, refl);
      energy = both_ways (interpolated_energy jobs hull scale (slots_at scale planned)) (product (gaps_of hull) * spent)
          (plans_cost_least_on_points jobs planned levels points hull scale spent (slots_at scale written) plan table is_hull left feasible (costs.spent, costs.spends, refl))
          (subst (λ (power : ℕ). pos (product (gaps_of hull) * spent) ≤ℤ (total (map (power_of hull) (slots_at scale planned)) +ℤ pos (product (gaps_of hull) * (power * idle jobs scale (slots_at scale planned)))))
          bottom
          (with_idle (product (gaps_of hull)) (point_at points 0).power costs.spent spent (busy (slots_at scale planned)) (busy (slots_at scale written))
          (idle jobs scale (slots_at scale planned)) (idle jobs scale (slots_at scale written)) (scale * horizon jobs) (total (map (power_of hull) (slots_at scale planned)))
          costs.bound (busy_and_idle jobs scale (slots_at scale planned) (plan.proper.feasible.holds scale left)) (busy_and_idle jobs scale (slots_at scale written) feasible)
          refl));
    }

-- the law: what is spent is the energy by the hull
pub rounded_attains_the_hull : RoundedAttainsTheHull
rounded_attains_the_hull jobs points planned levels written energy scale spent plan table rounding is (at_points, spends, is_spent) =
    let attained = attains_the_hull jobs points planned levels written scale plan table rounding.rounds is in
    let feasible = written_feasible jobs (hull_of points) levels planned written scale plan rounding.rounds is in
    let (other, other_spends, is_other) = attained.on_points in
    let same : at_points ≡ other = spends_once points 0 (slots_at scale written) at_points other table.rising feasible.one_at_a_time spends other_spends in
    attained.energy ∙ ap (λ n. pos (product (gaps_of (hull_of points)) * n)) (omega (arith, is_spent, is_other, ap (λ n. (point_at points 0).power * n) same, same))
