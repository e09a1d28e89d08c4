-- Slots that run without a gap at one point's speed: their time, their work, what they spend, and that they are in order.
use Rattle.yds_model.proofs.Common.{◌≡◌, ℕ, zero, suc, ◌+◌, ◌-◌, ◌*◌, ◌≤◌, List, [], ◌∷◌, ap, arith, All, Contains, sum_by, All-nil, All-cons, All-tail, All-weaker, sum_by-cons, WholeSlot, RunFrom, Point, busy, SpendsAtPoints, RunsAtPoint, RunsOn}

-- the work of all slots together
abbrev pub all_work : List WholeSlot → ℕ
all_work slots = sum_by (λ slot. slot.work) slots

-- the slot has the speed `rate / per`
abbrev pub HasRate : ℕ → ℕ → WholeSlot → Type 0
HasRate rate per slot = slot.work * per ≡ rate * (slot.to - slot.from)

-- and so have all together
pub rate_together : (rate per : ℕ) (slots : List WholeSlot) → All (HasRate rate per) slots → all_work slots * per ≡ rate * busy slots
rate_together rate per [] each = omega arith
rate_together rate per (slot ∷ slots) each =
    simp sum_by-cons (omega (arith, each 0 slot (omega arith), rate_together rate per slots (All-tail (HasRate rate per) slot slots each)))

-- # At one speed

-- they fill the time between their ends
pub runs_busy : (speed from to : ℕ) (slots : List WholeSlot) → RunsAtPoint speed from to slots → busy slots + from ≡ to
runs_busy speed from to [] runs = omega (arith, runs)
runs_busy speed from to (slot ∷ slots) runs =
    omega (arith, sum_by-cons (λ (one : WholeSlot). one.to - one.from) slot slots, runs.0, runs.1, runs_busy speed slot.to to slots runs.3)

-- the slot has the speed
abbrev pub RunAt : ℕ → WholeSlot → Type 0
RunAt speed slot = slot.work ≡ speed * (slot.to - slot.from)

-- each has it
pub runs_at : (speed from to : ℕ) (slots : List WholeSlot) → RunsAtPoint speed from to slots → All (RunAt speed) slots
runs_at speed from to [] runs = All-nil (RunAt speed)
runs_at speed from to (slot ∷ slots) runs = All-cons (RunAt speed) slot slots runs.2 (runs_at speed slot.to to slots runs.3)

-- and so they do the speed's work
pub runs_work : (speed from to : ℕ) (slots : List WholeSlot) → RunsAtPoint speed from to slots → all_work slots ≡ speed * busy slots
runs_work speed from to slots runs =
    omega (arith, rate_together speed 1 slots (All-weaker (RunAt speed) (HasRate speed 1) (λ slot at. omega (arith, at)) slots (runs_at speed from to slots runs)))

-- slots at a point's speed spend its power
pub at_spend : (points : List Point) (point : Point) (slots : List WholeSlot) → Contains points point → All (RunAt point.speed) slots →
    SpendsAtPoints points slots (point.power * busy slots)
at_spend points point [] has at = omega arith
at_spend points point (slot ∷ slots) has at = (
  point,
  point.power * busy slots,
  has,
  at 0 slot (omega arith),
  at_spend points point slots has (All-tail (RunAt point.speed) slot slots at),
  simp sum_by-cons (omega arith),
)

-- they run one after another
pub runs_order : (speed from to : ℕ) (slots : List WholeSlot) → RunsAtPoint speed from to slots → RunFrom from slots
runs_order speed from to [] runs = tt
runs_order speed from to (slot ∷ slots) runs = (omega (arith, runs.0), runs.1, runs_order speed slot.to to slots runs.3)

-- between the ends
pub runs_within : (speed from to : ℕ) (slots : List WholeSlot) → RunsAtPoint speed from to slots → All (λ slot. (from ≤ slot.from) × (slot.to ≤ to)) slots
runs_within speed from to [] runs = All-nil (λ slot. (from ≤ slot.from) × (slot.to ≤ to))
runs_within speed from to (slot ∷ slots) runs =
    let rest = runs_busy speed slot.to to slots runs.3 in
    All-cons (λ one. (from ≤ one.from) × (one.to ≤ to)) slot slots (omega (arith, runs.0), omega (arith, rest))
    (All-weaker (λ one. (slot.to ≤ one.from) × (one.to ≤ to)) (λ one. (from ≤ one.from) × (one.to ≤ to))
    (λ one is. (omega (arith, is.0, runs.0, runs.1), is.1)) slots (runs_within speed slot.to to slots runs.3))

-- # At the slower point, which may be the idle one

-- they run one after another between the ends
pub runs_on_order : (speed from to : ℕ) (slots : List WholeSlot) → RunsOn speed from to slots →
    RunFrom from slots × All (λ slot. (from ≤ slot.from) × (slot.to ≤ to)) slots
runs_on_order zero from to [] runs = (tt, All-nil (λ slot. (from ≤ slot.from) × (slot.to ≤ to)))
runs_on_order zero from to (slot ∷ slots) runs = absurd cc
runs_on_order (suc speed) from to slots runs = (runs_order (suc speed) from to slots runs, runs_within (suc speed) from to slots runs)

-- they do the speed's work in all the time
pub runs_on_work : (speed from to : ℕ) (slots : List WholeSlot) → from ≤ to → RunsOn speed from to slots → all_work slots ≡ speed * (to - from)
runs_on_work zero from to [] within runs = omega arith
runs_on_work zero from to (slot ∷ slots) within runs = absurd cc
runs_on_work (suc speed) from to slots within runs =
    let long : busy slots ≡ to - from = omega (arith, runs_busy (suc speed) from to slots runs) in
    omega (arith, runs_work (suc speed) from to slots runs, ap (λ n. suc speed * n) long)

-- What the slower point costs in all the time is what its slots spend, and where it is the idle point the time without a slot
-- costs as much.
pub record SpendsOn (points : List Point) (idle_power power time : ℕ) (slots : List WholeSlot) : Type 0 where
  pub spends : SpendsAtPoints points slots (power * busy slots)
  pub rest : power * busy slots + idle_power * time ≡ power * time + idle_power * busy slots

-- so it is for the slots of a split
pub runs_on_spend : (points : List Point) (speed : ℕ) (point : Point) (idle_power from to : ℕ) (slots : List WholeSlot) → Contains points point →
    point.speed ≡ speed → (speed ≡ 0 → point.power ≡ idle_power) → from ≤ to → RunsOn speed from to slots →
    SpendsOn points idle_power point.power (to - from) slots
runs_on_spend points zero point idle_power from to [] has is idle within runs = record {
  spends = omega arith;
  rest = omega (arith, ap (λ n. n * (to - from)) (idle (omega arith)));
}
runs_on_spend points zero point idle_power from to (slot ∷ slots) has is idle within runs = absurd cc
runs_on_spend points (suc speed) point idle_power from to slots has is idle within runs =
    let long : busy slots ≡ to - from = omega (arith, runs_busy (suc speed) from to slots runs) in
    record {
      spends = at_spend points point slots has (runs_at point.speed from to slots (rw is runs));
      rest = omega (arith, ap (λ n. point.power * n) long, ap (λ n. idle_power * n) long);
    }
