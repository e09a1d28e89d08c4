-- Rounding a plan to the operating points: where a level's speed is a point of the table's lower hull its slots stay; elsewhere each
-- stretch runs first at the faster of the two points around the speed and then at the slower, so long that it does the same work.
-- Two points are enough: Ishihara and Yasuura (ISLPED 1998).
use Rattle.std.specs.Prelude.{◌≡◌, ℕ, zero, suc, ◌+◌, ◌-◌, ◌*◌, ◌<◌, ◌≤◌, ◌⊎◌, List, [], ◌∷◌, ◌++◌, length, map, ◌==◌, if◌then◌else◌}
use Rattle.std.specs.List.{All, Contains, Any}
use Rattle.base.specs.Numbers.{AreDifferent}
use Rattle.yds_model.specs.Job.{Job}
use Rattle.yds_model.specs.Scale.{Fraction, numerator}
use Rattle.yds_model.specs.Slot.{WrittenSlot, WholeSlot, AtEachScale, slots_at, work_given}
use Rattle.yds_model.specs.Piece.{Piece}
use Rattle.yds_model.specs.Level.{Level}
use Rattle.yds_model.specs.Divisor.{common_multiple, IsLowest}
use Rattle.yds_model.specs.Table.{Point, point_at, hull_of}
use Rattle.yds_model.specs.Event.{stretches, LiesWritten}
use Rattle.yds_model.specs.Plan.{IsOver, speed_den}
use Rattle.yds_model.specs.Energy.{IsEnergyOnPoints}

-- the speed of the last point
abbrev pub top_of : List Point → ℕ
top_of points = (point_at points (length points - 1)).speed

-- the level is faster than the top point
abbrev pub IsTooFast : List Point → Level → Type 0
IsTooFast points level = top_of points * level.length < level.work

-- the level runs at the point's speed
abbrev pub HasPointSpeed : Level → Point → Type 0
HasPointSpeed level point = level.work ≡ point.speed * level.length

-- The level's speed lies between those of these two neighbours of the hull.
pub record AreNeighbours (hull : List Point) (level : Level) (low high : Point) : Type 0 where
  pub place : ℕ
  pub within : place + 1 < length hull
  pub is_low : point_at hull place ≡ low
  pub is_high : point_at hull (place + 1) ≡ high
  pub above_low : low.speed * level.length < level.work
  pub below_high : level.work < high.speed * level.length

-- the jobs of the slots, one after another, each run of one job named once
abbrev pub jobs_in_turn : List WholeSlot → List ℕ
jobs_in_turn [] = []
jobs_in_turn (slot ∷ []) = slot.job ∷ []
jobs_in_turn (slot ∷ next ∷ slots) =
    if slot.job == next.job then jobs_in_turn (next ∷ slots) else slot.job ∷ jobs_in_turn (next ∷ slots)

-- at a scale: the slots run without a gap between these times, all at one point's speed
abbrev pub RunsAtPoint : ℕ → ℕ → ℕ → List WholeSlot → Type 0
RunsAtPoint speed from to [] = from ≡ to
RunsAtPoint speed from to (slot ∷ slots) =
    (slot.from ≡ from) × (slot.from < slot.to) × (slot.work ≡ speed * (slot.to - slot.from)) × RunsAtPoint speed slot.to to slots

-- at the slower point until the stretch ends, or not at all where that point is the idle one
abbrev pub RunsOn : ℕ → ℕ → ℕ → List WholeSlot → Type 0
RunsOn zero from to slots = slots ≡ []
RunsOn (suc speed) from to slots = RunsAtPoint (suc speed) from to slots

-- at a scale: what the plan does in a stretch is done at the two points, up to the switch at the faster one
pub record IsSplitAt (scale : ℕ) (level : Level) (low high : Point) (stretch : Piece) (planned fast slow : List WholeSlot) : Type 0 where
  pub time : ℕ
  pub is_time : time * (level.length * (high.speed - low.speed)) ≡ (level.work - low.speed * level.length) * ((stretch.to - stretch.from) * scale)
  pub first : RunsAtPoint high.speed (stretch.from * scale) (stretch.from * scale + time) fast
  pub then_slow : RunsOn low.speed (stretch.from * scale + time) (stretch.to * scale) slow
  pub same_order : jobs_in_turn (fast ++ slow) ≡ jobs_in_turn planned
  pub same_work : (job : ℕ) → work_given (fast ++ slow) job ≡ work_given planned job

-- the denominators of a split: works over L * g, ends in each part over L times the common multiple of the point's speed and g
pub record HasSplitDenominators (level : Level) (gap speed : ℕ) (slot : WrittenSlot) : Type 0 where
  pub from : IsOver (speed_den level * common_multiple speed gap) slot.from
  pub to : IsOver (speed_den level * common_multiple speed gap) slot.to
  pub work : IsOver (speed_den level * gap) slot.work

-- the level runs at the speed of a point of the hull, and the plan's slots of the stretch are kept
pub record KeepsStretch (hull : List Point) (level : Level) (planned written : List WrittenSlot) : Type 0 where
  pub at_point : Any (HasPointSpeed level) hull
  pub kept : written ≡ planned

-- the plan's slots of the stretch are split between the two points around the level's speed; a job has at most one slot at each
pub record SplitsStretch (hull : List Point) (level : Level) (stretch : Piece) (planned written : List WrittenSlot) : Type 0 where
  pub low : Point
  pub high : Point
  pub around : AreNeighbours hull level low high
  pub fast : List WrittenSlot
  pub slow : List WrittenSlot
  pub parts : written ≡ fast ++ slow
  pub split : AtEachScale (planned ++ fast ++ slow) (λ scale whole.
      IsSplitAt scale level low high stretch (slots_at scale planned) (slots_at scale fast) (slots_at scale slow))
  pub fast_once : AreDifferent (map (λ slot. slot.job) fast)
  pub slow_once : AreDifferent (map (λ slot. slot.job) slow)
  pub fast_denominators : All (HasSplitDenominators level (high.speed - low.speed) high.speed) fast
  pub slow_denominators : All (HasSplitDenominators level (high.speed - low.speed) low.speed) slow

-- What is written for one stretch: nothing where the plan has nothing there, the plan's slots where the speed is a point's, and a
-- split elsewhere.
abbrev pub RoundsStretch : List Point → List Level → Piece → List WrittenSlot → List WrittenSlot → Type 0
RoundsStretch hull levels stretch planned written =
    ((planned ≡ []) × (written ≡ []))
    ⊎ ((level : Level) × Contains levels level × All (λ slot. Contains level.members slot.job) planned
    × (KeepsStretch hull level planned written ⊎ SplitsStretch hull level stretch planned written))

-- the plan's slots, stretch by stretch, and what is written for each
abbrev pub RoundsStretches : List Point → List Level → List Piece → List WrittenSlot → List WrittenSlot → Type 0
RoundsStretches hull levels [] planned written = (planned ≡ []) × (written ≡ [])
RoundsStretches hull levels (stretch ∷ others) planned written =
    (here : List WrittenSlot) × (later : List WrittenSlot) × (made : List WrittenSlot) × (made_later : List WrittenSlot)
    × (planned ≡ here ++ later) × (written ≡ made ++ made_later)
    × All (λ slot. LiesWritten slot stretch) here
    × RoundsStretch hull levels stretch here made × RoundsStretches hull levels others later made_later

-- at each scale each slot runs at a point's speed, and the fraction is the schedule's energy on the points
pub record IsEnergyOf (jobs : List Job) (points : List Point) (slots : List WrittenSlot) (energy : Fraction) : Type 0 where
  pub has_parts : 1 ≤ energy.den
  pub at_scales : AtEachScale slots (λ scale whole.
      (spent : ℕ) × IsEnergyOnPoints jobs points scale whole spent × (spent * energy.den ≡ numerator energy * scale))

-- A plan's slots are rounded to these, at most five for each job, whose energy is this fraction in lowest terms.
pub record IsRounding (jobs : List Job) (points : List Point) (planned : List WrittenSlot) (levels : List Level)
    (written : List WrittenSlot) (energy : Fraction) : Type 0 where
  pub fast_enough : All (λ level. IsTooFast points level → ⊥) levels
  pub rounds : RoundsStretches (hull_of points) levels (stretches jobs) planned written
  pub few_slots : length written ≤ 5 * length jobs
  pub energy_of : IsEnergyOf jobs points written energy
  pub lowest : IsLowest energy
