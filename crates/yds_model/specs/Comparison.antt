-- What a schedule spends on the operating points, where each stretch runs at one speed: in each stretch at the points of the lower hull
-- around its speed, as long at each as gives that speed.
use Rattle.std.specs.Prelude.{◌≡◌, ℕ, ◌-◌, ◌*◌, ◌/◌, ◌≤◌, List, [], ◌∷◌, length, map, sum_by, nat_le, ◌==◌, if◌then◌else◌}
use Rattle.std.specs.List.{All}
use Rattle.base.specs.Numbers.{IsFirstFailure}
use Rattle.yds_model.specs.Job.{Job}
use Rattle.yds_model.specs.Scale.{Fraction}
use Rattle.yds_model.specs.Slot.{WrittenSlot, WholeSlot, AtEachScale}
use Rattle.yds_model.specs.Piece.{Piece}
use Rattle.yds_model.specs.Table.{Point, hull_of, hull_multiple}
use Rattle.yds_model.specs.Divisor.{in_lowest_terms}
use Rattle.yds_model.specs.Event.{stretches, stretch_at}
use Rattle.yds_model.specs.Policy.{slots_in}
use Rattle.yds_model.specs.Rounding.{top_of}

-- the work that the slots do in the stretch, at a scale
abbrev pub work_in : ℕ → Piece → List WholeSlot → ℕ
work_in scale stretch slots = sum_by (λ slot. slot.work) (slots_in scale stretch slots)

-- A stretch of so much `time`, in which `work` is done: how long it runs at the hull's point of this speed, times the common multiple of
-- the hull's gaps. At the faster of the two points around its speed it runs for `(work - low * time) / (high - low)`, and the rest at the slower.
abbrev pub time_at : ℕ → ℕ → ℕ → List Point → ℕ → ℕ
time_at multiple time work [] speed = 0
time_at multiple time work (point ∷ []) speed = if speed == point.speed then time * multiple else 0
time_at multiple time work (low ∷ high ∷ points) speed =
    if nat_le work (high.speed * time)
    then (if speed == high.speed then (work - low.speed * time) * (multiple / (high.speed - low.speed))
    else (if speed == low.speed then time * multiple - (work - low.speed * time) * (multiple / (high.speed - low.speed)) else 0))
    else time_at multiple time work (high ∷ points) speed

-- over all stretches, in parts of the scale and of that multiple
abbrev pub all_time_at : List Job → List Point → ℕ → List WholeSlot → ℕ → ℕ
all_time_at jobs points scale slots speed =
    sum_by (λ stretch. time_at (hull_multiple points) ((stretch.to - stretch.from) * scale) (work_in scale stretch slots) (hull_of points) speed)
    (stretches jobs)

-- the power of each point times its time, together
abbrev pub all_energy : List Job → List Point → ℕ → List WholeSlot → ℕ
all_energy jobs points scale slots = sum_by (λ point. point.power * all_time_at jobs points scale slots point.speed) points

-- so many parts of the scale and of that multiple, as a fraction in lowest terms
abbrev pub in_parts : List Point → ℕ → ℕ → Fraction
in_parts points scale parts = in_lowest_terms parts (scale * hull_multiple points)

-- an energy, and the time at each point of a table, in order
pub record Spent : Type 0 where
  pub energy : Fraction
  pub times : List Fraction

-- what the slots spend at a scale
pub record IsSpentAt (jobs : List Job) (points : List Point) (spent : Spent) (scale : ℕ) (slots : List WholeSlot) : Type 0 where
  pub energy : spent.energy ≡ in_parts points scale (all_energy jobs points scale slots)
  pub times : spent.times ≡ map (λ point. in_parts points scale (all_time_at jobs points scale slots point.speed)) points

-- at each of their scales. This looks at how much work is done in each stretch, and not at when. So it is what the slots spend on the points only
-- where each stretch is filled at one speed or empty, as in a plan's schedule and in a policy's run. Of a job from 0 to 2 of work 3 on the points
-- (0,0), (1,1), (2,3), (3,9), slots that do all the work from 0 to 1, and none from 1 to 2, have the energy 4 here; on the points it is 9.
abbrev pub IsSpent : List Job → List Point → List WrittenSlot → Spent → Type 0
IsSpent jobs points slots spent = AtEachScale slots (IsSpentAt jobs points spent)

-- the top point is fast enough for the stretch
abbrev pub HoldsStretch : List Point → ℕ → List WholeSlot → Piece → Type 0
HoldsStretch points scale slots stretch = work_in scale stretch slots ≤ top_of points * ((stretch.to - stretch.from) * scale)

-- The stretch is the first for which the top point is too slow, and serves so many units of the grid.
pub record IsTooSlowFor (jobs : List Job) (points : List Point) (grid : ℕ) (slots : List WrittenSlot) (units from to : ℕ) : Type 0 where
  pub place : ℕ
  pub is_stretch : stretch_at jobs place ≡ record { from = from; to = to }
  pub first : AtEachScale slots (λ scale whole. IsFirstFailure (length (stretches jobs)) (λ i. HoldsStretch points scale whole (stretch_at jobs i)) place)
  pub is_units : AtEachScale slots (λ scale whole. units * scale ≡ grid * work_in scale (stretch_at jobs place) whole)

-- a policy's side: what its run spends, or the first stretch for which the top point is too slow
pub data Side : Type 0 where
  Spends : (spent : Spent) → Side
  TooSlowFor : (units from to : ℕ) → Side

pub record HoldsAll (jobs : List Job) (points : List Point) (slots : List WrittenSlot) (spent : Spent) : Type 0 where
  pub holds : AtEachScale slots (λ scale whole. All (HoldsStretch points scale whole) (stretches jobs))
  pub is_spent : IsSpent jobs points slots spent

abbrev pub IsSide : List Job → List Point → ℕ → List WrittenSlot → Side → Type 0
IsSide jobs points grid slots (Spends spent) = HoldsAll jobs points slots spent
IsSide jobs points grid slots (TooSlowFor units from to) = IsTooSlowFor jobs points grid slots units from to
