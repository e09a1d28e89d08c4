-- What both parts spend on the points, where each stretch runs at one speed: what each does, and the first point in the time between.
use Rattle.yds_model.proofs.Common.{◌≡◌, ℕ, ◌+◌, ◌-◌, ◌*◌, ◌<◌, ◌==◌, Bool, true, false, List, [], ◌∷◌, ◌++◌, length, get_or, refl, sym, ap, ◌∙◌, arith, sum_by, if◌then◌else◌, All-append, sum_by-append, Job, WholeSlot, Piece, Point, point_at, IsTable, IsHullOf, hull_of, hull_multiple, stretches, slots_in, work_in, time_at, all_time_at, in_parts, sum_by-add, sum_by-mul, sum_by_same, sum_by_zero, sum_by-map}
use Rattle.model_lemmas.proofs.HullExists.{hull_exists}
use Rattle.yds_events.specs.Stretch.{length_of}
use Rattle.yds_energy.proofs.HullEnergy.{hull_first}
use Rattle.yds_energy.proofs.PlansEnergy.{hull_table}
use Rattle.yds_energy.proofs.PointTimes.{idle_time, idle_energy}
use Rattle.yds_energy.proofs.StretchTimes.{stretches_long}
use Rattle.yds_parts.specs.Parts.{moved, together_at, gap_between}
use Rattle.yds_parts.specs.EnergyOfParts.{AreScheduled}
use Rattle.yds_parts.specs.SpentOfParts.{time_between, TimesOfParts, StretchEnergyOfParts, SpentOfParts}
use Rattle.yds_parts.proofs.Horizons.{horizon_of_both}
use Rattle.yds_parts.proofs.EventsOfParts.{stretches_between, stretches_joined, gaps_are, first_stretches, second_stretches}
use Rattle.yds_parts.proofs.StretchesOfParts.{in_first, in_second, in_gap}

-- # The time between

-- the stretch between the parts is as long as the time between them
gap_long : (time scale : ℕ) (first second : List Job) (slots others : List WholeSlot) → AreScheduled time scale first second slots others →
    sum_by length_of (stretches_between first second) ≡ gap_between first second
gap_long time scale first second slots others are = omega (
  arith,
  ap (sum_by length_of) (stretches_joined time first second are.parted are.first_windows are.second_windows),
  sum_by-append length_of (stretches first) (stretches_between first second ++ stretches second),
  sum_by-append length_of (stretches_between first second) (stretches second),
  stretches_long first are.first_windows,
  stretches_long second are.second_windows,
  stretches_long (first ++ second) (All-append (λ job. job.release < job.deadline) first second are.first_windows are.second_windows),
  horizon_of_both time first second are.parted are.first_windows are.second_windows are.some are.some_later,
)

-- stretches without work spend all their time at the first point
idle_stretches : (chosen : Bool) (multiple scale : ℕ) (pieces : List Piece) →
    sum_by (λ stretch. if chosen then (stretch.to - stretch.from) * scale * multiple else 0) pieces ≡ (if chosen then multiple * (scale * sum_by length_of pieces) else 0)
idle_stretches true multiple scale pieces =
    sum_by_same (λ stretch. (stretch.to - stretch.from) * scale * multiple) (λ stretch. multiple * scale * length_of stretch) pieces (λ k d within. omega arith)
    ∙ sum_by-mul (multiple * scale) length_of pieces
    ∙ omega arith
idle_stretches false multiple scale pieces = sum_by_zero (λ stretch. 0) pieces (λ k d within. refl)

-- # Times

-- the time of a stretch at a point
abbrev here : List Point → ℕ → List WholeSlot → ℕ → Piece → ℕ
here points scale slots speed stretch = time_at (hull_multiple points) ((stretch.to - stretch.from) * scale) (work_in scale stretch slots) (hull_of points) speed

-- the law: the times at a point add
pub times_of_parts : TimesOfParts
times_of_parts time scale speed first second points slots others are table =
    let hull : List Point = hull_of points in
    let is_hull : IsHullOf points hull = hull_exists points table.rising in
    let is_table : IsTable hull = hull_table points hull table is_hull in
    let all : List WholeSlot = together_at first slots others in
    let gaps : List Piece = stretches_between first second in
    let starts : (point_at points 0).speed ≡ (point_at hull 0).speed = ap (λ (point : Point). point.speed) (hull_first points hull is_hull) in
    let of_work = λ (stretch : Piece) (work : ℕ). time_at (hull_multiple points) ((stretch.to - stretch.from) * scale) work hull speed in
    let work : WholeSlot → ℕ = λ slot. slot.work in
    let earlier : sum_by (here points scale all speed) (stretches first) ≡ all_time_at first points scale slots speed =
    sum_by_same (here points scale all speed) (here points scale slots speed) (stretches first)
    (λ k d within. ap (λ (some : List WholeSlot). of_work (get_or (stretches first) k d) (sum_by work some))
    (in_first time scale first second are.parted slots others are.feasible are.later_feasible (get_or (stretches first) k d)
    (first_stretches time first second are.parted are.first_windows are.second_windows k d within))) in
    let later : sum_by (here points scale all speed) (stretches second) ≡ all_time_at second points scale others speed =
    sum_by_same (here points scale all speed) (here points scale others speed) (stretches second)
    (λ k d within. ap (of_work (get_or (stretches second) k d)) (ap (sum_by work)
    (in_second time scale first second are.parted slots others are.feasible are.later_feasible (get_or (stretches second) k d)
    (second_stretches time first second are.parted are.first_windows are.second_windows k d within))
    ∙ sum_by-map (moved (length first)) work (slots_in scale (get_or (stretches second) k d) others))) in
    let between : sum_by (here points scale all speed) gaps ≡ time_between points scale first second speed =
    sum_by_same (here points scale all speed) (λ stretch. if speed == (point_at points 0).speed then (stretch.to - stretch.from) * scale * hull_multiple points else 0) gaps
    (λ k d within.
    let stretch = get_or gaps k d in
    ap (λ (some : List WholeSlot). of_work stretch (sum_by work some))
    (in_gap time scale first second are.parted slots others are.feasible are.later_feasible stretch
    (gaps_are time first second are.parted are.first_windows are.second_windows k d within))
    ∙ sym (idle_time (hull_multiple points) ((stretch.to - stretch.from) * scale) hull is_table.rising is_table.some speed)
    ∙ ap (λ n. if speed == n then (stretch.to - stretch.from) * scale * hull_multiple points else 0) (sym starts))
    ∙ idle_stretches (speed == (point_at points 0).speed) (hull_multiple points) scale gaps
    ∙ ap (λ n. if speed == (point_at points 0).speed then hull_multiple points * (scale * n) else 0) (gap_long time scale first second slots others are) in
    omega (
      arith,
      ap (sum_by (here points scale all speed)) (stretches_joined time first second are.parted are.first_windows are.second_windows),
      sum_by-append (here points scale all speed) (stretches first) (gaps ++ stretches second),
      sum_by-append (here points scale all speed) gaps (stretches second),
      earlier,
      later,
      between,
    )

-- # Energy

-- a time that is all at the first point costs that point's power
idle_power : (points : List Point) (time multiple : ℕ) → IsTable points →
    sum_by (λ point. point.power * (if point.speed == (point_at points 0).speed then time * multiple else 0)) points ≡ (point_at points 0).power * (time * multiple)
idle_power [] time multiple table = absurd (omega (arith, table.some))
idle_power (low ∷ points) time multiple table =
    sum_by_same (λ point. point.power * (if point.speed == low.speed then time * multiple else 0)) (λ point. point.power * time_at multiple time 0 (low ∷ points) point.speed)
    (low ∷ points) (λ k d within. let point = get_or (low ∷ points) k d in
    ap (λ n. point.power * n) (idle_time multiple time (low ∷ points) table.rising table.some point.speed))
    ∙ idle_energy (low ∷ points) low points multiple time table.rising table.rising (0, omega arith, refl)

-- the law: the energies add
pub stretch_energy_of_parts : StretchEnergyOfParts
stretch_energy_of_parts time scale first second points slots others are table =
    let one : Point → ℕ = λ point. point.power * all_time_at first points scale slots point.speed in
    let other : Point → ℕ = λ point. point.power * all_time_at second points scale others point.speed in
    let idle : Point → ℕ = λ point. point.power * time_between points scale first second point.speed in
    omega (
      arith,
      sum_by_same (λ point. point.power * all_time_at (first ++ second) points scale (together_at first slots others) point.speed) (λ point. one point + other point + idle point) points
          (λ k d within. let point = get_or points k d in
          ap (λ n. point.power * n) (times_of_parts time scale point.speed first second points slots others are table) ∙ omega arith),
      sum_by-add (λ point. one point + other point) idle points,
      sum_by-add one other points,
      idle_power points (hull_multiple points) (scale * gap_between first second) table,
    )

-- the law: as fractions
pub spent_of_parts : SpentOfParts
spent_of_parts time scale first second points slots others are table = record {
  energy = ap (in_parts points scale) (sym (stretch_energy_of_parts time scale first second points slots others are table));
  times = simp (λ (speed : ℕ). times_of_parts time scale speed first second points slots others are table);
}
