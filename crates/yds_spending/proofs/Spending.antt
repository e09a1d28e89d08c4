-- What loads spend, by the shares of each.
use Rattle.yds_model.proofs.Common.{◌≡◌, ℕ, ◌+◌, ◌*◌, ◌/◌, ◌<◌, ◌≤◌, List, [], ◌∷◌, ◌++◌, length, get_or, take, refl, sym, ap, ap₂, ◌∙◌, arith, sum_by, All, AllZip, take_more, sum_by-cons, sum_by-le, sum_by_more_le, mul-le-mul, mul-le-mul_right, le_of_mul-le-mul_right, Point, hull_of, hull_multiple, ArePoints, time_at}
use Rattle.base.specs.declared.limits.TheConstants.{MAX_GRID, MAX_TIME, MAX_POINTS, MAX_POINT_POWER, MAX_GAPS}
use Rattle.yds_timetable.proofs.Lists.{all_zip_push}
use Rattle.yds_spending.specs.declared.load.Load.{Load}
use Rattle.yds_spending.specs.declared.time_share.TimeShare.{TimeShare}
use Rattle.yds_spending.specs.TimeShare.{time_share_at, IsShareOf}
use Rattle.yds_spending.specs.Spent.{time_of_loads, energy_of_loads}

-- the shares' times are the loads'
pub time_is : (multiple : ℕ) (hull : List Point) (loads : List Load) (shares : List TimeShare) (speed : ℕ) → AllZip (IsShareOf multiple hull) loads shares →
    sum_by (λ share. time_share_at share speed) shares ≡ sum_by (λ load. time_at multiple load.time load.work hull speed) loads
time_is multiple hull [] [] speed zip = refl
time_is multiple hull [] (share ∷ shares) speed zip = absurd zip
time_is multiple hull (load ∷ loads) [] speed zip = absurd zip
time_is multiple hull (load ∷ loads) (share ∷ shares) speed zip =
    sum_by-cons (λ (s : TimeShare). time_share_at s speed) share shares
    ∙ ap₂ (λ a b. a + b) (zip.0.each speed) (time_is multiple hull loads shares speed zip.1)
    ∙ sym (sum_by-cons (λ (l : Load). time_at multiple l.time l.work hull speed) load loads)

-- and at most all their time
pub time_short : (multiple : ℕ) (hull : List Point) (loads : List Load) (shares : List TimeShare) (speed : ℕ) → AllZip (IsShareOf multiple hull) loads shares →
    sum_by (λ share. time_share_at share speed) shares ≤ sum_by (λ load. load.time) loads * multiple
time_short multiple hull [] [] speed zip = omega arith
time_short multiple hull [] (share ∷ shares) speed zip = absurd zip
time_short multiple hull (load ∷ loads) [] speed zip = absurd zip
time_short multiple hull (load ∷ loads) (share ∷ shares) speed zip =
    omega (
      arith,
      sum_by-cons (λ (s : TimeShare). time_share_at s speed) share shares,
      ap (λ n. n * multiple) (sum_by-cons (λ (l : Load). l.time) load loads),
      zip.0.in_range speed,
      time_short multiple hull loads shares speed zip.1,
    )

module _ (points : List Point) (unit : ℕ) (loads : List Load) (shares : List TimeShare) (zip : AllZip (IsShareOf (hull_multiple points) (hull_of points)) loads shares)
    (short : sum_by (λ load. load.time) loads ≤ MAX_TIME * unit) where
  pub time_within : (speed : ℕ) → time_of_loads points loads speed ≤ MAX_TIME * (unit * hull_multiple points)
  time_within speed =
      omega (
        arith,
        time_is (hull_multiple points) (hull_of points) loads shares speed zip,
        time_short (hull_multiple points) (hull_of points) loads shares speed zip,
        mul-le-mul_right (hull_multiple points) short,
      )

  -- a point's part of the energy
  part_within : ArePoints points → All (λ point. point.power * time_of_loads points loads point.speed ≤ MAX_POINT_POWER * (MAX_TIME * (unit * hull_multiple points))) points
  part_within are i d within = mul-le-mul (are.fit i d within).power_in_range (time_within (get_or points i d).speed)

  pub energy_within : ArePoints points → energy_of_loads points loads ≤ MAX_POINTS * (MAX_POINT_POWER * (MAX_TIME * (unit * hull_multiple points)))
  energy_within are =
      omega (
        arith,
        sum_by-le (λ (point : Point). point.power * time_of_loads points loads point.speed) (MAX_POINT_POWER * (MAX_TIME * (unit * hull_multiple points))) points (part_within are),
        mul-le-mul_right (MAX_POINT_POWER * (MAX_TIME * (unit * hull_multiple points))) are.few,
      )

  -- a point's part, after those before it
  pub next_within : ArePoints points → (all : List Point) → all ≡ points → (i : ℕ) (point : Point) → i < length all → point ≡ get_or all i point → (parts next : ℕ) →
      parts ≡ sum_by (λ point. point.power * time_of_loads points loads point.speed) (take i all) → next ≡ point.power * time_of_loads points loads point.speed →
      parts + next ≤ MAX_POINTS * (MAX_POINT_POWER * (MAX_TIME * (unit * hull_multiple points)))
  next_within are all same i point within is parts next so_far here = grind (arith, energy_within, sum_by_more_le)

-- parts of at most so many units have a whole part of at most so many
pub whole_within : (parts most den : ℕ) → 1 ≤ den → parts ≤ most * den → parts / den ≤ most
whole_within parts most den some within = grind (arith, le_of_mul-le-mul_right)

-- so many parts are few enough
pub den_within : (unit multiple : ℕ) → unit ≤ MAX_GRID → multiple ≤ MAX_GAPS → unit * multiple ≤ MAX_GRID * MAX_GAPS
den_within unit multiple few gaps = mul-le-mul few gaps

-- one more load and its share
pub zip_step : (points : List Point) (loads : List Load) (shares : List TimeShare) (i : ℕ) (d : Load) (share : TimeShare) → i < length loads →
    AllZip (IsShareOf (hull_multiple points) (hull_of points)) (take i loads) shares → IsShareOf (hull_multiple points) (hull_of points) (get_or loads i d) share →
    AllZip (IsShareOf (hull_multiple points) (hull_of points)) (take (i + 1) loads) (shares ++ share ∷ [])
zip_step points loads shares i d share within all one =
    rw (take_more loads i d within) (all_zip_push (IsShareOf (hull_multiple points) (hull_of points)) (take i loads) shares (get_or loads i d) share all one)
