-- How long a load runs at the points of a hull.
use Rattle.yds_model.proofs.Common.{◌≡◌, ℕ, zero, suc, ◌+◌, ◌-◌, ◌*◌, ◌/◌, ◌<◌, ◌≤◌, ◌==◌, Bool, true, false, List, [], ◌∷◌, length, refl, sym, ap, subst, ◌∙◌, arith, nat_le, if◌then◌else◌, slice_index_or, ◌∣◌, lt-leb, le-leb, get_or_read, div-mul_cancel, mul-le-mul_right, Point, no_point, point_at, AreRising, hull_of, hull_multiple, time_at}
use Rattle.yds_energy.proofs.OneEnergy.{places_rise}
use Rattle.yds_energy.proofs.PointTimes.{gap_divides, pair_time, idle_time}
use Rattle.yds_spending.specs.declared.load.Load.{Load}
use Rattle.yds_spending.specs.declared.time_share.TimeShare.{TimeShare}
use Rattle.yds_spending.specs.TimeShare.{time_share_at, IsShareOf, IsShareBetween, IsFirstHolding}

-- # In plain numbers

-- the time at the faster point is at most all of it
pub fast_within : (work time low high multiple : ℕ) → low < high → high - low ∣ multiple → work ≤ high * time →
    (work - low * time) * (multiple / (high - low)) ≤ time * multiple
fast_within work time low high multiple rises divides enough =
    let whole : multiple / (high - low) * (high - low) ≡ multiple = div-mul_cancel (high - low) divides in
    let parts : low + (high - low) ≡ high = omega (arith, rises) in
    let surplus : work - low * time ≤ (high - low) * time = omega (arith, enough, ap (λ n. n * time) parts) in
    omega (arith, mul-le-mul_right (multiple / (high - low)) surplus, ap (λ n. time * n) whole)

-- of two numbers that are within a limit, or 0, one is chosen
chosen_within : (first second : Bool) (x y limit : ℕ) → x ≤ limit → y ≤ limit → (if first then x else (if second then y else 0)) ≤ limit
chosen_within true second x y limit one other = one
chosen_within false true x y limit one other = other
chosen_within false false x y limit one other = omega arith

-- # At a place of the hull

-- the first two points of which the second is fast enough are those
pub at_place : (multiple time work : ℕ) (hull : List Point) (place : ℕ) → suc place < length hull →
    ((k : ℕ) → 1 ≤ k → k < suc place → (point_at hull k).speed * time < work) → work ≤ (point_at hull (suc place)).speed * time → (speed : ℕ) →
    time_at multiple time work hull speed ≡ pair_time multiple time work (point_at hull place) (point_at hull (suc place)) speed
at_place multiple time work [] place within slower enough speed = absurd (omega (arith, within))
at_place multiple time work (only ∷ []) place within slower enough speed = absurd (omega (arith, within))
at_place multiple time work (low ∷ high ∷ points) zero within slower enough speed =
    let test : nat_le work (high.speed * time) ≡ true = le-leb work (high.speed * time) enough in
    ap (λ (b : Bool). if b then pair_time multiple time work low high speed else time_at multiple time work (high ∷ points) speed) test
at_place multiple time work (low ∷ high ∷ points) (suc place) within slower enough speed =
    let less : high.speed * time < work = slower 1 (omega arith) (omega arith) in
    let test : nat_le work (high.speed * time) ≡ false = lt-leb work (high.speed * time) less in
    ap (λ (b : Bool). if b then pair_time multiple time work low high speed else time_at multiple time work (high ∷ points) speed) test
    ∙ at_place multiple time work (high ∷ points) place (omega (arith, within))
    (λ k some below. slower (suc k) (omega arith) (omega (arith, below))) enough speed

-- # The load's share

-- where the first point is fast enough there is no work
pub idle_share : (points hull : List Point) (load : Load) (low time : ℕ) → hull ≡ hull_of points → AreRising hull → 1 ≤ length hull →
    (point_at hull 0).speed ≡ 0 → low ≡ (point_at hull 0).speed → IsFirstHolding hull load 0 →
    time ≡ load.time * hull_multiple points →
    IsShareOf (hull_multiple points) (hull_of points) load (record { low = low; high = low; slow = 0; fast = time })
idle_share points hull load low time is rising some idle is_low first is_time =
    let none : load.work ≡ 0 = omega (arith, first.fast_enough, ap (λ n. n * load.time) idle) in
    let one : (speed : ℕ) → (if speed == low then time else (if speed == low then 0 else 0)) ≡ (if speed == (point_at hull 0).speed then load.time * hull_multiple points else 0) =
    λ speed. rw (is_low, is_time) (merged (speed == (point_at hull 0).speed) (load.time * hull_multiple points)) in
    record {
      each = λ speed. one speed ∙ idle_time (hull_multiple points) load.time hull rising some speed
          ∙ ap (λ n. time_at (hull_multiple points) load.time n hull speed) (sym none) ∙ ap (λ (h : List Point). time_at (hull_multiple points) load.time load.work h speed) is;
      in_range = λ speed. chosen_within (speed == low) (speed == low) time 0 (load.time * hull_multiple points) (omega (arith, is_time)) (omega arith);
    }
  where
    -- a test that is made twice
    merged : (b : Bool) (x : ℕ) → (if b then x else (if b then 0 else 0)) ≡ (if b then x else 0)
    merged true x = refl
    merged false x = refl

-- the points at a place and before it
pub record AreFound (hull : List Point) (load : Load) (multiple : ℕ) (low high : Point) : Type 0 where
  pub place : ℕ
  pub within : suc place < length hull
  pub is_low : low ≡ point_at hull place
  pub is_high : high ≡ point_at hull (suc place)
  pub rises : low.speed < high.speed
  pub divides : high.speed - low.speed ∣ multiple
  pub above_low : low.speed * load.time ≤ load.work
  pub below_high : load.work ≤ high.speed * load.time
  pub slower : (k : ℕ) → 1 ≤ k → k < suc place → (point_at hull k).speed * load.time < load.work

pub found : (points hull : List Point) (load : Load) (place : ℕ) (low high : Point) → hull ≡ hull_of points → AreRising hull → IsFirstHolding hull load place → ¬ (place ≡ 0) →
    low ≡ slice_index_or hull (place - 1) low → high ≡ slice_index_or hull place high → AreFound hull load (hull_multiple points) low high
found points hull load zero low high is rising first some is_low is_high = absurd (some refl)
found points hull load (suc place) low high is rising first some is_low is_high =
    let here : suc place - 1 ≡ place = omega arith in
    let before : low ≡ slice_index_or hull place low = subst (λ (n : ℕ). low ≡ slice_index_or hull n low) here is_low in
    let lower : low ≡ point_at hull place = get_or_read hull place low (omega (arith, first.within)) before no_point in
    let higher : high ≡ point_at hull (suc place) = get_or_read hull (suc place) high first.within is_high no_point in
    record {
      place = place;
      within = first.within;
      is_low = lower;
      is_high = higher;
      rises = rw (lower, higher) (places_rise hull place (suc place) rising (omega arith) first.within);
      divides = rw (lower, higher, is) (
          let next : suc place ≡ place + 1 = omega arith in
          subst (λ (n : ℕ). (point_at (hull_of points) n).speed - (point_at (hull_of points) place).speed ∣ hull_multiple points) (sym next)
          (gap_divides (hull_of points) place (omega (arith, first.within, ap (λ (h : List Point). length h) is))));
      above_low = rw lower (let less = first.slower place (omega arith) in omega (arith, less));
      below_high = rw higher first.fast_enough;
      slower = λ k one below. first.slower k below;
    }

pub found_share : (points hull : List Point) (load : Load) (low high : Point) (share : TimeShare) → hull ≡ hull_of points → AreFound hull load (hull_multiple points) low high →
    IsShareBetween (hull_multiple points) load low high share → IsShareOf (hull_multiple points) (hull_of points) load share
found_share points hull load low high share is at between =
    let same : (speed : ℕ) → time_share_at share speed ≡ pair_time (hull_multiple points) load.time load.work low high speed =
    λ speed. rw (between.slow, between.fast, between.is_low, between.is_high) refl in
    record {
      each = λ speed. same speed
          ∙ (rw (at.is_low, at.is_high) (sym (at_place (hull_multiple points) load.time load.work hull at.place at.within at.slower (let enough = at.below_high in rw (← at.is_high) enough) speed)))
          ∙ ap (λ (h : List Point). time_at (hull_multiple points) load.time load.work h speed) is;
      in_range = λ speed. chosen_within (speed == share.high) (speed == share.low) share.fast share.slow (load.time * hull_multiple points) between.fast_in_range
          (omega (arith, between.slow));
    }
