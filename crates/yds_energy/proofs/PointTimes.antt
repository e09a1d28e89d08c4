-- How long a stretch runs at each point of a hull, and what it costs: the time is spent at the two points around its speed.
use Rattle.yds_model.proofs.Common.{◌≡◌, ℕ, zero, suc, ◌+◌, ◌-◌, ◌*◌, ◌/◌, ◌<◌, ◌≤◌, ◌==◌, true, false, List, [], ◌∷◌, length, refl, sym, ap, subst, ◌∙◌, arith, inl, inr, add-one, Contains, sum_by, nat_le, if◌then◌else◌, ◌∣◌, cases_eq, cases_lt, eq-eqb, ne_eqb, le-leb, lt-leb, nat_tests, sum_by-cons, dvd_trans, mul-add, div-mul_cancel, mul-le-mul_right, multiple_of_all, Point, point_at, AreRising, IsHullOf, GoesOn, gaps_of, top_of, time_at, sum_by-add}
use Rattle.fraction_lemmas.proofs.Divisor.{multiple_is_least}
use Rattle.model_lemmas.proofs.Hull.{RisesFrom, rises_from}
use Rattle.yds_energy.proofs.Hinges.{gains, losses}
use Rattle.yds_energy.proofs.OneEnergy.{rising_tail, places_rise, one_point}

-- # The hull's top

-- the first of more than one point isn't the last
top_later : (low high : Point) (points : List Point) → top_of (low ∷ high ∷ points) ≡ top_of (high ∷ points)
top_later low high points = grind arith

-- from a point on, the hull ends where the points do
goes_top : (low : Point) (points hull : List Point) → GoesOn low points hull → top_of (low ∷ points) ≡ top_of (low ∷ hull)
goes_top low [] [] goes = refl
goes_top low (point ∷ points) [] goes = absurd goes
goes_top low [] (high ∷ hull) goes = absurd goes
goes_top low (point ∷ points) (high ∷ hull) (inl (reached, goes)) =
    top_later low point points ∙ ap (λ (p : Point). top_of (p ∷ points)) reached ∙ goes_top high points hull goes ∙ sym (top_later low high hull)
goes_top low (point ∷ []) (high ∷ hull) (inr (above, goes)) = absurd goes
goes_top low (point ∷ next ∷ points) (high ∷ hull) (inr (above, goes)) =
    top_later low point (next ∷ points) ∙ top_later point next points ∙ sym (top_later low next points) ∙ goes_top low (next ∷ points) (high ∷ hull) goes

-- so the top of the hull is that of the table
pub hull_top : (points hull : List Point) → IsHullOf points hull → top_of points ≡ top_of hull
hull_top [] [] is_hull = refl
hull_top [] (low ∷ hull) is_hull = absurd is_hull.part
hull_top (point ∷ points) [] is_hull = absurd is_hull.part
hull_top (point ∷ points) (low ∷ hull) is_hull = rw (is_hull.part.0) (goes_top low points hull is_hull.part.1)

-- # A sum over the points

-- a choice by a test, in a sum
abbrev chosen : ℕ → ℕ → Point → ℕ
chosen speed x point = if point.speed == speed then x else 0

-- faster points aren't chosen
chosen_none : (speed x from : ℕ) (points : List Point) → RisesFrom from points → speed ≤ from → sum_by (λ point. point.power * chosen speed x point) points ≡ 0
chosen_none speed x from [] rises slow = refl
chosen_none speed x from (point ∷ points) rises slow =
    let other : (point.speed == speed) ≡ false = ne_eqb point.speed speed (λ same. omega (arith, same, rises.0, slow)) in
    simp sum_by-cons (rw other (omega (arith, chosen_none speed x point.speed points rises.1 (omega (arith, rises.0, slow)))))

-- what holds of a number in a list holds later where it isn't the first
contains_later : (point first : Point) (points : List Point) → (first ≡ point → ⊥) → Contains (first ∷ points) point → Contains points point
contains_later point first points other (zero, within, is) = absurd (other is)
contains_later point first points other (suc k, within, is) = (k, omega (arith, within), is)

-- so only the point of that speed is
chosen_once : (points : List Point) (q : Point) (x : ℕ) → AreRising points → Contains points q →
    sum_by (λ point. point.power * chosen q.speed x point) points ≡ q.power * x
chosen_once [] q x rising has = absurd (omega (arith, has.1))
chosen_once (point ∷ points) q x rising has = elim (cases_eq point.speed q.speed) [
  | inl same ↦
      let power : point.power ≡ q.power = ap (λ (p : Point). p.power) (one_point (point ∷ points) point q rising (0, omega arith, refl) has same) in
      let here = eq-eqb point.speed q.speed same in
      simp sum_by-cons (rw here (omega (arith, ap (λ n. n * x) power, chosen_none q.speed x point.speed points (rises_from point points rising) (omega (arith, same)))))
  | inr other ↦
      let there = ne_eqb point.speed q.speed other in
      simp sum_by-cons (rw there (omega (
        arith,
        chosen_once points q x (rising_tail point points rising)
            (contains_later q point points (λ is. other (ap (λ (p : Point). p.speed) is)) has),
      )))
]

-- # What a stretch costs

-- the power of each point times the time at it
abbrev pub point_energy : List Point → ℕ → ℕ → ℕ → List Point → ℕ
point_energy points multiple time work hull = sum_by (λ point. point.power * time_at multiple time work hull point.speed) points

-- a time at each of two points, and none elsewhere
abbrev pair_at : Point → Point → ℕ → ℕ → ℕ → ℕ
pair_at low high fast slow speed = if speed == high.speed then fast else (if speed == low.speed then slow else 0)

-- the times of a stretch at two points around its speed
abbrev pub pair_time : ℕ → ℕ → ℕ → Point → Point → ℕ → ℕ
pair_time multiple time work low high speed =
    if speed == high.speed then (work - low.speed * time) * (multiple / (high.speed - low.speed))
    else (if speed == low.speed then time * multiple - (work - low.speed * time) * (multiple / (high.speed - low.speed)) else 0)

-- it is a choice of the one and of the other
two_chosen : (low high point : Point) (fast slow : ℕ) → low.speed < high.speed →
    pair_at low high fast slow point.speed ≡ chosen high.speed fast point + chosen low.speed slow point
two_chosen low high point fast slow rises = grind (arith, nat_tests)

-- so its energy is that of the two points
pair_energy : (points : List Point) (low high : Point) (fast slow : ℕ) → AreRising points → Contains points low → Contains points high → low.speed < high.speed →
    sum_by (λ point. point.power * pair_at low high fast slow point.speed) points ≡ high.power * fast + low.power * slow
pair_energy points low high fast slow rising has_low has_high rises =
    simp (λ (point : Point). two_chosen low high point fast slow rises, mul-add, sum_by-add, chosen_once points high fast rising has_high, chosen_once points low slow rising has_low)

-- the place of the two points of a hull around a stretch's speed
pub record IsAtPlace (multiple time work : ℕ) (hull : List Point) : Type 0 where
  pub place : ℕ
  pub within : suc place < length hull
  pub above_low : (point_at hull place).speed * time ≤ work
  pub below_high : work ≤ (point_at hull (suc place)).speed * time
  pub times : (speed : ℕ) → time_at multiple time work hull speed ≡ pair_time multiple time work (point_at hull place) (point_at hull (suc place)) speed

-- the first two points of which the second is fast enough
pub find_place : (multiple time work : ℕ) (hull : List Point) → 2 ≤ length hull → (point_at hull 0).speed * time ≤ work → work ≤ top_of hull * time →
    IsAtPlace multiple time work hull
find_place multiple time work [] some from to = absurd (omega (arith, some))
find_place multiple time work (only ∷ []) some from to = absurd (omega (arith, some))
find_place multiple time work (low ∷ high ∷ []) some from to = record {
  place = 0;
  within = omega arith;
  above_low = from;
  below_high = to;
  times = λ speed. rw (le-leb work (high.speed * time) to) refl;
}
find_place multiple time work (low ∷ high ∷ next ∷ points) some from to = elim (cases_lt (high.speed * time) work) [
  | inl less ↦
      let rest = find_place multiple time work (high ∷ next ∷ points) (omega arith) (omega (arith, less))
      (omega (arith, to, ap (λ n. n * time) (top_later low high (next ∷ points)))) in
      record {
        place = suc rest.place;
        within = omega (arith, rest.within);
        above_low = rest.above_low;
        below_high = rest.below_high;
        times = λ speed. rw (lt-leb work (high.speed * time) less) (rest.times speed);
      }
  | inr enough ↦ record {
    place = 0;
    within = omega arith;
    above_low = from;
    below_high = enough;
    times = λ speed. rw (le-leb work (high.speed * time) enough) refl;
  }
]

-- a gap between neighbours divides the common multiple of all
pub gap_divides : (points : List Point) (place : ℕ) → place + 1 < length points →
    (point_at points (place + 1)).speed - (point_at points place).speed ∣ multiple_of_all (gaps_of points)
gap_divides [] place within = absurd (omega (arith, within))
gap_divides (point ∷ []) place within = absurd (omega (arith, within))
gap_divides (point ∷ next ∷ points) zero within = (multiple_is_least (next.speed - point.speed) (multiple_of_all (gaps_of (next ∷ points)))).0
gap_divides (point ∷ next ∷ points) (suc place) within =
    let here : suc (place + 1) ≡ suc place + 1 = omega arith in
    subst (λ (n : ℕ). (point_at (point ∷ next ∷ points) n).speed - (point_at (next ∷ points) place).speed ∣ multiple_of_all (gaps_of (point ∷ next ∷ points))) here
    (dvd_trans _ (gap_divides (next ∷ points) place (omega (arith, within))) (multiple_is_least (next.speed - point.speed) (multiple_of_all (gaps_of (next ∷ points)))).1)

-- The next two are of plain numbers: speeds, powers, the time and the work, what the work is above the slower speed, and the times at both.
fast_fits : (low gap high time work above part multiple : ℕ) → low + gap ≡ high → above + low * time ≡ work → work ≤ high * time → part * gap ≡ multiple →
    above * part ≤ time * multiple
fast_fits low gap high time work above part multiple is_high is_work enough whole =
    let less : above ≤ gap * time = omega (arith, is_work, enough, ap (λ n. n * time) is_high) in
    omega (arith, mul-le-mul_right part less, ap (λ n. time * n) whole)

-- the cost is on the line between the two
cost_on_line : (p r low gap high time work above part multiple fast slow cost : ℕ) → low + gap ≡ high → above + low * time ≡ work → part * gap ≡ multiple →
    fast ≡ above * part → slow + fast ≡ time * multiple → cost ≡ r * fast + p * slow →
    gap * cost + multiple * (p * work + r * (low * time)) ≡ multiple * (p * (high * time) + r * work)
cost_on_line p r low gap high time work above part multiple fast slow cost is_high is_work whole is_fast both is_cost =
    let of_fast : gap * fast ≡ above * multiple = omega (arith, ap (λ n. gap * n) is_fast, ap (λ n. above * n) whole) in
    let of_slow : gap * slow + above * multiple ≡ gap * (time * multiple) = omega (arith, ap (λ n. gap * n) both, of_fast) in
    omega (
      arith,
      ap (λ n. gap * n) is_cost,
      ap (λ n. r * n) of_fast,
      ap (λ n. p * n) of_slow,
      ap (λ n. multiple * r * n) is_work,
      ap (λ n. multiple * p * n) is_work,
      ap (λ n. multiple * p * time * n) is_high,
    )

-- So a stretch costs what the line between the two points around its speed says, times the common multiple; both times the points' gap.
pub place_energy : (points hull : List Point) (time work : ℕ) → AreRising points → AreRising hull →
    ((k : ℕ) → k < length hull → Contains points (point_at hull k)) → (at : IsAtPlace (multiple_of_all (gaps_of hull)) time work hull) →
    ((point_at hull (suc at.place)).speed - (point_at hull at.place).speed) * point_energy points (multiple_of_all (gaps_of hull)) time work hull
    + multiple_of_all (gaps_of hull) * losses (point_at hull at.place) (point_at hull (suc at.place)) time work
    ≡ multiple_of_all (gaps_of hull) * gains (point_at hull at.place) (point_at hull (suc at.place)) time work
place_energy points hull time work rising hull_rising has at =
    let multiple : ℕ = multiple_of_all (gaps_of hull) in
    let low = point_at hull at.place in
    let high = point_at hull (suc at.place) in
    let gap : ℕ = high.speed - low.speed in
    let above : ℕ = work - low.speed * time in
    let part : ℕ = multiple / gap in
    let fast : ℕ = above * part in
    let slow : ℕ = time * multiple - fast in
    let rises : low.speed < high.speed = places_rise hull at.place (suc at.place) hull_rising (omega arith) at.within in
    let is_high : low.speed + gap ≡ high.speed = omega (arith, rises) in
    let is_work : above + low.speed * time ≡ work = omega (arith, at.above_low) in
    let whole : part * gap ≡ multiple = div-mul_cancel gap (rw add-one at (gap_divides hull at.place (omega (arith, at.within)))) in
    let fits = fast_fits low.speed gap high.speed time work above part multiple is_high is_work at.below_high whole in
    let cost : point_energy points multiple time work hull ≡ high.power * fast + low.power * slow =
    simp at.times (pair_energy points low high fast slow rising (has at.place (omega (arith, at.within))) (has (suc at.place) at.within) rises) in
    cost_on_line low.power high.power low.speed gap high.speed time work above part multiple fast slow (point_energy points multiple time work hull) is_high is_work whole
    refl (omega (arith, fits)) cost

-- a table of one point has one time
pub only_energy : (points : List Point) (only : Point) (multiple time work : ℕ) → AreRising points → Contains points only →
    point_energy points multiple time work (only ∷ []) ≡ only.power * (time * multiple)
only_energy points only multiple time work rising has = chosen_once points only (time * multiple) rising has

-- nothing less a number is nothing
none_less : (a b : ℕ) → (0 - a) * b ≡ 0
none_less a b = let none : 0 - a ≡ 0 = omega arith in omega (arith, ap (λ n. n * b) none)

-- no work takes all the time at the first point
pub idle_time : (multiple time : ℕ) (hull : List Point) → AreRising hull → 1 ≤ length hull → (speed : ℕ) →
    (if speed == (point_at hull 0).speed then time * multiple else 0) ≡ time_at multiple time 0 hull speed
idle_time multiple time [] rising some speed = absurd (omega (arith, some))
idle_time multiple time (only ∷ []) rising some speed = refl
idle_time multiple time (low ∷ high ∷ points) rising some speed =
    let test : nat_le 0 (high.speed * time) ≡ true = le-leb 0 (high.speed * time) (omega arith) in
    let fast = none_less (low.speed * time) (multiple / (high.speed - low.speed)) in
    elim (cases_eq speed high.speed) [
      | inl same ↦ rw (test, eq-eqb speed high.speed same, ne_eqb speed low.speed (λ at. omega (arith, at, same, rising.0))) (sym fast)
      | inr other ↦ rw (test, ne_eqb speed high.speed other)
          (ap (λ n. if speed == low.speed then n else 0) (omega (arith, fast)))
    ]

-- where nothing is done, all the time is spent at the first point
pub idle_energy : (points : List Point) (low : Point) (hull : List Point) (multiple time : ℕ) → AreRising points → AreRising (low ∷ hull) → Contains points low →
    point_energy points multiple time 0 (low ∷ hull) ≡ low.power * (time * multiple)
idle_energy points low hull multiple time rising hull_rising has =
    simp (← idle_time multiple time (low ∷ hull) hull_rising (omega arith)) (chosen_once points low (time * multiple) rising has)
