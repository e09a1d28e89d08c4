-- No line between two points of a table runs below the table's lower hull.
use Rattle.std.proofs.Common.{◌≡◌, ℕ, ◌+◌, ◌-◌, ◌*◌, ◌<◌, ◌≤◌, List, [], ◌∷◌, length, zero, suc, sym, ap, ◌∙◌, subst, inl, inr, arith, add-one}
use Rattle.std.specs.List.{All, AllByRecursion}
use Rattle.std.proofs.lemmas.List.Elements.{All-cons, All-from_recursion}
use Rattle.yds_model.specs.HullLaws.{HullIsLowest}
use Rattle.std.proofs.Math.Nat.{mul-add, add-mul, mul-le-mul_left, mul-le-mul_right, le_of_mul-le-mul_left, le_of_mul-le-mul_right}
use Rattle.yds_model.specs.Table.{Point, point_at, AreRising, IsOnOrBelow, IsAbove, IsConvex, GoesOn, IsHullOf, IsAround, interpolated}

-- # Slopes and turns, by products without a difference

-- the slope from a to b is at most that from c to d, where both go to a greater speed
abbrev pub IsFlatter : Point → Point → Point → Point → Type 0
IsFlatter a b c d =
    b.power * d.speed + a.power * c.speed + c.power * b.speed + d.power * a.speed
    ≤ d.power * b.speed + c.power * a.speed + b.power * c.speed + a.power * d.speed

-- the point isn't below the line through low and high
abbrev pub IsOver : Point → Point → Point → Type 0
IsOver low high point =
    low.power * high.speed + high.power * point.speed + point.power * low.speed
    ≤ point.power * high.speed + low.power * point.speed + high.power * low.speed

-- a multiple of a gap
times_gap : (k a b : ℕ) → a ≤ b → k * (b - a) + k * a ≡ k * b
times_gap k a b within = sym (mul-add k (b - a) a) ∙ ap (λ n. k * n) (omega arith)

-- then the line to the point from low is at most as steep as that from it to high
pub flatter_below : (low high mid : Point) → low.speed ≤ mid.speed → mid.speed ≤ high.speed → IsOnOrBelow low high mid → IsFlatter low mid mid high
flatter_below low high mid from to below =
    omega (arith, times_gap mid.power low.speed high.speed (omega arith), times_gap low.power mid.speed high.speed to, times_gap high.power low.speed mid.speed from)

-- where it is above, the line from it on is flatter than the whole one, and the line up to it steeper
pub flatter_above : (low high mid : Point) → low.speed ≤ mid.speed → mid.speed ≤ high.speed → IsAbove low high mid → IsFlatter mid high low high × IsFlatter low high low mid
flatter_above low high mid from to above = grind arith

-- `IsFlatter` by the gaps between the speeds, of which products can be cancelled
abbrev ByGaps : Point → Point → Point → Point → Type 0
ByGaps a b c d =
    (d.speed - c.speed) * b.power + (b.speed - a.speed) * c.power ≤ (b.speed - a.speed) * d.power + (d.speed - c.speed) * a.power

-- a gap times a number
gap_times : (k a b : ℕ) → a ≤ b → (b - a) * k + a * k ≡ b * k
gap_times k a b within = sym (add-mul (b - a) a k) ∙ ap (λ n. n * k) (omega arith)

-- from speeds to their gaps
to_gaps : (a b c d : Point) → a.speed ≤ b.speed → c.speed ≤ d.speed → IsFlatter a b c d → ByGaps a b c d
to_gaps a b c d first second flatter =
    omega (arith, gap_times b.power c.speed d.speed second, gap_times c.power a.speed b.speed first, gap_times d.power a.speed b.speed first, gap_times a.power c.speed d.speed second)

-- and back
from_gaps : (a b c d : Point) → a.speed ≤ b.speed → c.speed ≤ d.speed → ByGaps a b c d → IsFlatter a b c d
from_gaps a b c d first second flatter =
    omega (arith, gap_times b.power c.speed d.speed second, gap_times c.power a.speed b.speed first, gap_times d.power a.speed b.speed first, gap_times a.power c.speed d.speed second)

-- three slopes, each a rise over a gap: the middle gap cancels
cancelled : (a b c d e f u v w : ℕ) → 0 < v → v * b + u * c ≤ u * d + v * a → w * d + v * e ≤ v * f + w * c → w * b + u * e ≤ u * f + w * a
cancelled a b c d e f u v w some first second =
    le_of_mul-le-mul_left {k = v} (omega (arith, mul-le-mul_left w first, mul-le-mul_left u second)) some

-- so of three slopes, each at most the next, the first is at most the last
pub flatter_flatter : (a b c d e f : Point) → a.speed ≤ b.speed → c.speed < d.speed → e.speed ≤ f.speed →
    IsFlatter a b c d → IsFlatter c d e f → IsFlatter a b e f
flatter_flatter a b c d e f one two three first second =
    from_gaps a b e f one three
    (cancelled a.power b.power c.power d.power e.power f.power (b.speed - a.speed) (d.speed - c.speed) (f.speed - e.speed) (omega arith)
    (to_gaps a b c d one (omega arith) first) (to_gaps c d e f (omega arith) three second))

-- # The order of the points

-- the points rise, from above this speed on
abbrev pub RisesFrom : ℕ → List Point → Type 0
RisesFrom speed [] = Unit {0}
RisesFrom speed (point ∷ points) = (speed < point.speed) × RisesFrom point.speed points

-- points that rise do so from the first one's speed on
pub rises_from : (point : Point) (points : List Point) → AreRising (point ∷ points) → RisesFrom point.speed points
rises_from point [] rising = tt
rises_from point (next ∷ points) rising = (rising.0, rises_from next points rising.1)

-- and back
pub rising_again : (point : Point) (points : List Point) → RisesFrom point.speed points → AreRising (point ∷ points)
rising_again point [] rises = tt
rising_again point (next ∷ points) rises = (rises.0, rising_again next points rises.1)

-- and from each lower speed on
pub rises_below : (low high : ℕ) (points : List Point) → low ≤ high → RisesFrom high points → RisesFrom low points
rises_below low high [] within rises = tt
rises_below low high (point ∷ points) within rises = (omega arith, rises.1)

-- the hull's next point comes at one of the points that are left
pub next_rises : (low high : Point) (points hull : List Point) (speed : ℕ) → RisesFrom speed points → GoesOn low points (high ∷ hull) → speed < high.speed
next_rises low high [] hull speed rises goes = absurd goes
next_rises low high (point ∷ points) hull speed rises (inl reached) =
    let same : point.speed ≡ high.speed = ap (λ (x : Point). x.speed) reached.0 in omega arith
next_rises low high (point ∷ points) hull speed rises (inr left) =
    let later : point.speed < high.speed = next_rises low high points hull point.speed rises.1 left.1 in omega arith

-- so the hull rises where the points do
pub hull_rises : (low : Point) (points hull : List Point) (speed : ℕ) → RisesFrom speed points → GoesOn low points hull → RisesFrom speed hull
hull_rises low [] [] speed rises goes = tt
hull_rises low [] (high ∷ hull) speed rises goes = absurd goes
hull_rises low (point ∷ points) [] speed rises goes = absurd goes
hull_rises low (point ∷ points) (high ∷ hull) speed rises (inl reached) =
    let same : point.speed ≡ high.speed = ap (λ (x : Point). x.speed) reached.0 in
    (omega arith, hull_rises high points hull high.speed (rises_below high.speed point.speed points (omega arith) rises.1) reached.1)
hull_rises low (point ∷ points) (high ∷ hull) speed rises (inr left) =
    hull_rises low points (high ∷ hull) speed (rises_below speed point.speed points (omega arith) rises.1) left.1

-- and each point of it is faster than the one before
pub neighbours_rise : (low : Point) (hull : List Point) (k : ℕ) → RisesFrom low.speed hull → k < length hull →
    (point_at (low ∷ hull) k).speed < (point_at hull k).speed
neighbours_rise low [] k rises within = absurd (omega arith)
neighbours_rise low (high ∷ hull) zero rises within = rises.0
neighbours_rise low (high ∷ hull) (suc k) rises within = neighbours_rise high hull k rises.1 (omega arith)

-- # All points lie over the line through two neighbours of the hull

-- a line that is at least as steep as l-h, and begins over it, ends over it
over_next : (l h low high : Point) → IsOver l h low → IsFlatter l h low high → IsOver l h high
over_next l h low high over flatter = omega arith

-- and one that is at most as steep, and ends over it, begins over it
over_before : (l h low high : Point) → IsOver l h high → IsFlatter low high l h → IsOver l h low
over_before l h low high over flatter = omega arith

-- the slope to the hull's next point, if there is one, is at least that of the line
abbrev GoesSteeper : Point → Point → Point → List Point → Type 0
GoesSteeper l h low [] = Unit {0}
GoesSteeper l h low (high ∷ hull) = IsFlatter l h low high

-- so beyond the next point too, since the hull is convex
steeper_next : (l h low high : Point) (points hull : List Point) → l.speed < h.speed → low.speed < high.speed → RisesFrom high.speed points →
    GoesOn high points hull → IsConvex (low ∷ high ∷ hull) → IsFlatter l h low high → GoesSteeper l h high hull
steeper_next l h low high points [] line gap rises goes convex steeper = tt
steeper_next l h low high points (later ∷ hull) line gap rises goes convex steeper =
    let rest : high.speed < later.speed = next_rises high later points hull high.speed rises goes in
    flatter_flatter l h low high high later (omega arith) gap (omega arith) steeper (flatter_below low later high (omega arith) (omega arith) convex.0)

-- a convex hull without its first point is convex
pub convex_tail : (low : Point) (hull : List Point) → IsConvex (low ∷ hull) → IsConvex hull
convex_tail low [] convex = tt
convex_tail low (high ∷ []) convex = tt
convex_tail low (high ∷ later ∷ hull) convex = convex.1

-- so from a point of the hull on, all points lie over it
over_after : (l h low : Point) (points hull : List Point) → l.speed < h.speed → RisesFrom low.speed points → GoesOn low points hull →
    IsConvex (low ∷ hull) → IsOver l h low → GoesSteeper l h low hull → AllByRecursion (IsOver l h) points
over_after l h low [] hull line rises goes convex over steeper = tt
over_after l h low (point ∷ points) [] line rises goes convex over steeper = absurd goes
over_after l h low (point ∷ points) (high ∷ hull) line rises (inl reached) convex over steeper =
    let P : Point → Type 0 = λ x. (low.speed < x.speed) × RisesFrom x.speed points in
    let there : P high = subst P reached.0 rises in
    let higher : IsOver l h high = over_next l h low high over steeper in (
      subst (IsOver l h) (sym reached.0) higher,
      over_after l h high points hull line there.1 reached.1 (convex_tail low (high ∷ hull) convex) higher
          (steeper_next l h low high points hull line there.0 there.1 reached.1 convex steeper),
    )
over_after l h low (point ∷ points) (high ∷ hull) line rises (inr left) convex over steeper =
    let later : point.speed < high.speed = next_rises low high points hull point.speed rises.1 left.1 in
    let up : IsFlatter low high low point = (flatter_above low high point (omega arith) (omega arith) left.0).1 in (
      over_next l h low point over
          (flatter_flatter l h low high low point (omega arith) (omega arith) (omega arith) steeper up),
      over_after l h low points (high ∷ hull) line (rises_below low.speed point.speed points (omega arith) rises.1) left.1 convex over steeper,
    )

-- What is shown from each point of the hull on, for the line through its neighbours at place k: the points from there on lie
-- over it, and up to it the slopes are at most its own.
record AreOver (low high l h : Point) (points : List Point) : Type 0 where
  this : IsOver l h low
  next : IsOver l h high
  all : AllByRecursion (IsOver l h) points
  flatter : IsFlatter low high l h

-- so for each edge of the hull, whichever it is
over_line : (low high : Point) (points hull : List Point) (k : ℕ) → RisesFrom low.speed points → GoesOn low points (high ∷ hull) →
    IsConvex (low ∷ high ∷ hull) → k < length (high ∷ hull) →
    AreOver low high (point_at (low ∷ high ∷ hull) k) (point_at (high ∷ hull) k) points
over_line low high [] hull k rises goes convex within = absurd goes
over_line low high (point ∷ points) hull zero rises goes convex within =
    let gap : low.speed < high.speed = next_rises low high (point ∷ points) hull low.speed rises goes in
    record {
      this = omega arith;
      next = omega arith;
      all = over_after low high low (point ∷ points) (high ∷ hull) gap rises goes convex (omega arith) (omega arith);
      flatter = omega arith;
    }
over_line low high (point ∷ points) [] (suc k) rises goes convex within = absurd (omega arith)
over_line low high (point ∷ points) (later ∷ hull) (suc k) rises (inl reached) convex within =
    let P : Point → Type 0 = λ x. (low.speed < x.speed) × RisesFrom x.speed points in
    let there : P high = subst P reached.0 rises in
    let rest : high.speed < later.speed = next_rises high later points hull high.speed there.1 reached.1 in
    let l : Point = point_at (high ∷ later ∷ hull) k in
    let h : Point = point_at (later ∷ hull) k in
    let on : AreOver high later l h points = over_line high later points hull k there.1 reached.1 convex.1 (omega arith) in
    let line : l.speed < h.speed = neighbours_rise high (later ∷ hull) k (hull_rises high points (later ∷ hull) high.speed there.1 reached.1) (omega arith) in
    let flat : IsFlatter low high l h =
    flatter_flatter low high high later l h (omega arith) rest (omega arith) (flatter_below low later high (omega arith) (omega arith) convex.0) on.flatter in
    record {
      this = over_before l h low high on.this flat;
      next = on.this;
      all = (subst (IsOver l h) (sym reached.0) on.this, on.all);
      flatter = flat;
    }
over_line low high (point ∷ points) (later ∷ hull) (suc k) rises (inr left) convex within =
    let rest : point.speed < high.speed = next_rises low high points (later ∷ hull) point.speed rises.1 left.1 in
    let l : Point = point_at (high ∷ later ∷ hull) k in
    let h : Point = point_at (later ∷ hull) k in
    let from : RisesFrom low.speed points = rises_below low.speed point.speed points (omega arith) rises.1 in
    let on : AreOver low high l h points = over_line low high points (later ∷ hull) (suc k) from left.1 convex within in
    let line : l.speed < h.speed = neighbours_rise high (later ∷ hull) k (hull_rises low points (high ∷ later ∷ hull) low.speed from left.1).1 (omega arith) in
    let up : IsFlatter point high low high = (flatter_above low high point (omega arith) (omega arith) left.0).0 in
    let flat : IsFlatter point high l h = flatter_flatter point high low high l h (omega arith) (omega arith) (omega arith) up on.flatter in
    record {
      this = on.this;
      next = on.next;
      all = (over_before l h point high on.next flat, on.all);
      flatter = on.flatter;
    }

-- # Between two points over the line

-- The weights of the speed p/q between a and b, and between l and h, agree: A and B between a and b, C and D between l and h.
weights : (a b l h e p q A B C : ℕ) → a + e ≡ b → p + A ≡ b * q → a * q + B ≡ p → p + C ≡ h * q → h * A + h * B ≡ e * C + (a * A + b * B)
weights a b l h e p q A B C gap to_high from_low high =
    let both : A + B ≡ e * q = omega (arith, ap (λ n. n * q) gap) in
    omega (arith, ap (λ n. h * n) both, ap (λ n. e * n) high, ap (λ n. a * n) both, ap (λ n. e * n) from_low, ap (λ n. n * B) gap)

-- the same for the lower end of the hull's edge
weights_low : (a b l e p q A B D : ℕ) → a + e ≡ b → p + A ≡ b * q → a * q + B ≡ p → l * q + D ≡ p → a * A + b * B ≡ e * D + (l * A + l * B)
weights_low a b l e p q A B D gap to_high from_low low =
    let both : A + B ≡ e * q = omega (arith, ap (λ n. n * q) gap) in
    omega (arith, ap (λ n. l * n) both, ap (λ n. e * n) low, ap (λ n. a * n) both, ap (λ n. e * n) from_low, ap (λ n. n * B) gap)

-- an end of each kind, with its weight
mixed : (a b l h x y z w d e A B C D : ℕ) → l + d ≡ h →
    z * h + w * a + x * l ≤ x * h + z * a + w * l → z * h + w * b + y * l ≤ y * h + z * b + w * l →
    h * A + h * B ≡ e * C + (a * A + b * B) → a * A + b * B ≡ e * D + (l * A + l * B) →
    (z * C + w * D) * e ≤ (x * A + y * B) * d
mixed a b l h x y z w d e A B C D gap over_a over_b high low =
    omega (
      arith,
      mul-le-mul_right A over_a,
      mul-le-mul_right B over_b,
      ap (λ n. z * n) high,
      ap (λ n. w * n) low,
      ap (λ n. x * n * A) gap,
      ap (λ n. y * n * B) gap,
    )

-- so between two points over the line, the line between them runs over it
between : (p q : ℕ) (a b l h : Point) → a.speed ≤ b.speed → l.speed ≤ h.speed → IsOver l h a → IsOver l h b →
    IsAround p q a b → IsAround p q l h →
    interpolated p q l h * (b.speed - a.speed) ≤ interpolated p q a b * (h.speed - l.speed)
between p q a b l h rises line over_a over_b around edge =
    let gap : a.speed + (b.speed - a.speed) ≡ b.speed = omega arith in
    let to_high : p + (b.speed * q - p) ≡ b.speed * q = omega (arith, around.to_high) in
    let from_low : a.speed * q + (p - a.speed * q) ≡ p = omega (arith, around.from_low) in
    let high : p + (h.speed * q - p) ≡ h.speed * q = omega (arith, edge.to_high) in
    let low : l.speed * q + (p - l.speed * q) ≡ p = omega (arith, edge.from_low) in
    mixed a.speed b.speed l.speed h.speed a.power b.power l.power h.power (h.speed - l.speed) (b.speed - a.speed) (b.speed * q - p) (p - a.speed * q)
    (h.speed * q - p) (p - l.speed * q) (omega arith) over_a over_b
    (weights a.speed b.speed l.speed h.speed (b.speed - a.speed) p q (b.speed * q - p) (p - a.speed * q) (h.speed * q - p) gap to_high from_low high)
    (weights_low a.speed b.speed l.speed (b.speed - a.speed) p q (b.speed * q - p) (p - a.speed * q) (p - l.speed * q) gap to_high from_low low)

-- all points lie over the line through two neighbours of the hull, whose first point is the first of all
edge_over : (point : Point) (points : List Point) (low high : Point) (hull : List Point) (k : ℕ) → RisesFrom low.speed points → point ≡ low →
    GoesOn low points (high ∷ hull) → IsConvex (low ∷ high ∷ hull) → k < suc (length hull) →
    All (IsOver (point_at (low ∷ high ∷ hull) k) (point_at (high ∷ hull) k)) (point ∷ points)
edge_over point points low high hull k rises first goes convex inside =
    let l : Point = point_at (low ∷ high ∷ hull) k in
    let h : Point = point_at (high ∷ hull) k in
    let on : AreOver low high l h points = over_line low high points hull k rises goes convex inside in
    All-cons (IsOver l h) point points (subst (IsOver l h) (sym first) on.this) (All-from_recursion (IsOver l h) points on.all)

-- so all points lie over the line through any two neighbours
pub hull_under : (points hull : List Point) (k : ℕ) → AreRising points → IsHullOf points hull → k + 1 < length hull →
    All (IsOver (point_at hull k) (point_at hull (k + 1))) points
hull_under [] [] k rising is_hull inside = absurd (omega arith)
hull_under [] (low ∷ hull) k rising is_hull inside = absurd is_hull.part
hull_under (point ∷ points) [] k rising is_hull inside = absurd is_hull.part
hull_under (point ∷ points) (low ∷ []) k rising is_hull inside = absurd (omega arith)
hull_under (point ∷ points) (low ∷ high ∷ hull) k rising is_hull inside =
    let P : Point → Type 0 = λ x. RisesFrom x.speed points in
    rw add-one (edge_over point points low high hull k (subst P is_hull.part.0 (rises_from point points rising)) is_hull.part.0 is_hull.part.1 is_hull.convex (omega arith))

-- the first point is in the hull
lowest : (point : Point) (points : List Point) (low high : Point) (hull : List Point) (p q i j k : ℕ) → RisesFrom low.speed points → point ≡ low →
    GoesOn low points (high ∷ hull) → IsConvex (low ∷ high ∷ hull) → 1 ≤ q → i < j → j < suc (length points) →
    IsAround p q (point_at (point ∷ points) i) (point_at (point ∷ points) j) → k < suc (length hull) →
    IsAround p q (point_at (low ∷ high ∷ hull) k) (point_at (high ∷ hull) k) →
    interpolated p q (point_at (low ∷ high ∷ hull) k) (point_at (high ∷ hull) k) * ((point_at (point ∷ points) j).speed - (point_at (point ∷ points) i).speed)
    ≤ interpolated p q (point_at (point ∷ points) i) (point_at (point ∷ points) j) * ((point_at (high ∷ hull) k).speed - (point_at (low ∷ high ∷ hull) k).speed)
lowest point points low high hull p q i j k rises first goes convex some before within around inside edge = grind (arith, between, edge_over, le_of_mul-le-mul_right)

-- the law: the hull's line is at most the line between any two points
pub hull_is_lowest : HullIsLowest
hull_is_lowest [] hull p q i j k rising is_hull some before within around inside edge = absurd (omega arith)
hull_is_lowest (point ∷ points) [] p q i j k rising is_hull some before within around inside edge = absurd (omega arith)
hull_is_lowest (point ∷ points) (low ∷ []) p q i j k rising is_hull some before within around inside edge = absurd (omega arith)
hull_is_lowest (point ∷ points) (low ∷ high ∷ hull) p q i j k rising is_hull some before within around inside edge =
    let P : Point → Type 0 = λ x. RisesFrom x.speed points in
    rw add-one (lowest point points low high hull p q i j k (subst P is_hull.part.0 (rises_from point points rising)) is_hull.part.0 is_hull.part.1
    is_hull.convex some before within around (omega arith) (rw add-one at edge))
