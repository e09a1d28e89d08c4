-- The energy of one slot, by a convex table: the number of the first line, and what each later point adds above its speed.
use Rattle.yds_model.proofs.Common.{◌≡◌, ℕ, ◌+◌, ◌-◌, ◌*◌, ◌<◌, ◌≤◌, List, [], ◌∷◌, refl, arith, ap, ◌∙◌, ℤ, pos, ◌*ℤ◌, fold, mul-le-mul_left, mul-le-mul_right, int_max, cases_lt, Point, AreRising, IsConvex, IsOnOrBelow, gaps_of, product, on_lines, greatest}
use Rattle.yds_model.specs.Energy.{on_line}
use Rattle.yds_energy.proofs.Differences.{fold_from, IsDifference, difference_of, difference_times, difference_plus, difference_first, difference_second, greatest-cons}

-- the product of a list with one factor more is that factor times it
pub product-cons : (n : ℕ) (ns : List ℕ) → product (n ∷ ns) ≡ n * product ns
product-cons n ns =
    let same : 1 * n ≡ n * 1 = omega arith in
    ap (λ x. fold (λ a n. a * n) x ns) same ∙ fold_from (λ a n. a * n) (λ x y z. omega arith) n 1 ns

-- # One line

-- the number that a line gives a slot is the first of these less the second
abbrev pub gains : Point → Point → ℕ → ℕ → ℕ
gains low high time work = low.power * (high.speed * time) + high.power * work

-- and what is taken off
abbrev pub losses : Point → Point → ℕ → ℕ → ℕ
losses low high time work = low.power * work + high.power * (low.speed * time)

-- so the number is their difference
pub line_is : (low high : Point) (time work : ℕ) → IsDifference (gains low high time work) (losses low high time work) (on_line low high time work)
line_is low high time work =
    difference_plus (low.power * (high.speed * time)) (low.power * work) (high.power * work) (high.power * (low.speed * time)) _ _
    (difference_times low.power (high.speed * time) work _ (difference_of (high.speed * time) work))
    (difference_times high.power work (low.speed * time) _ (difference_of work (low.speed * time)))

-- # The next line

-- how much steeper the line from `high` on is than that to it, times both gaps
abbrev pub turn : Point → Point → Point → ℕ
turn low high next = (low.power * (next.speed - high.speed) + next.power * (high.speed - low.speed)) - high.power * (next.speed - low.speed)

-- both lines meet at the middle point, and the later gains by the turn
turned : (low high next power low_power next_power g d c time work : ℕ) → low + g ≡ high → high + d ≡ next →
    c + power * (g + d) ≡ low_power * d + next_power * g →
    g * (power * (next * time) + next_power * work) + d * (low_power * work + power * (low * time)) + c * (high * time)
    ≡ g * (power * work + next_power * (high * time)) + d * (low_power * (high * time) + power * work) + c * work
turned low high next power low_power next_power g d c time work first second bend =
    omega (
      arith,
      ap (λ n. power * d * time * n) first,
      ap (λ n. power * g * time * n) second,
      ap (λ n. n * work) bend,
      ap (λ n. n * (high * time)) bend,
    )

-- beyond the middle point the later line gains what the turn says
later_gains : (low high next : Point) (time work : ℕ) → low.speed < high.speed → high.speed < next.speed → IsOnOrBelow low next high →
    (high.speed - low.speed) * gains high next time work + (next.speed - high.speed) * losses low high time work + turn low high next * (high.speed * time)
    ≡ (high.speed - low.speed) * losses high next time work + (next.speed - high.speed) * gains low high time work + turn low high next * work
later_gains low high next time work first second convex = grind (arith, turned, ℕ)

-- # All lines

-- what the points after the second add, each above its speed
abbrev pub hinges : ℕ → List Point → ℕ → ℕ → ℕ
hinges before [] time work = 0
hinges before (point ∷ []) time work = 0
hinges before (low ∷ high ∷ []) time work = 0
hinges before (low ∷ high ∷ next ∷ points) time work =
    before * product (gaps_of (next ∷ points)) * turn low high next * (1 * work - high.speed * time)
    + hinges (before * (high.speed - low.speed)) (high ∷ next ∷ points) time work

-- at the first point's speed and below they add nothing
no_hinges : (before : ℕ) (low high : Point) (points : List Point) (time work : ℕ) → AreRising (low ∷ high ∷ points) → work ≤ low.speed * time →
    hinges before (low ∷ high ∷ points) time work ≡ 0
no_hinges before low high [] time work rising slow = refl
no_hinges before low high (next ∷ points) time work rising slow =
    let order : low.speed ≤ high.speed = omega (arith, rising.0) in
    let slower : work ≤ high.speed * time = omega (arith, slow, mul-le-mul_right time order) in
    let none : 1 * work - high.speed * time ≡ 0 = omega (arith, slower) in
    omega (
      arith,
      ap (λ n. before * product (gaps_of (next ∷ points)) * turn low high next * n) none,
      no_hinges (before * (high.speed - low.speed)) high next points time work rising.1 slower,
    )

-- the greater of the first line's number and the rest's, where the two meet at an edge
joined : (a b c d above weight work edge : ℕ) (x y : ℤ) → c + b + weight * edge ≡ d + a + weight * work →
    IsDifference a b x → IsDifference (c + above) d y → (work ≤ edge → above ≡ 0) →
    IsDifference (a + (weight * (1 * work - edge) + above)) b (int_max x y)
joined a b c d above weight work edge x y meet first rest low = grind (arith, cases_lt, difference_first, difference_second, mul-le-mul_left)

-- the meeting of two lines, times the other gaps
meeting : (k g d c gains losses next_gains next_losses work edge front back : ℕ) → front ≡ k * d → back ≡ k * g →
    g * next_gains + d * losses + c * edge ≡ g * next_losses + d * gains + c * work →
    back * next_gains + front * losses + k * c * edge ≡ back * next_losses + front * gains + k * c * work
meeting k g d c gains losses next_gains next_losses work edge front back is_front is_back meet =
    omega (
      arith,
      ap (λ n. k * n) meet,
      ap (λ n. n * next_gains) is_back,
      ap (λ n. n * next_losses) is_back,
      ap (λ n. n * gains) is_front,
      ap (λ n. n * losses) is_front,
    )

-- the greatest number of all lines is the first line's, and the hinges
pub lines_are : (before : ℕ) (low high : Point) (points : List Point) (time work : ℕ) → AreRising (low ∷ high ∷ points) → IsConvex (low ∷ high ∷ points) →
    IsDifference (before * product (gaps_of (high ∷ points)) * gains low high time work + hinges before (low ∷ high ∷ points) time work)
    (before * product (gaps_of (high ∷ points)) * losses low high time work)
    (greatest (pos (before * product (gaps_of (high ∷ points))) *ℤ on_line low high time work)
    (on_lines (before * (high.speed - low.speed)) (high ∷ points) time work))
lines_are before low high [] time work rising convex =
    omega (arith, difference_times (before * 1) (gains low high time work) (losses low high time work) _ (line_is low high time work))
lines_are before low high (next ∷ points) time work rising convex =
    let rest : ℕ = product (gaps_of (next ∷ points)) in
    let gap : ℕ = high.speed - low.speed in
    let step : ℕ = next.speed - high.speed in
    let front : ℕ = before * product (gaps_of (high ∷ next ∷ points)) in
    let back : ℕ = before * gap * rest in
    rw (greatest-cons (pos front *ℤ on_line low high time work) (pos back *ℤ on_line high next time work)
    (on_lines (before * gap * step) (next ∷ points) time work))
    (joined (front * gains low high time work) (front * losses low high time work) (back * gains high next time work) (back * losses high next time work)
    (hinges (before * gap) (high ∷ next ∷ points) time work) (before * rest * turn low high next) work (high.speed * time) _ _
    (meeting (before * rest) gap step (turn low high next) (gains low high time work) (losses low high time work) (gains high next time work)
    (losses high next time work) work (high.speed * time) front back
    (omega (arith, ap (λ n. before * n) (product-cons step (gaps_of (next ∷ points))))) (omega arith)
    (later_gains low high next time work rising.0 rising.1.0 convex.0))
    (difference_times front (gains low high time work) (losses low high time work) _ (line_is low high time work))
    (lines_are (before * gap) high next points time work rising.1 convex.1)
    (no_hinges (before * gap) high next points time work rising.1))
