-- Plain numbers: the line between two points of a power is above the power between them, and how far. A stretch does the work `work` in the
-- time `time`, between the speeds `low` and `high`; `under` and `over` are how much more than at the one and less than at the other. Times
-- `whole`, its speed is the whole number `speed`.
use Rattle.std.proofs.Common.{◌≡◌, ℕ, zero, suc, ◌+◌, ◌-◌, ◌*◌, ◌^◌, ◌≤◌, ◌⊎◌, refl, arith, ap, inl, inr, mul-le-mul_left, mul-le-mul_right}
use Rattle.std.proofs.Math.Nat.{pow-suc, pow-zero, pow-le-pow_left, mul-pos, le_of_mul-le-mul_left, eq_of_mul-eq-mul_left}
use Rattle.std.proofs.lemmas.Bool.{cases_lt}
use Rattle.std.proofs.lemmas.Nat.{mul-pow}

-- a power is at most on the line between the powers of two other numbers: of l, l + x and l + x + y
pub chord : (n l x y : ℕ) → (l + x) ^ n * (x + y) ≤ l ^ n * y + (l + x + y) ^ n * x
chord zero l x y = rw (pow-zero (l + x), pow-zero l, pow-zero (l + x + y)) (omega arith)
chord (suc n) l x y =
    omega (
      arith,
      ap (λ m. m * (x + y)) (pow-suc (l + x) n),
      ap (λ m. m * y) (pow-suc l n),
      ap (λ m. m * x) (pow-suc (l + x + y) n),
      mul-le-mul_left (l + x) (chord n l x y),
      mul-le-mul_left (x * y) (pow-le-pow_left {n = l} {m = l + x + y} (omega arith) n),
    )

-- a stretch between two points, in plain numbers: the points, the time and the work, the common multiple, and the cost times that
pub record IsBetween (low gap high time work under over multiple cost low_power high_power : ℕ) : Type 0 where
  pub is_high : low + gap ≡ high
  pub some : 1 ≤ gap
  pub is_under : under + low * time ≡ work
  pub is_over : over + work ≡ high * time
  pub costs : gap * cost ≡ multiple * (low_power * over + high_power * under)

-- the gap for the time is what the work is above the one and below the other
gap_time : (low gap high time work under over : ℕ) → low + gap ≡ high → under + low * time ≡ work → over + work ≡ high * time → gap * time ≡ under + over
gap_time low gap high time work under over is_high is_under is_over = omega (arith, is_under, is_over, ap (λ m. m * time) is_high)

-- At the multiple the speed is above `low` by x and below `high` by y.
pub record IsAround (low gap high whole speed : ℕ) : Type 0 where
  pub x : ℕ
  pub y : ℕ
  pub from : low * whole + x ≡ speed
  pub to : speed + y ≡ high * whole

-- so it is of a stretch between the two
pub around : (low gap high time work under over whole speed : ℕ) → 1 ≤ time → under + low * time ≡ work → over + work ≡ high * time → speed * time ≡ whole * work →
    IsAround low gap high whole speed
around low gap high time work under over whole speed some is_under is_over is =
    let above : low * whole ≤ speed = le_of_mul-le-mul_left {k = time} (omega (arith, is, ap (λ m. whole * m) is_under)) some in
    let below : speed ≤ high * whole = le_of_mul-le-mul_left {k = time} (omega (arith, is, ap (λ m. whole * m) is_over)) some in
    record { x = speed - low * whole; y = high * whole - speed; from = omega (arith, above); to = omega (arith, below) }

-- # At least the power

-- in plain numbers: the last step of it
least_step : (gap whole scaled low_power high_power x y time under over multiple cost power : ℕ) → 1 ≤ gap → 1 ≤ whole → x + y ≡ gap * whole →
    time * x ≡ whole * under → time * y ≡ whole * over → gap * cost ≡ multiple * (low_power * over + high_power * under) →
    power * (x + y) ≤ scaled * low_power * y + scaled * high_power * x → multiple * (time * power) ≤ scaled * cost
least_step gap whole scaled low_power high_power x y time under over multiple cost power some wide both is_x is_y costs most =
    le_of_mul-le-mul_left {k = gap * whole} (omega (
      arith,
      ap (λ m. multiple * time * power * m) both,
      mul-le-mul_left (multiple * time) most,
      ap (λ m. multiple * scaled * low_power * m) is_y,
      ap (λ m. multiple * scaled * high_power * m) is_x,
      ap (λ m. whole * scaled * m) costs,
    )) (mul-pos some wide)

-- so a stretch costs at least its time times the power of its speed
pub cost_at_least : (n low gap high time work under over multiple cost whole speed : ℕ) → 1 ≤ whole → 1 ≤ time → IsBetween low gap high time work under over multiple cost (low ^ n) (high ^ n) →
    speed * time ≡ whole * work → multiple * (time * speed ^ n) ≤ whole ^ n * cost
cost_at_least n low gap high time work under over multiple cost whole speed wide some is at =
    let a = around low gap high time work under over whole speed some is.is_under is.is_over at in
    let both : a.x + a.y ≡ gap * whole = omega (arith, a.from, a.to, ap (λ m. m * whole) is.is_high) in
    let top : low * whole + a.x + a.y ≡ high * whole = omega (arith, a.from, a.to) in
    least_step gap whole (whole ^ n) (low ^ n) (high ^ n) a.x a.y time under over multiple cost (speed ^ n) is.some wide both
    (omega (arith, ap (λ m. time * m) a.from, at, ap (λ m. whole * m) is.is_under))
    (omega (arith, ap (λ m. time * m) a.to, at, ap (λ m. whole * m) is.is_over))
    is.costs
    (omega (
      arith,
      (rw (top, a.from) at (chord n (low * whole) a.x a.y)),
      ap (λ m. m * a.y) (mul-pow low whole n),
      ap (λ m. m * a.x) (mul-pow high whole n),
    ))

-- in plain numbers: each unit of work costs at least what it does at the slowest point
work_step : (low gap high time work under over multiple cost rate low_power high_power : ℕ) → 1 ≤ gap → low + gap ≡ high → under + low * time ≡ work → over + work ≡ high * time →
    low * rate ≤ low_power → high * rate ≤ high_power → gap * cost ≡ multiple * (low_power * over + high_power * under) → multiple * rate * work ≤ cost
work_step low gap high time work under over multiple cost rate low_power high_power some is_high is_under is_over slower faster costs =
    le_of_mul-le-mul_left {k = gap} (omega (
      arith,
      costs,
      mul-le-mul_left (multiple * over) slower,
      mul-le-mul_left (multiple * under) faster,
      ap (λ m. multiple * rate * low * m) is_over,
      ap (λ m. multiple * rate * high * m) is_under,
      ap (λ m. multiple * rate * work * m) is_high,
    )) some

-- a speed that is 0, or no less than another
unit_power : (n slowest speed : ℕ) → (speed ≡ 0) ⊎ (slowest ≤ speed) → speed * slowest ^ n ≤ speed ^ suc n
unit_power n slowest speed (inl idle) = omega (arith, ap (λ m. m * slowest ^ n) idle)
unit_power n slowest speed (inr more) = omega (arith, pow-suc speed n, mul-le-mul_left speed (pow-le-pow_left more n))

-- so a stretch costs at least that for each unit of work
pub work_at_least : (n slowest low gap high time work under over multiple cost : ℕ) → IsBetween low gap high time work under over multiple cost (low ^ suc n) (high ^ suc n) →
    (low ≡ 0) ⊎ (slowest ≤ low) → slowest ≤ high → multiple * slowest ^ n * work ≤ cost
work_at_least n slowest low gap high time work under over multiple cost is first second =
    work_step low gap high time work under over multiple cost (slowest ^ n) (low ^ suc n) (high ^ suc n) is.some is.is_high is.is_under is.is_over
    (unit_power n slowest low first) (unit_power n slowest high (inr second)) is.costs

-- # At most

-- in plain numbers: each unit of work costs at most what it does at the faster point
most_step : (low gap high time work under over multiple cost low_rate high_rate : ℕ) → 1 ≤ gap → low + gap ≡ high → under + low * time ≡ work → over + work ≡ high * time →
    low_rate ≤ high_rate → gap * cost ≡ multiple * (low * low_rate * over + high * high_rate * under) → cost ≤ multiple * high_rate * work
most_step low gap high time work under over multiple cost low_rate high_rate some is_high is_under is_over less costs =
    le_of_mul-le-mul_left {k = gap} (omega (
      arith,
      costs,
      mul-le-mul_left (multiple * low * over) less,
      ap (λ m. multiple * high_rate * low * m) is_over,
      ap (λ m. multiple * high_rate * high * m) is_under,
      ap (λ m. multiple * high_rate * work * m) is_high,
    )) some

-- so a stretch costs at most that for each unit of work
pub cost_at_most : (n low gap high time work under over multiple cost : ℕ) → IsBetween low gap high time work under over multiple cost (low ^ suc n) (high ^ suc n) →
    cost ≤ multiple * high ^ n * work
cost_at_most n low gap high time work under over multiple cost is =
    most_step low gap high time work under over multiple cost (low ^ n) (high ^ n) is.some is.is_high is.is_under is.is_over
    (pow-le-pow_left (omega (arith, is.is_high)) n)
    (omega (arith, is.costs, ap (λ m. multiple * (m * over)) (pow-suc low n), ap (λ m. multiple * (m * under)) (pow-suc high n)))

-- so where the faster point is at most p/q times as fast as the slower one, it costs at most so many times the power
pub cost_near : (n p q low gap high time work under over multiple cost whole speed : ℕ) → 1 ≤ time →
    IsBetween low gap high time work under over multiple cost (low ^ suc n) (high ^ suc n) → q * high ≤ p * low → speed * time ≡ whole * work →
    q ^ n * (whole ^ suc n * cost) ≤ multiple * (p ^ n * (time * speed ^ suc n))
cost_near n p q low gap high time work under over multiple cost whole speed some is near at =
    let a = around low gap high time work under over whole speed some is.is_under is.is_over at in
    let ratio : q ^ n * high ^ n ≤ p ^ n * low ^ n =
    omega (arith, mul-pow q high n, mul-pow p low n, pow-le-pow_left near n) in
    let slower : low ^ n * whole ^ n ≤ speed ^ n =
    omega (arith, mul-pow low whole n, pow-le-pow_left {n = low * whole} {m = speed} (omega (arith, a.from)) n) in
    omega (
      arith,
      ap (λ m. q ^ n * (m * cost)) (pow-suc whole n),
      mul-le-mul_left (q ^ n * whole * whole ^ n) (cost_at_most n low gap high time work under over multiple cost is),
      mul-le-mul_left (whole * whole ^ n * multiple * work) ratio,
      mul-le-mul_left (whole * multiple * work * p ^ n) slower,
      ap (λ m. multiple * p ^ n * speed ^ n * m) at,
      ap (λ m. multiple * (p ^ n * (time * m))) (pow-suc speed n),
    )

-- # The square

-- the square is the product
square : (x : ℕ) → x ^ 2 ≡ x * x
square x = omega (arith, pow-suc x 1, ap (λ m. x * m) (pow-suc x 0), ap (λ m. x * (x * m)) (pow-zero x))

-- twice a product is at most both squares
means_by : (a d : ℕ) → 2 * (a * (a + d)) ≤ a * a + (a + d) * (a + d)
means_by a d = omega arith

-- in any order
means : (a b : ℕ) → 2 * (a * b) ≤ a * a + b * b
means a b = elim (cases_lt a b) [
  | inl less ↦ let is : a + (b - a) ≡ b = omega (arith, less) in rw is at (means_by a (b - a))
  | inr more ↦ let is : b + (a - b) ≡ a = omega (arith, more) in omega (arith, rw is at (means_by b (a - b)))
]

-- of two numbers within the ratio p/q
pair_by : (p q low high u v : ℕ) → q * high + u ≡ p * low → q * low + v ≡ p * high → p * q * ((low + high) * (low + high)) ≤ (p + q) * (p + q) * (low * high)
pair_by p q low high u v first second =
    omega (
      arith,
      ap (λ m. q * low * m) first,
      ap (λ m. q * high * m) second,
      ap (λ m. p * high * m) first,
      ap (λ m. q * high * m) second,
      ap (λ m. u * m) second,
    )

-- so it is where the lesser is at least 1
pair : (p q low high : ℕ) → 1 ≤ low → low ≤ high → q * high ≤ p * low → p * q * ((low + high) * (low + high)) ≤ (p + q) * (p + q) * (low * high)
pair p q low high some rises near =
    let ratio : q ≤ p = le_of_mul-le-mul_left {k = low} (omega (arith, near, mul-le-mul_left q rises)) some in
    pair_by p q low high (p * low - q * high) (p * high - q * low) (omega (arith, near)) (omega (arith, mul-le-mul_right low ratio, mul-le-mul_left p rises))

-- the cost on the line, by the speeds at the multiple
square_line : (gap whole low high x y time under over multiple cost low_speed high_speed speed : ℕ) → 1 ≤ gap → 1 ≤ whole → low_speed ≡ low * whole → high_speed ≡ high * whole →
    low_speed + x ≡ speed → speed + y ≡ high_speed → x + y ≡ gap * whole → time * x ≡ whole * under → time * y ≡ whole * over →
    gap * cost ≡ multiple * (low * low * over + high * high * under) →
    whole * whole * cost + multiple * time * (low_speed * high_speed) ≡ multiple * time * (speed * (low_speed + high_speed))
square_line gap whole low high x y time under over multiple cost low_speed high_speed speed some wide is_low is_high from to both is_x is_y costs =
    let squares : low_speed * low_speed * y + high_speed * high_speed * x + (x + y) * (low_speed * high_speed) ≡ (x + y) * (speed * (low_speed + high_speed)) =
    rw (← to, ← from) (omega arith) in
    let low_square : low_speed * low_speed ≡ low * low * (whole * whole) = rw is_low (omega arith) in
    let high_square : high_speed * high_speed ≡ high * high * (whole * whole) = rw is_high (omega arith) in
    eq_of_mul-eq-mul_left (gap * whole) (mul-pos some wide) _ _ (omega (
      arith,
      ap (λ m. whole * whole * whole * m) costs,
      ap (λ m. whole * whole * multiple * (low * low) * m) is_y,
      ap (λ m. whole * whole * multiple * (high * high) * m) is_x,
      ap (λ m. multiple * time * (low_speed * high_speed) * m) both,
      ap (λ m. multiple * time * (speed * (low_speed + high_speed)) * m) both,
      ap (λ m. multiple * time * y * m) low_square,
      ap (λ m. multiple * time * x * m) high_square,
      ap (λ m. multiple * time * m) squares,
    ))

-- so it is within (p+q)^2 / (4pq) of the square
square_bound : (p q low high speed all cost : ℕ) → 1 ≤ low → low ≤ high → q * high ≤ p * low → cost + all * (low * high) ≡ all * (speed * (low + high)) →
    4 * (p * q) * cost ≤ (p + q) * (p + q) * (all * (speed * speed))
square_bound p q low high speed all cost some rises near is =
    le_of_mul-le-mul_left {k = low * high} (omega (
      arith,
      ap (λ m. 4 * (p * q) * (low * high) * m) is,
      mul-le-mul_left (p * q * all) (means (2 * (low * high)) (speed * (low + high))),
      mul-le-mul_left (all * (speed * speed)) (pair p q low high some rises near),
    )) (mul-pos some (omega (arith, some, rises)))

-- of neighbours above 0 within the ratio
pub square_near : (p q low gap high time work under over multiple cost whole speed : ℕ) → 1 ≤ whole → 1 ≤ time → 1 ≤ low →
    IsBetween low gap high time work under over multiple cost (low ^ 2) (high ^ 2) → q * high ≤ p * low → speed * time ≡ whole * work →
    4 * (p * q) * (whole ^ 2 * cost) ≤ (p + q) * (p + q) * (multiple * (time * speed ^ 2))
square_near p q low gap high time work under over multiple cost whole speed wide some above is near at =
    let a = around low gap high time work under over whole speed some is.is_under is.is_over at in
    let line = square_line gap whole low high a.x a.y time under over multiple cost (low * whole) (high * whole) speed is.some wide refl refl a.from a.to
    (omega (arith, a.from, a.to, ap (λ m. m * whole) is.is_high))
    (omega (arith, ap (λ m. time * m) a.from, at, ap (λ m. whole * m) is.is_under))
    (omega (arith, ap (λ m. time * m) a.to, at, ap (λ m. whole * m) is.is_over))
    (omega (arith, is.costs, ap (λ m. multiple * (m * over)) (square low), ap (λ m. multiple * (m * under)) (square high))) in
    omega (
      arith,
      square_bound p q (low * whole) (high * whole) speed (multiple * time) (whole * whole * cost) (mul-pos above wide)
          (mul-le-mul_right whole (omega (arith, is.is_high))) (omega (arith, mul-le-mul_right whole near)) line,
      ap (λ m. 4 * (p * q) * (m * cost)) (square whole),
      ap (λ m. (p + q) * (p + q) * (multiple * (time * m))) (square speed),
    )

-- four times a product is at most the square of the sum
four : (p q : ℕ) → 4 * (p * q) ≤ (p + q) * (p + q)
four p q = omega (arith, means p q)

-- and of a stretch that is as fast as the slowest point above 0
pub square_first : (p q gap high time work under over multiple cost whole speed : ℕ) → 1 ≤ time → IsBetween 0 gap high time work under over multiple cost (0 ^ 2) (high ^ 2) →
    high * time ≤ work → speed * time ≡ whole * work → 4 * (p * q) * (whole ^ 2 * cost) ≤ (p + q) * (p + q) * (multiple * (time * speed ^ 2))
square_first p q gap high time work under over multiple cost whole speed some is fast at =
    let same : work ≡ high * time = omega (arith, is.is_over, fast) in
    let speed_is : speed ≡ whole * high = eq_of_mul-eq-mul_left time some speed (whole * high) (omega (arith, at, ap (λ m. whole * m) same)) in
    let less : whole * whole * cost ≤ multiple * (time * (speed * speed)) =
    rw (speed_is) (omega (
      arith,
      mul-le-mul_left (whole * whole) (cost_at_most 1 0 gap high time work under over multiple cost is),
      ap (λ m. whole * whole * multiple * work * m) (pow-suc high 0),
      ap (λ m. whole * whole * multiple * work * high * m) (pow-zero high),
      ap (λ m. whole * whole * multiple * high * m) same,
    )) in
    omega (
      arith,
      mul-le-mul_left (4 * (p * q)) less,
      mul-le-mul_right (multiple * (time * (speed * speed))) (four p q),
      ap (λ m. 4 * (p * q) * (m * cost)) (square whole),
      ap (λ m. (p + q) * (p + q) * (multiple * (time * m))) (square speed),
    )
