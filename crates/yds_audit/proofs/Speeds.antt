-- A slot's speed by its work, and by the product of its length and the speed.
use Rattle.yds_model.proofs.Common.{◌≡◌, ℕ, ◌+◌, ◌-◌, ◌*◌, ◌≤◌, ap, arith, ◌↔◌, mul-sub, mul-pos, Fraction, numerator, IsSum, IsSame, IsMultiple, crossed_length}
use Rattle.fraction_lemmas.proofs.Fractions.{tied_equality}

-- the length's parts are those of the ends crossed
length_crossed : (f fd t td d dd : ℕ) → t * (dd * fd) ≡ (d * fd + f * dd) * td → dd * (t * fd - f * td) ≡ d * (fd * td)
length_crossed f fd t td d dd sum = omega (arith, sum, mul-sub dd (t * fd) (f * td))

-- the product's parts are the speed times those
product_crossed : (z zd d dd k c w ends : ℕ) → z * dd ≡ k * d * zd → dd * c ≡ d * ends → k * c * w * (dd * zd) ≡ z * w * (dd * ends)
product_crossed z zd d dd k c w ends product crossed =
    omega (arith, ap (λ n. n * (w * ends)) product, ap (λ n. n * (k * w * zd)) crossed)

-- the work is the length times the speed exactly where it is so by cross products
pub speed_of_product : (speed : ℕ) (work from to time product : Fraction) → 1 ≤ from.den → 1 ≤ to.den → 1 ≤ time.den → 1 ≤ product.den →
    IsSum time from to → IsMultiple speed time product →
    (IsSame work product ↔ (numerator work * (from.den * to.den) ≡ speed * crossed_length from to * work.den))
speed_of_product speed work from to time product some_from some_to some_time some_product sum multiple =
    tied_equality (numerator work * product.den) (numerator product * work.den) (time.den * product.den) (time.den * (from.den * to.den))
    (numerator work * (from.den * to.den)) (speed * crossed_length from to * work.den)
    (mul-pos some_time (mul-pos some_from some_to)) (mul-pos some_time some_product)
    (omega arith)
    (product_crossed (numerator product) product.den (numerator time) time.den speed (crossed_length from to) work.den (from.den * to.den) multiple
    (length_crossed (numerator from) from.den (numerator to) to.den (numerator time) time.den sum))
