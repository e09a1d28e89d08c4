-- A slot's speed and a level's: the work times the level's length, and the length times the level's work.
use Rattle.yds_model.proofs.Common.{◌≡◌, ℕ, ◌*◌, ◌≤◌, ap, arith, ◌↔◌, Fraction, numerator, IsSum, IsSame, IsMultiple, crossed_length}
use Rattle.fraction_lemmas.proofs.Fractions.{tied_equality}
use Rattle.yds_audit.proofs.Speeds.{speed_of_product}

-- the first product's parts are the work's times the level's length
work_crossed : (w wd p pd long ends : ℕ) → p * wd ≡ long * w * pd → w * long * ends * pd ≡ p * ends * wd
work_crossed w wd p pd long ends product = omega (arith, ap (λ n. n * ends) product)

-- the two products are equal exactly where the speeds are so by cross products
pub speed_of_products : (all long : ℕ) (work from to time one other : Fraction) → 1 ≤ work.den → 1 ≤ from.den → 1 ≤ to.den → 1 ≤ time.den →
    1 ≤ one.den → 1 ≤ other.den → IsMultiple long work one → IsSum time from to → IsMultiple all time other →
    (IsSame one other ↔ (numerator work * long * (from.den * to.den) ≡ all * crossed_length from to * work.den))
speed_of_products all long work from to time one other some_work some_from some_to some_time some_one some_other multiple sum other_multiple =
    let law = speed_of_product all one from to time other some_from some_to some_time some_other sum other_multiple in
    let ends = from.den * to.den in
    let tied = tied_equality (numerator one * ends) (all * crossed_length from to * one.den) one.den work.den
    (numerator work * long * ends) (all * crossed_length from to * work.den) some_work some_one
    (work_crossed (numerator work) work.den (numerator one) one.den long ends multiple) (omega arith) in
    (λ same. tied.0 (law.0 same), λ has. law.1 (tied.1 has))
