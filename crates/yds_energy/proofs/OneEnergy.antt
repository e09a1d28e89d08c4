-- A feasible schedule has one energy on the points of a table, since each slot's speed is that of one point.
use Rattle.yds_model.proofs.Common.{◌≡◌, ℕ, zero, suc, ◌-◌, ◌*◌, ◌<◌, List, [], ◌∷◌, length, sym, ap, ◌∙◌, arith, inl, inr, Contains, cases_lt, get_or_default, eq_of_mul-eq-mul_right, numerator, WholeSlot, slots_at, RunFrom, Point, no_point, point_at, AreRising, SpendsAtPoints}
use Rattle.model_lemmas.proofs.Hull.{rises_from}
use Rattle.model_lemmas.proofs.HullOf.{later_rise}
use Rattle.model_lemmas.proofs.Scale.{scale_exists}
use Rattle.yds_energy.specs.RoundingLaws.{EnergyIsOne}

-- # One point for a speed

-- points that rise do so without the first one
pub rising_tail : (point : Point) (points : List Point) → AreRising (point ∷ points) → AreRising points
rising_tail point [] rising = tt
rising_tail point (next ∷ points) rising = rising.1

-- each point is faster than all before it
pub places_rise : (points : List Point) (i j : ℕ) → AreRising points → i < j → j < length points → (point_at points i).speed < (point_at points j).speed
places_rise [] i j rising order within = absurd (omega (arith, within))
places_rise (point ∷ points) i zero rising order within = absurd (omega (arith, order))
places_rise (point ∷ points) zero (suc j) rising order within = later_rise point.speed points (rises_from point points rising) j no_point (omega (arith, within))
places_rise (point ∷ points) (suc i) (suc j) rising order within =
    places_rise points i j (rising_tail point points rising) (omega (arith, order)) (omega (arith, within))

-- the point that stands at its place
pub read_point : (points : List Point) (point : Point) (has : Contains points point) → point_at points has.0 ≡ point
read_point points point has = get_or_default points has.0 no_point point has.1 ∙ has.2

-- so two points of one speed are one
pub one_point : (points : List Point) (one two : Point) → AreRising points → Contains points one → Contains points two → one.speed ≡ two.speed → one ≡ two
one_point points one two rising first second same =
    let at_first = ap (λ (x : Point). x.speed) (read_point points one first) in
    let at_second = ap (λ (x : Point). x.speed) (read_point points two second) in
    elim (cases_lt first.0 second.0) [
      | inl less ↦ absurd (omega (arith, same, at_first, at_second, places_rise points first.0 second.0 rising less second.1))
      | inr more ↦ elim (cases_lt second.0 first.0) [
        | inl less ↦ absurd (omega (arith, same, at_first, at_second, places_rise points second.0 first.0 rising less first.1))
        | inr equal ↦
            let place : first.0 ≡ second.0 = omega (arith, more, equal) in
            sym (read_point points one first) ∙ ap (point_at points) place ∙ read_point points two second
      ]
    ]

-- # One energy

-- slots that take time spend one amount
pub spends_once : (points : List Point) (start : ℕ) (slots : List WholeSlot) (one two : ℕ) → AreRising points → RunFrom start slots →
    SpendsAtPoints points slots one → SpendsAtPoints points slots two → one ≡ two
spends_once points start [] one two rising run first second = first ∙ sym second
spends_once points start (slot ∷ slots) one two rising run (point, rest, has, at, later, sum) (other, others_rest, others, also, others_later, others_sum) =
    let long : ℕ = slot.to - slot.from in
    let takes : 0 < long = omega (arith, run.1) in
    let speed : point.speed ≡ other.speed = eq_of_mul-eq-mul_right long takes point.speed other.speed (sym at ∙ also) in
    let power : point.power ≡ other.power = ap (λ (x : Point). x.power) (one_point points point other rising has others speed) in
    omega (
      arith,
      sum,
      others_sum,
      ap (λ n. n * long) power,
      spends_once points slot.to slots rest others_rest rising run.2 later others_later,
    )

-- two fractions that are one number at a scale are the same
same_fraction : (x y a b spent scale : ℕ) → 0 < scale → spent * a ≡ x * scale → spent * b ≡ y * scale → x * b ≡ y * a
same_fraction x y a b spent scale positive first second =
    eq_of_mul-eq-mul_right scale positive (x * b) (y * a) (omega (arith, ap (λ n. n * b) first, ap (λ n. n * a) second))

-- the law: at a scale that there is
pub energy_is_one : EnergyIsOne
energy_is_one jobs points slots energy other rising feasible is is_other =
    let scale = scale_exists slots feasible.solid in
    let one = is.at_scales.holds scale.0 scale.1 in
    let two = is_other.at_scales.holds scale.0 scale.1 in
    let whole : List WholeSlot = slots_at scale.0 slots in
    let same : one.0 ≡ two.0 =
    omega (arith, one.1.2, two.1.2, spends_once points 0 whole one.1.0 two.1.0 rising (feasible.holds scale.0 scale.1).one_at_a_time one.1.1 two.1.1) in
    same_fraction (numerator energy) (numerator other) energy.den other.den one.0 scale.0 scale.1.positive one.2
    (ap (λ n. n * other.den) same ∙ two.2)
