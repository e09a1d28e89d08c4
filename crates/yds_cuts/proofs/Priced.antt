-- One part more of a schedule: what it costs, with what all that runs costs at the first point's power. In plain numbers, and as fractions.
use Rattle.yds_model.proofs.Common.{◌≡◌, ℕ, ◌+◌, ◌*◌, ◌≤◌, List, [], ◌∷◌, ap, arith, ℤ, pos, ◌+ℤ◌, ints, All, AllZip, sum, sum_by-cons, All-head, All-tail, eq_of_mul-eq-mul_left, mul-pos, Fraction, numerator, Point, point_at}
use Rattle.yds_cuts.specs.Energies.{IsSumOf, IsSumWith, IsEnergyOver}
use Rattle.yds_cuts.specs.Groups.{cost_of_idle}

-- by interpolation: the energies, and the times at the first point's power
pub priced : (all power scale mine idle own owns rest both : ℕ) (e s es t whole : ℤ) → e ≡ s +ℤ pos (all * (power * idle)) → mine + idle ≡ scale * own →
    (es +ℤ pos (all * (power * rest))) ≡ (t +ℤ pos (all * (power * (scale * owns)))) → both ≡ mine + rest → whole ≡ s +ℤ t →
    ((e +ℤ es) +ℤ pos (all * (power * both))) ≡ (whole +ℤ pos (all * (power * (scale * (own + owns)))))
priced all power scale mine idle own owns rest both e s es t whole first times later sum total =
    omega (arith, ints, first, later, total, ap (λ n. all * (power * n)) times, ap (λ n. all * (power * n)) sum)

-- on the points
pub spends_more : (power scale mine idle own owns rest both spends spent others all : ℕ) → mine + idle ≡ scale * own → both ≡ mine + rest →
    others + power * rest ≡ spent + power * (scale * owns) → all ≡ (spends + power * idle) + others →
    all + power * both ≡ (spends + spent) + power * (scale * (own + owns))
spends_more power scale mine idle own owns rest both spends spent others all times busy_sum later sum =
    omega (arith, later, sum, ap (λ n. power * n) times, ap (λ n. power * n) busy_sum)

-- # Fractions

-- one energy more, in plain numbers
sum_more : (e d r f s c scale one rest all : ℕ) → 1 ≤ d → 1 ≤ f → s * (d * f) ≡ (e * f + r * d) * c → one * d ≡ e * scale → rest * f ≡ r * scale → all ≡ one + rest →
    all * c ≡ s * scale
sum_more e d r f s c scale one rest all some some_rest sum first later is =
    eq_of_mul-eq-mul_left (d * f) (mul-pos some some_rest) (all * c) (s * scale) (omega (
      arith,
      ap (λ n. n * scale) sum,
      ap (λ n. f * c * n) first,
      ap (λ n. d * c * n) later,
      ap (λ n. d * f * c * n) is,
    ))

-- at a scale the sum of fractions is the sum of what they are
pub sum_at_scale : (scale : ℕ) (energies : List Fraction) (costs : List ℕ) (total : Fraction) → All (λ one. 1 ≤ one.den) energies → IsSumOf energies total →
    AllZip (λ energy cost. cost * energy.den ≡ numerator energy * scale) energies costs → sum costs * total.den ≡ numerator total * scale
sum_at_scale scale [] [] total each is are = omega (arith, ap (λ n. n * scale) is)
sum_at_scale scale [] (cost ∷ costs) total each is are = absurd are
sum_at_scale scale (energy ∷ energies) [] total each is are = absurd are
sum_at_scale scale (energy ∷ energies) (cost ∷ costs) total each (rest, some, sums, is) (here, are) =
    sum_more (numerator energy) energy.den (numerator rest) rest.den (numerator total) total.den scale cost (sum costs) (sum (cost ∷ costs))
    (All-head (λ one. 1 ≤ one.den) energy energies each) some is here
    (sum_at_scale scale energies costs rest (All-tail (λ one. 1 ≤ one.den) energy energies each) sums are) (sum_by-cons (λ n. n) cost costs)

-- the fraction with so much more, and without what the parts have of their own, in plain numbers
over_more : (b d s c scale more own cost all : ℕ) → 1 ≤ c → (own * d + b) * c ≡ (more * c + s) * d → all * c ≡ s * scale →
    cost + scale * own ≡ all + scale * more → cost * d ≡ b * scale
over_more b d s c scale more own cost all some same sum is =
    eq_of_mul-eq-mul_left c some (cost * d) (b * scale) (omega (arith, ap (λ n. n * scale) same, ap (λ n. n * d) sum, ap (λ n. d * c * n) is))

pub with_at_scale : (scale more own : ℕ) (fractions : List Fraction) (costs : List ℕ) (whole : Fraction) (cost : ℕ) → IsSumWith more own fractions whole →
    AllZip (λ energy cost. cost * energy.den ≡ numerator energy * scale) fractions costs → cost + scale * own ≡ sum costs + scale * more →
    cost * whole.den ≡ numerator whole * scale
with_at_scale scale more own fractions costs whole cost over are is =
    over_more (numerator whole) whole.den (numerator over.sum) over.sum.den scale more own cost (sum costs) over.sum_has_parts
    (omega (arith, over.same)) (sum_at_scale scale fractions costs over.sum over.each over.is_sum are) is

-- so it is with idle time over another horizon
pub over_at_scale : (scale time own : ℕ) (points : List Point) (energies : List Fraction) (costs : List ℕ) (energy : Fraction) (cost : ℕ) →
    IsEnergyOver time own points energies energy → AllZip (λ energy cost. cost * energy.den ≡ numerator energy * scale) energies costs →
    cost + cost_of_idle points scale own ≡ sum costs + cost_of_idle points scale time → cost * energy.den ≡ numerator energy * scale
over_at_scale scale time own points energies costs energy cost over are is =
    with_at_scale scale ((point_at points 0).power * time) ((point_at points 0).power * own) energies costs energy cost over are (omega (arith, is))
