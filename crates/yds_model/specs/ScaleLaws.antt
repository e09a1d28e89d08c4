-- The laws of scale, and of fractions at a scale. Each is the contract of a public function of `yds_laws`.
use Rattle.std.specs.Prelude.{◌≡◌, ℕ, ◌+◌, ◌*◌, ◌<◌, ◌≤◌, ◌↔◌, List}
use Rattle.std.specs.List.{All}
use Rattle.std.specs.Int.{◌∣◌}
use Rattle.yds_model.specs.Job.{Job}
use Rattle.yds_model.specs.Scale.{Fraction, at_scale, IsLess, IsSame, IsSum, IsMultiple}
use Rattle.yds_model.specs.Slot.{WrittenSlot, IsScale, IsSolid, slots_at}
use Rattle.yds_model.specs.Feasible.{IsFeasibleAt, IsFeasible}
use Rattle.yds_model.specs.Excess.{excess}

-- Scale: reading a schedule at k times a scale keeps it feasible, both ways.
abbrev pub ScaleKeepsFeasible : Type 0
ScaleKeepsFeasible = (jobs : List Job) (slots : List WrittenSlot) (scale k : ℕ) → IsScale scale slots → 1 ≤ k →
    (IsFeasibleAt jobs scale (slots_at scale slots) ↔ IsFeasibleAt jobs (k * scale) (slots_at (k * scale) slots))

-- Scale: and multiplies each excess by k.
abbrev pub ScaleMultipliesExcess : Type 0
ScaleMultipliesExcess = (slots : List WrittenSlot) (scale k p q : ℕ) → IsScale scale slots →
    excess p q (slots_at (k * scale) slots) ≡ k * excess p q (slots_at scale slots)

-- Scale: one scale decides.
abbrev pub OneScaleDecides : Type 0
OneScaleDecides = (jobs : List Job) (slots : List WrittenSlot) (scale : ℕ) → IsScale scale slots →
    IsFeasibleAt jobs scale (slots_at scale slots) → IsFeasible jobs slots

-- Scale: there is one, so 'at each scale' says something.
abbrev pub ScaleExists : Type 0
ScaleExists = (slots : List WrittenSlot) → All IsSolid slots → (scale : ℕ) × IsScale scale slots

-- Order of fractions: by cross products it is the order of the values at each common scale.
abbrev pub OrderIsOfValues : Type 0
OrderIsOfValues = (x y : Fraction) (scale : ℕ) → 1 ≤ scale → x.den ∣ scale → y.den ∣ scale →
    (IsLess x y ↔ (at_scale scale x < at_scale scale y))

abbrev pub EqualityIsOfValues : Type 0
EqualityIsOfValues = (x y : Fraction) (scale : ℕ) → 1 ≤ scale → x.den ∣ scale → y.den ∣ scale →
    (IsSame x y ↔ (at_scale scale x ≡ at_scale scale y))

abbrev pub SumIsOfValues : Type 0
SumIsOfValues = (x y z : Fraction) (scale : ℕ) → 1 ≤ scale → x.den ∣ scale → y.den ∣ scale → z.den ∣ scale →
    (IsSum x y z ↔ (at_scale scale z ≡ at_scale scale x + at_scale scale y))

abbrev pub MultipleIsOfValues : Type 0
MultipleIsOfValues = (k : ℕ) (x z : Fraction) (scale : ℕ) → 1 ≤ scale → x.den ∣ scale → z.den ∣ scale →
    (IsMultiple k x z ↔ (at_scale scale z ≡ k * at_scale scale x))

abbrev pub OrderIsTransitive : Type 0
OrderIsTransitive = (x y z : Fraction) → 1 ≤ x.den → 1 ≤ y.den → 1 ≤ z.den → IsLess x y → IsLess y z → IsLess x z

abbrev pub EqualityIsTransitive : Type 0
EqualityIsTransitive = (x y z : Fraction) → 1 ≤ x.den → 1 ≤ y.den → 1 ≤ z.den → IsSame x y → IsSame y z → IsSame x z

-- equal fractions are ordered alike
abbrev pub OrderAgreesWithEquality : Type 0
OrderAgreesWithEquality = (x y z : Fraction) → 1 ≤ x.den → 1 ≤ y.den → 1 ≤ z.den → IsSame x y →
    (IsLess x z ↔ IsLess y z) × (IsLess z x ↔ IsLess z y)
