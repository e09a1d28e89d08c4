-- The laws of divisors and multiples. Each is the contract of a public function of `yds_laws`.
use Rattle.std.specs.Prelude.{◌≡◌, ℕ, ◌*◌, ◌/◌, ◌≤◌}
use Rattle.std.specs.Int.{◌∣◌, IsGcd}
use Rattle.yds_model.specs.Divisor.{common_divisor, common_multiple}

-- The greatest common divisor is one, and each common divisor divides it.
abbrev pub DivisorIsGreatest : Type 0
DivisorIsGreatest = (a b : ℕ) → IsGcd a b (common_divisor a b)

-- The least common multiple is one, and divides each common multiple.
abbrev pub MultipleIsLeast : Type 0
MultipleIsLeast = (a b : ℕ) →
    (a ∣ common_multiple a b) × (b ∣ common_multiple a b) × ((k : ℕ) → a ∣ k → b ∣ k → common_multiple a b ∣ k)

-- Equal quotients have the same lowest terms.
abbrev pub LowestTermsAreOne : Type 0
LowestTermsAreOne = (a b c d : ℕ) → 1 ≤ b → 1 ≤ d → a * d ≡ c * b →
    (a / common_divisor a b ≡ c / common_divisor c d) × (b / common_divisor a b ≡ d / common_divisor c d)
