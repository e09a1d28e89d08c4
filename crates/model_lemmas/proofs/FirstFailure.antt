-- The first failure of tests is one: of stages that are tried in order, and of each stage's places.
use Rattle.std.proofs.Common.{◌≡◌, ℕ, suc, ◌<◌, arith}
use Rattle.base.specs.Numbers.{Each}

-- nothing lies below 0
pub each_none : (P : ℕ → Type 0) → Each 0 P
each_none P i within = absurd (omega arith)

-- one place more
pub each_more : (P : ℕ → Type 0) (n : ℕ) → Each n P → P n → Each (suc n) P
each_more P n each last i within = grind arith

-- the stages before this one hold, and this is its first place that fails
pub record IsFirst (places : ℕ → ℕ) (Test : ℕ → ℕ → Type 0) (stage place : ℕ) : Type 0 where
  pub stages : Each stage (λ s. Each (places s) (Test s))
  pub within : place < places stage
  pub before : Each place (Test stage)
  pub fails : Test stage place → ⊥

-- two first failures are of one stage
pub one_stage : (places : ℕ → ℕ) (Test : ℕ → ℕ → Type 0) (s p t q : ℕ) → IsFirst places Test s p → IsFirst places Test t q → s ≡ t
one_stage places Test s p t q one other = grind arith

-- and at one place of it
pub one_place : (places : ℕ → ℕ) (Test : ℕ → ℕ → Type 0) (s p t q : ℕ) → IsFirst places Test s p → IsFirst places Test t q → p ≡ q
one_place places Test s p t q one other = grind arith
