-- Lists of numbers of jobs, sums over the numbers below one, and facts about each place below a length.
use Rattle.std.specs.Prelude.{ℕ, zero, suc, ◌+◌, ◌≤◌, ◌<◌, ◌==◌, List, count_by}

-- how often a number stands in a list
abbrev pub count : ℕ → List ℕ → ℕ
count number numbers = count_by (λ other. number == other) numbers

-- no number stands twice
abbrev pub AreDifferent : List ℕ → Type 0
AreDifferent numbers = (number : ℕ) → count number numbers ≤ 1

-- the sum of a number for each of the numbers below n
abbrev pub sum_below : ℕ → (ℕ → ℕ) → ℕ
sum_below zero f = 0
sum_below (suc n) f = sum_below n f + f n

-- each place below the length has P
abbrev pub Each : ℕ → (ℕ → Type 0) → Type 0
Each n P = (i : ℕ) → i < n → P i

-- the place is the first below the length that hasn't P
pub record IsFirstFailure (n : ℕ) (P : ℕ → Type 0) (i : ℕ) : Type 0 where
  pub within : i < n
  pub before : Each i P
  pub fails : P i → ⊥
