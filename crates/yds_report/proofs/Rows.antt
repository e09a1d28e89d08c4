-- Levels with their numbers, from 1.
use Rattle.yds_model.proofs.Common.{◌≡◌, ℕ, ◌+◌, ◌<◌, ◌≤◌, List, get_or, length, arith, enumerate_from, length-enumerate_from, get_or-enumerate_from, Level}

-- the number and the level at a place
pub numbered_at : (levels : List Level) (i : ℕ) (level : Level) → i < length levels → level ≡ get_or levels i level
    → get_or (enumerate_from 1 levels) i (0, level) ≡ (i + 1, level)
numbered_at levels i level within is = grind (arith, get_or-enumerate_from)

pub numbered_within : (levels : List Level) (i : ℕ) → i < length levels → i < length (enumerate_from 1 levels)
numbered_within levels i within = omega (arith, length-enumerate_from 1 levels)

pub numbered_count : (levels : List Level) (i : ℕ) → length levels ≤ i → length (enumerate_from 1 levels) ≤ i
numbered_count levels i all = omega (arith, length-enumerate_from 1 levels)
