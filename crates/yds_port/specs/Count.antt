-- A count of faults is kept in 64 bits. At its last value it stays.
use Rattle.std.specs.Prelude.{ℕ, ◌+◌, ◌-◌, ◌^◌, ◌≤◌, min}

-- one more than the count, or its last value
abbrev pub next_count : ℕ → ℕ
next_count count = min (count + 1) (2 ^ 64 - 1)

-- The count rose, or stood at its last value. It never falls.
abbrev pub Rose : ℕ → ℕ → Type 0
Rose before now = (before ≤ now) × (next_count before ≤ now)
