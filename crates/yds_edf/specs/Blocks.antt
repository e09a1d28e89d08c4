-- Units at places, and their sums in blocks of places.
use Rattle.std.specs.Prelude.{◌≡◌, ℕ, ◌+◌, ◌*◌, ◌<◌, ◌≤◌, List, length, slice_index, All}
use Rattle.base.specs.declared.limits.TheConstants.{MAX_JOBS, MAX_WORK}
use Rattle.yds_edf.specs.declared.limits.TheConstants.{MAX_GRAIN}
use Rattle.base.specs.Numbers.{sum_below}
use Rattle.yds_edf.specs.declared.blocks.TheConstants.{BLOCK}

-- the units at the places before this one
abbrev pub units_before : List ℕ → ℕ → ℕ
units_before units place = sum_below place (slice_index units)

abbrev pub HaveFewUnits : List ℕ → Type 0
HaveFewUnits units = (place : ℕ) → units_before units place ≤ 4000000000000000000

-- each sum is that of its block
pub record AreBlocks (units sums : List ℕ) : Type 0 where
  pub each : (block : ℕ) → block < length sums → units_before units (block * BLOCK) + slice_index sums block ≡ units_before units (block * BLOCK + BLOCK)
  pub all : length units < length sums * BLOCK

-- the blocks have sums, and so do blocks of them; the total is that of all, and there are none before the start
pub record AreSummed (units blocks groups : List ℕ) (total start : ℕ) : Type 0 where
  pub few : length units ≤ MAX_JOBS
  pub in_range : All (λ n. n ≤ MAX_WORK * MAX_GRAIN) units
  pub in_blocks : AreBlocks units blocks
  pub in_groups : AreBlocks blocks groups
  pub all : total ≡ units_before units (length units)
  pub none : units_before units start ≡ 0

-- the place has units, and none before it has
pub record IsFirstPlace (units : List ℕ) (place : ℕ) : Type 0 where
  pub known : place < length units
  pub some : 1 ≤ slice_index units place
  pub none : units_before units place ≡ 0
