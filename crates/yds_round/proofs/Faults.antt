-- When a plan is too fast for a table.
use Rattle.yds_model.proofs.Common.{ℕ, zero, suc, ◌*◌, ◌<◌, ◌≤◌, List, [], ◌∷◌, length, arith, inl, inr, All, All-from_get_or, cases_lt, mul-le-mul_right, le_of_mul-le-mul_right, Job, WrittenSlot, Level, no_level, level_at, IsPlan, Point, top_of, IsTooFast}
use Rattle.yds_round.specs.Fault.{HasFastLevel}

-- the first level is the one that may be too fast
fast_first : (levels : List Level) (points : List Point) → 1 ≤ length levels → IsTooFast points (level_at levels 0) → HasFastLevel levels points
fast_first [] points some fast = absurd (omega (arith, some))
fast_first (first ∷ levels) points some fast = fast

-- a level that isn't faster than one that is slow enough is slow enough
slow_on : (top work long next next_long : ℕ) → 1 ≤ long → work ≤ top * long → next * long ≤ work * next_long → next ≤ top * next_long
slow_on top work long next next_long some slow falls =
    le_of_mul-le-mul_right {k = long} (omega (arith, falls, mul-le-mul_right next_long slow)) some

-- where the first level of a plan is slow enough all are
pub all_slow : (jobs : List Job) (slots : List WrittenSlot) (levels : List Level) (points : List Point) → IsPlan jobs slots levels →
    (HasFastLevel levels points → ⊥) → All (λ level. IsTooFast points level → ⊥) levels
all_slow jobs slots levels points plan first = All-from_get_or (λ level. IsTooFast points level → ⊥) levels no_level (λ i within fast. omega (arith, slow i within, fast)) where
  -- by their places
  slow : (i : ℕ) → i < length levels → (level_at levels i).work ≤ top_of points * (level_at levels i).length
  slow zero within = elim (cases_lt (top_of points * (level_at levels 0).length) (level_at levels 0).work) [
    | inl fast ↦ absurd (first (fast_first levels points (omega (arith, within)) fast))
    | inr enough ↦ enough
  ]
  slow (suc i) within =
      let before : i < length levels = omega (arith, within) in
      slow_on (top_of points) (level_at levels i).work (level_at levels i).length (level_at levels (suc i)).work (level_at levels (suc i)).length
      (plan.proper.well_formed.positive i no_level before).1 (slow i before) (plan.proper.order (suc i) within i (omega arith))
