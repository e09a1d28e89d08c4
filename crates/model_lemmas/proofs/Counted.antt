-- Numbers in lists, as often as they are counted: one that stands once among all members is a member of one level.
use Rattle.std.proofs.Common.{◌≡◌, ℕ, zero, suc, ◌+◌, ◌<◌, ◌≤◌, ◌==◌, List, [], ◌∷◌, ◌++◌, length, get_or, refl, sym, ap, arith, eq-eqb, cond, Contains}
use Rattle.std.proofs.lemmas.List.Sums.{sum_by-append, get_or-le-sum_by}
use Rattle.base.specs.Numbers.{count}
use Rattle.yds_model.specs.Level.{Level, level_at, all_members}

-- a number that stands in a list is counted
pub contained_counted : (numbers : List ℕ) (number : ℕ) → Contains numbers number → 1 ≤ count number numbers
contained_counted numbers number (place, within, is) =
    omega (
      arith,
      get_or-le-sum_by (λ other. cond (number == other) 1 0) numbers place number within,
      ap {B = ℕ} (λ b. cond b 1 0) (eq-eqb number (get_or numbers place number) (sym is)),
    )

-- how often it stands in two lists together
pub count_joined : (number : ℕ) (numbers others : List ℕ) → count number (numbers ++ others) ≡ count number numbers + count number others
count_joined number numbers others = sum_by-append (λ other. cond (number == other) 1 0) numbers others

-- a number stands in a level's members at most as often as in all
pub level_count : (levels : List Level) (i number : ℕ) → i < length levels → count number (level_at levels i).members ≤ count number (all_members levels)
level_count [] i number within = absurd (omega (arith, within))
level_count (level ∷ levels) zero number within = omega (arith, count_joined number level.members (all_members levels))
level_count (level ∷ levels) (suc i) number within =
    omega (arith, level_count levels i number (omega (arith, within)), count_joined number level.members (all_members levels))

-- so a member of a level is counted among all members
pub member_counted : (levels : List Level) (i number : ℕ) → i < length levels → Contains (level_at levels i).members number → 1 ≤ count number (all_members levels)
member_counted levels i number within has = omega (arith, contained_counted (level_at levels i).members number has, level_count levels i number within)

-- and where it is counted once, that level is the only one
pub one_level : (levels : List Level) (i j number : ℕ) → count number (all_members levels) ≤ 1 → i < length levels → j < length levels →
    Contains (level_at levels i).members number → Contains (level_at levels j).members number → i ≡ j
one_level [] i j number once within inside has other = absurd (omega (arith, within))
one_level (level ∷ levels) zero zero number once within inside has other = refl
one_level (level ∷ levels) zero (suc j) number once within inside has other =
    absurd (omega (arith, once, count_joined number level.members (all_members levels), contained_counted level.members number has, member_counted levels j number (omega (arith, inside)) other))
one_level (level ∷ levels) (suc i) zero number once within inside has other =
    absurd (omega (arith, once, count_joined number level.members (all_members levels), contained_counted level.members number other, member_counted levels i number (omega (arith, within)) has))
one_level (level ∷ levels) (suc i) (suc j) number once within inside has other =
    ap suc (one_level levels i j number (omega (arith, once, count_joined number level.members (all_members levels))) (omega (arith, within)) (omega (arith, inside)) has other)
