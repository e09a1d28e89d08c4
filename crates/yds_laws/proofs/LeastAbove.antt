-- What a plan's levels do above a speed is the least excess above it, and goes in a straight line between speeds that no level lies between.
use Rattle.yds_model.proofs.Common.{◌≡◌, ℕ, zero, suc, ◌+◌, ◌-◌, ◌*◌, ◌<◌, ◌≤◌, List, [], ◌∷◌, length, take, ap, sym, subst, ◌∙◌, refl, arith, inl, inr, sum_by, sum_by-cons, cases_lt, le_refl, mul-le-mul_right, mul-lt-mul_of_pos_right, lt_of_mul-lt-mul_right, Job, WrittenSlot, WholeSlot, slots_at, IsFeasibleAt, excess, Level, level_at, levels_above, all_members, all_pieces, in_lowest_terms, IsPlan, least_above, sum_by_same}
use Rattle.model_lemmas.proofs.Scale.{scale_exists}
use Rattle.fraction_lemmas.proofs.LowestTerms.{HasValue, lowest_value}
use Rattle.yds_laws.specs.CurveLaws.{LevelsTellLeastExcess}
use Rattle.yds_laws.proofs.Bound.{confinement_bound}
use Rattle.yds_laws.proofs.Explained.{proper_explains}
use Rattle.yds_laws.proofs.Curve.{curve, AreFalling, curve_slow, curve_above}
use Rattle.yds_laws.proofs.Plans.{plan_falls, plan_sums_up, plan_excess}
use Rattle.yds_laws.proofs.Exact.{above_fast, above_slow}

-- # The levels above a speed

-- what the levels above p/q do above it is all their work less that at p/q
pub above_sums : (p q : ℕ) (levels : List Level) →
    sum_by (λ level. q * level.work - p * level.length) (levels_above p q levels) + p * sum_by (λ level. level.length) (levels_above p q levels)
    ≡ q * sum_by (λ level. level.work) (levels_above p q levels)
above_sums p q [] = omega arith
above_sums p q (level ∷ levels) = elim (cases_lt (p * level.length) (level.work * q)) [
  | inl fast ↦ rw (above_fast p q level levels fast) (omega (
    arith,
    fast,
    sum_by-cons (λ (one : Level). q * one.work - p * one.length) level (levels_above p q levels),
    ap (λ n. p * n) (sum_by-cons (λ (one : Level). one.length) level (levels_above p q levels)),
    ap (λ n. q * n) (sum_by-cons (λ (one : Level). one.work) level (levels_above p q levels)),
    above_sums p q levels,
  ))
  | inr slow ↦ rw (above_slow p q level levels slow) (omega arith)
]

-- where speeds fall they do all that the levels do above it
pub above_curve : (p q : ℕ) (levels : List Level) → AreFalling levels →
    sum_by (λ level. q * level.work - p * level.length) (levels_above p q levels) ≡ curve p q levels
above_curve p q [] falling = refl
above_curve p q (level ∷ levels) falling = elim (cases_lt (p * level.length) (level.work * q)) [
  | inl fast ↦ rw (above_fast p q level levels fast) (omega (
    arith,
    sum_by-cons (λ (one : Level). q * one.work - p * one.length) level (levels_above p q levels),
    sum_by-cons (λ (one : Level). q * one.work - p * one.length) level levels,
    above_curve p q levels falling.3,
  ))
  | inr slow ↦ rw (above_slow p q level levels slow) (sym (curve_slow p q (level ∷ levels) falling (omega (arith, slow))))
]

-- a level is faster than one that is slower than one that is slower than it
faster_still : (work long next next_long last last_long : ℕ) → 1 ≤ last_long → next * long < work * next_long → last * next_long < next * last_long →
    last * long < work * last_long
faster_still work long next next_long last last_long some falls further =
    let not_above : last * next_long ≤ next * last_long = omega (arith, further) in
    lt_of_mul-lt-mul_right next_long (omega (
      arith,
      mul-le-mul_right long not_above,
      mul-lt-mul_of_pos_right falls some,
    ))

-- a level has length
some_length : (levels : List Level) (i : ℕ) → AreFalling levels → i < length levels → 1 ≤ (level_at levels i).length
some_length [] i falling within = absurd (omega (arith, within))
some_length (level ∷ levels) zero falling within = falling.1
some_length (level ∷ levels) (suc i) falling within = some_length levels i falling.3 (omega (arith, within))

-- a later level is slower than the first
later_slower : (level : Level) (levels : List Level) (i : ℕ) → AreFalling (level ∷ levels) → i < length levels →
    (level_at levels i).work * level.length < level.work * (level_at levels i).length
later_slower level [] i falling within = absurd (omega (arith, within))
later_slower level (next ∷ levels) zero falling within = falling.2
later_slower level (next ∷ levels) (suc i) falling within =
    faster_still level.work level.length next.work next.length (level_at levels i).work (level_at levels i).length
    (some_length levels i falling.3.3 (omega (arith, within))) falling.2 (later_slower next levels i falling.3 (omega (arith, within)))

-- above the speed of a level are just the levels before it
pub front_above : (levels : List Level) (i : ℕ) → AreFalling levels → i < length levels →
    levels_above (level_at levels i).work (level_at levels i).length levels ≡ take i levels
front_above [] i falling within = absurd (omega (arith, within))
front_above (level ∷ levels) zero falling within = above_slow level.work level.length level levels (le_refl (level.work * level.length))
front_above (level ∷ levels) (suc i) falling within =
    above_fast (level_at levels i).work (level_at levels i).length level levels (later_slower level levels i falling (omega (arith, within)))
    ∙ ap (λ l. level ∷ l) (front_above levels i falling.3 (omega (arith, within)))

-- so they do there what their work is, less what their length takes at the level's speed
pub level_excess : (levels : List Level) (i : ℕ) → AreFalling levels → i < length levels →
    least_above (level_at levels i).work (level_at levels i).length levels
    ≡ in_lowest_terms ((level_at levels i).length * sum_by (λ level. level.work) (take i levels) - (level_at levels i).work * sum_by (λ level. level.length) (take i levels))
    (level_at levels i).length
level_excess levels i falling within =
    let level = level_at levels i in
    let fronts = front_above levels i falling within in
    ap (λ n. in_lowest_terms n level.length) (omega (
      arith,
      above_sums level.work level.length levels,
      ap (λ front. level.work * sum_by (λ one. one.length) front) fronts,
      ap (λ front. level.length * sum_by (λ one. one.work) front) fronts,
    ))

-- above the speed 0 all the work is done
pub zero_excess : (levels : List Level) → AreFalling levels → least_above 0 1 levels ≡ in_lowest_terms (sum_by (λ level. level.work) levels) 1
zero_excess levels falling =
    ap (λ n. in_lowest_terms n 1)
    (above_curve 0 1 levels falling
    ∙ sum_by_same (λ level. 1 * level.work - 0 * level.length) (λ level. level.work) levels (λ k d within. omega arith))

-- # The least excess

-- no feasible schedule does less above a speed than a plan's levels
levels_bound : (jobs : List Job) (slots : List WrittenSlot) (levels : List Level) (p q scale : ℕ) (others : List WholeSlot) → IsPlan jobs slots levels → 1 ≤ q →
    1 ≤ scale → IsFeasibleAt jobs scale others → curve p q levels * scale ≤ excess p q others
levels_bound jobs slots levels p q scale others plan some positive feasible =
    let common = scale_exists slots plan.proper.feasible.solid in
    let forced = ((proper_explains jobs slots levels plan.proper).holds common.0 common.1).forced p q some in
    omega (
      arith,
      confinement_bound jobs scale p q others (all_members (levels_above p q levels)) (all_pieces (levels_above p q levels)) positive
          forced.different forced.known forced.confined feasible,
      ap (λ n. scale * n) (curve_above jobs p q levels (plan_falls jobs slots levels plan) (plan_sums_up jobs slots levels plan)),
    )

-- so what its levels do is the least excess, which its own schedule attains
pub levels_tell_least_excess : LevelsTellLeastExcess
levels_tell_least_excess jobs slots levels p q plan some =
    let x = least_above p q levels in
    let is_curve = above_curve p q levels (plan_falls jobs slots levels plan) in
    let value : HasValue (curve p q levels) q x = subst (λ (n : ℕ). HasValue n q x) is_curve (lowest_value _ q some) in
    let common = scale_exists slots plan.proper.feasible.solid in
    record {
      is_speed = some;
      has_parts = value.has_parts;
      least = λ scale others positive feasible.
          omega (
            arith,
            ap (λ n. n * scale) value.same,
            mul-le-mul_right x.den (levels_bound jobs slots levels p q scale others plan some positive feasible),
          );
      scale = common.0;
      positive = common.1.positive;
      slots = slots_at common.0 slots;
      feasible = plan.proper.feasible.holds common.0 common.1;
      attained = omega (
        arith,
        ap (λ n. n * common.0) value.same,
        ap (λ n. n * x.den) (plan_excess jobs slots levels common.0 p q plan common.1 some),
      );
    }
