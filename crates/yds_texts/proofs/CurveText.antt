-- What the answer of `curve` is worth: at each of its breaks the least excess, and between two of them a straight line.
use Rattle.yds_texts.proofs.Answered.{answered, done_not_refused}
use Rattle.yds_model.proofs.Common.{AskCurve, All-from_get_or, cases_lt, ◌≡◌, ℕ, zero, suc, ◌+◌, ◌-◌, ◌*◌, ◌<◌, ◌≤◌, List, length, get_or, reverse, refl, sym, ap, subst, ◌∙◌, arith, add-one, add-zero, ◌⊎◌, get_or-map, get_or-reverse, length-map, length-reverse, le_refl, mul-le-mul_right, mul-lt-mul_of_pos_right, lt_of_mul-lt-mul_right, le_of_mul-le-mul_right, Job, Fraction, numerator, IsLess, IsAtMost, of_whole, WrittenSlot, Level, no_level, level_at, in_lowest_terms, IsLowest, IsPlan, IsLeastExcess, Break, break_at, breaks_of, least_above}
use Rattle.fraction_lemmas.proofs.LowestTerms.{HasValue, lowest_value, lowest_is_lowest}
use Rattle.fraction_lemmas.proofs.Fractions.{at_most_still}
use Rattle.base.specs.declared.status.Status.TheVariants.{Done}
use Rattle.yds_laws.specs.CurveLaws.{excess_of, IsNotAbove, IsOnLine, IsNotBelow}
use Rattle.yds_laws.proofs.CurveLine.{curve_is_straight}
use Rattle.yds_laws.proofs.LeastAbove.{levels_tell_least_excess}
use Rattle.yds_laws.proofs.Plans.{plan_falls}
use Rattle.yds_laws.proofs.SameSpeed.{least_same, above_same}
use Rattle.yds_texts.specs.CurveText.{bend_at, speed_at, as_quotient, IsLeastAbove, GoesStraight, LeavesLine, CurvesAreLeast, no_bend}
use Rattle.yds_texts.proofs.CurveBends.{leaves_line}

-- # Values

-- where one quotient isn't above another, neither is one of its value
values_at_most : (a b c d : ℕ) (x y : Fraction) → 1 ≤ b → 1 ≤ d → HasValue a b x → HasValue c d y → a * d ≤ c * b → IsAtMost x y
values_at_most a b c d x y some_b some_d of_x of_y at_most =
    le_of_mul-le-mul_right {k = d} (le_of_mul-le-mul_right {k = b} (omega (
      arith,
      ap (λ n. n * (y.den * d)) of_x.same,
      ap (λ n. n * (x.den * b)) of_y.same,
      mul-le-mul_right (x.den * y.den) at_most,
    )) some_b) some_d

values_less : (a b c d : ℕ) (x y : Fraction) → 1 ≤ b → 1 ≤ d → HasValue a b x → HasValue c d y → a * d < c * b → IsLess x y
values_less a b c d x y some_b some_d of_x of_y below =
    lt_of_mul-lt-mul_right d (lt_of_mul-lt-mul_right b (omega (
      arith,
      ap (λ n. n * (y.den * d)) of_x.same,
      ap (λ n. n * (x.den * b)) of_y.same,
      mul-lt-mul_of_pos_right {k = y.den} (mul-lt-mul_of_pos_right {k = x.den} below of_x.has_parts) of_y.has_parts,
    )))

-- # The breaks

-- the speed of a break, as its level has it
abbrev num_at : List Level → ℕ → ℕ
num_at levels zero = 0
num_at levels (suc k) = (level_at levels (length levels - 1 - k)).work

abbrev den_at : List Level → ℕ → ℕ
den_at levels zero = 1
den_at levels (suc k) = (level_at levels (length levels - 1 - k)).length

count_breaks : (levels : List Level) → length (breaks_of levels) ≡ suc (length levels)
count_breaks levels = omega (arith, length-map (reverse levels) (λ (level : Level). break_at levels level.work level.length), length-reverse levels)

bend_is : (levels : List Level) (i : ℕ) → i < length (breaks_of levels) → (d : Break) → get_or (breaks_of levels) i d ≡ break_at levels (num_at levels i) (den_at levels i)
bend_is levels zero within d = refl
bend_is levels (suc k) within d =
    let bend : Level → Break = λ level. break_at levels level.work level.length in
    let below : k < length levels = omega (arith, within, count_breaks levels) in
    get_or-map bend (reverse levels) k no_level d (omega (arith, below, length-reverse levels))
    ∙ ap bend (get_or-reverse levels k no_level below)

-- each has a speed above the one before it
module _ (jobs : List Job) (slots : List WrittenSlot) (levels : List Level) (plan : IsPlan jobs slots levels) where
  some_den : (i : ℕ) → i < suc (length levels) → 1 ≤ den_at levels i
  some_den zero within = omega arith
  some_den (suc k) within = (plan.proper.well_formed.positive (length levels - 1 - k) no_level (omega (arith, within))).1

  rises : (i : ℕ) → i < length levels → num_at levels i * den_at levels (suc i) < num_at levels (suc i) * den_at levels i
  rises zero within = omega (arith, (plan.proper.well_formed.positive (length levels - 1 - 0) no_level (omega (arith, within))).0)
  rises (suc k) within = plan.falling (length levels - 1 - k) (omega (arith, within)) (length levels - 1 - suc k) (omega (arith, within))

  value_at : (i : ℕ) → i < suc (length levels) → HasValue (num_at levels i) (den_at levels i) (in_lowest_terms (num_at levels i) (den_at levels i))
  value_at i within = lowest_value (num_at levels i) (den_at levels i) (some_den i within)

  -- so no speed is above a later one
  no_falls : (i more : ℕ) → i + more < suc (length levels) → num_at levels i * den_at levels (i + more) ≤ num_at levels (i + more) * den_at levels i
  no_falls i zero within = rw add-zero (le_refl (num_at levels i * den_at levels i))
  no_falls i (suc more) within =
      let before = no_falls i more (omega (arith, within)) in
      let step = rises (i + more) (omega (arith, within)) in
      let later : i + suc more ≡ suc (i + more) = omega arith in
      subst (λ n. num_at levels i * den_at levels n ≤ num_at levels n * den_at levels i) (sym later)
      (at_most_still (num_at levels i) (den_at levels i) (num_at levels (i + more)) (den_at levels (i + more)) (num_at levels (suc (i + more))) (den_at levels (suc (i + more)))
      (some_den (i + more) (omega (arith, within))) before (omega (arith, step)))

  -- # The curve

  abbrev breaks : List Break
  breaks = breaks_of levels

  speed_is : (i : ℕ) → i < suc (length levels) → speed_at breaks i ≡ in_lowest_terms (num_at levels i) (den_at levels i)
  speed_is i within = ap (λ (bend : Break). bend.speed) (bend_is levels i (omega (arith, within, count_breaks levels)) no_bend)

  excess_is : (i : ℕ) → i < suc (length levels) → (bend_at breaks i).excess ≡ least_above (num_at levels i) (den_at levels i) levels
  excess_is i within = ap (λ (bend : Break). bend.excess) (bend_is levels i (omega (arith, within, count_breaks levels)) no_bend)

  -- the excess of a break is what the levels do above its speed
  excess_at : (i : ℕ) → i < suc (length levels) → excess_of levels (as_quotient (speed_at breaks i)) ≡ (bend_at breaks i).excess
  excess_at i within =
      let x = in_lowest_terms (num_at levels i) (den_at levels i) in
      let value = value_at i within in
      ap (λ (speed : Fraction). excess_of levels (as_quotient speed)) (speed_is i within)
      ∙ above_same (numerator x) x.den (num_at levels i) (den_at levels i) levels value.same value.has_parts (some_den i within) (plan_falls jobs slots levels plan)
      ∙ sym (excess_is i within)

  -- it is the least excess
  least_at : (i : ℕ) → i < suc (length levels) → IsLeastAbove jobs (speed_at breaks i) (bend_at breaks i).excess
  least_at i within =
      let x = in_lowest_terms (num_at levels i) (den_at levels i) in
      let value = value_at i within in
      subst (λ (speed : Fraction). IsLeastAbove jobs speed (bend_at breaks i).excess) (sym (speed_is i within))
      (least_same jobs (num_at levels i) (den_at levels i) (numerator x) x.den (bend_at breaks i).excess (sym value.same) value.has_parts
      (subst (IsLeastExcess jobs (num_at levels i) (den_at levels i)) (sym (excess_is i within))
      (levels_tell_least_excess jobs slots levels (num_at levels i) (den_at levels i) plan (some_den i within))))

  -- both its numbers are in lowest terms
  lowest_at : (i : ℕ) → i < suc (length levels) → IsLowest (speed_at breaks i) × IsLowest (bend_at breaks i).excess
  lowest_at i within = grind (arith, excess_is, lowest_is_lowest, speed_is)

  -- breaks at places that don't fall
  at_most_later : (i j : ℕ) → i ≤ j → j < suc (length levels) → IsAtMost (speed_at breaks i) (speed_at breaks j)
  at_most_later i j before within =
      let more : i + (j - i) ≡ j = omega (arith, before) in
      let order : num_at levels i * den_at levels j ≤ num_at levels j * den_at levels i =
      subst (λ n. num_at levels i * den_at levels n ≤ num_at levels n * den_at levels i) more (no_falls i (j - i) (omega (arith, before, within))) in
      let first : i < suc (length levels) = omega (arith, before, within) in
      subst (λ x. IsAtMost x (speed_at breaks j)) (sym (speed_is i first))
      (subst (λ y. IsAtMost (in_lowest_terms (num_at levels i) (den_at levels i)) y) (sym (speed_is j within))
      (values_at_most _ _ _ _ _ _ (some_den i first) (some_den j within) (value_at i first) (value_at j within) order))

  rising_at : (i : ℕ) → i + 1 < suc (length levels) → IsLess (speed_at breaks i) (speed_at breaks (i + 1))
  rising_at i within =
      let first : i < suc (length levels) = omega (arith, within) in
      let order : num_at levels i * den_at levels (i + 1) < num_at levels (i + 1) * den_at levels i = rw add-one (rises i (omega (arith, within))) in
      subst (λ x. IsLess x (speed_at breaks (i + 1))) (sym (speed_is i first))
      (subst (λ y. IsLess (in_lowest_terms (num_at levels i) (den_at levels i)) y) (sym (speed_is (i + 1) within))
      (values_less _ _ _ _ _ _ (some_den i first) (some_den (i + 1) within) (value_at i first) (value_at (i + 1) within) order))

  -- a speed from a break on is not below the breaks before it, and one up to a break is not above those after it
  above_before : (i k : ℕ) (speed : Fraction) → i < suc (length levels) → k ≤ i → 1 ≤ speed.den → IsAtMost (speed_at breaks i) speed →
      IsNotAbove (as_quotient speed) (speed_at breaks k)
  above_before i k speed within before some from =
      let x = speed_at breaks k in
      let y = speed_at breaks i in
      at_most_still (numerator x) x.den (numerator y) y.den (numerator speed) speed.den (least_at i within).is_speed (at_most_later k i before within) from

  -- between two neighbours no break lies
  beside : (i k : ℕ) → i + 1 < suc (length levels) → k < suc (length levels) →
      IsNotAbove (as_quotient (speed_at breaks i)) (speed_at breaks k) ⊎ IsNotBelow (as_quotient (speed_at breaks (i + 1))) (speed_at breaks k)
  beside i k within known = grind (arith, at_most_later, cases_lt)

  goes_straight : (i : ℕ) (speed : Fraction) → i + 1 < suc (length levels) → 1 ≤ speed.den → IsAtMost (speed_at breaks i) speed →
      IsAtMost speed (speed_at breaks (i + 1)) → GoesStraight jobs (bend_at breaks i) (bend_at breaks (i + 1)) speed
  goes_straight i speed within some from to =
      let slow = as_quotient (speed_at breaks i) in
      let fast = as_quotient (speed_at breaks (i + 1)) in
      let first : i < suc (length levels) = omega (arith, within) in
      let excess = excess_of levels (as_quotient speed) in
      record {
        excess = excess;
        least = levels_tell_least_excess jobs slots levels (numerator speed) speed.den plan some;
        on_line = subst (λ one. IsOnLine slow (as_quotient speed) fast one excess (bend_at breaks (i + 1)).excess) (excess_at i first)
            (subst (λ other. IsOnLine slow (as_quotient speed) fast (excess_of levels slow) excess other) (excess_at (i + 1) within)
            (curve_is_straight.between jobs slots levels slow (as_quotient speed) fast plan (record {
              slow_has_parts = (least_at i first).is_speed;
              has_parts = some;
              fast_has_parts = (least_at (i + 1) within).is_speed;
              from = from;
              to = to;
              no_break = All-from_get_or (λ bend. IsNotAbove slow bend.speed ⊎ IsNotBelow fast bend.speed) breaks no_bend
                  (λ k known. beside i k within (omega (arith, known, count_breaks levels)));
            })));
      }

  -- the level whose speed a break has
  speed_of_level : (i : ℕ) → i < length levels →
      numerator (speed_at breaks (i + 1)) * (level_at levels (length levels - 1 - i)).length ≡ (level_at levels (length levels - 1 - i)).work * (speed_at breaks (i + 1)).den
  speed_of_level i within =
      rw add-one (subst (λ x. numerator x * (level_at levels (length levels - 1 - i)).length ≡ (level_at levels (length levels - 1 - i)).work * x.den)
      (sym (speed_is (suc i) (omega (arith, within)))) (value_at (suc i) (omega (arith, within))).same)

  leaves : (i : ℕ) (speed : Fraction) → i + 1 < suc (length levels) → 1 ≤ speed.den → IsLess (speed_at breaks (i + 1)) speed →
      LeavesLine jobs (bend_at breaks i) (bend_at breaks (i + 1)) speed
  leaves i speed within some beyond =
      let slow = as_quotient (speed_at breaks i) in
      let bend = as_quotient (speed_at breaks (i + 1)) in
      let first : i < suc (length levels) = omega (arith, within) in
      let excess = excess_of levels (as_quotient speed) in
      record {
        excess = excess;
        least = levels_tell_least_excess jobs slots levels (numerator speed) speed.den plan some;
        off_line = subst (λ one. IsOnLine slow bend (as_quotient speed) one (bend_at breaks (i + 1)).excess excess → ⊥) (excess_at i first)
            (subst (λ other. IsOnLine slow bend (as_quotient speed) (excess_of levels slow) other excess → ⊥) (excess_at (i + 1) within)
            (leaves_line jobs slots levels slow bend (as_quotient speed) (length levels - 1 - i) plan (least_at i first).is_speed (least_at (i + 1) within).is_speed some
            (rising_at i within) beyond (omega (arith, within)) (speed_of_level i (omega (arith, within)))));
      }

  none_above : (i : ℕ) (speed : Fraction) → i + 1 ≡ suc (length levels) → 1 ≤ speed.den → IsAtMost (speed_at breaks i) speed →
      IsLeastAbove jobs speed (of_whole 0)
  none_above i speed last some from =
      subst (IsLeastAbove jobs speed)
      (curve_is_straight.above jobs slots levels (as_quotient speed) plan some
      (All-from_get_or (λ bend. IsNotAbove (as_quotient speed) bend.speed) breaks no_bend
      (λ k known. above_before i k speed (omega (arith, last)) (omega (arith, known, last, count_breaks levels)) some from)))
      (levels_tell_least_excess jobs slots levels (numerator speed) speed.den plan some)

-- # What is written

pub curves_are_least : CurvesAreLeast
curves_are_least input text answers =
    let is = answered AskCurve input text Done done_not_refused answers in
    let document = is.document in
    let answer = is.answers in
    let jobs = document.jobs in
    let levels = answer.levels in
    let breaks = breaks_of levels in
    let plan = answer.plan in
    let count = count_breaks levels in (
      document,
      breaks,
      record {
        read = is.read;
        written = answer.said;
        lowest = All-from_get_or (λ bend. IsLowest bend.speed × IsLowest bend.excess) breaks no_bend (λ i within.
            lowest_at jobs answer.slots levels plan i (omega (arith, within, count)));
        some = omega (arith, count);
        from_zero = refl;
        rising = λ i within. rising_at jobs answer.slots levels plan i (omega (arith, within, count));
        least = All-from_get_or (λ bend. IsLeastAbove jobs bend.speed bend.excess) breaks no_bend (λ i within.
            least_at jobs answer.slots levels plan i (omega (arith, within, count)));
        straight = λ i speed within. goes_straight jobs answer.slots levels plan i speed (omega (arith, within, count));
        bends = λ i speed within. leaves jobs answer.slots levels plan i speed (omega (arith, within, count));
        none_above = λ i speed last. none_above jobs answer.slots levels plan i speed (omega (arith, last, count));
      },
    )
