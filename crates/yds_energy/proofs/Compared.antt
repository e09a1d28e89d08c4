-- What a plan spends on the points: the energy of its rounded slots, and no more than the run of any policy.
use Rattle.yds_model.proofs.Common.{◌≡◌, ℕ, ◌-◌, ◌*◌, ◌/◌, ◌<◌, ◌≤◌, List, [], ◌∷◌, ◌++◌, get_or, sym, ap, ap₂, subst, ◌∙◌, arith, inl, inr, sum_by, All, All-append, All-weaker, mul-pos, mul-le-mul_right, div-mul_cancel, le_of_mul-le-mul_right, Job, IsJob, Fraction, numerator, of_parts, IsAtMost, WrittenSlot, WholeSlot, IsSolid, IsScale, slots_at, Piece, Level, excess, IsPlan, common_divisor, multiple_of_all, in_lowest_terms, Point, AreRising, IsTable, hull_of, hull_multiple, gaps_of, stretches, slots_in, IsRunAt, top_of, IsTooFast, all_energy, HoldsStretch, CanServe, sum_by_zero, eq_of_mul-eq-mul_left, IsLowest, Spent, IsSpent, RoundsStretches, IsEnergyOf}
use Rattle.fraction_lemmas.proofs.Divisor.{divisor_is_greatest, lowest_terms_are_one}
use Rattle.model_lemmas.proofs.Front.{pieces_forward}
use Rattle.model_lemmas.proofs.HullExists.{hull_exists}
use Rattle.model_lemmas.proofs.Runs.{run_forward}
use Rattle.model_lemmas.proofs.Scale.{scale_exists}
use Rattle.fraction_lemmas.proofs.LowestTerms.{lowest_value, lowest_is, lowest_is_lowest, HasValue}
use Rattle.fraction_lemmas.proofs.Fractions.{factors}
use Rattle.yds_events.proofs.Neighbours.{stretches_run}
use Rattle.yds_energy.specs.ComparisonLaws.{PlanSpendsItsRounding, PlanSpendsLeast}
use Rattle.yds_laws.proofs.Bound.{scale_left, scale_right}
use Rattle.yds_energy.proofs.EvenStretches.{run_even, plan_even, plan_holds, held_at}
use Rattle.yds_energy.proofs.PlansEnergy.{plans_cost_least, hull_table}
use Rattle.yds_energy.proofs.RoundedEnergy.{attains_the_hull, rounded_attains_the_hull}
use Rattle.yds_energy.proofs.RoundingScale.{one_scale_decides_energy}
use Rattle.yds_energy.proofs.RoundedRuns.{all_work}
use Rattle.yds_energy.proofs.SpentEnergy.{IsEven, IsEnergy, even_energy, spends_no_more, spends_energy}
use Rattle.yds_energy.proofs.StretchSlots.{sum_in_stretches}
use Rattle.yds_energy.proofs.StretchTimes.{stretches_long}
use Rattle.yds_energy.proofs.TooSlow.{none_within, too_slow_is_exact}

-- # The common multiple

-- of numbers that aren't 0 it isn't
multiple_some : (a b : ℕ) → 1 ≤ a → 1 ≤ b → 1 ≤ a / common_divisor a b * b
multiple_some a b some other =
    mul-pos (factors (a / common_divisor a b) (common_divisor a b) a (div-mul_cancel (common_divisor a b) (divisor_is_greatest a b).0) some).0 other

-- so that of the gaps between rising points isn't 0
gaps_some : (points : List Point) → AreRising points → 1 ≤ multiple_of_all (gaps_of points)
gaps_some [] rising = omega arith
gaps_some (point ∷ []) rising = omega arith
gaps_some (low ∷ high ∷ points) rising =
    let gap : 1 ≤ high.speed - low.speed = omega (arith, rising.0) in
    multiple_some (high.speed - low.speed) (multiple_of_all (gaps_of (high ∷ points))) gap (gaps_some (high ∷ points) rising.1)

-- and that of a table's hull
pub hull_some_multiple : (points : List Point) → IsTable points → 1 ≤ hull_multiple points
hull_some_multiple points table = gaps_some (hull_of points) (hull_table points (hull_of points) table (hull_exists points table.rising)).rising

-- # At a scale

-- a plan's energy on the points, and by the hull
plan_energy : (jobs : List Job) (points : List Point) (planned : List WrittenSlot) (levels : List Level) (scale : ℕ) → IsTable points → IsPlan jobs planned levels →
    IsScale scale planned → All (λ level. IsTooFast points level → ⊥) levels → IsEnergy jobs points scale (slots_at scale planned)
plan_energy jobs points planned levels scale table plan is slow =
    even_energy jobs points scale (slots_at scale planned) is.positive table (plan.proper.feasible.holds scale is) (plan.served scale is).uncut
    (plan_even jobs planned levels scale plan is) (plan_holds jobs planned levels points scale plan is slow)

-- and a run's
run_energy : (jobs : List Job) (points : List Point) (grid scale : ℕ) (capacity : Piece → ℕ) (slots : List WholeSlot) → 1 ≤ scale → IsTable points →
    IsRunAt jobs grid scale capacity slots → All (HoldsStretch points scale slots) (stretches jobs) → IsEnergy jobs points scale slots
run_energy jobs points grid scale capacity slots positive table run holds =
    even_energy jobs points scale slots positive table run.feasible run.served.uncut (run_even jobs grid scale capacity slots positive run) holds

-- so slots of one speed do nothing above the top
above_none : (top scale : ℕ) (stretch : Piece) (slots : List WholeSlot) → 1 ≤ scale → stretch.from < stretch.to → IsEven scale slots stretch →
    all_work (slots_in scale stretch slots) ≤ top * ((stretch.to - stretch.from) * scale) →
    sum_by (λ slot. 1 * slot.work - top * (slot.to - slot.from)) (slots_in scale stretch slots) ≡ 0
above_none top scale stretch slots positive forward (inl none) holds = ap (λ (here : List WholeSlot). sum_by (λ slot. 1 * slot.work - top * (slot.to - slot.from)) here) none
above_none top scale stretch slots positive forward (inr full) holds =
    let here : List WholeSlot = slots_in scale stretch slots in
    let ahead : 1 ≤ stretch.to - stretch.from = omega (arith, forward) in
    sum_by_zero (λ slot. 1 * slot.work - top * (slot.to - slot.from)) here (λ k d within.
    let slot = get_or here k d in
    let held = held_at top slot.work (slot.to - slot.from) (all_work here) ((stretch.to - stretch.from) * scale) (mul-pos ahead positive) holds (full.speeds k d within) in
    omega (arith, held))

-- a run for which the top point is fast enough is nowhere faster
run_within : (jobs : List Job) (points : List Point) (grid scale : ℕ) (capacity : Piece → ℕ) (slots : List WholeSlot) → 1 ≤ scale → IsRunAt jobs grid scale capacity slots →
    All (HoldsStretch points scale slots) (stretches jobs) → CanServe (top_of points) jobs
run_within jobs points grid scale capacity slots positive run holds =
    let over = λ (slot : WholeSlot). 1 * slot.work - top_of points * (slot.to - slot.from) in
    let even = run_even jobs grid scale capacity slots positive run in
    let forward = pieces_forward 0 (stretches jobs) (stretches_run jobs) in
    let none : excess (top_of points) 1 slots ≡ 0 =
    sym (sum_in_stretches over scale 0 (stretches jobs) slots (stretches_run jobs) (run_forward 0 slots run.feasible.one_at_a_time) run.served.uncut)
    ∙ sum_by_zero (λ stretch. sum_by over (slots_in scale stretch slots)) (stretches jobs) (λ k d within.
    above_none (top_of points) scale (get_or (stretches jobs) k d) slots positive (forward k d within) (even k d within) (holds k d within)) in
    record {
      scale = scale;
      positive = positive;
      slots = slots;
      feasible = run.feasible;
      within_top = none_within (top_of points) slots none;
    }

-- # The laws

-- of two quotients over one denominator the lesser is at most the greater, also in lowest terms
terms_at_most : (num other den : ℕ) → 1 ≤ den → num ≤ other → IsAtMost (in_lowest_terms num den) (in_lowest_terms other den)
terms_at_most num other den some less =
    let one = lowest_value num den some in
    let two = lowest_value other den some in
    at_most (numerator (in_lowest_terms num den)) (in_lowest_terms num den).den (numerator (in_lowest_terms other den)) (in_lowest_terms other den).den num other den some one.same
    two.same less
  where
    -- in plain numbers
    at_most : (a b c d num other den : ℕ) → 1 ≤ den → a * den ≡ num * b → c * den ≡ other * d → num ≤ other → a * d ≤ c * b
    at_most a b c d num other den some one two less =
        let more : a * d * den ≤ c * b * den = omega (arith, ap (λ n. n * d) one, ap (λ n. n * b) two, mul-le-mul_right (b * d) less) in
        le_of_mul-le-mul_right {k = den} more some

-- the law: a plan spends no more than a run
pub plan_spends_least : PlanSpendsLeast
plan_spends_least jobs points planned levels spent grid capacity slots other table plan spends run side =
    let some = scale_exists (planned ++ slots) (All-append IsSolid planned slots plan.proper.feasible.solid run.solid) in
    let scale = some.0 in
    let left = scale_left scale planned slots some.1 in
    let right = scale_right scale planned slots some.1 in
    let is_run = run.holds scale right in
    let holds = side.holds.holds scale right in
    let whole : List WholeSlot = slots_at scale slots in
    let hull : List Point = hull_of points in
    let is_hull = hull_exists points table.rising in
    let slow = (too_slow_is_exact.none jobs points planned levels plan).1 (run_within jobs points grid scale (capacity scale whole) whole some.1.positive is_run holds) in
    let less = spends_no_more jobs points scale (slots_at scale planned) whole table (plan.proper.feasible.holds scale left) is_run.feasible
    (plan_energy jobs points planned levels scale table plan left slow) (run_energy jobs points grid scale (capacity scale whole) whole some.1.positive table is_run holds)
    (plans_cost_least jobs planned levels hull scale whole plan (hull_table points hull table is_hull) is_hull.convex left is_run.feasible) in
    let mine = (spends.holds scale left).energy in
    let theirs = (side.is_spent.holds scale right).energy in
    let most = terms_at_most (all_energy jobs points scale (slots_at scale planned)) (all_energy jobs points scale whole) (scale * hull_multiple points)
    (mul-pos some.1.positive (hull_some_multiple points table)) less in
    subst (λ (x : Fraction). IsAtMost x other.energy) (sym mine) (subst (IsAtMost (in_lowest_terms (all_energy jobs points scale (slots_at scale planned)) (scale * hull_multiple points))) (sym theirs) most)

-- # The rounded slots

-- in plain numbers: what is spent is the quotient's at the scale
same_spent : (cost multiple spent den num scale : ℕ) → 1 ≤ multiple → cost ≡ multiple * spent → num * (scale * multiple) ≡ cost * den → spent * den ≡ num * scale
same_spent cost multiple spent den num scale some is energy =
    eq_of_mul-eq-mul_left multiple some (spent * den) (num * scale) (omega (arith, ap (λ n. n * den) is, energy))

-- what a plan spends is the energy of the slots to which it is rounded
pub rounded_energy : (jobs : List Job) (points : List Point) (planned : List WrittenSlot) (levels : List Level) (written : List WrittenSlot) (spent : Spent) →
    All IsJob jobs → IsTable points → IsPlan jobs planned levels → All (λ level. IsTooFast points level → ⊥) levels →
    RoundsStretches (hull_of points) levels (stretches jobs) planned written → All IsSolid written → IsSpent jobs points planned spent →
    IsEnergyOf jobs points written spent.energy
rounded_energy jobs points planned levels written spent fit table plan slow rounds solid spends =
    let some = scale_exists (planned ++ written) (All-append IsSolid planned written plan.proper.feasible.solid solid) in
    let scale = some.0 in
    let left = scale_left scale planned written some.1 in
    let slots : List WholeSlot = slots_at scale planned in
    let attained = attains_the_hull jobs points planned levels written scale plan table rounds some.1 in
    let windows : All (λ job. job.release < job.deadline) jobs = All-weaker IsJob (λ job. job.release < job.deadline) (λ job is. is.has_window) jobs fit in
    let cost = spends_energy jobs points scale attained.spent slots table (plan.proper.feasible.holds scale left) (stretches_long jobs windows)
    (plan_energy jobs points planned levels scale table plan left slow) attained.energy in
    let multiple = hull_some_multiple points table in
    let value = subst (HasValue (all_energy jobs points scale slots) (scale * hull_multiple points)) (sym (spends.holds scale left).energy)
    (lowest_value (all_energy jobs points scale slots) (scale * hull_multiple points) (mul-pos some.1.positive multiple)) in
    one_scale_decides_energy jobs points written spent.energy scale attained.spent value.has_parts (scale_right scale planned written some.1) attained.on_points
    (same_spent (all_energy jobs points scale slots) (hull_multiple points) attained.spent spent.energy.den (numerator spent.energy) scale multiple cost value.same)

-- what is spent is in lowest terms
pub spent_lowest : (jobs : List Job) (points : List Point) (slots : List WrittenSlot) (spent : Spent) → IsTable points → All IsSolid slots →
    IsSpent jobs points slots spent → IsLowest spent.energy
spent_lowest jobs points slots spent table solid spends =
    let scale = scale_exists slots solid in
    subst IsLowest (sym (spends.holds scale.0 scale.1).energy)
    (lowest_is_lowest (all_energy jobs points scale.0 (slots_at scale.0 slots)) (scale.0 * hull_multiple points) (mul-pos scale.1.positive (hull_some_multiple points table)))

-- in plain numbers: the quotient of what is spent is the energy's
same_quotient : (cost multiple spent den num scale : ℕ) → cost ≡ multiple * spent → spent * den ≡ num * scale → cost * den ≡ num * (scale * multiple)
same_quotient cost multiple spent den num scale is energy = omega (arith, ap (λ n. n * den) is, ap (λ n. multiple * n) energy)

-- the law: and just the energy of the rounded slots
pub plan_spends_its_rounding : PlanSpendsItsRounding
plan_spends_its_rounding jobs points planned others levels other_levels spent written energy fit table plan spends other_plan rounding =
    let some = scale_exists (planned ++ (others ++ written)) (All-append IsSolid planned (others ++ written) plan.proper.feasible.solid
    (All-append IsSolid others written other_plan.proper.feasible.solid rounding.energy_of.at_scales.solid)) in
    let scale = some.0 in
    let first = scale_left scale planned (others ++ written) some.1 in
    let rest = scale_right scale planned (others ++ written) some.1 in
    let second = scale_left scale others written rest in
    let at = rounding.energy_of.at_scales.holds scale (scale_right scale others written rest) in
    let slots : List WholeSlot = slots_at scale planned in
    let other_slots : List WholeSlot = slots_at scale others in
    let hull : List Point = hull_of points in
    let is_hull = hull_exists points table.rising in
    let is_table = hull_table points hull table is_hull in
    let served = (too_slow_is_exact.none jobs points others other_levels other_plan).0 rounding.fast_enough in
    let slow = (too_slow_is_exact.none jobs points planned levels plan).1 served in
    let feasible = plan.proper.feasible.holds scale first in
    let other_feasible = other_plan.proper.feasible.holds scale second in
    let mine = plan_energy jobs points planned levels scale table plan first slow in
    let theirs = plan_energy jobs points others other_levels scale table other_plan second rounding.fast_enough in
    let less = spends_no_more jobs points scale slots other_slots table feasible other_feasible mine theirs
    (plans_cost_least jobs planned levels hull scale other_slots plan is_table is_hull.convex first other_feasible) in
    let more = spends_no_more jobs points scale other_slots slots table other_feasible feasible theirs mine
    (plans_cost_least jobs others other_levels hull scale slots other_plan is_table is_hull.convex second feasible) in
    let windows : All (λ job. job.release < job.deadline) jobs = All-weaker IsJob (λ job. job.release < job.deadline) (λ job is. is.has_window) jobs fit in
    let cost = spends_energy jobs points scale at.0 other_slots table other_feasible (stretches_long jobs windows) theirs
    (rounded_attains_the_hull jobs points others other_levels written energy scale at.0 other_plan table rounding rest at.1) in
    let same : all_energy jobs points scale slots ≡ hull_multiple points * at.0 = omega (arith, less, more, cost) in
    let den : 1 ≤ scale * hull_multiple points = mul-pos some.1.positive (hull_some_multiple points table) in
    let terms = lowest_terms_are_one (all_energy jobs points scale slots) (scale * hull_multiple points) (numerator energy) energy.den den rounding.energy_of.has_parts
    (same_quotient (all_energy jobs points scale slots) (hull_multiple points) at.0 energy.den (numerator energy) scale same at.2) in
    (spends.holds scale first).energy ∙ ap₂ of_parts terms.0 terms.1 ∙ lowest_is energy rounding.lowest
