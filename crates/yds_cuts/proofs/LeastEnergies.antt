-- Least energies of groups on the points are together a lower bound of all jobs' energy.
use Rattle.yds_model.proofs.Common.{◌≡◌, ℕ, ◌+◌, ◌-◌, ◌*◌, ◌≤◌, List, [], ◌∷◌, refl, sym, ap, ◌∙◌, arith, Bool, not, inl, inr, cases_Bool, All, AllZip, flat_map, sum_by-cons, All-head, All-tail, All-contains, mul-le-mul_left, mul-le-mul_right, le_of_mul-le-mul_left, le_of_mul-le-mul_right, mul-pos, AreDifferent, Job, jobs_with, Fraction, numerator, WholeSlot, slots_at, IsFeasibleAt, Point, point_at, busy, idle, horizon, SpendsAtPoints, IsEnergyOnPoints}
use Rattle.model_lemmas.proofs.Horizon.{busy_and_idle}
use Rattle.model_lemmas.proofs.Scale.{scale_exists}
use Rattle.yds_energy.specs.RoundingLaws.{IsLeastEnergy}
use Rattle.yds_cuts.specs.Groups.{IdleIsCheapest, horizons}
use Rattle.yds_cuts.specs.Energies.{IsSumOf}
use Rattle.yds_cuts.specs.Bounds.{LeastEnergiesAreALowerBound}
use Rattle.yds_cuts.proofs.Renamed.{busy_renamed, spends_renamed}
use Rattle.yds_cuts.proofs.Selected.{place_of, Serves, is_of, isnt_of, slots_of, selected}
use Rattle.yds_cuts.proofs.Below.{busy_split, MayLeave, mine_feasible, later_different, later_serve, later_leave}

-- # What slots spend

-- slots that pass a test, and the others, spend together what all do
record SpendApart (points : List Point) (test : ℕ → Bool) (slots : List WholeSlot) (spent : ℕ) : Type 0 where
  mine : ℕ
  others : ℕ
  mine_spend : SpendsAtPoints points (slots_of test slots) mine
  others_spend : SpendsAtPoints points (slots_of (λ number. not (test number)) slots) others
  together : spent ≡ mine + others

spends_apart : (points : List Point) (test : ℕ → Bool) (slots : List WholeSlot) (spent : ℕ) → SpendsAtPoints points slots spent → SpendApart points test slots spent
spends_apart points test [] spent is = record { mine = 0; others = 0; mine_spend = refl; others_spend = refl; together = is }
spends_apart points test (slot ∷ slots) spent (point, rest, known, at, later, sum) =
    let apart = spends_apart points test slots rest later in
    elim (cases_Bool (test slot.job)) [
      | inl kept ↦ record {
        mine = point.power * (slot.to - slot.from) + apart.mine;
        others = apart.others;
        mine_spend = rw kept (point, apart.mine, known, at, apart.mine_spend, refl);
        others_spend = rw kept apart.others_spend;
        together = omega (arith, sum, apart.together);
      }
      | inr fails ↦ record {
        mine = apart.mine;
        others = point.power * (slot.to - slot.from) + apart.others;
        mine_spend = rw fails apart.mine_spend;
        others_spend = rw fails (point, apart.others, known, at, apart.others_spend, refl);
        together = omega (arith, sum, apart.together);
      }
    ]

-- where no point has less power than the first, they spend at least what idle time costs
spends_idle : (points : List Point) (slots : List WholeSlot) (spent : ℕ) → IdleIsCheapest points → SpendsAtPoints points slots spent →
    (point_at points 0).power * busy slots ≤ spent
spends_idle points [] spent cheapest is = omega arith
spends_idle points (slot ∷ slots) spent cheapest (point, rest, known, at, later, sum) = omega (
  arith,
  sum,
  spends_idle points slots rest cheapest later,
  mul-le-mul_right (slot.to - slot.from) (All-contains (λ (one : Point). (point_at points 0).power ≤ one.power) points point cheapest known),
  ap (λ n. (point_at points 0).power * n) (sum_by-cons (λ (one : WholeSlot). one.to - one.from) slot slots),
)

-- # Fractions, in plain numbers

-- one group more
more : (e d r f s c scale power mine rest mine_idle rest_busy mine_busy both own owns spent : ℕ) → 1 ≤ d → 1 ≤ f →
    s * (d * f) ≡ (e * f + r * d) * c → e * scale ≤ (mine + power * mine_idle) * d → r * scale + f * (power * rest_busy) ≤ f * rest + f * (power * (scale * owns)) →
    mine_busy + mine_idle ≡ scale * own → both ≡ mine_busy + rest_busy → spent ≡ mine + rest →
    s * scale + c * (power * both) ≤ c * spent + c * (power * (scale * (own + owns)))
more e d r f s c scale power mine rest mine_idle rest_busy mine_busy both own owns spent some some_rest sum least later times busy_sum spent_sum =
    le_of_mul-le-mul_left {k = d * f} (omega (
      arith,
      ap (λ n. n * scale) sum,
      mul-le-mul_left (f * c) least,
      mul-le-mul_left (d * c) later,
      ap (λ n. d * f * c * power * n) times,
      ap (λ n. d * f * c * power * n) busy_sum,
      ap (λ n. d * f * c * n) spent_sum,
    )) (mul-pos some some_rest)

-- # Groups

module _ (jobs : List Job) (points : List Point) (scale : ℕ) where
  abbrev power : ℕ
  power = (point_at points 0).power

  abbrev IsLeastOf : List ℕ → Fraction → Type 0
  IsLeastOf numbers energy = IsLeastEnergy (jobs_with jobs numbers) points energy

  groups_spend : (groups : List (List ℕ)) (energies : List Fraction) (sum : Fraction) (slots : List WholeSlot) (spent : ℕ) →
      AreDifferent (flat_map (λ numbers. numbers) groups) → All (λ one. 1 ≤ one.den) energies → AllZip IsLeastOf groups energies → IsSumOf energies sum →
      Serves jobs scale (flat_map (λ numbers. numbers) groups) slots → MayLeave points (flat_map (λ numbers. numbers) groups) slots → SpendsAtPoints points slots spent →
      numerator sum * scale + sum.den * (power * busy slots) ≤ sum.den * spent + sum.den * (power * (scale * horizons jobs groups))
  groups_spend [] [] sum [] spent different each least is serves may spends = omega (arith, ap (λ n. n * scale) is)
  groups_spend [] [] sum (slot ∷ slots) spent different each least is serves (inl none) spends = absurd (omega (arith, (none 0 slot (omega arith)).1))
  groups_spend [] [] sum (slot ∷ slots) spent different each least is serves (inr cheapest) spends =
      omega (arith, ap (λ n. n * scale) is, mul-le-mul_left sum.den (spends_idle points (slot ∷ slots) spent cheapest spends))
  groups_spend [] (energy ∷ energies) sum slots spent different each least is serves may spends = absurd least
  groups_spend (mine ∷ groups) [] sum slots spent different each least is serves may spends = absurd least
  groups_spend (mine ∷ groups) (energy ∷ energies) sum slots spent different each least (rest, some, are, is) serves may spends =
      let later = flat_map (λ (numbers : List ℕ). numbers) groups in
      let own = slots_of (is_of mine) slots in
      let others = slots_of (isnt_of mine) slots in
      let chosen = selected mine slots in
      let apart = spends_apart points (is_of mine) slots spent spends in
      let feasible = mine_feasible jobs scale mine later slots different serves in
      let cost = idle (jobs_with jobs mine) scale chosen in
      let least_here = least.0.at_scales scale (apart.mine + power * cost) chosen feasible
      (apart.mine, spends_renamed (place_of mine) points own apart.mine apart.mine_spend, refl) in
      let after = groups_spend groups energies rest others apart.others (later_different jobs scale mine later slots different serves)
      (All-tail (λ one. 1 ≤ one.den) energy energies each) least.1 are (later_serve jobs scale mine later slots different serves)
      (later_leave jobs scale mine later slots different serves points may) apart.others_spend in
      rw (sum_by-cons (λ numbers. horizon (jobs_with jobs numbers)) mine groups)
      (more (numerator energy) energy.den (numerator rest) rest.den (numerator sum) sum.den scale power apart.mine apart.others cost (busy others) (busy chosen) (busy slots)
      (horizon (jobs_with jobs mine)) (horizons jobs groups) spent (All-head (λ one. 1 ≤ one.den) energy energies each) some is least_here after
      (busy_and_idle (jobs_with jobs mine) scale chosen feasible)
      (busy_split (is_of mine) slots ∙ ap (λ n. n + busy others) (sym (busy_renamed (place_of mine) own))) apart.together)

-- # The law

-- the bound, in plain numbers
bounded : (b d s c scale power busy idle spent time own : ℕ) → 1 ≤ c → (power * own * d + b) * c ≡ (power * time * c + s) * d → busy + idle ≡ scale * time →
    s * scale + c * (power * busy) ≤ c * spent + c * (power * (scale * own)) → b * scale ≤ (spent + power * idle) * d
bounded b d s c scale power busy idle spent time own some same times most =
    le_of_mul-le-mul_left {k = c} (omega (
      arith,
      ap (λ n. n * scale) same,
      mul-le-mul_left d most,
      ap (λ n. d * c * power * n) times,
    )) some

-- from a scale to written fractions
pub at_most_written : (num den other other_den amount scale : ℕ) → 1 ≤ scale → num * scale ≤ amount * den → amount * other_den ≡ other * scale → num * other_den ≤ other * den
at_most_written num den other other_den amount scale some most is =
    le_of_mul-le-mul_right {k = scale} (omega (arith, mul-le-mul_right other_den most, ap (λ n. n * den) is)) some

-- what no schedule at a scale spends less than, no written one does
pub least_from_scales : (jobs : List Job) (points : List Point) (energy : Fraction) → ((scale spent : ℕ) (others : List WholeSlot) → IsFeasibleAt jobs scale others →
    IsEnergyOnPoints jobs points scale others spent → numerator energy * scale ≤ spent * energy.den) → IsLeastEnergy jobs points energy
least_from_scales jobs points energy least = record {
  at_scales = least;
  of_written = λ others spent feasible is.
      let scale = scale_exists others feasible.solid in
      let other = is.at_scales.holds scale.0 scale.1 in
      at_most_written (numerator energy) energy.den (numerator spent) spent.den other.0 scale.0 scale.1.positive
      (least scale.0 other.0 (slots_at scale.0 others) (feasible.holds scale.0 scale.1) other.1) other.2;
}

pub least_energies_are_a_lower_bound : LeastEnergiesAreALowerBound
least_energies_are_a_lower_bound jobs points groups energies bound apart may least over = least_from_scales jobs points bound (λ scale amount others feasible (spent, spends, is).
    let numbers = flat_map (λ (one : List ℕ). one) groups in
    let serves : Serves jobs scale numbers others = record {
      order = feasible.one_at_a_time;
      windows = feasible.in_windows;
      served = λ k d within. feasible.served _ (apart.known k d within);
    } in
    let leave : MayLeave points numbers others = elim may [
      | inl have ↦ inl (λ k d within. have _ (feasible.in_windows k d within).known)
      | inr cheapest ↦ inr cheapest
    ] in
    let together = groups_spend jobs points scale groups energies over.sum others spent apart.different over.each least over.is_sum serves leave spends in
    let most = bounded (numerator bound) bound.den (numerator over.sum) over.sum.den scale (point_at points 0).power (busy others) (idle jobs scale others) spent (horizon jobs)
    (horizons jobs groups) over.sum_has_parts (omega (arith, over.same)) (busy_and_idle jobs scale others feasible) together in
    omega (arith, most, ap (λ n. n * bound.den) is))
