-- Slots that spend at a table's points run at the points' speeds, as they are written, and nowhere faster than the top.
use Rattle.yds_model.proofs.Common.{◌≡◌, ℕ, ◌-◌, ◌≤◌, List, [], ◌∷◌, ◌++◌, length, ap, arith, inl, inr, Some, All, Any, Contains, mul-le-mul_right, cases_lt, All-nil, All-cons, All-head, All-tail, All-append, All-weaker, Job, Fraction, WrittenSlot, WholeSlot, IsDivided, IsSolid, slot_at_scale, slots_at, Point, point_at, AreRising, hull_of, IsAtPoint, SpendsAtPoints, IsOnTable, top_of, IsEnergyOf, IsWithinTop}
use Rattle.model_lemmas.proofs.Scale.{scale_exists, one_scale_decides}
use Rattle.yds_energy.specs.RoundingLaws.{RoundedIsFeasible}
use Rattle.yds_laws.proofs.Bound.{scale_right}
use Rattle.yds_energy.proofs.OneEnergy.{places_rise, read_point}
use Rattle.yds_laws.proofs.Judgements.{speed_of_values}
use Rattle.yds_energy.proofs.RoundedFeasible.{written_feasible}

-- slots that spend at points run at their speeds
pub spends_at : (points : List Point) (slots : List WholeSlot) (spent : ℕ) → SpendsAtPoints points slots spent → All (λ slot. Any (IsAtPoint slot) points) slots
spends_at points [] spent spends = All-nil (λ slot. Any (IsAtPoint slot) points)
spends_at points (slot ∷ slots) spent (point, rest, has, at, later, sum) =
    All-cons (λ slot. Any (IsAtPoint slot) points) slot slots (has.0, point, has.1, has.2, at) (spends_at points slots rest later)

-- no point is faster than the top
pub below_top : (points : List Point) (point : Point) → AreRising points → Contains points point → point.speed ≤ top_of points
below_top points point rising has =
    let place = has.0 in
    let is = ap (λ (x : Point). x.speed) (read_point points point has) in
    elim (cases_lt place (length points - 1)) [
      | inl before ↦ omega (arith, is, places_rise points place (length points - 1) rising before (omega (arith, before)))
      | inr last ↦
          let end : place ≡ length points - 1 = omega (arith, last, has.1) in
          omega (arith, is, ap (λ n. (point_at points n).speed) end)
    ]

-- so a slot at a point's speed is within the top
at_point_within : (points : List Point) (slot : WholeSlot) → AreRising points → Any (IsAtPoint slot) points → IsWithinTop (top_of points) slot
at_point_within points slot rising (place, point, within, is, at) =
    omega (arith, at, mul-le-mul_right (slot.to - slot.from) (below_top points point rising (place, within, is)))

-- a slot at a point's speed at a scale is so as it is written
point_written : (points : List Point) (scale : ℕ) (slot : WrittenSlot) → 1 ≤ scale → IsDivided scale slot →
    Any (IsAtPoint (slot_at_scale scale slot)) points → IsOnTable (Some points) slot
point_written points scale slot positive divided (place, point, within, is, at) =
    (place, point, within, is, omega (arith, (speed_of_values point.speed 1 scale slot positive divided).1 (omega (arith, at))))

-- and so are all
written_on_points : (points : List Point) (scale : ℕ) (slots : List WrittenSlot) → 1 ≤ scale → All (IsDivided scale) slots →
    All (λ slot. Any (IsAtPoint slot) points) (slots_at scale slots) → All (IsOnTable (Some points)) slots
written_on_points points scale [] positive divided at = All-nil (IsOnTable (Some points))
written_on_points points scale (slot ∷ slots) positive divided at =
    All-cons (IsOnTable (Some points)) slot slots
    (point_written points scale slot positive (All-head (IsDivided scale) slot slots divided)
    (All-head (λ one. Any (IsAtPoint one) points) (slot_at_scale scale slot) (slots_at scale slots) at))
    (written_on_points points scale slots positive (All-tail (IsDivided scale) slot slots divided)
    (All-tail (λ one. Any (IsAtPoint one) points) (slot_at_scale scale slot) (slots_at scale slots) at))

-- so slots that have an energy on points run at their speeds
pub energy_on_points : (jobs : List Job) (points : List Point) (slots : List WrittenSlot) (energy : Fraction) → IsEnergyOf jobs points slots energy →
    All (IsOnTable (Some points)) slots
energy_on_points jobs points slots energy is =
    let scale = scale_exists slots is.at_scales.solid in
    let at = is.at_scales.holds scale.0 scale.1 in
    written_on_points points scale.0 slots scale.1.positive scale.1.divided (spends_at points (slots_at scale.0 slots) at.1.0 at.1.1)

-- the law: rounded slots are a feasible schedule on the points
pub rounded_is_feasible : RoundedIsFeasible
rounded_is_feasible jobs points planned levels written energy plan table rounding =
    let solid = rounding.energy_of.at_scales.solid in
    let scale = scale_exists (planned ++ written) (All-append IsSolid planned written plan.proper.feasible.solid solid) in
    record {
      feasible = one_scale_decides jobs written scale.0 (scale_right scale.0 planned written scale.1)
          (written_feasible jobs (hull_of points) levels planned written scale.0 plan rounding.rounds scale.1);
      on_points = energy_on_points jobs points written energy rounding.energy_of;
      within_top = record {
        solid = solid;
        holds = λ scale is.
            let at = rounding.energy_of.at_scales.holds scale is in
            All-weaker (λ slot. Any (IsAtPoint slot) points) (IsWithinTop (top_of points)) (λ slot. at_point_within points slot table.rising)
            (slots_at scale written) (spends_at points (slots_at scale written) at.1.0 at.1.1);
      };
    }
