-- Energies of parts add, with idle time over the horizon of all jobs, whatever windows are open at the cuts.
use Rattle.yds_model.proofs.Common.{◌≡◌, ℕ, ◌+◌, ◌-◌, ◌*◌, List, [], ◌∷◌, length, map, refl, sym, ap, subst, ◌∙◌, arith, ℤ, pos, ◌+ℤ◌, ints, All, AllZip, sum, sum_by-cons, sum_by-append, All-head, All-tail, Fraction, numerator, WholeSlot, IsScale, slots_at, IsFeasible, IsFeasibleAt, Point, point_at, gaps_of, busy, idle, horizon, product, total, interpolated_energy, SpendsAtPoints, IsEnergyOnPoints, IsEnergyOf}
use Rattle.model_lemmas.proofs.Horizon.{busy_and_idle}
use Rattle.yds_energy.proofs.Differences.{total-cons}
use Rattle.yds_energy.proofs.HullCosts.{power_of}
use Rattle.yds_energy.proofs.RoundedEnergy.{total_joined, spends_joined}
use Rattle.yds_parts.specs.Parts.{moved}
use Rattle.yds_parts.proofs.PlansOfParts.{feasible_are_of}
use Rattle.yds_parts.proofs.WrittenParts.{together_is}
use Rattle.yds_cuts.specs.Cuts.{Part, HasOwnSlots, all_jobs, all_slots, part_horizons, FollowInTurn}
use Rattle.yds_cuts.specs.CutLaws.{EnergyInEachPart, EnergyOnPointsInEachPart}
use Rattle.yds_cuts.proofs.InTurn.{scale_of_each}
use Rattle.yds_cuts.proofs.Renamed.{busy_renamed, spends_renamed, powers_renamed}
use Rattle.yds_cuts.proofs.ServedParts.{feasible_in_each_part}
use Rattle.yds_cuts.proofs.Priced.{priced, spends_more, over_at_scale}

-- feasible parts have their own slots
pub own_slots : (parts : List Part) → All (λ part. IsFeasible part.jobs part.slots) parts → All HasOwnSlots parts
own_slots parts feasible k d within = feasible_are_of _ _ (feasible k d within)

pub together_feasible : (parts : List Part) → FollowInTurn parts → All (λ part. IsFeasible part.jobs part.slots) parts → IsFeasible (all_jobs parts) (all_slots parts)
together_feasible parts follow feasible = (feasible_in_each_part parts (own_slots parts feasible)).1 (follow, feasible)

-- # At a scale

module _ (points : List Point) (scale : ℕ) where
  abbrev all : ℕ
  all = product (gaps_of points)

  abbrev power : ℕ
  power = (point_at points 0).power

  abbrev whole : List Part → List WholeSlot
  whole parts = slots_at scale (all_slots parts)

  abbrev IsFeasiblePart : Part → Type 0
  IsFeasiblePart part = IsFeasibleAt part.jobs scale (slots_at scale part.slots)

  abbrev energy_of : Part → ℤ
  energy_of part = interpolated_energy part.jobs points scale (slots_at scale part.slots)

  -- the place of a job of a later part
  abbrev later_place : Part → ℕ → ℕ
  later_place part place = length part.jobs + place

  whole_busy : (part : Part) (parts : List Part) → busy (whole (part ∷ parts)) ≡ busy (slots_at scale part.slots) + busy (whole parts)
  whole_busy part parts =
      ap busy (together_is scale part.jobs part.slots (all_slots parts))
      ∙ sum_by-append (λ (slot : WholeSlot). slot.to - slot.from) (slots_at scale part.slots) (map (moved (length part.jobs)) (whole parts))
      ∙ ap (λ n. busy (slots_at scale part.slots) + n) (busy_renamed (later_place part) (whole parts))

  parts_cost : (parts : List Part) → All IsFeasiblePart parts →
      (total (map energy_of parts) +ℤ pos (all * (power * busy (whole parts))))
      ≡ (total (map (power_of points) (whole parts)) +ℤ pos (all * (power * (scale * part_horizons parts))))
  parts_cost [] feasible = omega (arith, ints)
  parts_cost (part ∷ parts) feasible =
      let mine = slots_at scale part.slots in
      let later = map (moved (length part.jobs)) (whole parts) in
      rw (total-cons (energy_of part) (map energy_of parts), sum_by-cons (λ (part : Part). horizon part.jobs) part parts)
      (priced all power scale (busy mine) (idle part.jobs scale mine) (horizon part.jobs) (part_horizons parts) (busy (whole parts)) (busy (whole (part ∷ parts)))
      (energy_of part) (total (map (power_of points) mine)) (total (map energy_of parts)) (total (map (power_of points) (whole parts)))
      (total (map (power_of points) (whole (part ∷ parts)))) refl (busy_and_idle part.jobs scale mine (All-head IsFeasiblePart part parts feasible))
      (parts_cost parts (All-tail IsFeasiblePart part parts feasible)) (whole_busy part parts)
      (ap (λ (slots : List WholeSlot). total (map (power_of points) slots)) (together_is scale part.jobs part.slots (all_slots parts))
      ∙ total_joined (power_of points) mine later
      ∙ ap (λ (powers : List ℤ). total (map (power_of points) mine) +ℤ total powers) (powers_renamed (later_place part) points (whole parts))))

  abbrev HasEnergy : Part → ℕ → Type 0
  HasEnergy part energy = IsEnergyOnPoints part.jobs points scale (slots_at scale part.slots) energy

  -- what they spend together
  pub record SpendTogether (parts : List Part) (energies : List ℕ) : Type 0 where
    pub amount : ℕ
    pub spends : SpendsAtPoints points (whole parts) amount
    pub is : sum energies + power * busy (whole parts) ≡ amount + power * (scale * part_horizons parts)

  parts_spend : (parts : List Part) (energies : List ℕ) → All IsFeasiblePart parts → AllZip HasEnergy parts energies → SpendTogether parts energies
  parts_spend [] [] feasible have = record { amount = 0; spends = refl; is = omega arith }
  parts_spend [] (energy ∷ energies) feasible have = absurd have
  parts_spend (part ∷ parts) [] feasible have = absurd have
  parts_spend (part ∷ parts) (energy ∷ energies) feasible ((amount, spends, is), have) =
      let mine = slots_at scale part.slots in
      let later = map (moved (length part.jobs)) (whole parts) in
      let others = parts_spend parts energies (All-tail IsFeasiblePart part parts feasible) have in
      record {
        amount = amount + others.amount;
        spends = subst (λ (slots : List WholeSlot). SpendsAtPoints points slots (amount + others.amount)) (sym (together_is scale part.jobs part.slots (all_slots parts)))
            (spends_joined points mine later amount others.amount spends (spends_renamed (later_place part) points (whole parts) others.amount others.spends));
        is = rw (sum_by-cons (λ (part : Part). horizon part.jobs) part parts)
            (spends_more power scale (busy mine) (idle part.jobs scale mine) (horizon part.jobs) (part_horizons parts) (busy (whole parts)) (busy (whole (part ∷ parts)))
            amount others.amount (sum energies) (sum (energy ∷ energies)) (busy_and_idle part.jobs scale mine (All-head IsFeasiblePart part parts feasible))
            (whole_busy part parts) others.is (omega (arith, sum_by-cons (λ n. n) energy energies, is)));
      }

-- # The laws

-- feasible parts are so at a scale of all
pub feasible_parts_at : (scale : ℕ) (parts : List Part) → IsScale scale (all_slots parts) → All (λ part. IsFeasible part.jobs part.slots) parts →
    All (λ part. IsFeasibleAt part.jobs scale (slots_at scale part.slots)) parts
feasible_parts_at scale parts is feasible k d within = (feasible k d within).holds scale (scale_of_each scale parts is k d within)

pub energy_in_each_part : EnergyInEachPart
energy_in_each_part points parts scale follow feasible is = omega (
  arith,
  ints,
  parts_cost points scale parts (feasible_parts_at scale parts is feasible),
  ap (λ n. product (gaps_of points) * ((point_at points 0).power * n))
      (busy_and_idle (all_jobs parts) scale (slots_at scale (all_slots parts)) ((together_feasible parts follow feasible).holds scale is)),
)

-- the parts' energies at a scale
record EnergiesAt (points : List Point) (scale : ℕ) (parts : List Part) (energies : List Fraction) : Type 0 where
  costs : List ℕ
  have : AllZip (HasEnergy points scale) parts costs
  are : AllZip (λ energy cost. cost * energy.den ≡ numerator energy * scale) energies costs

energies_at : (points : List Point) (scale : ℕ) (parts : List Part) (energies : List Fraction) → All (λ part. IsScale scale part.slots) parts →
    AllZip (λ part energy. IsEnergyOf part.jobs points part.slots energy) parts energies → EnergiesAt points scale parts energies
energies_at points scale [] [] scales have = record { costs = []; have = tt; are = tt }
energies_at points scale [] (energy ∷ energies) scales have = absurd have
energies_at points scale (part ∷ parts) [] scales have = absurd have
energies_at points scale (part ∷ parts) (energy ∷ energies) scales have =
    let rest = energies_at points scale parts energies (All-tail (λ part. IsScale scale part.slots) part parts scales) have.1 in
    let (cost, spends, is) = have.0.at_scales.holds scale (All-head (λ part. IsScale scale part.slots) part parts scales) in
    record { costs = cost ∷ rest.costs; have = (spends, rest.have); are = (is, rest.are) }

pub energy_on_points_in_each_part : EnergyOnPointsInEachPart
energy_on_points_in_each_part points parts energies energy follow feasible have over = record {
  has_parts = over.has_parts;
  at_scales = record {
    solid = (together_feasible parts follow feasible).solid;
    holds = λ scale is.
        let power = (point_at points 0).power in
        let at = energies_at points scale parts energies (scale_of_each scale parts is) have in
        let together = parts_spend points scale parts at.costs (feasible_parts_at scale parts is feasible) at.have in
        let slots = slots_at scale (all_slots parts) in
        let cost : ℕ = together.amount + power * idle (all_jobs parts) scale slots in (
          cost,
          (together.amount, together.spends, refl),
          over_at_scale scale (horizon (all_jobs parts)) (part_horizons parts) points energies at.costs energy cost over at.are
              (omega (arith, together.is, ap (λ n. power * n) (busy_and_idle (all_jobs parts) scale slots ((together_feasible parts follow feasible).holds scale is)))),
        );
  };
}
