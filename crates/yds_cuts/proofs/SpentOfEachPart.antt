-- What all slots spend, as fractions in lowest terms, from what each part's do.
use Rattle.yds_model.proofs.Common.{◌≡◌, ℕ, ◌*◌, ◌<◌, ◌≤◌, List, [], ◌∷◌, length, get_or, map, sym, ap, subst, ◌∙◌, arith, All, AllZip, sum-map, All-head, All-tail, get_or-map, length-map, ext_get_or, mul-pos, Fraction, numerator, of_whole, IsScale, slots_at, horizon, Point, point_at, no_point, hull_multiple, in_lowest_terms, IsLowest, all_time_at, all_energy, in_parts, Spent, IsSpent, IsSpentAt}
use Rattle.fraction_lemmas.proofs.LowestTerms.{lowest_is, lowest_same, lowest_value}
use Rattle.yds_energy.proofs.Compared.{hull_some_multiple}
use Rattle.yds_cuts.specs.Cuts.{Part, all_jobs, all_slots, part_horizons}
use Rattle.yds_cuts.specs.ClosedCuts.{at_first, time_at_place, SpentOfEachPart}
use Rattle.yds_cuts.proofs.InTurn.{scale_of_each}
use Rattle.yds_cuts.proofs.Priced.{with_at_scale}
use Rattle.yds_cuts.proofs.SpentParts.{all_scheduled, times_of_each_part, stretch_energy_of_each_part}

-- a fraction in lowest terms that is so much at a scale is that number of its parts
lowest_at : (cost scale : ℕ) (whole : Fraction) → 1 ≤ scale → 1 ≤ whole.den → IsLowest whole → cost * whole.den ≡ numerator whole * scale →
    whole ≡ in_lowest_terms cost scale
lowest_at cost scale whole some has_parts lowest is =
    sym (lowest_same cost scale (numerator whole) whole.den some has_parts is ∙ lowest_is whole lowest)

module _ (points : List Point) (scale : ℕ) (some : 1 ≤ scale * hull_multiple points) where
  abbrev unit : ℕ
  unit = scale * hull_multiple points

  abbrev IsSpentPart : Part → Spent → Type 0
  IsSpentPart part spent = IsSpentAt part.jobs points spent scale (slots_at scale part.slots)

  -- what a part's number of units is as a fraction
  value : (parts : ℕ) (told : Fraction) → told ≡ in_parts points scale parts → parts * told.den ≡ numerator told * unit
  value parts told is = subst (λ (x : Fraction). parts * x.den ≡ numerator x * unit) (sym is) (sym (lowest_value parts unit some).same)

  abbrev energy_of : Part → ℕ
  energy_of part = all_energy part.jobs points scale (slots_at scale part.slots)

  energies : (parts : List Part) (spents : List Spent) → AllZip IsSpentPart parts spents →
      AllZip (λ energy cost. cost * energy.den ≡ numerator energy * unit) (map (λ spent. spent.energy) spents) (map energy_of parts)
  energies [] [] are = tt
  energies [] (spent ∷ spents) are = absurd are
  energies (part ∷ parts) [] are = absurd are
  energies (part ∷ parts) (spent ∷ spents) are = (value (energy_of part) spent.energy are.0.energy, energies parts spents are.1)

  abbrev time_of : ℕ → Part → ℕ
  time_of i part = all_time_at part.jobs points scale (slots_at scale part.slots) (point_at points i).speed

  -- the time at a place is that of the point there
  told_time : (i : ℕ) (part : Part) (spent : Spent) → i < length points → IsSpentPart part spent → time_at_place i spent ≡ in_parts points scale (time_of i part)
  told_time i part spent within is =
      ap (λ (times : List Fraction). get_or times i (of_whole 0)) is.times
      ∙ get_or-map (λ point. in_parts points scale (all_time_at part.jobs points scale (slots_at scale part.slots) point.speed)) points i no_point (of_whole 0) within

  times : (i : ℕ) (parts : List Part) (spents : List Spent) → i < length points → AllZip IsSpentPart parts spents →
      AllZip (λ time cost. cost * time.den ≡ numerator time * unit) (map (time_at_place i) spents) (map (time_of i) parts)
  times i [] [] within are = tt
  times i [] (spent ∷ spents) within are = absurd are
  times i (part ∷ parts) [] within are = absurd are
  times i (part ∷ parts) (spent ∷ spents) within are =
      (value (time_of i part) (time_at_place i spent) (told_time i part spent within are.0), times i parts spents within are.1)

-- at a scale of all slots each part spends what it does
spent_at : (points : List Point) (scale : ℕ) (parts : List Part) (spents : List Spent) → All (λ part. IsScale scale part.slots) parts →
    AllZip (λ part spent. IsSpent part.jobs points part.slots spent) parts spents →
    AllZip (λ part spent. IsSpentAt part.jobs points spent scale (slots_at scale part.slots)) parts spents
spent_at points scale [] [] scales are = tt
spent_at points scale [] (spent ∷ spents) scales are = absurd are
spent_at points scale (part ∷ parts) [] scales are = absurd are
spent_at points scale (part ∷ parts) (spent ∷ spents) scales are = (
  are.0.holds scale (All-head (λ part. IsScale scale part.slots) part parts scales),
  spent_at points scale parts spents (All-tail (λ part. IsScale scale part.slots) part parts scales) are.1,
)

pub spent_of_each_part : SpentOfEachPart
spent_of_each_part points parts spents all table parted scheduled are over = record {
  solid = (all_scheduled 0 parts parted scheduled).solid;
  holds = λ scale is.
      let multiple = hull_multiple points in
      let power = (point_at points 0).power in
      let unit : ℕ = scale * multiple in
      let some : 1 ≤ unit = mul-pos is.positive (hull_some_multiple points table) in
      let jobs = all_jobs parts in
      let slots = slots_at scale (all_slots parts) in
      let each = spent_at points scale parts spents (scale_of_each scale parts is) are in
      let energy = with_at_scale unit (power * horizon jobs) (power * part_horizons parts) (map (λ spent. spent.energy) spents) (map (energy_of points scale some) parts)
      all.energy (all_energy jobs points scale slots) over.energy (energies points scale some parts spents each)
      (omega (arith, stretch_energy_of_each_part points parts scale table parted scheduled is, sum-map (energy_of points scale some) parts)) in
      let time = λ (i : ℕ) (within : i < length points).
      with_at_scale unit (at_first points (point_at points i).speed (horizon jobs)) (at_first points (point_at points i).speed (part_horizons parts)) (map (time_at_place i) spents)
      (map (time_of points scale some i) parts) (time_at_place i all) (all_time_at jobs points scale slots (point_at points i).speed) (over.times i within)
      (times points scale some i parts spents within each)
      (omega (arith, times_of_each_part points parts scale (point_at points i).speed table parted scheduled is, sum-map (time_of points scale some i) parts)) in
      let told = λ (point : Point). in_parts points scale (all_time_at jobs points scale slots point.speed) in
      record {
        energy = lowest_at (all_energy jobs points scale slots) unit all.energy some over.energy.has_parts over.energy_lowest energy;
        times = ext_get_or (of_whole 0) all.times (map told points) (over.many ∙ sym (length-map points told)) (λ i within.
            let inside : i < length points = omega (arith, within, over.many) in
            lowest_at (all_time_at jobs points scale slots (point_at points i).speed) unit (time_at_place i all) some (over.times i inside).has_parts
            (over.times_lowest i (of_whole 0) within) (time i inside)
            ∙ sym (get_or-map told points i no_point (of_whole 0) inside));
      };
}
