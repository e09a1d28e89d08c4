-- Written schedules of groups, as the program answers them: their energies bound the least energy of all jobs from above.
use Rattle.yds_model.proofs.Common.{◌≡◌, ℕ, List, [], ◌∷◌, ◌++◌, map, refl, sym, ap, subst, All, AllZip, flat_map, All-nil, All-cons, All-head, All-tail, All-append, Job, jobs_with, WrittenSlot, IsScale, IsSolid, slots_at, IsFeasible, IsFeasibleAt, horizon, Point, IsEnergyOf}
use Rattle.model_lemmas.proofs.Scale.{scale_exists}
use Rattle.yds_laws.proofs.Bound.{scale_left, scale_right}
use Rattle.yds_cuts.specs.Energies.{IsEnergyOver}
use Rattle.yds_cuts.specs.Groups.{Group, numbers_of_groups, AreApartIn, HaveAll, horizons}
use Rattle.yds_cuts.specs.Bounds.{HasEnergyAt, WindowsInTurn, WrittenGroup, LeastEnergyIsAtMostWritten}
use Rattle.yds_cuts.proofs.Above.{windows_in_turn_run_in_turn, least_energy_is_at_most_shortened}

-- a group at a scale
abbrev at : ℕ → WrittenGroup → Group
at scale group = record { numbers = group.numbers; slots = slots_at scale group.slots }

abbrev all_written : List WrittenGroup → List WrittenSlot
all_written groups = flat_map (λ group. group.slots) groups

-- they are the same jobs
same_numbers : (scale : ℕ) (groups : List WrittenGroup) → map (λ group. group.numbers) (map (at scale) groups) ≡ map (λ group. group.numbers) groups
same_numbers scale [] = refl
same_numbers scale (group ∷ groups) = ap (λ (rest : List (List ℕ)). group.numbers ∷ rest) (same_numbers scale groups)

all_same : (scale : ℕ) (groups : List WrittenGroup) → numbers_of_groups (map (at scale) groups) ≡ flat_map (λ group. group.numbers) groups
all_same scale [] = refl
all_same scale (group ∷ groups) = ap (λ (rest : List ℕ). group.numbers ++ rest) (all_same scale groups)

module _ (jobs : List Job) (points : List Point) where
  abbrev IsWritten : WrittenGroup → Type 0
  IsWritten group = IsFeasible (jobs_with jobs group.numbers) group.slots × IsEnergyOf (jobs_with jobs group.numbers) points group.slots group.energy

  -- there is a scale of all slots
  all_solid : (groups : List WrittenGroup) → All IsWritten groups → All IsSolid (all_written groups)
  all_solid [] are = All-nil IsSolid
  all_solid (group ∷ groups) are =
      All-append IsSolid group.slots (all_written groups) (All-head IsWritten group groups are).0.solid (all_solid groups (All-tail IsWritten group groups are))

  -- at it each group is feasible, and has its energy
  feasible_at : (scale : ℕ) (groups : List WrittenGroup) → IsScale scale (all_written groups) → All IsWritten groups →
      All (λ group. IsFeasibleAt (jobs_with jobs group.numbers) scale group.slots) (map (at scale) groups)
  feasible_at scale [] is are = All-nil (λ (group : Group). IsFeasibleAt (jobs_with jobs group.numbers) scale group.slots)
  feasible_at scale (group ∷ groups) is are =
      All-cons (λ (group : Group). IsFeasibleAt (jobs_with jobs group.numbers) scale group.slots) (at scale group) (map (at scale) groups)
      ((All-head IsWritten group groups are).0.holds scale (scale_left scale group.slots (all_written groups) is))
      (feasible_at scale groups (scale_right scale group.slots (all_written groups) is) (All-tail IsWritten group groups are))

  energies_at : (scale : ℕ) (groups : List WrittenGroup) → IsScale scale (all_written groups) → All IsWritten groups →
      AllZip (λ group energy. HasEnergyAt (jobs_with jobs group.numbers) points scale group.slots energy) (map (at scale) groups) (map (λ group. group.energy) groups)
  energies_at scale [] is are = tt
  energies_at scale (group ∷ groups) is are = (
    (All-head IsWritten group groups are).1.at_scales.holds scale (scale_left scale group.slots (all_written groups) is),
    energies_at scale groups (scale_right scale group.slots (all_written groups) is) (All-tail IsWritten group groups are),
  )

-- the law
pub least_energy_is_at_most_written : LeastEnergyIsAtMostWritten
least_energy_is_at_most_written jobs short points groups least bound are over is =
    let some = scale_exists (all_written groups) (all_solid short points groups are.written) in
    let scale : ℕ = some.0 in
    let whole : List Group = map (at scale) groups in
    let feasible = feasible_at short points scale groups some.1 are.written in
    let same = same_numbers scale groups in
    let all = all_same scale groups in
    least_energy_is_at_most_shortened jobs short points scale whole (map (λ group. group.energy) groups) least bound some.1.positive
    (record {
      shortened = are.shortened;
      apart = subst (AreApartIn jobs) (sym all) are.apart;
      all = subst (HaveAll jobs) (sym all) are.all;
      feasible = feasible;
      in_turn = windows_in_turn_run_in_turn short scale whole (subst (WindowsInTurn 0 short) (sym same) are.in_turn) feasible;
    })
    (energies_at short points scale groups some.1 are.written)
    (subst (λ numbers. IsEnergyOver (horizon jobs) (horizons short numbers) points (map (λ group. group.energy) groups) bound) (sym same) over) is
