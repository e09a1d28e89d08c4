-- What is asked of slots is asked of each part's, wherever the cuts are. Each law is the contract of a public function of this crate.
use Rattle.std.specs.Prelude.{◌≡◌, ℕ, ◌*◌, ◌↔◌, List, Option, map, pos, ◌+ℤ◌}
use Rattle.std.specs.List.{All, AllZip}
use Rattle.yds_model.specs.Feasible.{IsFeasible}
use Rattle.yds_model.specs.Scale.{Fraction}
use Rattle.yds_model.specs.Slot.{IsScale, slots_at}
use Rattle.yds_model.specs.Table.{Point, gaps_of}
use Rattle.yds_model.specs.Energy.{horizon, product, total, interpolated_energy}
use Rattle.yds_model.specs.Rounding.{IsEnergyOf}
use Rattle.yds_model.specs.Audit.{IsOnTable}
use Rattle.yds_cuts.specs.Cuts.{Part, HasOwnSlots, all_jobs, all_slots, part_horizons, FollowInTurn, RunOneAtATime}
use Rattle.yds_cuts.specs.Energies.{IsEnergyOver}
use Rattle.yds_cuts.specs.Groups.{cost_of_idle}

-- All slots run one at a time exactly where each part's do and the parts follow one another.
abbrev pub OneAtATimeInEachPart : Type 0
OneAtATimeInEachPart = (parts : List Part) →
    (RunOneAtATime (all_slots parts) ↔ (FollowInTurn parts × All (λ part. RunOneAtATime part.slots) parts))

-- All slots are feasible for all jobs exactly where each part's are for its jobs and the parts follow one another.
abbrev pub FeasibleInEachPart : Type 0
FeasibleInEachPart = (parts : List Part) → All HasOwnSlots parts →
    (IsFeasible (all_jobs parts) (all_slots parts) ↔ (FollowInTurn parts × All (λ part. IsFeasible part.jobs part.slots) parts))

-- All slots run at speeds of the table exactly where each part's do.
abbrev pub OnTableInEachPart : Type 0
OnTableInEachPart = (table : Option (List Point)) (parts : List Part) →
    (All (IsOnTable table) (all_slots parts) ↔ All (λ part. All (IsOnTable table) part.slots) parts)

-- The interpolated energies of feasible parts add, with idle time over the horizon of all jobs in place of theirs.
abbrev pub EnergyInEachPart : Type 0
EnergyInEachPart = (points : List Point) (parts : List Part) (scale : ℕ) → FollowInTurn parts → All (λ part. IsFeasible part.jobs part.slots) parts →
    IsScale scale (all_slots parts) →
    interpolated_energy (all_jobs parts) points scale (slots_at scale (all_slots parts))
    +ℤ pos (product (gaps_of points) * cost_of_idle points scale (part_horizons parts))
    ≡ total (map (λ part. interpolated_energy part.jobs points scale (slots_at scale part.slots)) parts)
    +ℤ pos (product (gaps_of points) * cost_of_idle points scale (horizon (all_jobs parts)))

-- So do their energies on the points.
abbrev pub EnergyOnPointsInEachPart : Type 0
EnergyOnPointsInEachPart = (points : List Point) (parts : List Part) (energies : List Fraction) (energy : Fraction) → FollowInTurn parts →
    All (λ part. IsFeasible part.jobs part.slots) parts → AllZip (λ part energy. IsEnergyOf part.jobs points part.slots energy) parts energies →
    IsEnergyOver (horizon (all_jobs parts)) (part_horizons parts) points energies energy → IsEnergyOf (all_jobs parts) points (all_slots parts) energy
