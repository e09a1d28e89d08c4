-- When a plan isn't rounded.
use Rattle.std.specs.Prelude.{◌≡◌, List, [], ◌∷◌}
use Rattle.yds_model.specs.Table.{Point}
use Rattle.yds_model.specs.Level.{Level, level_at}
use Rattle.yds_model.specs.Rounding.{top_of, IsTooFast}
use Rattle.yds_round.specs.declared.fault.RoundFault.{RoundFault}
use Rattle.yds_round.specs.declared.fault.RoundFault.TheVariants as faults

-- there is a first level, and it is faster than the top point
abbrev pub HasFastLevel : List Level → List Point → Type 0
HasFastLevel [] points = ⊥
HasFastLevel (first ∷ levels) points = IsTooFast points first

-- what is told of it
abbrev pub too_slow : List Level → List Point → RoundFault
too_slow levels points = faults.TooSlow (level_at levels 0).work (level_at levels 0).length (top_of points)

-- the cause of each refusal; want of memory comes only where there is no other
abbrev pub IsCauseOfRoundFault : List Level → List Point → RoundFault → Type 0
IsCauseOfRoundFault levels points (faults.TooSlow work length top) = HasFastLevel levels points × (faults.TooSlow work length top ≡ too_slow levels points)
IsCauseOfRoundFault levels points faults.Memory = ¬ (HasFastLevel levels points)
