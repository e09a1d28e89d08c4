-- When a table is refused, and when one more point is.
use Rattle.std.specs.Prelude.{◌≡◌, ◌<◌, ◌≤◌, List, [], ◌∷◌, ◌++◌}
use Rattle.base.specs.declared.limits.TheConstants.{MAX_GAPS}
use Rattle.yds_model.specs.Table.{Point, hull_multiple}
use Rattle.yds_table.specs.declared.fault.TableFault.{TableFault}
use Rattle.yds_table.specs.declared.fault.TableFault.TheVariants.{NoIdle, NotRising, GapsTooFine, Memory}
use Rattle.yds_table.specs.Table.{last_of}

-- the cause of each refusal of a first point; want of memory comes only where none holds
abbrev pub IsCauseAtFirst : Point → TableFault → Type 0
IsCauseAtFirst first NoIdle = 1 ≤ first.speed
IsCauseAtFirst first NotRising = ⊥
IsCauseAtFirst first GapsTooFine = ⊥
IsCauseAtFirst first Memory = first.speed ≡ 0

-- the point isn't faster than the last one
abbrev pub IsNotRising : List Point → Point → Type 0
IsNotRising points point = point.speed ≤ (last_of points).speed

-- the cause of each refusal of a further point, of which the first is tried before any memory is taken
abbrev pub IsCause : List Point → Point → TableFault → Type 0
IsCause points point NoIdle = ⊥
IsCause points point NotRising = IsNotRising points point
IsCause points point GapsTooFine = ((last_of points).speed < point.speed) × (MAX_GAPS < hull_multiple (points ++ point ∷ []))
IsCause points point Memory = (last_of points).speed < point.speed
