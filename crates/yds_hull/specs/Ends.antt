-- The end of a hull that grows by one point at a time.
use Rattle.std.specs.Prelude.{◌-◌, ◌≤◌, List, [], ◌∷◌, ◌++◌, length}
use Rattle.yds_model.specs.Table.{Point, point_at, AreRising, IsAbove, IsPartOf}

-- the last point lies above the line from the one before it to the next one
pub record EndsAbove (hull : List Point) (next : Point) : Type 0 where
  pub two : 2 ≤ length hull
  pub above : IsAbove (point_at hull (length hull - 2)) next (point_at hull (length hull - 1))

-- of whatever points the hull and the next point were a part, what is left of the hull and the next point are too
abbrev pub StaysPart : List Point → List Point → Point → Type 0
StaysPart hull left next = (points : List Point) → AreRising points → IsPartOf points (hull ++ next ∷ []) → IsPartOf points (left ++ next ∷ [])
