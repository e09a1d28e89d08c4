-- The side of a policy.
use Rattle.std.specs.Prelude.{ℕ, List}
use Rattle.yds_model.specs.Job.{Job}
use Rattle.yds_model.specs.Slot.{WrittenSlot}
use Rattle.yds_model.specs.Table.{Point}
use Rattle.yds_model.specs.Comparison.{Side as ModelSide, Spends, TooSlowFor, IsSide}
use Rattle.yds_compare.specs.declared.side.Side.{Side}
use Rattle.yds_compare.specs.declared.side.Side.TheVariants as sides

abbrev pub side_view : Side → ModelSide
side_view (sides.Spent spent) = Spends spent
side_view (sides.TooSlow units from to) = TooSlowFor units from to

-- it is that of a run of the policy
abbrev pub IsSideOfRun : (List WrittenSlot → Type 0) → List Job → List Point → ℕ → Side → Type 0
IsSideOfRun IsRun jobs points grid side = (slots : List WrittenSlot) × IsRun slots × IsSide jobs points grid slots (side_view side)
