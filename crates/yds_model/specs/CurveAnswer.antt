-- The answer of `curve`: a line for each speed at which the least excess of the jobs bends.
use Rattle.std.specs.Prelude.{◌≡◌, ℕ, List, [], ◌∷◌, codes}
use Rattle.std.specs.List.{flat_map}
use Rattle.base.specs.declared.status.Status.{Status}
use Rattle.base.specs.declared.status.Status.TheVariants as statuses
use Rattle.yds_model.specs.Slot.{WrittenSlot}
use Rattle.yds_model.specs.Level.{Level}
use Rattle.yds_model.specs.Plan.{IsPlan}
use Rattle.yds_model.specs.Document.{Document}
use Rattle.base.specs.Lines.{line}
use Rattle.yds_model.specs.Text.{fraction_text}
use Rattle.yds_model.specs.Curve.{Break, breaks_of}

abbrev pub break_line : Break → List ℕ
break_line bend = line (codes "break" ∷ fraction_text bend.speed ∷ fraction_text bend.excess ∷ [])

abbrev pub curve_text : List Level → List ℕ
curve_text levels = flat_map break_line (breaks_of levels)

pub record CurveAnswer (document : Document) (text : List ℕ) (status : Status) : Type 0 where
  pub slots : List WrittenSlot
  pub levels : List Level
  pub plan : IsPlan document.jobs slots levels
  pub said : text ≡ curve_text levels
  pub ended : status ≡ statuses.Done
