-- The canonical text of a document: each line's fields with one space between them, and a line feed at its end.
use Rattle.std.specs.Prelude.{ℕ, List, [], ◌∷◌, ◌++◌, codes, decimal, Option, Some, None, ◌==◌, if◌then◌else◌}
use Rattle.std.specs.List.{flat_map, zip}
use Rattle.base.specs.Lines.{line}
use Rattle.yds_model.specs.Job.{Job}
use Rattle.yds_model.specs.Scale.{Fraction}
use Rattle.yds_model.specs.Slot.{WrittenSlot}
use Rattle.yds_model.specs.Piece.{Piece}
use Rattle.yds_model.specs.Level.{Level}
use Rattle.yds_model.specs.Table.{Point}
use Rattle.yds_model.specs.Document.{Document, Grid, name_at}

-- a fraction, not reduced: `W`, or `W+N/D` where the numerator isn't 0
abbrev pub fraction_text : Fraction → List ℕ
fraction_text x = if x.num == 0 then decimal x.whole else decimal x.whole ++ codes "+" ++ decimal x.num ++ codes "/" ++ decimal x.den

abbrev pub job_line : List ℕ → Job → List ℕ
job_line name job = line (codes "job" ∷ name ∷ decimal job.release ∷ decimal job.deadline ∷ decimal job.work ∷ [])

abbrev pub job_lines : List (List ℕ) → List Job → List ℕ
job_lines names jobs = flat_map (λ named. job_line named.0 named.1) (zip names jobs)

abbrev pub point_line : Point → List ℕ
point_line point = line (codes "point" ∷ decimal point.speed ∷ decimal point.power ∷ [])

abbrev pub slot_line : List (List ℕ) → WrittenSlot → List ℕ
slot_line names slot = line (codes "slot" ∷ name_at names slot.job ∷ fraction_text slot.from ∷ fraction_text slot.to ∷ fraction_text slot.work ∷ [])

abbrev pub piece_line : Piece → List ℕ
piece_line piece = line (codes "piece" ∷ decimal piece.from ∷ decimal piece.to ∷ [])

abbrev pub member_line : List (List ℕ) → ℕ → List ℕ
member_line names job = line (codes "member" ∷ name_at names job ∷ [])

-- a level, its pieces and its members
abbrev pub level_lines : List (List ℕ) → Level → List ℕ
level_lines names level =
    line (codes "level" ∷ decimal level.work ∷ decimal level.length ∷ []) ++ flat_map piece_line level.pieces ++ flat_map (member_line names) level.members

abbrev pub grid_lines : Option Grid → List ℕ
grid_lines None = []
grid_lines (Some grid) = line (codes "grid" ∷ decimal grid.grid ∷ decimal grid.rounded ∷ [])

abbrev pub energy_lines : Option Fraction → List ℕ
energy_lines None = []
energy_lines (Some energy) = line (codes "energy" ∷ fraction_text energy ∷ [])

abbrev pub canonical_text : Document → List ℕ
canonical_text document =
    job_lines document.names document.jobs
    ++ flat_map point_line document.points
    ++ flat_map (slot_line document.names) document.slots
    ++ flat_map (level_lines document.names) document.levels
    ++ grid_lines document.grid
    ++ energy_lines document.energy
