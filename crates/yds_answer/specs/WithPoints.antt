-- The text and the status of the answer to a question that needs operating points.
use Rattle.std.specs.Prelude.{ℕ, List}
use Rattle.base.specs.declared.status.Status.{Status}
use Rattle.base.specs.declared.status.Status.TheVariants as statuses
use Rattle.yds_model.specs.Answer.{no_table_line}
use Rattle.yds_answer.specs.declared.with_points.WithPoints.{WithPoints}
use Rattle.yds_answer.specs.declared.with_points.WithPoints.TheVariants.{NoTable, Answered}

abbrev pub text_with_points : {A : Type 0} → (A → List ℕ) → WithPoints A → List ℕ
text_with_points text NoTable = no_table_line
text_with_points text (Answered answer) = text answer

abbrev pub status_with_points : {A : Type 0} → (A → Status) → WithPoints A → Status
status_with_points ends NoTable = statuses.Refused
status_with_points ends (Answered answer) = ends answer
