-- The text and the status of a comparison of a document's plan with the policies.
use Rattle.std.specs.Prelude.{ℕ, List, [], ◌∷◌, ◌++◌, codes, decimal}
use Rattle.base.specs.declared.status.Status.{Status}
use Rattle.base.specs.declared.status.Status.TheVariants as statuses
use Rattle.yds_model.specs.Scale.{Fraction}
use Rattle.yds_model.specs.Table.{Point}
use Rattle.base.specs.Lines.{line}
use Rattle.yds_model.specs.Text.{fraction_text}
use Rattle.yds_model.specs.Comparison.{Side}
use Rattle.yds_model.specs.CompareAnswer.{spent_lines, side_lines, rounded_line}
use Rattle.yds_compare.specs.Side.{side_view}
use Rattle.yds_answer_points.specs.declared.compare.Sides.{Sides}
use Rattle.yds_answer_points.specs.declared.compare.ComparedDocument.{ComparedDocument}
use Rattle.yds_answer_points.specs.declared.compare.ComparedDocument.TheVariants as compared

-- the line of a point and its time
abbrev pub time_line : List ℕ → Point × Fraction → List ℕ
time_line name timed = line (name ∷ codes "time" ∷ decimal timed.0.speed ∷ fraction_text timed.1 ∷ [])

-- a policy's side and its count
abbrev pub policy_text : List ℕ → List Point → Side → ℕ → List ℕ
policy_text name points side rounded = side_lines name points side ++ rounded_line name rounded

abbrev pub sides_text : Sides → List ℕ
sides_text sides =
    (spent_lines (codes "plan") sides.table sides.comparison.plan
    ++ policy_text (codes "avr") sides.table (side_view sides.comparison.avr) sides.comparison.avr_rounded)
    ++ policy_text (codes "oa") sides.table (side_view sides.comparison.oa) sides.comparison.oa_rounded

abbrev pub compared_text : ComparedDocument → List ℕ
compared_text (compared.Sides sides) = sides_text sides
compared_text (compared.TooSlow line) = line

abbrev pub compared_status : ComparedDocument → Status
compared_status (compared.Sides sides) = statuses.Done
compared_status (compared.TooSlow line) = statuses.No
