-- The text of a curve's breaks.
use Rattle.std.specs.Prelude.{ℕ, List}
use Rattle.std.specs.List.{flat_map}
use Rattle.yds_model.specs.CurveAnswer.{break_line}
use Rattle.yds_answer_plans.specs.declared.curve.Breaks.{Breaks}

abbrev pub breaks_text : Breaks → List ℕ
breaks_text told = flat_map break_line told.breaks.items
