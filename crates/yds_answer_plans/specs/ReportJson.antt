-- The text of a report as JSON.
use Rattle.std.specs.Prelude.{ℕ, List}
use Rattle.yds_answer_plans.specs.declared.report_json.JsonReport.{JsonReport}

abbrev pub json_text : JsonReport → List ℕ
json_text report = report.text.items
