-- The text of a plan's levels as a table.
use Rattle.std.specs.Prelude.{ℕ, List}
use Rattle.yds_model.specs.ReportAnswer.{report_text}
use Rattle.yds_answer_plans.specs.declared.report.PlanTable.{PlanTable}

abbrev pub table_text : PlanTable → List ℕ
table_text table = report_text table.document.instance.jobs table.certificate
