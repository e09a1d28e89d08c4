-- The text of a document with the plan of its jobs.
use Rattle.std.specs.Prelude.{ℕ, List}
use Rattle.yds_model.specs.Text.{canonical_text}
use Rattle.document_value.specs.Documents.{document_view}
use Rattle.yds_answer_plans.specs.declared.plan.PlannedDocument.{PlannedDocument}

abbrev pub plan_text : PlannedDocument → List ℕ
plan_text planned = canonical_text (document_view planned.document)
