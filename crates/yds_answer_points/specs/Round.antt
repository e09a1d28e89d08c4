-- The text and the status of a document's plan on its operating points.
use Rattle.std.specs.Prelude.{ℕ, List}
use Rattle.base.specs.declared.status.Status.{Status}
use Rattle.base.specs.declared.status.Status.TheVariants as statuses
use Rattle.yds_model.specs.Text.{canonical_text}
use Rattle.document_value.specs.Documents.{document_view}
use Rattle.yds_answer_points.specs.declared.round.RoundedDocument.{RoundedDocument}
use Rattle.yds_answer_points.specs.declared.round.RoundedDocument.TheVariants.{Rounded, TooSlow}

abbrev pub rounded_text : RoundedDocument → List ℕ
rounded_text (Rounded document) = canonical_text (document_view document)
rounded_text (TooSlow line) = line

abbrev pub rounded_status : RoundedDocument → Status
rounded_status (Rounded document) = statuses.Done
rounded_status (TooSlow line) = statuses.No
