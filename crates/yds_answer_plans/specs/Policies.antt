-- The text of a document with the run of a policy.
use Rattle.std.specs.Prelude.{ℕ, List}
use Rattle.yds_model.specs.Text.{canonical_text}
use Rattle.document_value.specs.Documents.{document_view}
use Rattle.yds_answer_plans.specs.declared.policies.PolicyDocument.{PolicyDocument}

abbrev pub policy_text : PolicyDocument → List ℕ
policy_text answer = canonical_text (document_view answer.document)
