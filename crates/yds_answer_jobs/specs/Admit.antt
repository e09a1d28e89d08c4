-- The text of a document of admitted jobs, with a comment for each refused job.
use Rattle.std.specs.Prelude.{ℕ, ◌+◌, ◌≤◌, List, [], ◌∷◌, ◌++◌, codes, decimal}
use Rattle.std.specs.List.{flat_map}
use Rattle.yds_model.specs.Document.{name_at}
use Rattle.base.specs.Lines.{line}
use Rattle.yds_model.specs.Text.{canonical_text}
use Rattle.yds_model.specs.Admission.{Refusal}
use Rattle.document_value.specs.Documents.{document_view}
use Rattle.yds_answer_jobs.specs.declared.admitted.AdmittedDocument.{AdmittedDocument}

-- the comment of a refusal, where the jobs have these names
abbrev pub comment_text : List (List ℕ) → ℕ → Refusal → List ℕ
comment_text names top refusal =
    line (codes "#" ∷ codes "refuse" ∷ name_at names refusal.job ∷ codes "from" ∷ decimal refusal.from ∷ codes "to" ∷ decimal refusal.to
    ∷ codes "work" ∷ decimal refusal.work ∷ codes "top" ∷ decimal top ∷ [])

abbrev pub comments_text : AdmittedDocument → List ℕ
comments_text admitted = flat_map (comment_text admitted.instance.names admitted.top) admitted.refused.items

abbrev pub admitted_text : AdmittedDocument → List ℕ
admitted_text admitted = canonical_text (document_view admitted.document) ++ comments_text admitted

-- the numbers rise, from this one on
abbrev pub RiseFrom : ℕ → List ℕ → Type 0
RiseFrom least [] = Unit {0}
RiseFrom least (number ∷ numbers) = (least ≤ number) × RiseFrom (number + 1) numbers
