-- The answer of `admit`: a document of the admitted jobs with their slots, and after it a comment for each refused job.
use Rattle.std.specs.Prelude.{◌≡◌, ℕ, List, [], ◌∷◌, ◌++◌, codes, decimal, map}
use Rattle.std.specs.List.{flat_map}
use Rattle.base.specs.declared.status.Status.{Status}
use Rattle.base.specs.declared.status.Status.TheVariants as statuses
use Rattle.yds_model.specs.Slot.{WrittenSlot}
use Rattle.yds_model.specs.Document.{Document, no_document, name_at}
use Rattle.base.specs.Lines.{line}
use Rattle.yds_model.specs.Within.{IsTextOf}
use Rattle.yds_model.specs.Admission.{Refusal, jobs_with, IsAdmission, IsAdmittedRun}

-- the taken jobs and the points, with these slots, whose jobs are places among the taken ones
abbrev pub with_taken : Document → List ℕ → List WrittenSlot → Document
with_taken document taken slots = record no_document {
  names = map (name_at document.names) taken;
  jobs = jobs_with document.jobs taken;
  points = document.points;
  slots = slots;
}

abbrev pub refusal_comment : Document → ℕ → Refusal → List ℕ
refusal_comment document top refusal =
    line (codes "#" ∷ codes "refuse" ∷ name_at document.names refusal.job ∷ codes "from" ∷ decimal refusal.from ∷ codes "to" ∷ decimal refusal.to
    ∷ codes "work" ∷ decimal refusal.work ∷ codes "top" ∷ decimal top ∷ [])

pub record AdmitAnswer (document : Document) (top : ℕ) (text : List ℕ) (status : Status) : Type 0 where
  pub taken : List ℕ
  pub refused : List Refusal
  pub admission : IsAdmission document.jobs top taken refused
  pub slots : List WrittenSlot
  pub run : IsAdmittedRun (jobs_with document.jobs taken) top slots
  pub admitted : List ℕ
  pub is_admitted : IsTextOf (with_taken document taken slots) admitted
  pub said : text ≡ admitted ++ flat_map (refusal_comment document top) refused
  pub ended : status ≡ statuses.Done
