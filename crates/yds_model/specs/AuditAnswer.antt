-- The answers of `audit` and `check`: the line of the verdict, and of the judgement. Numbers of slots and levels count from 1.
use Rattle.std.specs.Prelude.{◌≡◌, ℕ, ◌+◌, ◌-◌, List, [], ◌∷◌, codes, decimal, Option}
use Rattle.base.specs.declared.status.Status.{Status}
use Rattle.base.specs.declared.status.Status.TheVariants as statuses
use Rattle.yds_model.specs.Job.{job_at}
use Rattle.yds_model.specs.Slot.{WrittenSlot, written_slot_at}
use Rattle.yds_model.specs.Table.{Point}
use Rattle.yds_model.specs.Document.{Document, name_at}
use Rattle.base.specs.Lines.{line}
use Rattle.yds_model.specs.Text.{fraction_text}
use Rattle.yds_model.specs.Audit.{Verdict, Feasible, Backward, Overlap, Early, Late, OffPoint, WrongWork, IsVerdict}
use Rattle.yds_model.specs.Judgement.{Judgement, Accepted, Slots, Pieces, Members, Sums, Order, Window, Speed, IsJudgement}

-- the slot at a place, and the name of its job
abbrev pub slot_in : Document → ℕ → WrittenSlot
slot_in document i = written_slot_at document.slots i

abbrev pub job_name : Document → ℕ → List ℕ
job_name document i = name_at document.names (slot_in document i).job

-- the end of the slot before this one
abbrev pub previous_end : Document → ℕ → List ℕ
previous_end document i = fraction_text (slot_in document (i - 1)).to

abbrev pub verdict_words : Document → Verdict → List (List ℕ)
verdict_words document Feasible = codes "feasible" ∷ []
verdict_words document (Backward i) =
    codes "backward" ∷ codes "slot" ∷ decimal (i + 1) ∷ job_name document i ∷ fraction_text (slot_in document i).from ∷ fraction_text (slot_in document i).to ∷ []
verdict_words document (Overlap i) =
    codes "overlap" ∷ codes "slot" ∷ decimal (i + 1) ∷ job_name document i ∷ fraction_text (slot_in document i).from ∷ codes "previous" ∷ previous_end document i ∷ []
verdict_words document (Early i) =
    codes "early" ∷ codes "slot" ∷ decimal (i + 1) ∷ job_name document i ∷ fraction_text (slot_in document i).from
    ∷ codes "release" ∷ decimal (job_at document.jobs (slot_in document i).job).release ∷ []
verdict_words document (Late i) =
    codes "late" ∷ codes "slot" ∷ decimal (i + 1) ∷ job_name document i ∷ fraction_text (slot_in document i).to
    ∷ codes "deadline" ∷ decimal (job_at document.jobs (slot_in document i).job).deadline ∷ []
verdict_words document (OffPoint i) =
    codes "off-point" ∷ codes "slot" ∷ decimal (i + 1) ∷ job_name document i ∷ fraction_text (slot_in document i).from ∷ fraction_text (slot_in document i).to
    ∷ fraction_text (slot_in document i).work ∷ []
verdict_words document (WrongWork job given wanted) =
    codes "work" ∷ name_at document.names job ∷ codes "given" ∷ fraction_text given ∷ codes "wanted" ∷ decimal wanted ∷ []

abbrev pub verdict_status : Verdict → Status
verdict_status Feasible = statuses.Done
verdict_status _ = statuses.No

-- the answer of `audit`, and of `audit --points` with the document's points as the table
pub record AuditAnswer (document : Document) (table : Option (List Point)) (text : List ℕ) (status : Status) : Type 0 where
  pub verdict : Verdict
  pub is_verdict : IsVerdict document.jobs table document.slots verdict
  pub said : text ≡ line (verdict_words document verdict)
  pub ended : status ≡ verdict_status verdict

abbrev pub judgement_words : Document → Judgement → List (List ℕ)
judgement_words document Accepted = codes "accepted" ∷ []
judgement_words document (Slots verdict) = codes "K1" ∷ verdict_words document verdict
judgement_words document (Pieces i) = codes "K2" ∷ codes "level" ∷ decimal (i + 1) ∷ []
judgement_words document (Members job) = codes "K3" ∷ codes "job" ∷ name_at document.names job ∷ []
judgement_words document (Sums i) = codes "K4" ∷ codes "level" ∷ decimal (i + 1) ∷ []
judgement_words document (Order i) = codes "K5" ∷ codes "level" ∷ decimal (i + 1) ∷ []
judgement_words document (Window job) = codes "K6" ∷ codes "job" ∷ name_at document.names job ∷ []
judgement_words document (Speed i) = codes "K7" ∷ codes "slot" ∷ decimal (i + 1) ∷ []

abbrev pub judgement_status : Judgement → Status
judgement_status Accepted = statuses.Done
judgement_status _ = statuses.No

-- the answer of `check`
pub record CheckAnswer (document : Document) (text : List ℕ) (status : Status) : Type 0 where
  pub judgement : Judgement
  pub is_judgement : IsJudgement document.jobs document.slots document.levels judgement
  pub said : text ≡ line (judgement_words document judgement)
  pub ended : status ≡ judgement_status judgement
