-- The one relation of the words, the input, the text and the status: each case is a relation in a file of its own.
use Rattle.std.specs.Prelude.{◌≡◌, ℕ, List, [], ◌∷◌, length, codes, decimal, Option, Some, None, Result, Ok, Err, Bool, true, false, nat_lt}
use Rattle.base.specs.declared.limits.TheConstants.{MAX_INPUT}
use Rattle.yds_model.specs.declared.reason.Reason.{Reason}
use Rattle.yds_model.specs.declared.task_reason.TaskReason.{TaskReason}
use Rattle.base.specs.declared.status.Status.{Status}
use Rattle.base.specs.declared.status.Status.TheVariants as statuses
use Rattle.yds_model.specs.Reason.{reason_text, task_reason_text}
use Rattle.yds_model.specs.Table.{Point}
use Rattle.yds_model.specs.Document.{Document}
use Rattle.base.specs.Lines.{line}
use Rattle.base.specs.Fields.{Fault}
use Rattle.yds_model.specs.Reading.{reading}
use Rattle.yds_model.specs.Tasks.{TaskSet}
use Rattle.yds_model.specs.TaskReading.{task_reading}
use Rattle.yds_model.specs.PlanAnswer.{PlanAnswer}
use Rattle.yds_model.specs.RoundAnswer.{RoundAnswer}
use Rattle.yds_model.specs.PolicyAnswer.{AverageRateAnswer, OptimalAvailableAnswer}
use Rattle.yds_model.specs.AuditAnswer.{AuditAnswer, CheckAnswer}
use Rattle.yds_model.specs.ReportAnswer.{ReportAnswer}
use Rattle.yds_model.specs.JsonAnswer.{JsonAnswer}
use Rattle.yds_model.specs.AdmitAnswer.{AdmitAnswer}
use Rattle.yds_model.specs.CurveAnswer.{CurveAnswer}
use Rattle.yds_model.specs.CompareAnswer.{CompareAnswer}
use Rattle.yds_model.specs.ExpandAnswer.{ExpandAnswer}
use Rattle.yds_model.specs.TrialAnswer.{TrialAnswer}
use Rattle.yds_model.specs.Request.{Question, AskPlan, AskRound, AskAverageRate, AskOptimalAvailable, AskCheck, AskAudit, AskAuditOnPoints, AskReport, AskReportAsJson, AskAdmit, AskCurve, AskCompare, Request, OfDocument, OfTasks, OfTrial, request_of, usage_line}

-- just this text and this status
pub record Says (wanted : List ℕ) (end : Status) (text : List ℕ) (status : Status) : Type 0 where
  pub said : text ≡ wanted
  pub ended : status ≡ end

abbrev pub too_long_line : List ℕ
too_long_line = codes "refused too-long\n"

abbrev pub no_table_line : List ℕ
no_table_line = codes "refused no-table\n"

-- the line and the column of a fault, from 1, and the word of its reason
abbrev pub refusal_line : ℕ → ℕ → List ℕ → List ℕ
refusal_line number column word = line (codes "refused" ∷ decimal number ∷ decimal column ∷ word ∷ [])

-- a question that needs operating points is refused for a document that has none
abbrev pub OnPoints : (List ℕ → Status → Type 0) → List Point → List ℕ → Status → Type 0
OnPoints Answered [] text status = Says no_table_line statuses.Refused text status
OnPoints Answered (point ∷ points) text status = Answered text status

-- the answer to a question about a document
abbrev pub AnswersQuestion : Question → Document → List ℕ → Status → Type 0
AnswersQuestion AskPlan document text status = PlanAnswer document text status
AnswersQuestion AskRound document text status = OnPoints (RoundAnswer document) document.points text status
AnswersQuestion (AskAverageRate grid) document text status = AverageRateAnswer document grid text status
AnswersQuestion (AskOptimalAvailable grid) document text status = OptimalAvailableAnswer document grid text status
AnswersQuestion AskCheck document text status = CheckAnswer document text status
AnswersQuestion AskAudit document text status = AuditAnswer document None text status
AnswersQuestion AskAuditOnPoints document text status = OnPoints (AuditAnswer document (Some document.points)) document.points text status
AnswersQuestion AskReport document text status = ReportAnswer document text status
AnswersQuestion AskReportAsJson document text status = JsonAnswer document text status
AnswersQuestion (AskAdmit top) document text status = AdmitAnswer document top text status
AnswersQuestion AskCurve document text status = CurveAnswer document text status
AnswersQuestion (AskCompare grid) document text status = OnPoints (CompareAnswer document grid) document.points text status

-- a fault is refused at its place
abbrev pub AnswersReading : Question → Result Document (Fault Reason) → List ℕ → Status → Type 0
AnswersReading question (Ok document) text status = AnswersQuestion question document text status
AnswersReading question (Err fault) text status = Says (refusal_line fault.line fault.column (reason_text fault.reason)) statuses.Refused text status

abbrev pub AnswersTasks : Result TaskSet (Fault TaskReason) → List ℕ → Status → Type 0
AnswersTasks (Ok set) text status = ExpandAnswer set text status
AnswersTasks (Err fault) text status = Says (refusal_line fault.line fault.column (task_reason_text fault.reason)) statuses.Refused text status

-- an input beyond the limit is refused, whatever it is
abbrev pub UnlessTooLong : Bool → (List ℕ → Status → Type 0) → List ℕ → Status → Type 0
UnlessTooLong true Answered text status = Says too_long_line statuses.Refused text status
UnlessTooLong false Answered text status = Answered text status

abbrev pub is_too_long : List ℕ → Bool
is_too_long input = nat_lt MAX_INPUT (length input)

-- words that ask for nothing are answered by the usage line, and a trial reads no input
abbrev pub AnswersRequest : Option Request → List ℕ → List ℕ → Status → Type 0
AnswersRequest None input text status = Says usage_line statuses.Usage text status
AnswersRequest (Some (OfDocument question)) input text status = UnlessTooLong (is_too_long input) (AnswersReading question (reading input)) text status
AnswersRequest (Some OfTasks) input text status = UnlessTooLong (is_too_long input) (AnswersTasks (task_reading input)) text status
AnswersRequest (Some (OfTrial seed jobs)) input text status = TrialAnswer seed jobs text status

abbrev pub Answers : List (List ℕ) → List ℕ → List ℕ → Status → Type 0
Answers words input text status = AnswersRequest (request_of words) input text status
