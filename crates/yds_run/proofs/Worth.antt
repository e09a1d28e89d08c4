-- Each answer of the definitions is worth what is said of it.
use Rattle.yds_model.proofs.Common.{◌≡◌, ◌≢◌, ℕ, List, Option, Some, None, [], ◌∷◌, codes, ap, subst, IfSome, Appends, ◌≤◌, length, Document, AuditAnswer, RoundAnswer, CompareAnswer, Question, AskPlan, AskRound, AskAverageRate, AskOptimalAvailable, AskCheck, AskAudit, AskAuditOnPoints, AskReport, AskReportAsJson, AskAdmit, AskCurve, AskCompare, OfDocument, AnswersQuestion, AnswersRequest, Request}
use Rattle.base.specs.declared.status.Status.{Status}
use Rattle.base.specs.declared.status.Status.TheVariants as statuses
use Rattle.yds_report.specs.JsonText.{HoldsReport}
use Rattle.yds_texts.specs.AdmitText.{HoldsAdmission}
use Rattle.yds_texts.specs.CompareText.{HoldsComparison}
use Rattle.yds_texts.specs.CurveText.{HoldsCurve}
use Rattle.yds_texts.specs.JudgedText.{IsJudged, HoldsJudgement, HoldsVerdict, HoldsVerdictOnPoints}
use Rattle.yds_texts.specs.PlanText.{HoldsHeadline}
use Rattle.yds_texts.specs.RoundText.{HoldsLeastEnergy, HoldsTooSlow}
use Rattle.yds_texts.specs.RunText.{HoldsAverageRate, HoldsOptimalAvailable}
use Rattle.yds_texts.specs.TaskLaws.{HoldsExpansion}
use Rattle.yds_texts.proofs.AdmitText.{admission_held}
use Rattle.yds_texts.proofs.CompareText.{comparison_holds, compare_refuses, compared_is_too_slow}
use Rattle.yds_texts.proofs.CurveText.{curves_are_least}
use Rattle.yds_texts.proofs.JudgedText.{judgements_tell_proper, verdicts_tell_feasible}
use Rattle.yds_texts.proofs.PlanText.{plans_hold_the_headline}
use Rattle.yds_texts.proofs.RoundText.{rounded_holds_least_energy, round_refuses, refused_is_too_slow}
use Rattle.yds_texts.proofs.RunText.{runs_are_read}
use Rattle.yds_texts.proofs.TaskTexts.{expansions_are_read}
use Rattle.yds_words.specs.Words.{asked}
use Rattle.yds_answer.specs.Endings.{IsWhole, WritesWhole, AnswersBytes}
use Rattle.yds_report.specs.TableText.{HoldsTable}
use Rattle.yds_run.specs.Worth.{IsWorth, IsInputOf}
use Rattle.yds_answer.proofs.Complete.{whole_outcome}
use Rattle.yds_run.proofs.Reported.{report_held, table_held}
use Rattle.yds_run.proofs.Ended.{answer_about, answer_of_tasks, answer_on_points, audit_ends, check_ends, round_ends, compare_ends, served_ends}

module _ (words : List (List ℕ)) (input text : List ℕ) (status : Status) (answers : AnswersRequest (asked words) input text status) where
  -- an answer of this status holds what each such answer holds, where the words ask for it
  holds : (request : Request) (ended : Status) (Holds : List ℕ → List ℕ → Type 0)
      → ((input text : List ℕ) → AnswersRequest (Some request) input text ended → Holds input text) → asked words ≡ Some request → status ≡ ended → Holds input text
  holds request ended Holds law asks is =
      law input text (subst (AnswersRequest (Some request) input text) is (subst (λ asked. AnswersRequest asked input text status) asks answers))

  -- so does a yes or a no
  holds_judged : (request : Request) (Holds : List ℕ → List ℕ → Status → Type 0)
      → ((input text : List ℕ) (status : Status) → IsJudged status → AnswersRequest (Some request) input text status → Holds input text status)
      → asked words ≡ Some request → IsJudged status → Holds input text status
  holds_judged request Holds law asks judged = law input text status judged (subst (λ asked. AnswersRequest asked input text status) asks answers)

  -- an answer to a question about a document within the limits is one about that document
  about : (question : Question) (document : Document) → asked words ≡ Some (OfDocument question) → IsInputOf document input → AnswersQuestion question document text status
  about question document asks given = answer_about question document input text status given (subst (λ asked. AnswersRequest asked input text status) asks answers)

  plan_done : (document : Document) → words ≡ codes "plan" ∷ [] → IsInputOf document input → status ≡ statuses.Done
  plan_done document plan given = (about AskPlan document (ap asked plan) given).ended

  -- where there are points, so is one to `round` and to `compare`
  round_answer : (document : Document) → asked words ≡ Some (OfDocument AskRound) → IsInputOf document input → 1 ≤ length document.points → RoundAnswer document text status
  round_answer document asks given some = answer_on_points (RoundAnswer document) document.points text status some (about AskRound document asks given)

  compare_answer : (grid : ℕ) (document : Document) → asked words ≡ Some (OfDocument (AskCompare grid)) → IsInputOf document input → 1 ≤ length document.points
      → CompareAnswer document grid text status
  compare_answer grid document asks given some =
      answer_on_points (CompareAnswer document grid) document.points text status some (about (AskCompare grid) document asks given)

  -- it says yes or no
  round_judged : (document : Document) → asked words ≡ Some (OfDocument AskRound) → IsInputOf document input → 1 ≤ length document.points → IsJudged status
  round_judged document asks given some = round_ends document text status (round_answer document asks given some)

  compare_judged : (grid : ℕ) (document : Document) → asked words ≡ Some (OfDocument (AskCompare grid)) → IsInputOf document input → 1 ≤ length document.points → IsJudged status
  compare_judged grid document asks given some = compare_ends document grid text status (compare_answer grid document asks given some)

  pub answers_are_worth : IsWorth words input text status
  answers_are_worth = record {
    headline = λ plan done. holds _ _ HoldsHeadline plans_hold_the_headline (ap asked plan) done;
    accepted = λ check judged. holds_judged _ HoldsJudgement judgements_tell_proper (ap asked check) judged;
    feasible = λ audit judged. holds_judged _ HoldsVerdict verdicts_tell_feasible.audit (ap asked audit) judged;
    feasible_on_points = λ audit judged. holds_judged _ HoldsVerdictOnPoints verdicts_tell_feasible.on_points (ap asked audit) judged;
    least_energy = λ round done. holds _ _ HoldsLeastEnergy rounded_holds_least_energy (ap asked round) done;
    too_slow = λ round no. holds _ _ HoldsTooSlow refused_is_too_slow (ap asked round) no;
    average_rate = λ grid avr done. holds _ _ (HoldsAverageRate grid) (runs_are_read.average_rate grid) avr done;
    optimal_available = λ grid oa done. holds _ _ (HoldsOptimalAvailable grid) (runs_are_read.optimal_available grid) oa done;
    comparison = λ grid compare done. holds _ _ (HoldsComparison grid) (comparison_holds grid) compare done;
    compared_too_slow = λ grid compare no. holds _ _ HoldsTooSlow (compared_is_too_slow grid) compare no;
    least_excess = λ curve done. holds _ _ HoldsCurve curves_are_least (ap asked curve) done;
    json = λ report done. holds _ _ HoldsReport report_held (ap asked report) done;
    expansion = λ expand done. holds _ _ HoldsExpansion expansions_are_read (ap asked expand) done;
    admission = λ top admit done. holds _ _ (HoldsAdmission top) (admission_held words top admit) admit done;
    table = λ report done. holds _ _ HoldsTable table_held (ap asked report) done;
    planned = λ document plan given. (
      plan_done document plan given,
      holds _ _ HoldsHeadline plans_hold_the_headline (ap asked plan) (plan_done document plan given),
    );
    checked = λ document check given. check_ends document text status (about AskCheck document (ap asked check) given);
    audited = λ document audit given. audit_ends document None text status (about AskAudit document (ap asked audit) given);
    audited_on_points = λ document audit given some. audit_ends document (Some document.points) text status
        (answer_on_points (AuditAnswer document (Some document.points)) document.points text status some (about AskAuditOnPoints document (ap asked audit) given));
    rounded_or_not = λ document round given some. round_judged document (ap asked round) given some;
    rounded = λ document round given some served. served_ends document input text status given (round_judged document (ap asked round) given some)
        (λ no. holds _ _ HoldsTooSlow refused_is_too_slow (ap asked round) no) served;
    not_rounded = λ document round given some unserved. round_refuses document text status (round_answer document (ap asked round) given some) unserved;
    compared_or_not = λ grid document compare given some. compare_judged grid document compare given some;
    compared = λ grid document compare given some served. served_ends document input text status given (compare_judged grid document compare given some)
        (λ no. holds _ _ HoldsTooSlow (compared_is_too_slow grid) compare no) served;
    not_compared = λ grid document compare given some unserved. compare_refuses document grid text status (compare_answer grid document compare given some) unserved;
    average_rate_run = λ grid document avr given. (about (AskAverageRate grid) document avr given).ended;
    optimal_available_run = λ grid document oa given. (about (AskOptimalAvailable grid) document oa given).ended;
    curve_told = λ document curve given. (about AskCurve document (ap asked curve) given).ended;
    reported = λ document report given. (about AskReport document (ap asked report) given).ended;
    reported_as_json = λ document report given. (about AskReportAsJson document (ap asked report) given).ended;
    admitted = λ top document admit given. (about (AskAdmit top) document admit given).ended;
    expanded = λ set expand short read. (answer_of_tasks set input text status short read
        (subst (λ asked. AnswersRequest asked input text status) (ap asked expand) answers)).ended;
  }

-- what was written whole is worth what its answer is
written_is_worth : (words : List (List ℕ)) (input : List ℕ) (result : Status) (old new : Option (List ℕ)) (flushed : Option ℕ) → IsWhole result
    → AnswersBytes (asked words) input result old new flushed → (text : List ℕ) × Appends old new text × IsWorth words input text result
written_is_worth words input result old new flushed whole answered =
    let outcome : WritesWhole result answered.text answered.status old new flushed = whole_outcome result answered.text answered.status old new flushed whole answered.outcome in (
      answered.text,
      outcome.whole,
      answers_are_worth words input answered.text result (subst (AnswersRequest (asked words) input answered.text) outcome.said answered.answers),
    )

-- so it is where the input is told
pub told_is_worth : (words : List (List ℕ)) (result : Status) (left old new : Option (List ℕ)) (flushed : Option ℕ) → IsWhole result
    → (result ≢ statuses.Memory → result ≢ statuses.ReadFault → IfSome left (λ input. AnswersBytes (asked words) input result old new flushed))
    → IfSome left (λ input. (text : List ℕ) × Appends old new text × IsWorth words input text result)
told_is_worth words result None old new flushed whole complete = tt
told_is_worth words result (Some input) old new flushed whole complete =
    written_is_worth words input result old new flushed whole (complete (λ memory. subst IsWhole memory whole) (λ fault. subst IsWhole fault whole))

-- and where the answer is the same for each input
pub each_is_worth : (words : List (List ℕ)) (result : Status) (left old new : Option (List ℕ)) (flushed : Option ℕ) → IsWhole result
    → (result ≢ statuses.Memory → (input : List ℕ) → AnswersBytes (asked words) input result old new flushed)
    → IfSome left (λ input. (text : List ℕ) × Appends old new text × IsWorth words input text result)
each_is_worth words result None old new flushed whole answered = tt
each_is_worth words result (Some input) old new flushed whole answered =
    written_is_worth words input result old new flushed whole (answered (λ memory. subst IsWhole memory whole) input)
