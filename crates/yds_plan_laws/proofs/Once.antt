-- What goes by a plan is answered once: the slots of two plans are one, spelled in the program's way, and so are their levels.
use Rattle.yds_model.proofs.Common.{◌≡◌, ℕ, ◌<◌, ◌≤◌, List, [], ◌∷◌, ◌++◌, length, get_or, take_all, sym, ap, subst, ◌∙◌, arith, Option, Result, Ok, Err, Bool, true, false, All, Contains, All-append, same_lists, get_or-map, get_or_default, length-map, codes, line, decimal, peak_words, count, Job, WrittenSlot, WholeSlot, IsDivided, IsSolid, no_slot, written_slot_at, no_written_slot, slot_at_scale, Level, level_at, all_members, IsPlan, HasLevelDenominators, Document, Fault, reading, task_reading, canonical_text, with_plan, Question, AskPlan, AskReport, AskReportAsJson, AskCurve, AnswersQuestion, AnswersReading, AnswersTasks, UnlessTooLong, is_too_long, AnswersRequest, report_json, curve_text, TrialAnswer, TaskSet, Request}
use Rattle.yds_model.specs.Within.{IsSlot}
use Rattle.yds_model.specs.PlanAnswer.{PlanAnswer}
use Rattle.yds_model.specs.ReportAnswer.{ReportAnswer, report_text}
use Rattle.yds_model.specs.JsonAnswer.{JsonAnswer}
use Rattle.yds_model.specs.CurveAnswer.{CurveAnswer}
use Rattle.yds_model.specs.TrialAnswer.{drawn_jobs}
use Rattle.yds_model.specs.declared.reason.Reason.{Reason}
use Rattle.yds_model.specs.declared.task_reason.TaskReason.{TaskReason}
use Rattle.base.specs.declared.status.Status.{Status}
use Rattle.model_lemmas.proofs.Scale.{scale_exists}
use Rattle.yds_laws.proofs.Bound.{scale_left, scale_right}
use Rattle.yds_laws.proofs.Plans.{plans_serve_work}
use Rattle.yds_energy.proofs.FullStretches.{level_of_member}
use Rattle.yds_plan_laws.specs.AnswersOnce.{PlansAnswerOnce}
use Rattle.yds_plan_laws.proofs.OneCertificate.{levels_are_one}
use Rattle.yds_plan_laws.proofs.OnePlan.{slots_are_one}
use Rattle.yds_plan_laws.proofs.Spelled.{slot_spelled_once}

-- # Written slots

-- slots of one job that are the same at a scale, over the same level's denominators and in the one spelling, are one
slot_same : (scale : ℕ) (level : Level) (x y : WrittenSlot) → 1 ≤ scale → IsDivided scale x → IsDivided scale y → IsSlot x → IsSlot y → HasLevelDenominators level x →
    HasLevelDenominators level y → slot_at_scale scale x ≡ slot_at_scale scale y → x ≡ y
slot_same scale level x y positive is also fits fit dens others same =
    slot_spelled_once scale _ _ x y positive is also fits fit dens.from others.from dens.to others.to dens.work others.work same

-- so two plans have the same written slots
pub written_are_one : (jobs : List Job) (slots others : List WrittenSlot) (levels more : List Level) → IsPlan jobs slots levels → IsPlan jobs others more →
    All IsSlot slots → All IsSlot others → slots ≡ others
written_are_one jobs slots others levels more plan next fits fit =
    let other : IsPlan jobs others levels = subst (IsPlan jobs others) (sym (levels_are_one jobs slots others levels more plan next)) next in
    let scale = scale_exists (slots ++ others) (All-append IsSolid slots others plan.proper.feasible.solid next.proper.feasible.solid) in
    let left = scale_left scale.0 slots others scale.1 in
    let right = scale_right scale.0 slots others scale.1 in
    let whole = slots_are_one jobs slots others levels levels scale.0 plan other scale.1 in
    let many : length slots ≡ length others = omega (
      arith,
      ap length whole,
      length-map slots (slot_at_scale scale.0),
      length-map others (slot_at_scale scale.0),
    ) in
    same_lists slots others many (λ k d within.
    let inside : k < length others = omega (arith, within, many) in
    let x = written_slot_at slots k in
    let y = written_slot_at others k in
    let same : slot_at_scale scale.0 x ≡ slot_at_scale scale.0 y =
    sym (get_or-map (slot_at_scale scale.0) slots k no_written_slot no_slot within) ∙ ap (λ (some : List WholeSlot). get_or some k no_slot) whole
    ∙ get_or-map (slot_at_scale scale.0) others k no_written_slot no_slot inside in
    let job : x.job ≡ y.job = ap (λ (slot : WholeSlot). slot.job) same in
    let some = plans_serve_work jobs slots levels plan k no_written_slot within in
    let known : x.job < length jobs = omega (
      arith,
      ((plan.proper.feasible.holds scale.0 left).in_windows k no_slot (omega (arith, within, length-map slots (slot_at_scale scale.0)))).known,
      ap (λ (slot : WholeSlot). slot.job) (get_or-map (slot_at_scale scale.0) slots k no_written_slot no_slot within),
    ) in
    let found = level_of_member levels (length levels) x.job (omega arith)
    (omega (arith, (plan.proper.members x.job known).with_work some, ap (λ front. count x.job (all_members front)) (take_all (length levels) levels (omega arith)))) in
    let equal : x ≡ y = slot_same scale.0 (level_at levels found.0) x y scale.1.positive (left.divided k no_written_slot within) (right.divided k no_written_slot inside)
    (fits k no_written_slot within) (fit k no_written_slot inside) (plan.denominators found.0 k found.1 within found.2)
    (other.denominators found.0 k found.1 inside (subst (λ (n : ℕ). Contains (level_at levels found.0).members n) job found.2)) same in
    get_or_default slots k d no_written_slot within ∙ equal ∙ get_or_default others k no_written_slot d inside)

-- # Answers

-- there is at most one text and status of which this is so
abbrev pub IsOnce : (List ℕ → Status → Type 0) → Type 0
IsOnce Answered = (text other : List ℕ) (status end : Status) → Answered text status → Answered other end → (text ≡ other) × (status ≡ end)

-- a plan of a document
plan_once : (document : Document) → IsOnce (PlanAnswer document)
plan_once document text other status end first second =
    let levels = levels_are_one document.jobs first.slots second.slots first.levels second.levels first.plan second.plan in
    let slots = written_are_one document.jobs first.slots second.slots first.levels second.levels first.plan second.plan first.said.possible.slots.fit second.said.possible.slots.fit in (
      first.said.written ∙ ap (λ (some : List WrittenSlot). canonical_text (with_plan document some first.levels)) slots
          ∙ ap (λ (some : List Level). canonical_text (with_plan document second.slots some)) levels ∙ sym second.said.written,
      first.ended ∙ sym second.ended,
    )

-- its levels as a table,
report_once : (document : Document) → IsOnce (ReportAnswer document)
report_once document text other status end first second = (
  first.said ∙ ap (report_text document.jobs) (levels_are_one document.jobs first.slots second.slots first.levels second.levels first.plan second.plan) ∙ sym second.said,
  first.ended ∙ sym second.ended,
)

-- as JSON,
json_once : (document : Document) → IsOnce (JsonAnswer document)
json_once document text other status end first second = (
  first.said ∙ ap (report_json document.jobs) (levels_are_one document.jobs first.slots second.slots first.levels second.levels first.plan second.plan) ∙ sym second.said,
  first.ended ∙ sym second.ended,
)

-- and as a curve
curve_once : (document : Document) → IsOnce (CurveAnswer document)
curve_once document text other status end first second = (
  first.said ∙ ap curve_text (levels_are_one document.jobs first.slots second.slots first.levels second.levels first.plan second.plan) ∙ sym second.said,
  first.ended ∙ sym second.ended,
)

-- the text of a trial, by the number of its slots
abbrev trial_of : ℕ → ℕ → List Level → List ℕ
trial_of jobs many levels =
    line (codes "jobs" ∷ decimal jobs ∷ []) ++ line (codes "levels" ∷ decimal (length levels) ∷ []) ++ line (codes "slots" ∷ decimal many ∷ [])
    ++ line (peak_words levels) ++ line (codes "accepted" ∷ [])

-- a trial, of drawn jobs: two plans of them have as many slots, also where these are spelled otherwise
trial_once : (seed jobs : ℕ) → IsOnce (TrialAnswer seed jobs)
trial_once seed jobs text other status end first second =
    let all = drawn_jobs jobs seed in
    let levels = levels_are_one all first.slots second.slots first.levels second.levels first.plan second.plan in
    let scale = scale_exists (first.slots ++ second.slots)
    (All-append IsSolid first.slots second.slots first.plan.proper.feasible.solid second.plan.proper.feasible.solid) in
    let many : length first.slots ≡ length second.slots = omega (
      arith,
      ap length (slots_are_one all first.slots second.slots first.levels second.levels scale.0 first.plan second.plan scale.1),
      length-map first.slots (slot_at_scale scale.0),
      length-map second.slots (slot_at_scale scale.0),
    ) in (
      first.said ∙ ap (λ (n : ℕ). trial_of jobs n first.levels) many ∙ ap (trial_of jobs (length second.slots)) levels ∙ sym second.said,
      first.ended ∙ sym second.ended,
    )

-- what is read is answered once where each document is, and what can't be read is refused once
pub question_once : (question : Question) → ((document : Document) → IsOnce (AnswersQuestion question document)) → (long : Bool) (read : Result Document (Fault Reason)) →
    IsOnce (UnlessTooLong long (AnswersReading question read))
question_once question once true read text other status end first second = (first.said ∙ sym second.said, first.ended ∙ sym second.ended)
question_once question once false (Err fault) text other status end first second = (first.said ∙ sym second.said, first.ended ∙ sym second.ended)
question_once question once false (Ok document) text other status end first second = once document text other status end first second

-- and so are tasks, whose jobs are what they are
tasks_once : (long : Bool) (read : Result TaskSet (Fault TaskReason)) → IsOnce (UnlessTooLong long (AnswersTasks read))
tasks_once true read text other status end first second = (first.said ∙ sym second.said, first.ended ∙ sym second.ended)
tasks_once false (Err fault) text other status end first second = (first.said ∙ sym second.said, first.ended ∙ sym second.ended)
tasks_once false (Ok set) text other status end first second = (first.said ∙ sym second.said, first.ended ∙ sym second.ended)

-- the law
pub plans_answer_once : PlansAnswerOnce
plans_answer_once = record {
  plan = λ input. question_once AskPlan plan_once (is_too_long input) (reading input);
  report = λ input. question_once AskReport report_once (is_too_long input) (reading input);
  report_as_json = λ input. question_once AskReportAsJson json_once (is_too_long input) (reading input);
  curve = λ input. question_once AskCurve curve_once (is_too_long input) (reading input);
  expand = λ input. tasks_once (is_too_long input) (task_reading input);
  trial = λ words seed jobs asked input text other status end first second.
      trial_once seed jobs text other status end (subst (λ (request : Option Request). AnswersRequest request input text status) asked first)
      (subst (λ (request : Option Request). AnswersRequest request input other end) asked second);
}
