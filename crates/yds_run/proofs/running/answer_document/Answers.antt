use Rattle.yds_model.proofs.Common.{ap, ◌∙◌}
use Rattle.yds_words.specs.declared.command.Question.TheVariants as questions
use Rattle.yds_run.proofs.AskedQuestion.{question_replies}
use Rattle.yds_run.proofs.running.answer_document.Goals as goal

pub returns-in-Plan : goal.returns-in-Plan
returns-in-Plan g c = question_replies _ _ _ _ _ _ _ _ _ _ c.in-Plan.is c.answer_plan.ensures

pub returns-in-Round : goal.returns-in-Round
returns-in-Round g c = question_replies _ _ _ _ _ _ _ _ _ _ c.in-Round.is c.answer_round.ensures

pub returns-in-AverageRate : goal.returns-in-AverageRate
returns-in-AverageRate g c = question_replies _ _ _ _ _ _ _ _ _ _ c.in-AverageRate.is c.answer_average_rate.ensures

pub returns-in-OptimalAvailable : goal.returns-in-OptimalAvailable
returns-in-OptimalAvailable g c = question_replies _ _ _ _ _ _ _ _ _ _ c.in-OptimalAvailable.is c.answer_optimal_available.ensures

pub returns-in-Check : goal.returns-in-Check
returns-in-Check g c = question_replies _ _ _ _ _ _ _ _ _ _ c.in-Check.is c.answer_check.ensures

pub returns-in-Audit-false : goal.returns-in-Audit-false
returns-in-Audit-false g c = question_replies _ _ _ _ _ _ _ _ _ _ (c.in-Audit-false.is ∙ ap (λ points. questions.Audit points) c.in-Audit-false.points-test) c.answer_audit.ensures

pub returns-in-Audit-true : goal.returns-in-Audit-true
returns-in-Audit-true g c = question_replies _ _ _ _ _ _ _ _ _ _ (c.in-Audit-true.is ∙ ap (λ points. questions.Audit points) c.in-Audit-true.points-test) c.answer_audit_on_points.ensures

pub returns-in-Report-false : goal.returns-in-Report-false
returns-in-Report-false g c = question_replies _ _ _ _ _ _ _ _ _ _ (c.in-Report-false.is ∙ ap (λ json. questions.Report json) c.in-Report-false.json-test) c.answer_report.ensures

pub returns-in-Report-true : goal.returns-in-Report-true
returns-in-Report-true g c = question_replies _ _ _ _ _ _ _ _ _ _ (c.in-Report-true.is ∙ ap (λ json. questions.Report json) c.in-Report-true.json-test) c.answer_report_as_json.ensures

pub returns-in-Curve : goal.returns-in-Curve
returns-in-Curve g c = question_replies _ _ _ _ _ _ _ _ _ _ c.in-Curve.is c.answer_curve.ensures

pub returns-in-Compare : goal.returns-in-Compare
returns-in-Compare g c = question_replies _ _ _ _ _ _ _ _ _ _ c.in-Compare.is c.answer_compare.ensures
