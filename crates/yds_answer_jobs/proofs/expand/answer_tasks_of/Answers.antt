use Rattle.yds_model.proofs.Common.{Some, AnswersTasks, AnswersRequest, OfTasks, task_reading}
use Rattle.yds_answer.proofs.Complete.{short_answer}
use Rattle.yds_answer.proofs.Replied.{replies_of}
use Rattle.yds_answer_jobs.proofs.expand.answer_tasks_of.Goals as goal

pub returns : goal.returns
returns g c =
    replies_of _ _ _ _ (AnswersTasks (task_reading c.args.input.now)) (AnswersRequest (Some OfTasks) c.args.input.now) _ _ _
    (λ text status answers. short_answer (λ input. AnswersTasks (task_reading input)) c.args.input.now text status c.if-input-gt-MAX_INPUT.false answers)
    c.expand_bytes.ensures
