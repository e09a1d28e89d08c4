use Rattle.yds_words.specs.Words.{words_of}
use Rattle.yds_words.proofs.AskedWords.{named}
use Rattle.yds_answer.proofs.Complete.{question_completes, tasks_complete, trial_answers, usage_answers}
use Rattle.yds_run.proofs.Worth.{told_is_worth, each_is_worth}
use Rattle.yds_run.proofs.Tried.{trial_ends}
use Rattle.yds_run.proofs.running.run.Goals as goal

pub returns-in-Some-Document-clause-complete : goal.returns-in-Some-Document-clause-complete
returns-in-Some-Document-clause-complete g c =
    λ memory fault. question_completes _ _ _ _ _ _ _ _ (named _ _ _ c.in-Some-Document.field-0-is c.in-Some-Document.ensures.asked) (c.answer_input.ensures.answer memory fault)

pub returns-in-Some-Document-clause-worth : goal.returns-in-Some-Document-clause-worth
returns-in-Some-Document-clause-worth g c = λ whole. told_is_worth (words_of c.args.words.now) _ _ _ _ _ whole (λ memory fault.
    question_completes _ _ _ _ _ _ _ _ (named _ _ _ c.in-Some-Document.field-0-is c.in-Some-Document.ensures.asked) (c.answer_input.ensures.answer memory fault))

pub returns-in-Some-Expand-clause-complete : goal.returns-in-Some-Expand-clause-complete
returns-in-Some-Expand-clause-complete g c =
    λ memory fault. tasks_complete _ _ _ _ _ _ _ (named _ _ _ c.in-Some-Expand.field-0-is c.in-Some-Expand.ensures.asked) (c.answer_tasks.ensures.answer memory fault)

pub returns-in-Some-Expand-clause-worth : goal.returns-in-Some-Expand-clause-worth
returns-in-Some-Expand-clause-worth g c = λ whole. told_is_worth (words_of c.args.words.now) _ _ _ _ _ whole (λ memory fault.
    tasks_complete _ _ _ _ _ _ _ (named _ _ _ c.in-Some-Expand.field-0-is c.in-Some-Expand.ensures.asked) (c.answer_tasks.ensures.answer memory fault))

pub returns-in-Some-Trial-clause-trial : goal.returns-in-Some-Trial-clause-trial
returns-in-Some-Trial-clause-trial g c = λ trial. trial_ends _ _ _ _ _ _ _ _ _ c.answer_trial.ensures

pub returns-in-Some-Trial-clause-trial_text : goal.returns-in-Some-Trial-clause-trial_text
returns-in-Some-Trial-clause-trial_text g c =
    λ trial memory. trial_answers _ _ _ _ _ _ _ (named _ _ _ c.in-Some-Trial.field-0-is c.in-Some-Trial.ensures.asked)
    (c.answer_trial.ensures.answer memory)

pub returns-in-Some-Trial-clause-worth : goal.returns-in-Some-Trial-clause-worth
returns-in-Some-Trial-clause-worth g c = λ whole. each_is_worth (words_of c.args.words.now) _ _ _ _ _ whole (λ memory.
    trial_answers _ _ _ _ _ _ _ (named _ _ _ c.in-Some-Trial.field-0-is c.in-Some-Trial.ensures.asked)
    (c.answer_trial.ensures.answer memory))

pub returns-in-None-clause-worth : goal.returns-in-None-clause-worth
returns-in-None-clause-worth g c = λ whole. each_is_worth (words_of c.args.words.now) _ _ _ _ _ whole (λ memory.
    usage_answers _ _ _ _ _ c.in-None.ensures.asked c.deliver.ensures.outcome)
