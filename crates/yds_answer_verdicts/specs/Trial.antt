-- The text that tells the numbers of a trial's plan.
use Rattle.std.specs.Prelude.{ℕ, List, [], ◌∷◌, ◌++◌, length, codes, decimal}
use Rattle.base.specs.Lines.{line}
use Rattle.yds_model.specs.TrialAnswer.{trial_text}
use Rattle.yds_answer_verdicts.specs.declared.trial.Tried.{Tried}

abbrev pub tried_text : Tried → List ℕ
tried_text tried = trial_text tried.jobs tried.planned.schedule.slots tried.planned.certificate

-- its first three lines
abbrev pub counts_text : Tried → List ℕ
counts_text tried =
    line (codes "jobs" ∷ decimal tried.jobs ∷ []) ++ line (codes "levels" ∷ decimal (length tried.planned.certificate) ∷ [])
    ++ line (codes "slots" ∷ decimal (length tried.planned.schedule.slots) ∷ [])
