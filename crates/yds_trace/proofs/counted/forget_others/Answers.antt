use Rattle.base.proofs.Common.{◌∙◌}
use Rattle.yds_trace.proofs.Spans.{unwanted, wanted_are, are_wanted}
use Rattle.yds_trace.proofs.counted.forget_others.Goals as goal

pub returns-in-Some : goal.returns-in-Some
returns-in-Some c = λ asked counting before same is later.
    are_wanted asked counting c.args.boundary c.in-Some.field-0 _ (same ∙ c.in-Some.is)
    (c.forget.ensures asked counting before c.in-Some.field-0 (wanted_are asked counting before c.in-Some.field-0 _ (same ∙ c.in-Some.is) is) later)

pub returns-in-None : goal.returns-in-None
returns-in-None c = λ asked counting before same is later. unwanted asked counting c.args.boundary _ (same ∙ c.in-None.is)
