use Rattle.base.proofs.Common.{◌∙◌, ◌∷◌}
use Rattle.yds_kernel.specs.Event.{Lost}
use Rattle.yds_trace.proofs.Spans.{unwanted, wanted_are, are_wanted}
use Rattle.yds_trace.proofs.counted.lose_others.Goals as goal

pub returns-in_ok-lose-in-Some : goal.returns-in_ok-lose-in-Some
returns-in_ok-lose-in-Some c = λ asked counting boundary processor since same is time.
    are_wanted asked (Lost processor since ∷ counting) boundary c.in-Some.field-0 _ (same ∙ c.in-Some.is)
    (c.in_ok-lose-in-Some.ensures asked counting boundary c.in-Some.field-0 processor since (wanted_are asked counting boundary c.in-Some.field-0 _ (same ∙ c.in-Some.is) is) time)

pub returns-in-None : goal.returns-in-None
returns-in-None c = λ asked counting boundary processor since same is time. unwanted asked (Lost processor since ∷ counting) boundary _ (same ∙ c.in-None.is)
