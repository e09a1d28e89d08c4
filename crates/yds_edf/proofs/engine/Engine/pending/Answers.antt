use Rattle.yds_model.proofs.Common.{◌∙◌, ap, arith}
use Rattle.yds_edf.specs.Queue.{all_pending}
use Rattle.yds_edf.specs.Engine.{TiedQueue}
use Rattle.yds_edf.proofs.Ranked.{units_tell}
use Rattle.yds_edf.proofs.DueBy.{all_pending_bound}
use Rattle.yds_edf.proofs.engine.Engine.pending.Goals as goal

pub returns-clause-units : goal.returns-clause-units
returns-clause-units c = c.total.ensures ∙ units_tell c.self.invariant ∙ ap (λ (tied : TiedQueue). all_pending tied.queue) c.self.view_is

pub returns-clause-in_range : goal.returns-clause-in_range
returns-clause-in_range c =
    rw (← c.self.view_is) (omega (arith, c.total.ensures, units_tell c.self.invariant, all_pending_bound _ c.self.invariant.kept))
