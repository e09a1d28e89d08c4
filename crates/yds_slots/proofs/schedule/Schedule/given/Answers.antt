use Rattle.yds_model.proofs.Common.{sym, subst}
use Rattle.yds_slots.specs.Received.{Receipt}
use Rattle.yds_slots.specs.KeptSlots.{IsReceiptOf}
use Rattle.yds_slots.proofs.schedule.Schedule.given.Goals as goal

pub returns-clause-at_scales : goal.returns-clause-at_scales
returns-clause-at_scales c = (subst (λ (receipt : Receipt). IsReceiptOf c.args.self.now.slots c.args.job receipt) (sym c.result.view_is) c.received.ensures).at_scales
