use Rattle.yds_model.proofs.Common.{◌≡◌, ◌*◌, refl, SlotEntry}
use Rattle.base.specs.declared.limits.TheConstants.{MAX_TIME}
use Rattle.document_reader.proofs.PlainLine.{says_run}
use Rattle.document_reader.proofs.run.plain_run.Goals as goal

pub returns-clause-says : goal.returns-clause-says
returns-clause-says c =
    let most : c.from.result * c.from-2.result ≡ MAX_TIME * c.args.ticks = rw (c.from.ensures, c.from-2.ensures) refl in
    says_run c.args.instance.now.names c.args.schedule.now.slots c.args.ticks _ _ _ _ _ _ c.in-Ok.job (c.from.result * c.from-2.result) c.from-3.result c.in_ok-from.from c.in_ok-to.to c.in_ok-speed.speed 0
    (SlotEntry c.in-Ok-slot_of_run.slot) c.in_ok-next.ensures.steps.first most c.from-3.ensures c.in_ok-from.ensures.says c.in_ok-to.ensures.says c.in_ok-speed.ensures.says
    (c.at_end.ensures.0 c.if-not-at_end.false) c.in-Ok.ensures.gives c.in-Ok-slot_of_run.ensures.gives
