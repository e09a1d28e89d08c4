use Rattle.yds_model.proofs.Common.{sym, ◌∙◌, ap}
use Rattle.document_reader.specs.Slot.{fits_test}
use Rattle.document_reader.proofs.SlotGrain.{fits_is, fits_grain}
use Rattle.document_reader.proofs.slot.fits_grain.Goals as goal

pub returns-clause-value : goal.returns-clause-value
returns-clause-value c =
    c.is_in_grain.ensures ∙ ap (λ den. fits_test den c.grain.result) c.den.ensures.value ∙ ap (fits_test c.args.work.den) c.grain.ensures
    ∙ sym (fits_is _ _ c.args.job c.args.work c.slots-slots.ensures.agree)

pub returns-clause-fits : goal.returns-clause-fits
returns-clause-fits c = λ fits. fits_grain c.args.schedule.now.slots c.args.job c.args.work
    (sym (c.is_in_grain.ensures ∙ ap (λ den. fits_test den c.grain.result) c.den.ensures.value ∙ ap (fits_test c.args.work.den) c.grain.ensures) ∙ fits)
