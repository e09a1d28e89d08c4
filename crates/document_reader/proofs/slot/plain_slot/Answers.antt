use Rattle.yds_model.proofs.Common.{sym, ◌∙◌, subst, IsFraction}
use Rattle.model_lemmas.proofs.Alike.{alike_test}
use Rattle.document_reader.proofs.PlainLine.{says_slot}
use Rattle.document_reader.proofs.slot.plain_slot.Goals as goal

pub invariant_of-result : goal.invariant_of-result
invariant_of-result c = record {
  from = subst (λ most. IsFraction most c.in_ok-from.from) c.from-latest.ensures c.in_ok-from.ensures.within;
  to = subst (λ most. IsFraction most c.in_ok-to.to) c.from-latest.ensures c.in_ok-to.ensures.within;
  work = c.in_ok-work.ensures.within;
  ends_alike = c.alike.ensures.0 c.if-not-alike.false;
}

pub returns-clause-says : goal.returns-clause-says
returns-clause-says c =
    says_slot c.args.instance.now.names c.args.schedule.now.slots _ _ _ _ _ _ c.in-Ok.job c.from-latest.result c.in_ok-from.from c.in_ok-to.to c.in_ok-work.work
    c.in_ok-next.ensures.steps.first c.from-latest.ensures c.in_ok-from.ensures.says c.in_ok-to.ensures.says c.in_ok-work.ensures.says
    (c.at_end.ensures.0 c.if-not-at_end.false) c.in-Ok.ensures.gives
    (alike_test c.in_ok-from.from c.in_ok-to.to (c.alike.ensures.0 c.if-not-alike.false)) (sym c.fits_grain.ensures.value ∙ c.if-not-fits_grain.false)
