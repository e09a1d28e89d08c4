use Rattle.yds_model.proofs.Common.{grain_of, parts_given}
use Rattle.model_lemmas.proofs.Grain.{grain_positive}
use Rattle.yds_audit.proofs.Works.{parts_are_work}
use Rattle.yds_audit.proofs.auditor.gives.Goals as goal

pub returns : goal.returns
returns c =
    let slots = c.args.schedule.now.slots in
    let law = parts_are_work (parts_given slots c.args.job) (grain_of slots c.args.job) c.args.work (grain_positive slots c.args.job) in
    let same = rw (c.given.ensures.exact, c.from_whole.ensures.value, c.into.ensures) at c.eq.ensures.same in
    (λ is. law.0 (same.0 is), λ gets. same.1 (law.1 gets))
