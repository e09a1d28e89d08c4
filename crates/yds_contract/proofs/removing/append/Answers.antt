use Rattle.yds_model.proofs.Common.{List, ◌∙◌, ap, sym, subst, total_length}
use Rattle.yds_contract.specs.declared.removed.Removed.{Removed}
use Rattle.yds_contract.specs.Removed.{removed_stretches}
use Rattle.yds_contract.specs.Removing.{IsAppended}
use Rattle.yds_contract.proofs.Appending.{appended}
use Rattle.yds_contract.proofs.removing.append.Goals as goal

pub returns : goal.returns
returns c =
    subst (IsAppended c.args.removed.now.items (record { from = c.args.from; to = c.args.to })) (sym c.in_ok-push.ensures.items)
    (appended c.args.removed.now.items c.args.from c.args.to c.total_removed-before.result c.requires.summed
    (c.total_removed-before.ensures ∙ ap (λ (rs : List Removed). total_length (removed_stretches rs)) c.deref.ensures.value))
