use Rattle.yds_model.proofs.Common.{◌≡◌, ℕ, ◌≤◌, ap, subst, ◌∙◌, at_scale, WrittenSlot}
use Rattle.base.specs.declared.limits.TheConstants.{MAX_SLOT_WORK}
use Rattle.yds_contract.specs.Removed.{removed_stretches}
use Rattle.yds_contract.proofs.Scaled.{parts_fit}
use Rattle.yds_contract.proofs.Spreads.{spans_same, spans_found, spans_can}
use Rattle.yds_contract.proofs.spreading.spans_of.Goals as goal

pub returns : goal.returns
returns c =
    let speed = c.args.speed in
    let slot = c.args.slot in
    let removed = removed_stretches c.args.removed.now in
    let spans = c.in_ok-spans.spans.items in
    let start : c.parts_of-start.result ≡ at_scale speed.num slot.from =
    c.parts_of-start.ensures ∙ ap (λ (n : ℕ). at_scale n c.slot.inside.from) c.num.ensures.value ∙ ap (λ (s : WrittenSlot). at_scale speed.num s.from) c.slot.view_is in
    let end : c.parts_of-end.result ≡ at_scale speed.num slot.to =
    c.parts_of-end.ensures ∙ ap (λ (n : ℕ). at_scale n c.slot.inside.to) c.num-2.ensures.value ∙ ap (λ (s : WrittenSlot). at_scale speed.num s.to) c.slot.view_is in
    let is = spans_same removed speed.num (at_scale speed.num slot.from) (at_scale speed.num slot.to) _ _ _ spans c.num-3.ensures.value start end c.in_ok-spans.ensures in
    let small : slot.work.whole ≤ MAX_SLOT_WORK = subst (λ (s : WrittenSlot). s.work.whole ≤ MAX_SLOT_WORK) c.slot.view_is c.slot.invariant.work.whole_in_range in
    record {
      found = spans_found removed speed.num (at_scale speed.num slot.from) (at_scale speed.num slot.to) spans c.requires.removed.apart c.requires.some is;
      can = spans_can removed speed (at_scale speed.num slot.from) (at_scale speed.num slot.to) slot.work spans c.requires.removed.apart c.requires.some c.num.ensures.kept.has_parts
          (parts_fit c.args.removed.now speed.num (at_scale speed.num slot.to) c.requires.removed c.requires.within) c.requires.at_speed small is;
    }
