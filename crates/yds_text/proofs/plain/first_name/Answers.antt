use Rattle.yds_model.proofs.Common.{◌≡◌, ◌∙◌, ◌<◌, sym, ap, subst, arith, length, List, ℕ, eqb-false, is_name}
use Rattle.yds_text.specs.Plain.{BeginsPlainly, ends_field}
use Rattle.yds_text.proofs.PlainField.{plain_name, front_name}
use Rattle.yds_text.proofs.plain.first_name.Goals as goal

pub returns-clause-says : goal.returns-clause-says
returns-clause-says c =
    let some : 0 < c.visible_len.result = omega (arith, c.split_at.ensures.front_len, eqb-false (length c.split_at.result.0.now) 0 (sym c.is_empty.ensures ∙ c.if-is_empty.false)) in
    subst (λ (rest : List ℕ). BeginsPlainly (λ text. text ≡ c.in_ok-name.name.now) c.args.bytes.now rest) (sym c.split_at.ensures.back)
    (plain_name c.args.bytes.now c.in_ok-bytes.bytes.now c.visible_len.result c.in_ok-bytes.ensures c.visible_len.ensures.within c.visible_len.ensures.value some
    (ap ends_field (sym c.split_at.ensures.back) ∙ sym c.ends_field.ensures ∙ c.if-not-ends_field.false) c.in_ok-name.name.now (sym (c.in_ok-name.ensures ∙ c.split_at.ensures.front)))

pub returns-clause-named : goal.returns-clause-named
returns-clause-named c =
    let some : 0 < c.visible_len.result = omega (arith, c.split_at.ensures.front_len, eqb-false (length c.split_at.result.0.now) 0 (sym c.is_empty.ensures ∙ c.if-is_empty.false)) in
    ap is_name (c.in_ok-name.ensures ∙ c.split_at.ensures.front)
    ∙ front_name c.in_ok-bytes.bytes.now c.visible_len.result c.visible_len.ensures.within c.visible_len.ensures.value some (omega (arith, c.split_at.ensures.front_len))
