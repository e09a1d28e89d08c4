use Rattle.base.proofs.Common.{ℕ, ◌++◌, ◌∷◌, [], length, take, sym, ap, ◌∙◌, take-append_seam, take_all, le_refl, without_return, without_return-end, without_return-other}
use Rattle.yds_kernel_text.proofs.reader.trimmed_len.Goals as goal

pub returns-in-Some-clause-value : goal.returns-in-Some-clause-value
returns-in-Some-clause-value c =
    let parts = c.in-Some.ensures.cases.0 ∙ ap (λ (last : ℕ). c.in-Some.front.now ++ last ∷ []) c.if-last-eq13.true in
    ap (take (length c.in-Some.front.now)) parts ∙ take-append_seam c.in-Some.front.now (13 ∷ [])
    ∙ sym (ap without_return parts ∙ without_return-end c.in-Some.front.now)

pub returns-in-Some-2-clause-value : goal.returns-in-Some-2-clause-value
returns-in-Some-2-clause-value c =
    take_all (length c.args.text.now) c.args.text.now (le_refl (length c.args.text.now))
    ∙ sym (ap without_return c.in-Some.ensures.cases.0 ∙ without_return-other c.in-Some.front.now c.in-Some.last.now c.if-last-eq13.false ∙ sym c.in-Some.ensures.cases.0)
