use Rattle.yds_model.proofs.Common.{ℕ, ◌++◌, ◌∷◌, [], sym, ap, ◌∙◌, without_return, without_return-end, without_return-other}
use Rattle.yds_text.proofs.line.trim_return.Goals as goal

pub returns-in-Some-clause-value : goal.returns-in-Some-clause-value
returns-in-Some-clause-value c =
    sym (ap without_return (c.in-Some.ensures.cases.0 ∙ ap (λ (last : ℕ). c.in-Some.front.now ++ last ∷ []) c.if-last-eq13.true) ∙ without_return-end c.in-Some.front.now)

pub returns-in-Some-2-clause-value : goal.returns-in-Some-2-clause-value
returns-in-Some-2-clause-value c =
    sym (ap without_return c.in-Some.ensures.cases.0 ∙ without_return-other c.in-Some.front.now c.in-Some.last.now c.if-last-eq13.false ∙ sym c.in-Some.ensures.cases.0)
