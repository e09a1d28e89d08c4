use Rattle.yds_model.proofs.Common.{ℕ, List, ◌∙◌, length, sym, subst, ap, length-range_with_len}
use Rattle.yds_edf.specs.Serving.{AreTies}
use Rattle.yds_textbook.proofs.Keys.{range_ties}
use Rattle.yds_textbook.proofs.serving.serve.Goals as goal

pub fill-requires-clause-all_tied : goal.fill-requires-clause-all_tied
fill-requires-clause-all_tied c =
    ap (λ (ties : List ℕ). length ties) (c.deref.ensures.value ∙ c.in_ok-ties.ensures) ∙ length-range_with_len 0 (length c.args.rows.now)

pub fill-requires-clause-told_apart : goal.fill-requires-clause-told_apart
fill-requires-clause-told_apart c =
    subst AreTies (sym (c.deref.ensures.value ∙ c.in_ok-ties.ensures)) (range_ties (length c.args.rows.now))
