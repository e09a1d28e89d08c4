use Rattle.yds_model.proofs.Common.{◌≡◌, ℕ, ◌∙◌, List, [], ◌∷◌, ◌++◌, map, sym, ap, arith, range_with_len, get_or_read, map-range_with_len_more, Job, job_at, no_job}
use Rattle.yds_intensity.specs.declared.deadline_order.Due.{Due}
use Rattle.yds_intensity.specs.Due.{due_of}
use Rattle.yds_intensity.proofs.deadline_order.dues.Goals as goal

abbrev due : ℕ → ℕ → Due
due deadline number = record { deadline = deadline; number = number }

pub loop-number-preserved : goal.loop-number-preserved
loop-number-preserved c =
    let rows = c.args.rows.now in
    let n = c.loop-number.number in
    let row = c.row.view_is ∙ get_or_read _ _ _ c.loop-number-test.true c.index-rows-number.is no_job in
    let deadline : c.row.inside.deadline ≡ (job_at rows n).deadline = ap (λ (job : Job). job.deadline) row in
    c.in_ok-push.ensures.items
    ∙ ap (λ (xs : List Due). xs ++ due c.row.inside.deadline n ∷ []) c.loop-number.invariant
    ∙ ap (λ (d : ℕ). map (due_of rows) (range_with_len 0 n) ++ due d n ∷ []) deadline
    ∙ sym (map-range_with_len_more (due_of rows) 0 n n (omega arith))
