use Rattle.yds_model.proofs.Common.{◌≡◌, ℕ, ◌+◌, List, [], ◌∷◌, ◌++◌, true, set, take, drop, ◌∙◌, refl, sym, subst, arith, ap, append_assoc, Job, job_at}
use Rattle.yds_admit.specs.Board.{IsMarked}
use Rattle.yds_admit.proofs.Marks.{one_more, run_more}
use Rattle.yds_admit.proofs.batch.marked.Goals as goal

pub loop-number-preserved : goal.loop-number-preserved
loop-number-preserved c rows jobs marked =
    let i : ℕ = c.loop-number.number in
    let run : List Job = drop c.args.first (take i rows) in
    subst (IsMarked rows (i + 1) (set c.loop-number.more.items i true))
    (append_assoc jobs run (job_at rows i ∷ []) ∙ ap (λ (some : List Job). jobs ++ some) (sym (run_more rows c.args.first i (omega arith) (omega (arith, c.loop-number-test.true, c.requires.within, marked.as_long)))))
    (one_more rows c.loop-number.more.items (jobs ++ run) i (job_at rows i) (omega (arith, c.loop-number-test.true, c.requires.within, marked.as_long)) refl (c.loop-number.invariant rows jobs marked))

pub returns : goal.returns
returns c rows jobs marked =
    let e : c.loop-number.number ≡ c.args.last = omega (arith, c.loop-number-test.false) in
    subst (λ (n : ℕ). IsMarked rows n c.loop-number.more.items (jobs ++ drop c.args.first (take n rows))) e (c.loop-number.invariant rows jobs marked)
