use Rattle.yds_model.proofs.Common.{ℕ, List, [], ◌∷◌, ◌++◌, ◌∙◌, map, sym, ap, arith, range_with_len, map-range_with_len_more}
use Rattle.yds_textbook.specs.Together.{stage_of_job}
use Rattle.yds_textbook.proofs.together.stages_of_jobs.Goals as goal

pub loop-job-preserved : goal.loop-job-preserved
loop-job-preserved c =
    c.in_ok-push.ensures.items ∙ ap (λ (places : List ℕ). places ++ c.stage_of_job.result ∷ []) c.loop-job.invariant
    ∙ ap (λ (n : ℕ). map (stage_of_job c.args.stages.now) (range_with_len 0 c.loop-job.job) ++ n ∷ []) c.stage_of_job.ensures
    ∙ sym (map-range_with_len_more (stage_of_job c.args.stages.now) 0 c.loop-job.job c.loop-job.job (omega arith))
