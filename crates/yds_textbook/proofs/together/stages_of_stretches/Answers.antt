use Rattle.yds_model.proofs.Common.{ℕ, List, [], ◌∷◌, ◌++◌, ◌∙◌, map, sym, ap, arith, range_with_len, map-range_with_len_more}
use Rattle.yds_textbook.specs.Together.{stage_of_stretch}
use Rattle.yds_textbook.proofs.together.stages_of_stretches.Goals as goal

pub loop-stretch-preserved : goal.loop-stretch-preserved
loop-stretch-preserved c =
    c.in_ok-push.ensures.items ∙ ap (λ (places : List ℕ). places ++ c.stage_of_stretch.result ∷ []) c.loop-stretch.invariant
    ∙ ap (λ (n : ℕ). map (stage_of_stretch c.args.stages.now) (range_with_len 0 c.loop-stretch.stretch) ++ n ∷ []) c.stage_of_stretch.ensures
    ∙ sym (map-range_with_len_more (stage_of_stretch c.args.stages.now) 0 c.loop-stretch.stretch c.loop-stretch.stretch (omega arith))
