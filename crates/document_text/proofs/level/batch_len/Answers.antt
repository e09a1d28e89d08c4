use Rattle.yds_model.proofs.Common.{arith}
use Rattle.document_text.proofs.LevelLines.{line_total-more}
use Rattle.document_text.proofs.level.batch_len.Goals as goal

pub loop-place-preserved : goal.loop-place-preserved
loop-place-preserved c =
    omega (arith, c.loop-place.invariant, line_total-more c.args.levels.now c.loop-place.place c.index-levels-place.result c.loop-place-test.true c.index-levels-place.is)
