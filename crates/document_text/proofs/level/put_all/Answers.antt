use Rattle.yds_model.proofs.Common.{◌-◌, arith}
use Rattle.document_text.proofs.LevelLines.{line_total-before, line_total-drop}
use Rattle.document_text.proofs.level.put_all.Goals as goal

pub put-requires-clause-room : goal.put-requires-clause-room
put-requires-clause-room c =
    let levels = c.args.levels.now in
    omega (
      arith,
      c.loop-place.invariant.1,
      line_total-drop levels (c.loop-place.place - 1),
      line_total-before levels c.loop-place.place c.index-levels-place.result (omega arith) c.loop-place.auto.place c.index-levels-place.is,
    )
