use Rattle.yds_model.proofs.Common.{length-map, length-lines_from-le}
use Rattle.yds_text.proofs.line.lines.Goals as goal

pub returns-clause-count : goal.returns-clause-count
returns-clause-count c = simp length-map (length-lines_from-le 1 0 c.args.bytes.now)
