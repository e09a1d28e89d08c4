use Rattle.yds_cuts.proofs.OnTable.{on_table_in_each_part}
use Rattle.yds_cuts.proofs.on_table_in_each_part.Goals as goal

pub returns : goal.returns
returns c = on_table_in_each_part
