use Rattle.yds_cuts.proofs.OverlappingParts.{verdict_where_parts_overlap}
use Rattle.yds_cuts.proofs.verdict_where_parts_overlap.Goals as goal

pub returns : goal.returns
returns c = verdict_where_parts_overlap
