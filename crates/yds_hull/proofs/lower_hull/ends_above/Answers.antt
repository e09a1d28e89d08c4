use Rattle.yds_hull.proofs.Ends.{read_end_rises}
use Rattle.yds_hull.proofs.lower_hull.ends_above.Goals as goal

pub is_above-requires-clause-faster : goal.is_above-requires-clause-faster
is_above-requires-clause-faster c = (read_end_rises c.args.hull.now _ _ _ c.requires c.in-len2-up.len_at_least c.low-item.is c.last-item.is).0

pub is_above-requires-clause-slower : goal.is_above-requires-clause-slower
is_above-requires-clause-slower c = (read_end_rises c.args.hull.now _ _ _ c.requires c.in-len2-up.len_at_least c.low-item.is c.last-item.is).1
