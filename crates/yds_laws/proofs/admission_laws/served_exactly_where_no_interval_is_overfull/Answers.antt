use Rattle.yds_laws.proofs.Served.{served_where_room}
use Rattle.yds_laws.proofs.admission_laws.served_exactly_where_no_interval_is_overfull.Goals as goal

pub returns : goal.returns
returns c = served_where_room
