use Rattle.yds_model.proofs.Common.{◌≡◌, take}
use Rattle.yds_avr.specs.Roster.{rates_of}
use Rattle.yds_avr.proofs.roster.in_list_order.Given as goal

abbrev pub invariant-loop-row : goal.invariant-loop-row
invariant-loop-row l = l.order.items ≡ rates_of l.grid (take l.row-index l.rows)
