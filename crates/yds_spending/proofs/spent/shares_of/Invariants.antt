use Rattle.yds_model.proofs.Common.{take, AllZip, hull_of, hull_multiple}
use Rattle.yds_spending.specs.TimeShare.{IsShareOf}
use Rattle.yds_spending.proofs.spent.shares_of.Given as goal

abbrev pub invariant-loop-load : goal.invariant-loop-load
invariant-loop-load l = AllZip (IsShareOf (hull_multiple l.table) (hull_of l.table)) (take l.load-index l.loads) l.shares.items
