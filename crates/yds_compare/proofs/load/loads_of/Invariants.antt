use Rattle.yds_model.proofs.Common.{◌≡◌, take}
use Rattle.yds_compare.specs.Load.{loads_of}
use Rattle.yds_compare.proofs.load.loads_of.Given as goal

abbrev pub invariant-loop-number : goal.invariant-loop-number
invariant-loop-number l = l.loads.items ≡ loads_of l.grid (take l.number l.run)
