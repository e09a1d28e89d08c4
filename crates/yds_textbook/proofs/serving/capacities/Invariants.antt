use Rattle.yds_model.proofs.Common.{◌≡◌, take, map}
use Rattle.yds_textbook.specs.Served.{capacity_of}
use Rattle.yds_textbook.proofs.serving.capacities.Given as goal

abbrev pub invariant-loop-stretch : goal.invariant-loop-stretch
invariant-loop-stretch l = l.capacities.items ≡ map (capacity_of l.speed) (take l.stretch-index l.stretches)
