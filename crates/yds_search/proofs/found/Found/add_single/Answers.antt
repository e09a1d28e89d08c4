use Rattle.yds_search.proofs.Filled.{no_own_stretch}
use Rattle.yds_search.proofs.found.Found.add_single.Goals as goal

pub invariant_of-push : goal.invariant_of-push
invariant_of-push c = rw c.from.ensures (c.requires.some c.loop-one.one-index no_own_stretch c.loop-one-test.true)
