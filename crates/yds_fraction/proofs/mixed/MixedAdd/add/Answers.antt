use Rattle.yds_fraction.proofs.Values.{Adds-written}
use Rattle.yds_fraction.proofs.mixed.MixedAdd.add.Goals as goal

pub returns : goal.returns
returns g c =
    rw (← c.self.view_is, ← c.other.view_is)
    (Adds-written _ _ _ c.new.result c.self.invariant c.other.invariant (rw (← c.self.view_is, ← c.other.view_is) at c.requires)
    (rw (c.carried-carry.ensures.quotient, c.carried-carry.ensures.rest, c.max-den.ensures) at c.new.ensures.value) c.new.ensures.kept)
