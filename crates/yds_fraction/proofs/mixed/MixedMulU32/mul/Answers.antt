use Rattle.yds_fraction.proofs.Values.{Multiplies-written}
use Rattle.yds_fraction.proofs.mixed.MixedMulU32.mul.Goals as goal

pub returns : goal.returns
returns g c =
    rw (← c.self.view_is)
    (Multiplies-written _ _ _ c.new.result c.self.invariant
    (rw (c.divided-more.ensures.quotient, c.divided-more.ensures.rest, c.from.ensures, c.from-2.ensures, c.from-3.ensures) at c.new.ensures.value) c.new.ensures.kept)
