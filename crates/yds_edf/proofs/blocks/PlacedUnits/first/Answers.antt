use Rattle.yds_model.proofs.Common.{arith}
use Rattle.yds_edf.proofs.PlacedSums.{place_left}
use Rattle.yds_edf.proofs.blocks.PlacedUnits.first.Goals as goal

pub at-requires : goal.at-requires
at-requires c = rw (← c.self.view_is) (place_left c.self.inside.units.items c.loop-self.place c.loop-self.invariant.some c.loop-self.invariant.none)

pub next-place-requires-clause-known : goal.next-place-requires-clause-known
next-place-requires-clause-known c = rw (← c.self.view_is) (place_left c.self.inside.units.items c.loop-self.place c.loop-self.invariant.some c.loop-self.invariant.none)

pub loop-self-smaller : goal.loop-self-smaller
loop-self-smaller c = omega (
  arith,
  c.next-place.ensures.further,
  place_left c.self.inside.units.items c.loop-self.place c.loop-self.invariant.some c.loop-self.invariant.none,
)
