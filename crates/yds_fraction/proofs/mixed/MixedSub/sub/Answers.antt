use Rattle.yds_fraction.proofs.Values.{Subtracts-plain, Subtracts-borrowed}
use Rattle.yds_fraction.proofs.mixed.MixedSub.sub.Goals as goal

pub returns-then-other-self : goal.returns-then-other-self
returns-then-other-self g c =
    rw (← c.self.view_is, ← c.other.view_is)
    (Subtracts-plain _ _ _ c.new.result c.self.invariant c.other.invariant (rw (← c.self.view_is, ← c.other.view_is) at c.requires)
    c.if-other-self.true (rw c.max-den.ensures at c.new.ensures.value) c.new.ensures.kept)

pub returns-else-other-self : goal.returns-else-other-self
returns-else-other-self g c =
    rw (← c.self.view_is, ← c.other.view_is)
    (Subtracts-borrowed _ _ _ c.new-else-other-self.result c.self.invariant c.other.invariant (rw (← c.self.view_is, ← c.other.view_is) at c.requires)
    c.if-other-self.false (rw c.max-den.ensures at c.new-else-other-self.ensures.value) c.new-else-other-self.ensures.kept)
