use Rattle.yds_avr.proofs.Standing.{coming_later}
use Rattle.yds_avr.proofs.roster.Roster.go_to.Goals as goal

pub returns-clause-coming : goal.returns-clause-coming
returns-clause-coming c = rw (c.leave.ensures.arrived, c.leave.ensures.same) (coming_later _ _ _ _ _ _ c.arrive.ensures.stands.parts c.arrive.ensures.next)
