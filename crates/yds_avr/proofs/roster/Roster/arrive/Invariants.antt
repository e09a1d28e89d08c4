use Rattle.yds_model.proofs.Common.{◌≡◌, ◌≤◌, ◌-◌, length, take, vec_capacity}
use Rattle.yds_avr.specs.Roster.{AreParts}
use Rattle.yds_avr.proofs.roster.Roster.arrive.Given as goal

abbrev pub invariant-loop-self : goal.invariant-loop-self
invariant-loop-self l = record {
  same : l.self.order ≡ l.initial.self.order;
  parts : AreParts l.self.order.items l.self.live.items l.self.arrived l.self.whole (vec_capacity l.self.live) l.time;
  no_fewer : l.before ≤ length l.self.live.items;
  front : take l.before l.self.live.items ≡ l.initial.self.live.items;
}

abbrev pub decreases-loop-self : goal.decreases-loop-self
decreases-loop-self l = length l.self.order.items - l.self.arrived
