use Rattle.yds_model.proofs.Common.{◌≡◌, ℕ, ◌<◌, ◌≤◌, length, take, sum_by}
use Rattle.yds_avr.specs.Roster.{rate_at}
use Rattle.yds_avr.proofs.roster.Roster.leave.Given as goal

abbrev pub invariant-loop-stay : goal.invariant-loop-stay
invariant-loop-stay l = record {
  order : l.self.order ≡ l.initial.self.order;
  arrived : l.self.arrived ≡ l.initial.self.arrived;
  live : l.self.live ≡ l.initial.self.live;
  within : l.stay ≤ length l.self.live.items;
  together : l.self.whole ≡ sum_by (λ rate. rate.whole) (take l.stay l.self.live.items);
  due : (place : ℕ) → l.stay ≤ place → place < length l.self.live.items → (rate_at l.self.live.items place).deadline ≤ l.time;
}

abbrev pub decreases-loop-stay : goal.decreases-loop-stay
decreases-loop-stay l = l.stay
