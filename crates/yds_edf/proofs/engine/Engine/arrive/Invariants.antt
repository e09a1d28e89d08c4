use Rattle.yds_model.proofs.Common.{◌≡◌, ℕ, ◌-◌, ◌<◌, ◌≤◌, length}
use Rattle.yds_edf.specs.DueOrder.{due_at}
use Rattle.yds_edf.specs.Engine.{IsTiedQueue, AreArrived}
use Rattle.yds_edf.proofs.engine.Engine.arrive.Given as goal

abbrev pub invariant-loop-self : goal.invariant-loop-self
invariant-loop-self l = record {
  kept : IsTiedQueue (record {
    queue = record {
      jobs = l.self-inside.rows.items;
      grain = l.self-inside.grain;
      time = l.self-inside.time;
      served = l.self-inside.served.items;
    };
    ties = l.self-inside.ties.items;
  });
  jobs : AreArrived (record {
    queue = record {
      jobs = l.self-inside.rows.items;
      grain = l.self-inside.grain;
      time = l.self-inside.time;
      served = l.self-inside.served.items;
    };
    ties = l.self-inside.ties.items;
  }) l.self-inside.arrivals.items l.self-inside.arrived l.self-inside.pending;
  before : (k : ℕ) → k < l.self-inside.arrived → (due_at l.self-inside.arrivals.items k).release ≤ l.time;
  within : l.self-inside.arrived ≤ length l.self-inside.arrivals.items;
  rows : l.self-inside.rows ≡ l.initial.self-inside.rows;
  ties : l.self-inside.ties ≡ l.initial.self-inside.ties;
  grain : l.self-inside.grain ≡ l.initial.self-inside.grain;
  time : l.self-inside.time ≡ l.initial.self-inside.time;
  served : l.self-inside.served ≡ l.initial.self-inside.served;
}

abbrev pub decreases-loop-self : goal.decreases-loop-self
decreases-loop-self l = length l.self-inside.arrivals.items - l.self-inside.arrived
