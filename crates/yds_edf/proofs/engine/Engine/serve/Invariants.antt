use Rattle.yds_model.proofs.Common.{◌≤◌, length, vec_capacity}
use Rattle.yds_edf.proofs.Serving.{Progress}
use Rattle.yds_edf.proofs.engine.Engine.serve.Given as goal

abbrev pub invariant-loop-room : goal.invariant-loop-room
invariant-loop-room l = record {
  progress : Progress l.initial.self l.self l.stretch l.capacity l.room l.shares.items;
  has_room : length l.initial.self.queue.jobs ≤ vec_capacity l.shares;
}

abbrev pub decreases-loop-room : goal.decreases-loop-room
decreases-loop-room l = l.room
