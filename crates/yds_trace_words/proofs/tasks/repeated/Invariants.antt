use Rattle.base.proofs.Common.{◌≡◌, ◌+◌, map, length}
use Rattle.yds_trace.specs.Views.{task_read}
use Rattle.yds_trace_words.specs.Tasks.{different_from}
use Rattle.yds_trace_words.proofs.tasks.repeated.Given as goal

abbrev pub invariant-loop-rest : goal.invariant-loop-rest
invariant-loop-rest l = record {
  same : different_from l.place (map task_read l.rest) ≡ different_from 1 (map task_read l.tasks);
  place : l.place + length l.rest ≡ 1 + length l.tasks;
}

abbrev pub decreases-loop-rest : goal.decreases-loop-rest
decreases-loop-rest l = length l.rest
