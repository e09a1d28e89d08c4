use Rattle.yds_model.proofs.Common.{◌≡◌, ◌+◌, take, map, sum_by}
use Rattle.yds_spending.specs.Load.{level_load}
use Rattle.yds_spending.proofs.load.loads_of_levels.Given as goal

abbrev pub invariant-loop-level : goal.invariant-loop-level
invariant-loop-level l = record {
  loads : l.loads.items ≡ map level_load (take l.level-index l.levels);
  rest : l.rest + sum_by (λ level. level.length) (take l.level-index l.levels) ≡ l.fn.time;
}
