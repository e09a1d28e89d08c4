use Rattle.yds_model.proofs.Common.{◌≡◌, map, take, slice_get}
use Rattle.yds_plan.proofs.layout.timetable.levels_of_stretches.Given as goal

abbrev pub invariant-loop-place : goal.invariant-loop-place
invariant-loop-place l = l.levels.items ≡ map (slice_get l.numbers) (take l.place-index l.places)
