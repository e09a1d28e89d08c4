use Rattle.yds_search.specs.Own.{own_windows, wants_at, rooms_at}
use Rattle.yds_search.specs.Fill.{IsNext}
use Rattle.yds_search.specs.Cells.{rooms_of}
use Rattle.yds_search.proofs.Reaches.{AreFilling}
use Rattle.yds_search.proofs.filling.Filling.fill.Given as goal

abbrev pub invariant-loop-job : goal.invariant-loop-job
invariant-loop-job l = record {
  filling : AreFilling (own_windows l.own.jobs.now) (wants_at l.fn.speed.per_work l.own.jobs.now) (rooms_at l.fn.speed.per_time l.own.stretches.now) l.job
      l.self.late l.self.shares.items l.self.cells.items;
  next : IsNext (rooms_of l.self.cells.items) l.self.next.items;
}
