use Rattle.yds_model.proofs.Common.{◌≡◌, ◌-◌, ◌≤◌, ◌<◌, List, length, All}
use Rattle.yds_timetable.specs.Shares.{JobShare}
use Rattle.yds_events.specs.Window.{window_at}
use Rattle.yds_search.specs.Own.{own_windows}
use Rattle.yds_search.specs.Fill.{IsNotAfter, AreTaken, IsNext}
use Rattle.yds_search.specs.Cells.{rooms_of, IsServing}
use Rattle.yds_search.proofs.filling.Filling.serve.Given as goal

abbrev pub invariant-loop-place : goal.invariant-loop-place
invariant-loop-place l = record {
  served : (shares : List JobShare) → AreTaken IsNotAfter (own_windows l.jobs) (length (rooms_of l.initial.self.cells.items)) shares (rooms_of l.initial.self.cells.items) →
      All (λ share. share.job < l.job) shares → IsServing (own_windows l.jobs) l.job l.want l.initial.self.late l.initial.self.shares.items shares l.initial.self.cells.items
      l.place l.left l.self.shares.items l.self.cells.items;
  next : IsNext (rooms_of l.self.cells.items) l.self.next.items;
  from : (window_at (own_windows l.jobs) l.job).first ≤ l.place;
  within : l.place < length l.self.next.items;
  count : length l.self.cells.items ≡ length l.initial.self.cells.items;
  late : l.self.late ≡ l.initial.self.late;
}

abbrev pub decreases-loop-place : goal.decreases-loop-place
decreases-loop-place l = length l.self.next.items - l.place
