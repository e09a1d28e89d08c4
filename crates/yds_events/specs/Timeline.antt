-- The jobs' time in order.
use Rattle.std.specs.Prelude.{◌≡◌, List}
use Rattle.yds_model.specs.Job.{Job}
use Rattle.yds_model.specs.Event.{stretches}
use Rattle.yds_events.specs.declared.timeline.Timeline.{Timeline}
use Rattle.yds_events.specs.ServingOrder.{IsOrder}
use Rattle.yds_events.specs.Window.{AreWindows}

-- the jobs' stretches, their windows among these, and who is due when
pub record IsTimeline (jobs : List Job) (timeline : Timeline) : Type 0 where
  pub cut : timeline.stretches.items ≡ stretches jobs
  pub windows_are : AreWindows jobs timeline.windows.items
  pub ordered : IsOrder jobs timeline.order.items
