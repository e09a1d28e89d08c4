-- A trace's document as a reader of documents takes it: with one tick in a unit of time, a run is the slot of its speed times its time.
use Rattle.std.specs.Prelude.{List, map}
use Rattle.yds_model.specs.Job.{Job}
use Rattle.yds_model.specs.Scale.{of_whole}
use Rattle.yds_model.specs.Slot.{WrittenSlot}
use Rattle.yds_trace.specs.WrittenTime.{work_of_run}
use Rattle.yds_trace.specs.Document.{Written, Placed}

abbrev pub job_read : Written → Job
job_read written = record { release = written.release; deadline = written.deadline; work = written.work }

abbrev pub slot_read : Placed → WrittenSlot
slot_read placed = record {
  job = placed.job;
  from = of_whole placed.run.from;
  to = of_whole placed.run.to;
  work = of_whole (work_of_run placed.run);
}

abbrev pub jobs_read : List Written → List Job
jobs_read jobs = map job_read jobs

abbrev pub slots_read : List Placed → List WrittenSlot
slots_read runs = map slot_read runs
