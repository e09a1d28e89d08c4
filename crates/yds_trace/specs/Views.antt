-- What contracts see of what the code keeps: of each task's jobs, which stand in order of their begins, as the stretches of each do, and of what is asked.
use Rattle.std.specs.Prelude.{List, map, reverse}
use Rattle.yds_trace.specs.declared.asked.Which.{Which as WhichKept}
use Rattle.yds_trace.specs.declared.asked.Which.TheVariants as whiches
use Rattle.yds_trace.specs.declared.asked.Task.{Task as TaskKept}
use Rattle.yds_trace.specs.declared.asked.StartSpeed.{StartSpeed as StartSpeedKept}
use Rattle.yds_trace.specs.declared.asked.Start.{Start as StartKept}
use Rattle.yds_trace.specs.declared.asked.Start.TheVariants as starts
use Rattle.yds_trace.specs.declared.asked.Asked.{Asked as AskedKept}
use Rattle.yds_trace.specs.declared.job.Job.{Job as JobKept}
use Rattle.yds_trace.specs.declared.known.Known.{Known as KnownKept}
use Rattle.yds_trace.specs.declared.others.Another.{Another as AnotherKept}
use Rattle.yds_trace.specs.declared.others.Going.{Going as GoingKept}
use Rattle.yds_trace.specs.declared.others.Span.{Span as SpanKept}
use Rattle.yds_kernel.specs.Event.{Thread}
use Rattle.yds_trace.specs.Asked.{Which, Named, Numbered, Task, StartSpeed, Start, Fixed, Same, Listed, Asked}
use Rattle.yds_trace.specs.Jobs.{Job, Known}
use Rattle.yds_trace.specs.Others.{Span, Going}

abbrev pub job_read : JobKept → Job
job_read job = record {
  begin = job.begin;
  begin_known = job.begin_known;
  due_from = job.due_from;
  end = job.end;
  stretches = reverse job.stretches.items;
  wake_ups = job.wake_ups;
  switch_missing = job.switch_missing;
  slept = job.slept;
  exited = job.exited;
  shared = job.shared;
}

abbrev pub jobs_listed : List JobKept → List Job
jobs_listed jobs = reverse (map job_read jobs)

abbrev pub known_read : KnownKept → Known
known_read known = record { jobs = jobs_listed known.jobs.items; on = known.on; woken = known.woken }

-- # What is asked

abbrev pub which_read : WhichKept → Which
which_read (whiches.Named name) = Named name.items
which_read (whiches.Numbered pid) = Numbered pid

abbrev pub task_read : TaskKept → Task
task_read task = record { label = task.label.items; thread = which_read task.thread; deadline = task.deadline; apart = task.apart; period = task.period }

abbrev pub speed_read : StartSpeedKept → StartSpeed
speed_read speed = record { processor = speed.processor; khz = speed.khz }

abbrev pub start_read : StartKept → Start
start_read (starts.Fixed khz) = Fixed khz
start_read (starts.Same khz) = Same khz
start_read (starts.Listed speeds) = Listed (map speed_read speeds.items)

abbrev pub asked_read : AskedKept → Asked
asked_read asked = record {
  tasks = map task_read asked.tasks.items;
  processor = asked.processor;
  unit = asked.unit;
  khz = asked.khz;
  start = start_read asked.start;
  from = asked.from;
  to = asked.to;
  begin_at_run = asked.begin_at_run;
  cut_losses = asked.cut_losses;
  in_parts = asked.in_parts;
  everywhere = asked.everywhere;
  moved_parts = asked.moved_parts;
  others = asked.others;
}

-- # Who was in the way

abbrev pub span_read : SpanKept → Span
span_read span = record { name = span.name.items; pid = span.pid; from = span.from; to = span.to }

abbrev pub another_read : AnotherKept → Thread
another_read thread = record { name = thread.name.items; pid = thread.pid }

abbrev pub going_read : GoingKept → Going
going_read going = record { name = going.thread.name.items; pid = going.thread.pid; since = going.since }
