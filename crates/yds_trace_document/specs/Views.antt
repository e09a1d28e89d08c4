-- What contracts see of what the code keeps: lists and names for what is lent.
use Rattle.std.specs.Prelude.{ℕ, List, map, reverse, Vec, Option, option_map}
use Rattle.std.specs.declared.alloc.Global.{Global}
use Rattle.yds_trace.specs.WrittenTime.{Units, Run}
use Rattle.yds_trace.specs.Views.{job_read}
use Rattle.yds_trace.specs.Others.{Span}
use Rattle.yds_trace.specs.Document.{named, name_in_parts, Judged, Written, Placed}
use Rattle.yds_trace.specs.declared.reason.Reason.{Reason}
use Rattle.yds_trace.specs.declared.reason.Reason.TheVariants as reasons
use Rattle.yds_trace_document.specs.declared.left_out.Counts.{Counts}
use Rattle.yds_trace_document.specs.declared.units.Units.{Units as UnitsKept}
use Rattle.yds_trace_document.specs.declared.run.Run.{Run as RunKept}
use Rattle.yds_trace_document.specs.declared.name.Name.{Name as NameKept}
use Rattle.yds_trace_document.specs.declared.other.Other.{Other as OtherKept}
use Rattle.yds_trace_document.specs.declared.judged.Judged.{Judged as JudgedKept}
use Rattle.yds_trace_document.specs.declared.judge.Within.{Within as WithinKept}
use Rattle.yds_trace_document.specs.Kept.{Within}
use Rattle.yds_trace_document.specs.declared.written.Written.{Written as WrittenKept}
use Rattle.yds_trace_document.specs.declared.placed.Placed.{Placed as PlacedKept}
use Rattle.yds_trace_document.specs.declared.settlement.Settled.{Settled as SettledKept}
use Rattle.yds_trace_document.specs.Settled.{Settled}

abbrev pub units_read : UnitsKept → Units
units_read units = record { zero = units.zero; time = units.time; speed = units.speed }

abbrev pub run_read : RunKept → Run
run_read run = record { from = run.from; to = run.to; speed = run.speed }

-- runs that are kept in order of time, and those that are kept with the last one first
abbrev pub runs_read : List RunKept → List Run
runs_read runs = map run_read runs

abbrev pub runs_listed : List RunKept → List Run
runs_listed runs = reverse (map run_read runs)

-- the job's own name, and the one by which it is written
abbrev pub base_name : NameKept → List ℕ
base_name name = named name.label.now name.before name.number

abbrev pub name_read : NameKept → List ℕ
name_read name = name_in_parts (base_name name) name.part

abbrev pub judged_read : JudgedKept → Judged
judged_read judged = record {
  task = judged.task;
  name = base_name judged.name;
  part = judged.name.part;
  job = job_read judged.job.now;
  due = judged.due;
  late = judged.late;
  unsure = judged.unsure;
  reason = judged.reason;
}

abbrev pub within_read : WithinKept → Within
within_read within = record {
  processor = within.processor;
  from = within.from;
  to = within.to;
  unit = within.unit;
  begin_at_run = within.begin_at_run;
  cut_losses = within.cut_losses;
  first = within.first;
  last = within.last;
}

abbrev pub judged_list : List JudgedKept → List Judged
judged_list judged = map judged_read judged

abbrev pub judged_items : Vec JudgedKept Global → List Judged
judged_items judged = judged_list judged.items

abbrev pub judged_lists : List (Vec JudgedKept Global) → List (List Judged)
judged_lists by_task = map judged_items by_task

abbrev pub written_read : WrittenKept → Written
written_read job = record {
  name = name_read job.name;
  release = job.release;
  deadline = job.deadline;
  work = job.work;
  runs = runs_read job.runs.items;
}

abbrev pub written_option : Option WrittenKept → Option Written
written_option job = option_map written_read job

abbrev pub written_list : List WrittenKept → List Written
written_list jobs = map written_read jobs

abbrev pub placed_read : PlacedKept → Placed
placed_read placed = record { job = placed.job; run = run_read placed.run }

abbrev pub placed_list : List PlacedKept → List Placed
placed_list placed = map placed_read placed

abbrev pub other_read : OtherKept → Span
other_read other = record { name = other.name.now; pid = other.pid; from = other.from; to = other.to }

abbrev pub settled_read : SettledKept → Settled
settled_read settled = record {
  units = units_read settled.units;
  by_task = judged_lists settled.by_task.items;
  judged = judged_list settled.judged.items;
  document = record { jobs = written_list settled.jobs.items; runs = placed_list settled.runs.items };
  others = map other_read settled.others.items;
  tally = settled.tally;
}

-- how many jobs have this reason, of those that were counted
abbrev pub count_in : Counts → Reason → ℕ
count_in counts reasons.BeforeFrom = counts.before_from
count_in counts reasons.AfterTo = counts.after_to
count_in counts reasons.NotEnded = counts.not_ended
count_in counts reasons.EventsLost = counts.events_lost
count_in counts reasons.SwitchMissing = counts.switch_missing
count_in counts reasons.BeginUnseen = counts.begin_unseen
count_in counts reasons.DueBefore = counts.due_before
count_in counts reasons.Moved = counts.moved
count_in counts reasons.SpeedUnknown = counts.speed_unknown
