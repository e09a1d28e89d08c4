-- What a pass answers to a line, and at the end.
use Rattle.std.specs.Prelude.{◌≡◌, ℕ, List, false, Option, Some, None, Result, Ok, Err}
use Rattle.yds_kernel.specs.Event.{Said}
use Rattle.yds_trace.specs.declared.fault.Cause.{Cause}
use Rattle.yds_trace.specs.declared.job.Standing.{Standing}
use Rattle.yds_trace.specs.declared.refused.Refused.{Refused}
use Rattle.yds_trace.specs.declared.refused.Refused.TheVariants as refusals
use Rattle.yds_trace.specs.Asked.{Start}
use Rattle.yds_trace.specs.Past.{speed_after}
use Rattle.yds_trace.specs.Jobs.{Job, Known, changed_last, not_seen, ran}

-- It is refused for this fault, and for no other. Memory may be wanting at any line.
abbrev pub IsRefusedFor : Option Cause → Refused → Type 0
IsRefusedFor fault (refusals.Fault cause) = fault ≡ Some cause
IsRefusedFor fault refusals.Memory = Unit {0}

-- for what a test refuses, if it does
abbrev pub fault_in : {A : Type 0} → Result A Cause → Option Cause
fault_in (Ok passed) = None
fault_in (Err cause) = Some cause

-- the jobs of a thread of which this is known: what still has its processor has had it until this time
abbrev pub closed_at : ℕ → Start → List Said → Known → List Job
closed_at until start counting known = elim known.on [
  | None ↦ known.jobs
  | Some standing ↦ changed_last (ran (record {
    processor = standing.processor;
    from = standing.since;
    to = until;
    khz = speed_after start standing.processor counting;
  })) known.jobs
]

-- a thread that stands there, with these jobs
abbrev pub standing_on : Option Standing → List Job → Known
standing_on on jobs = record { jobs = jobs; on = on; woken = not_seen }
