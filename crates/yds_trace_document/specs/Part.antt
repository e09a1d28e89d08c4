-- What is settled of the jobs of a part: as that of a document, with times of its own.
use Rattle.std.specs.Prelude.{ℕ, ◌+◌, ◌-◌, ◌*◌, ◌/◌, List, [], ◌∷◌, map, filter, length, max, Bool, ◌==◌, ◌&&◌, ◌||◌, nat_lt, if◌then◌else◌, Option, unwrap_or}
use Rattle.std.specs.List.{filter_map}
use Rattle.yds_kernel.specs.Event.{Said}
use Rattle.yds_trace.specs.Asked.{Task, Asked}
use Rattle.yds_trace.specs.Past.{first_time}
use Rattle.yds_trace.specs.WrittenTime.{Units}
use Rattle.yds_trace.specs.Document.{Judged, judged_of, written_of, all_runs}
use Rattle.yds_trace.specs.declared.cut.Cut.{Cut}
use Rattle.yds_trace.specs.Others.{Span, spans_within, others_from}
use Rattle.yds_trace.specs.declared.tally.Tally.{Tally}
use Rattle.yds_trace.specs.Tally.{tally_of}
use Rattle.yds_trace.specs.Parts.{begins_from, of_part, part_until}
use Rattle.yds_trace_document.specs.declared.fault.DocumentFault.{DocumentFault}
use Rattle.yds_trace_document.specs.Settled.{Settled}
use Rattle.yds_trace_document.specs.Limits.{limit_fault, late_fault}

-- # Times

-- Time 0 of all parts together is `from`, or else the time of the trace's first line.
abbrev pub whole_zero : Asked → List Said → ℕ
whole_zero asked past = unwrap_or asked.from (first_time 0 past)

-- so many units before the first job of a part: they are taken off each of its times
abbrev pub shift_from : ℕ → ℕ → List Judged → ℕ
shift_from origin unit [] = 0
shift_from origin unit (judged ∷ jobs) = (judged.job.begin - origin) / unit

abbrev pub shift_of : Asked → List Said → List Judged → ℕ
shift_of asked past part = shift_from (whole_zero asked past) asked.unit part

abbrev pub shifted : ℕ → Asked → ℕ → Units
shifted origin asked shift = record { zero = origin + shift * asked.unit; time = asked.unit; speed = asked.khz }

abbrev pub part_units : Asked → List Said → List Judged → Units
part_units asked past part = shifted (whole_zero asked past) asked (shift_of asked past part)

-- # Jobs

-- the waiting jobs of each of these tasks, from this number on
abbrev pub waiting_by_task : Asked → List Said → Cut → ℕ → List Task → List (List Judged)
waiting_by_task asked past cut number [] = []
waiting_by_task asked past cut number (task ∷ tasks) =
    filter (begins_from cut.boundary) (judged_of asked past number) ∷ waiting_by_task asked past cut (number + 1) tasks

-- the part's jobs of each task
abbrev pub part_by_task : Asked → List Said → Cut → Option ℕ → List (List Judged)
part_by_task asked past cut until = map (of_part asked until) (waiting_by_task asked past cut 0 asked.tasks)

-- Who else had the processor while a job waited, between the part's time 0, but not before the parts in front of it, and its end.
abbrev pub others_until : Asked → List Said → Cut → Option ℕ → List Span
others_until asked past cut until =
    spans_within (max cut.boundary (part_units asked past (part_until asked past cut until)).zero) until (others_from asked past cut.boundary)

-- these jobs in these units
abbrev pub settled_in : Units → List (List Judged) → List Judged → List Span → Tally → Settled
settled_in units by_task part others tally = record {
  units = units;
  by_task = by_task;
  judged = part;
  document = record {
    jobs = filter_map (written_of units) part;
    runs = all_runs (filter_map (written_of units) part);
  };
  others = others;
  tally = tally;
}

-- What is settled of the part that ends at this time, or of the last one. What the trace lacks is counted from its begin.
abbrev pub part_of : Asked → List Said → Cut → Option ℕ → Settled
part_of asked past cut until =
    settled_in (part_units asked past (part_until asked past cut until)) (part_by_task asked past cut until)
    (part_until asked past cut until) (others_until asked past cut until) (tally_of asked past)

-- # Limits

-- A part may be without a job: the last one, where there are others, and each where each processor has its own.
abbrev pub part_limit_fault : Asked → Bool → Cut → Settled → Option DocumentFault
part_limit_fault asked strict cut settled =
    if (asked.everywhere || nat_lt 0 cut.parts) && (length settled.document.jobs == 0) then late_fault strict settled.judged
    else limit_fault strict settled
