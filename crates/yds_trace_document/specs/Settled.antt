-- What a trace makes of the jobs that are asked for: each job judged, and the document of those that are written.
use Rattle.std.specs.Prelude.{ℕ, ◌+◌, List, [], ◌∷◌, map, None}
use Rattle.yds_kernel.specs.Event.{Said}
use Rattle.yds_kernel.specs.Parts.{capped}
use Rattle.yds_trace.specs.Asked.{Task, Asked}
use Rattle.yds_trace.specs.Others.{Span, spans_within, others_of}
use Rattle.yds_trace.specs.declared.tally.Tally.{Tally}
use Rattle.yds_trace.specs.Tally.{tally_of}
use Rattle.yds_trace.specs.WrittenTime.{Units}
use Rattle.yds_trace.specs.Document.{Judged, judged_of, all_judged, time_zero, units_of, Written, Document, document_of}

-- the judged jobs of each of these tasks, from this number on
abbrev pub judged_by_task : Asked → List Said → ℕ → List Task → List (List Judged)
judged_by_task asked past number [] = []
judged_by_task asked past number (task ∷ tasks) = judged_of asked past number ∷ judged_by_task asked past (number + 1) tasks

pub record Settled : Type 0 where
  pub units : Units
  -- of each task
  pub by_task : List (List Judged)
  -- of all tasks, in order of begin
  pub judged : List Judged
  pub document : Document
  -- who else had the processor while a job waited, from time 0 on
  pub others : List Span
  -- what the trace lacks
  pub tally : Tally

abbrev pub settled_of : Asked → List Said → Settled
settled_of asked past = record {
  units = units_of asked past;
  by_task = judged_by_task asked past 0 asked.tasks;
  judged = all_judged asked past;
  document = document_of asked past;
  others = spans_within (time_zero asked past) None (others_of asked past);
  tally = tally_of asked past;
}

-- A work beyond 64 bits is kept as the greatest one of 64 bits, which the limits refuse.
abbrev pub with_capped_work : Written → Written
with_capped_work job = record job { work = capped job.work }

abbrev pub with_capped_works : Settled → Settled
with_capped_works settled =
    record settled { document = record { jobs = map with_capped_work settled.document.jobs; runs = settled.document.runs } }
