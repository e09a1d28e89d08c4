-- Some of a trace's jobs as a document, in units of its own: the trace's document has all jobs that are judged, and a part has some of them.
use Rattle.std.specs.Prelude.{◌≡◌, ◌≤◌, List, true}
use Rattle.std.specs.List.{filter_map, All, Contains}
use Rattle.yds_kernel.specs.Event.{Said}
use Rattle.yds_trace.specs.Asked.{Asked}
use Rattle.yds_trace.specs.WrittenTime.{Units}
use Rattle.yds_trace.specs.Document.{Judged, all_judged, stands, written_of, all_runs, Document}

-- the document of these jobs in these units
abbrev pub document_in : Units → List Judged → Document
document_in units ones = record { jobs = filter_map (written_of units) ones; runs = all_runs (filter_map (written_of units) ones) }

-- These jobs are judged ones of the trace.
abbrev pub AreOf : Asked → List Said → List Judged → Type 0
AreOf asked past ones = All (Contains (all_judged asked past)) ones

-- None of them that stands as it is begins before time 0.
abbrev pub NoneBefore : Units → List Judged → Type 0
NoneBefore units ones = All (λ one. stands one ≡ true → units.zero ≤ one.job.begin) ones
