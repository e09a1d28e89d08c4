-- What the code gives of the jobs that wait, and of a part.
use Rattle.std.specs.Prelude.{◌≡◌, ℕ, List, map, Vec, Bool, true, nat_lt, Option, Some, None}
use Rattle.std.specs.declared.alloc.Global.{Global}
use Rattle.yds_kernel.specs.Event.{Said}
use Rattle.yds_trace.specs.declared.cut.Cut.{Cut}
use Rattle.yds_trace.specs.Asked.{Asked}
use Rattle.yds_trace.specs.Document.{Judged}
use Rattle.yds_trace.specs.Others.{others_from}
use Rattle.yds_trace.specs.Parts.{of_part, waiting, part_until}
use Rattle.yds_trace.specs.Tally.{tally_of}
use Rattle.yds_trace_document.specs.declared.judged.Judged.{Judged as JudgedKept}
use Rattle.yds_trace_document.specs.declared.part.Part.{Part as PartKept}
use Rattle.yds_trace_document.specs.declared.part.Waiting.{Waiting as WaitingKept}
use Rattle.yds_trace_document.specs.Settled.{with_capped_works}
use Rattle.yds_trace_document.specs.Part.{shift_of, waiting_by_task, part_of}
use Rattle.yds_trace_document.specs.Views.{judged_items, judged_list, judged_lists, other_read, settled_read}

abbrev pub is_before : Option ℕ → ℕ → Bool
is_before None time = true
is_before (Some until) time = nat_lt time until

-- These are the jobs that wait behind these lines, who was in the way behind the parts before, and what the lines lack.
pub record IsWaiting (asked : Asked) (past : List Said) (cut : Cut) (kept : WaitingKept) : Type 0 where
  pub by_task : judged_lists kept.by_task.items ≡ waiting_by_task asked past cut 0 asked.tasks
  pub judged : judged_list kept.judged.items ≡ waiting asked past cut
  pub boundary : kept.boundary ≡ cut.boundary
  pub others : map other_read kept.others.items ≡ others_from asked past cut.boundary
  pub tally : kept.tally ≡ tally_of asked past

-- those of a task's jobs that the part has
abbrev pub items_of_part : Asked → Option ℕ → Vec JudgedKept Global → List Judged
items_of_part asked until judged = of_part asked until (judged_items judged)

-- it is the part of these lines that ends at this time, or the last one
pub record IsPart (asked : Asked) (past : List Said) (cut : Cut) (until : Option ℕ) (part : PartKept) : Type 0 where
  pub settled : settled_read part.settled ≡ with_capped_works (part_of asked past cut until)
  pub shift : part.shift ≡ shift_of asked past (part_until asked past cut until)
