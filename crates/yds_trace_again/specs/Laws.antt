-- What follows for whoever reads a trace's document again.
use Rattle.std.specs.Prelude.{◌≡◌, ◌≢◌, ◌≤◌, ℕ, List, length, map, filter, Bool, true, Option, None}
use Rattle.std.specs.List.{All, AllPairs}
use Rattle.base.specs.declared.limits.TheConstants.{MAX_INPUT}
use Rattle.base.specs.Spelling.{is_name}
use Rattle.yds_kernel.specs.Event.{Said}
use Rattle.yds_trace.specs.declared.tally.Tally.{Tally}
use Rattle.yds_trace.specs.Asked.{Task, Asked, IsAsked}
use Rattle.yds_trace.specs.declared.cut.Cut.{Cut}
use Rattle.yds_trace.specs.Faults.{first_fault}
use Rattle.yds_trace.specs.WrittenTime.{Units}
use Rattle.yds_trace.specs.Document.{Judged, all_judged}
use Rattle.yds_trace.specs.Others.{Span}
use Rattle.yds_trace_laws.specs.InUnits.{NoneBefore}
use Rattle.yds_trace_document.specs.Settled.{Settled, settled_of, judged_by_task}
use Rattle.yds_trace_document.specs.Part.{settled_in, part_of, part_limit_fault}
use Rattle.yds_trace_document.specs.Limits.{limit_fault}
use Rattle.yds_trace_text.specs.Text.{late_comment, settled_text, text_of}
use Rattle.yds_trace_text.specs.PartText.{part_text}
use Rattle.yds_trace_again.specs.Again.{IsReadAs, IsReadAgain}
use Rattle.yds_trace_again.specs.Holds.{Holds}

-- Each label is a name as a job may have one, and no two tasks have the same.
pub record AreLabelled (tasks : List Task) : Type 0 where
  pub names : All (λ task. is_name task.label ≡ true) tasks
  pub different : AllPairs (λ task other. task.label ≢ other.label) tasks

-- what is settled of the jobs that pass a test, in units of their own
abbrev pub settled_where : Asked → List Said → Units → (Judged → Bool) → List Span → Tally → Settled
settled_where asked past units test others tally =
    settled_in units (map (filter test) (judged_by_task asked past 0 asked.tasks)) (filter test (all_judged asked past)) others tally

-- The text of some of a trace's jobs is read again as their document, where that passes no limit, and none of them that stands as it is begins
-- before time 0.
abbrev pub SomeAreReadAgain : Type 0
SomeAreReadAgain = (asked : Asked) (strict : Bool) (past : List Said) (units : Units) (test : Judged → Bool) (others : List Span) (tally : Tally) →
    IsAsked asked → AreLabelled asked.tasks → units.time ≡ asked.unit → NoneBefore units (filter test (all_judged asked past)) →
    limit_fault strict (settled_where asked past units test others tally) ≡ None →
    length (settled_text asked (settled_where asked past units test others tally)) ≤ MAX_INPUT →
    IsReadAs (settled_where asked past units test others tally).document (settled_text asked (settled_where asked past units test others tally))

-- The text of a trace's document that passes no limit is read again.
abbrev pub ReadAgain : Type 0
ReadAgain = (asked : Asked) (strict : Bool) (past : List Said) → IsAsked asked → AreLabelled asked.tasks →
    limit_fault strict (settled_of asked past) ≡ None → length (text_of asked past) ≤ MAX_INPUT → IsReadAgain asked past (text_of asked past)

-- The text of a part of a trace without a fault is read again as just the part's jobs and their runs, where that passes no limit. The line that
-- says which part it is is a comment.
abbrev pub PartsAreReadAgain : Type 0
PartsAreReadAgain = (asked : Asked) (strict : Bool) (past : List Said) (cut : Cut) (until : Option ℕ) → IsAsked asked → AreLabelled asked.tasks →
    first_fault asked past ≡ None → part_limit_fault asked strict cut (part_of asked past cut until) ≡ None → length (part_text asked past cut until) ≤ MAX_INPUT →
    IsReadAs (part_of asked past cut until).document (part_text asked past cut until)

-- Each late job of a document has its comment in the document's text.
abbrev pub LateJobsAreNamed : Type 0
LateJobsAreNamed = (asked : Asked) (settled : Settled) → All (λ one. Holds (settled_text asked settled) (late_comment settled.units one)) settled.judged
