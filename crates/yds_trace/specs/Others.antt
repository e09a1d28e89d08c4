-- Who else had a processor while a job of a listed task waited.
--
-- Behind a line a thread is in the way where it has the processor, is no listed task and not the idle one, and a job waits. A span goes from the
-- line behind which it is in the way to the line behind which it isn't any more.
use Rattle.std.specs.Prelude.{ℕ, ◌+◌, List, [], ◌∷◌, take, filter, reverse, max, min, Bool, true, false, not, ◌==◌, ◌&&◌, ◌||◌, nat_lt, if◌then◌else◌, Option, Some, None, is_none}
use Rattle.std.specs.List.{filter_map}
use Rattle.yds_kernel.specs.Event.{Thread, Said, Stamped, Lost, Nothing}
use Rattle.yds_trace.specs.declared.job.End.TheVariants as ends
use Rattle.yds_trace.specs.declared.limits.TheConstants.{MAX_OTHER_NAME}
use Rattle.yds_trace.specs.Asked.{Task, Asked, task_of}
use Rattle.yds_trace.specs.Past.{last_time, up_to, who_has}
use Rattle.yds_trace.specs.Jobs.{Job, Known, has_open_job, known_after}
use Rattle.yds_trace.specs.Late.{last_asked}

-- # Whether a job waits

-- Its job is open, and its thread has no processor.
abbrev pub is_waiting : Known → Bool
is_waiting known = is_none known.on && has_open_job known.jobs

-- a job of these tasks waits, from this number on
abbrev pub one_waits : Asked → List Said → ℕ → List Task → Bool
one_waits asked past number [] = false
one_waits asked past number (task ∷ tasks) = is_waiting (known_after asked number past) || one_waits asked past (number + 1) tasks

abbrev pub any_waits : Asked → List Said → Bool
any_waits asked past = one_waits asked past 0 asked.tasks

-- # Who is in the way

-- it is no listed task, and not the idle thread
abbrev pub is_other : List Task → Thread → Bool
is_other tasks thread = not (thread.pid == 0) && is_none (task_of tasks thread)

abbrev pub other_of : List Task → Option Thread → Option Thread
other_of tasks None = None
other_of tasks (Some thread) = if is_other tasks thread then Some thread else None

abbrev pub in_the_way : Asked → ℕ → List Said → Option Thread
in_the_way asked processor past = if any_waits asked past then other_of asked.tasks (who_has processor past) else None

-- # Spans

-- so much of its name is kept
abbrev pub shortened : Thread → Thread
shortened thread = record { name = take MAX_OTHER_NAME thread.name; pid = thread.pid }

-- a thread that had the processor for a time; of its name so much as is kept
pub record Span : Type 0 where
  pub name : List ℕ
  pub pid : ℕ
  -- nanoseconds
  pub from : ℕ
  pub to : ℕ

-- a thread that is in the way, and since when
pub record Going : Type 0 where
  pub name : List ℕ
  pub pid : ℕ
  pub since : ℕ

-- the spans that have ended, the last one first, and what goes on
pub record Spans : Type 0 where
  pub ended : List Span
  pub going : Option Going

abbrev pub no_spans : Spans
no_spans = record { ended = []; going = None }

-- the same thread is in the way, or none as before
abbrev pub is_same : Option Thread → Option Going → Bool
is_same None None = true
is_same None (Some going) = false
is_same (Some thread) None = false
is_same (Some thread) (Some going) = thread.pid == going.pid

abbrev pub span_until : ℕ → Going → Span
span_until time going = record { name = going.name; pid = going.pid; from = going.since; to = time }

-- What goes on ends at this time; it is a span where it took time.
abbrev pub ended_at : ℕ → Spans → List Span
ended_at time spans = elim spans.going [
  | None ↦ spans.ended
  | Some going ↦ if nat_lt going.since time then span_until time going ∷ spans.ended else spans.ended
]

abbrev pub going_from : ℕ → Option Thread → Option Going
going_from time None = None
going_from time (Some thread) = Some (record { name = (shortened thread).name; pid = thread.pid; since = time })

-- behind a line of this time, behind which this thread is in the way
abbrev pub spans_by : ℕ → Option Thread → Spans → Spans
spans_by time now spans = if is_same now spans.going then spans else record { ended = ended_at time spans; going = going_from time now }

abbrev pub spans_after : Asked → ℕ → List Said → Spans
spans_after asked processor [] = no_spans
spans_after asked processor (Stamped event ∷ past) =
    spans_by event.time (in_the_way asked processor (Stamped event ∷ past)) (spans_after asked processor past)
spans_after asked processor (Lost other reach ∷ past) = spans_by (last_time past) None (spans_after asked processor past)
spans_after asked processor (Nothing ∷ past) = spans_after asked processor past

-- # What is told of them

-- In order of time. What goes on at the end of what is asked for has gone on until then.
abbrev pub spans_on : Asked → List Said → ℕ → List Span
spans_on asked past processor = reverse (ended_at (last_asked asked past) (spans_after asked processor (up_to asked.to past)))

abbrev pub others_of : Asked → List Said → List Span
others_of asked past = elim asked.others [ None ↦ [] | Some processor ↦ spans_on asked past processor ]

-- it goes on behind this time
abbrev pub goes_behind : ℕ → Span → Bool
goes_behind time span = nat_lt time span.to

-- those that aren't in the parts before this time, or not whole
abbrev pub others_from : Asked → List Said → ℕ → List Span
others_from asked past boundary = filter (goes_behind boundary) (others_of asked past)

-- What of a span lies between two times; without the second, behind the first.
abbrev pub earlier_of : Option ℕ → ℕ → ℕ
earlier_of None time = time
earlier_of (Some until) time = min until time

abbrev pub span_within : ℕ → Option ℕ → Span → Option Span
span_within from until span =
    if nat_lt (max from span.from) (earlier_of until span.to)
    then Some (record span { from = max from span.from; to = earlier_of until span.to }) else None

abbrev pub spans_within : ℕ → Option ℕ → List Span → List Span
spans_within from until spans = filter_map (span_within from until) spans
