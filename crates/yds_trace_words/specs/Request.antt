-- What the words of the command line ask for.
use Rattle.std.specs.Prelude.{◌≡◌, ◌≢◌, ℕ, ◌*◌, ◌≤◌, List, [], ◌∷◌, length, codes, Bool, true, false, ◌==◌, ◌||◌, nat_lt, if◌then◌else◌, Option, Some, None, option_map, is_some, is_none, unwrap_or, IfSome, Result, Ok, Err}
use Rattle.std.specs.List.{All, AllPairs}
use Rattle.std.specs.Str.{bytes_eq}
use Rattle.base.specs.Spelling.{number_at}
use Rattle.yds_kernel.specs.declared.limits.TheConstants.{MAX_NUMBER}
use Rattle.yds_trace.specs.declared.limits.TheConstants.{MAX_PROCESSOR, MAX_TIME}
use Rattle.yds_trace.specs.Asked.{Start, Fixed, Asked, IsAsked, IsWithin}
use Rattle.yds_trace_bounds.specs.declared.bounds.Moment.{Moment}
use Rattle.yds_trace_bounds.specs.declared.bounds.Moment.TheVariants.{Clock, AfterFirst}
use Rattle.yds_trace_bounds.specs.declared.bounds.Bounds.{Bounds}
use Rattle.yds_trace_bounds.specs.Bounds.{asked_from}
use Rattle.yds_trace_words.specs.declared.limits.TheConstants.{MAX_UNIT, MAX_TASKS}
use Rattle.yds_trace_words.specs.declared.fault.Reason.{Reason}
use Rattle.yds_trace_words.specs.declared.fault.Reason.TheVariants as reasons
use Rattle.yds_trace_words.specs.Words.{WordFault, refuse, ◌>>=◌, Setting, settings_of, value_of, is_given, other_than, given_twice}
use Rattle.yds_trace_words.specs.Decimal.{decimal_at}
use Rattle.yds_trace_words.specs.Tasks.{is_label, tasks_asked}
use Rattle.yds_trace_words.specs.Start.{start_asked}

-- # Values

abbrev pub whole_or_refused : {E : Type 0} → List ℕ → Reason → Result ℕ E → Result ℕ WordFault
whole_or_refused name reason (Ok number) = Ok number
whole_or_refused name reason (Err e) = refuse name reason

-- a whole number from `least` to `most`
abbrev pub whole_at : ℕ → ℕ → List ℕ → Reason → List ℕ → Result ℕ WordFault
whole_at least most name reason text = whole_or_refused name reason (number_at least most text)

abbrev pub whole_or : ℕ → ℕ → ℕ → List ℕ → Reason → Option (List ℕ) → Result ℕ WordFault
whole_or default least most name reason None = Ok default
whole_or default least most name reason (Some text) = whole_at least most name reason text

abbrev pub some_of : {A : Type 0} → Result A WordFault → Result (Option A) WordFault
some_of (Ok x) = Ok (Some x)
some_of (Err fault) = Err fault

-- the only value that it may have
abbrev pub only : List ℕ → List ℕ → Reason → Option (List ℕ) → Result Bool WordFault
only name wanted reason None = Ok false
only name wanted reason (Some text) = if bytes_eq text wanted then Ok true else refuse name reason

-- A processor's number; `all` is none of them by itself.
abbrev pub processor_of : Option (List ℕ) → Result (Option ℕ) WordFault
processor_of None = Ok (Some 0)
processor_of (Some text) =
    if bytes_eq text (codes "all") then Ok None else some_of (whole_at 0 MAX_PROCESSOR (codes "--cpu") reasons.Processor text)

-- of which processor it is told; each of them has no answer
abbrev pub of_one : Option ℕ → Result (Option ℕ) WordFault
of_one None = refuse (codes "--others") reasons.EachProcessor
of_one (Some processor) = Ok (Some processor)

-- who else had the processor is told of one
abbrev pub others_asked : Option ℕ → Option (List ℕ) → Result (Option ℕ) WordFault
others_asked cpu None = Ok None
others_asked cpu (Some text) = if bytes_eq text (codes "spans") then of_one cpu else refuse (codes "--others") reasons.Others

-- # Speeds

-- The speed that each processor has throughout, unless those before the first change are given, too.
abbrev pub fixed_at : Bool → List ℕ → Result ℕ WordFault
fixed_at with_start text = do
  khz ← whole_at 1 MAX_NUMBER (codes "--fixed") reasons.Speed text
  if with_start then refuse (codes "--fixed") reasons.WithStart else Ok khz

-- what `--fixed` says, if it is given, and else these speeds
abbrev pub fixed_or : Bool → Start → Option (List ℕ) → Result Start WordFault
fixed_or with_start told None = Ok told
fixed_or with_start told (Some text) = do
  khz ← fixed_at with_start text
  Ok (Fixed khz)

-- by the values of `--start` and `--fixed`
abbrev pub speeds_asked : Option (List ℕ) → Option (List ℕ) → Result Start WordFault
speeds_asked start fixed = do
  told ← start_asked start
  fixed_or (is_some start) told fixed

-- # Times

-- Seconds, as nanoseconds. With a plus sign before them they count from the first event, else they are of the trace's clock.
abbrev pub moment_of : List ℕ → Option Moment
moment_of [] = None
moment_of (byte ∷ bytes) =
    if byte == 43 then option_map AfterFirst (decimal_at 9 MAX_TIME bytes) else option_map Clock (decimal_at 9 MAX_TIME (byte ∷ bytes))

abbrev pub time_or_refused : List ℕ → Option Moment → Result (Option Moment) WordFault
time_or_refused name None = refuse name reasons.Time
time_or_refused name (Some time) = Ok (Some time)

abbrev pub time_of : List ℕ → Option (List ℕ) → Result (Option Moment) WordFault
time_of name None = Ok None
time_of name (Some text) = time_or_refused name (moment_of text)

abbrev pub before_to : ℕ → ℕ → Result Bool WordFault
before_to from to = if nat_lt from to then Ok true else refuse (codes "--from") reasons.FromNotBefore

-- `from` is before `to`, where both are times of the clock, or both count from the first event. One of each isn't compared: that event isn't known here.
abbrev pub ordered : Option Moment → Option Moment → Result Bool WordFault
ordered (Some (Clock from)) (Some (Clock to)) = before_to from to
ordered (Some (AfterFirst from)) (Some (AfterFirst to)) = before_to from to
ordered _ _ = Ok true

-- from when to when, by these settings
abbrev pub bounds_by : List Setting → Result Bounds WordFault
bounds_by given = do
  from ← time_of (codes "--from") (value_of (codes "--from") given)
  to ← time_of (codes "--to") (value_of (codes "--to") given)
  in_order ← ordered from to
  Ok (record { from = from; to = to })

-- # Requests

pub data Request : Type 0 where
  ShowHelp : Request
  ShowVersion : Request
  -- What is asked has no times: the bounds set them, once the first event is known. With `strict` a trace is refused of which a job is left out for
  -- another reason than `--from` and `--to`.
  ReadTrace : (asked : Asked) (bounds : Bounds) (strict : Bool) → Request
  -- the threads of a trace, by `--tasks ?`
  ListThreads : Request

-- what is asked of a trace, by these settings
abbrev pub trace_by : List Setting → Result Request WordFault
trace_by given = do
  cpu ← processor_of (value_of (codes "--cpu") given)
  us ← whole_or 10 1 MAX_UNIT (codes "--us") reasons.Unit (value_of (codes "--us") given)
  khz ← whole_or 10000 1 MAX_NUMBER (codes "--khz") reasons.Speed (value_of (codes "--khz") given)
  start ← speeds_asked (value_of (codes "--start") given) (value_of (codes "--fixed") given)
  bounds ← bounds_by given
  begin ← only (codes "--begin") (codes "run") reasons.Begin (value_of (codes "--begin") given)
  lost ← only (codes "--lost") (codes "cut") reasons.Lost (value_of (codes "--lost") given)
  moved ← only (codes "--moved") (codes "parts") reasons.Moved (value_of (codes "--moved") given)
  others ← others_asked cpu (value_of (codes "--others") given)
  tasks ← tasks_asked (us * 1000) (value_of (codes "--tasks") given)
  Ok (ReadTrace (record {
    tasks = tasks;
    processor = unwrap_or cpu 0;
    unit = us * 1000;
    khz = khz;
    start = start;
    from = None;
    to = None;
    begin_at_run = begin;
    cut_losses = lost;
    in_parts = is_none cpu || is_given (codes "--parts") given;
    everywhere = is_none cpu;
    moved_parts = moved;
    others = others;
  }) bounds (is_given (codes "--strict") given))

abbrev pub is_question : Option (List ℕ) → Bool
is_question None = false
is_question (Some text) = bytes_eq text (codes "?")

-- No other word says anything of the list of threads.
abbrev pub threads_alone : Option (List ℕ) → Result Request WordFault
threads_alone None = Ok ListThreads
threads_alone (Some name) = refuse name reasons.Threads

abbrev pub threads_or_trace : Bool → List Setting → Result Request WordFault
threads_or_trace true given = threads_alone (other_than (codes "--tasks") given)
threads_or_trace false given = trace_by given

-- Nothing is set twice.
abbrev pub asked_once : Option (List ℕ) → List Setting → Result Request WordFault
asked_once (Some name) given = refuse name reasons.Twice
asked_once None given = threads_or_trace (is_question (value_of (codes "--tasks") given)) given

abbrev pub request_by : List Setting → Result Request WordFault
request_by given =
    if is_given (codes "--help") given then Ok ShowHelp
    else (if is_given (codes "--version") given then Ok ShowVersion else asked_once (given_twice given) given)

-- What the words ask for, or why they can't be taken.
abbrev pub request_of : List (List ℕ) → Result Request WordFault
request_of words = settings_of words >>= request_by

-- # What holds of what is asked of a trace

pub record IsFit (asked : Asked) : Type 0 where
  pub plain : IsAsked asked
  pub within : IsWithin asked
  pub reached : IfSome asked.to (λ to. to ≤ MAX_TIME)
  pub some : 1 ≤ length asked.tasks
  pub few : length asked.tasks ≤ MAX_TASKS
  pub labels : All (λ task. is_label task.label ≡ true) asked.tasks
  pub different : AllPairs (λ task other. task.label ≢ other.label) asked.tasks

-- Of a trace it holds whenever its first event was.
abbrev pub IsFitRequest : Request → Type 0
IsFitRequest ShowHelp = Unit {0}
IsFitRequest ShowVersion = Unit {0}
IsFitRequest ListThreads = Unit {0}
IsFitRequest (ReadTrace asked bounds strict) = (first : ℕ) → IsFit (asked_from first bounds asked)
