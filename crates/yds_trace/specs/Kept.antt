-- What a pass keeps of the lines so far, and when that stands for them.
use Rattle.std.specs.Prelude.{◌≡◌, ℕ, ◌==◌, ◌<◌, ◌≤◌, List, [], ◌∷◌, ◌++◌, map, length, reverse, Bool, false, if◌then◌else◌, Option, Some, None, option_map, unwrap_or, is_some, is_none, vec_len}
use Rattle.std.specs.List.{slice_index_or, All}
use Rattle.yds_kernel.specs.Event.{Thread, Happening, Switch, Loss, Event, Said}
use Rattle.yds_kernel.specs.Parts.{capped}
use Rattle.yds_trace.specs.declared.kept.Kept.{Kept as Amount}
use Rattle.yds_trace.specs.declared.limits.TheConstants.{MAX_TOUCHES}
use Rattle.yds_trace.specs.declared.past.Told.{Told}
use Rattle.yds_trace.specs.declared.past.Past.{Past as PastKept}
use Rattle.yds_trace.specs.declared.followed.Followed.{Followed}
use Rattle.yds_trace.specs.declared.counted.Counted.{Counted}
use Rattle.yds_trace.specs.declared.lines.Lines.{Lines}
use Rattle.yds_trace.specs.declared.tally.Tally.{Tally}
use Rattle.yds_trace.specs.declared.others.Others.{Others as OthersKept}
use Rattle.yds_trace.specs.declared.pass.Pass.{Pass}
use Rattle.yds_trace.specs.Asked.{Task, StartSpeed, Start, start_in, lost_speed, Asked, task_of}
use Rattle.yds_trace.specs.Past.{first_time, last_time, last_time_on, lines_since, last_switch, who_has, up_to, speed_after}
use Rattle.yds_trace.specs.Jobs.{Job, Known, known_after}
use Rattle.yds_trace.specs.Document.{began_before}
use Rattle.yds_trace.specs.Faults.{pid_before, lost_just_before, touched, has_stamp}
use Rattle.yds_trace.specs.Tally.{losses_before, missing_switches, markers, longest_pause}
use Rattle.yds_trace.specs.Others.{Span, shortened, other_of, spans_after, others_from}
use Rattle.yds_trace.specs.Parts.{waiting_from, stretches_of}
use Rattle.yds_trace.specs.Views.{jobs_listed, known_read, asked_read, another_read, going_read, span_read}

-- # Lines

abbrev pub told_on : PastKept → ℕ → Told
told_on kept processor = slice_index_or kept.told.items processor (record { since = None; switched = None; khz = kept.untold; came = None })

-- What is told of each processor before the first line is its speed among these.
abbrev pub TellsSpeeds : List StartSpeed → List Told → Type 0
TellsSpeeds speeds told = (processor : ℕ) → slice_index_or told processor (record { since = None; switched = None; khz = None; came = None })
    ≡ record { since = None; switched = None; khz = start_in speeds processor; came = None }

-- What is kept stands for these lines, where the speeds before the first change are those of `start`.
pub record IsPast (start : Start) (past : List Said) (kept : PastKept) : Type 0 where
  pub stamp : is_some kept.first ≡ has_stamp past
  pub first : (here : ℕ) → first_time here past ≡ unwrap_or kept.first here
  pub last : last_time past ≡ kept.last
  pub began : (processor here : ℕ) → lines_since processor here past ≡ unwrap_or (told_on kept processor).since here
  pub line : (processor : ℕ) → last_time_on processor past ≡ slice_index_or kept.lines.items processor None
  pub switched : (processor : ℕ) → last_switch processor past ≡ (told_on kept processor).switched
  pub speed : (processor : ℕ) → speed_after start processor past ≡ (told_on kept processor).khz
  pub lost : lost_speed start ≡ kept.lost

-- the number of who came to a processor, where that is no task
abbrev pub unlisted : List Task → Option Thread → Option ℕ
unlisted tasks None = None
unlisted tasks (Some thread) = if is_none (task_of tasks thread) then Some thread.pid else None

abbrev pub HaveCome : List Task → List Said → PastKept → Type 0
HaveCome tasks past kept = (processor : ℕ) → (told_on kept processor).came ≡ unlisted tasks (who_has processor past)

-- # The lines that count

-- what is known of a thread, with the forgotten jobs before those that are kept, all of them the last one first
abbrev pub behind : List Job → Known → Known
behind forgotten known = record known { jobs = known.jobs ++ forgotten }

-- The last job is kept, where any is forgotten.
abbrev pub KeepsLast : List Job → List Job → Type 0
KeepsLast [] forgotten = forgotten ≡ []
KeepsLast (job ∷ jobs) forgotten = Unit {0}

-- The forgotten jobs, in order of begin: all begin before the boundary. What is kept of them is their number, and whether the first began before
-- the trace.
pub record AreForgotten (boundary : ℕ) (forgotten : List Job) (count : ℕ) (early : Bool) : Type 0 where
  pub earlier : All (λ job. job.begin < boundary) forgotten
  pub as_many : count ≡ length forgotten
  pub before : early ≡ began_before forgotten

-- What is known of the task of this number, behind the lines that count. Of its jobs the first may be forgotten that begin before the boundary.
pub record IsFollowed (asked : Asked) (counting : List Said) (boundary number : ℕ) (followed : Followed) : Type 0 where
  -- in order of begin
  pub forgotten : List Job
  pub known : behind (reverse forgotten) (known_read followed.known) ≡ known_after asked number counting
  pub last : KeepsLast (jobs_listed followed.known.jobs.items) (reverse forgotten)
  pub are_forgotten : AreForgotten boundary forgotten followed.forgotten followed.before
  pub pid : followed.pid ≡ pid_before asked number counting

-- What is kept of who was in the way on this processor. The first spans may be forgotten that end at the boundary or before it.
pub record AreOthers (asked : Asked) (counting : List Said) (boundary processor : ℕ) (kept : OthersKept) : Type 0 where
  pub holder : option_map another_read kept.holder ≡ option_map shortened (other_of asked.tasks (who_has processor counting))
  pub going : option_map going_read kept.going ≡ (spans_after asked processor counting).going
  -- in order of time
  pub forgotten : List Span
  pub spans : reverse (spans_after asked processor counting).ended ≡ forgotten ++ map span_read kept.spans.items
  pub earlier : All (λ span. span.to ≤ boundary) forgotten

-- where it is asked for
abbrev pub AreOthersOf : Asked → List Said → ℕ → OthersKept → Type 0
AreOthersOf asked counting boundary kept = elim asked.others [ None ↦ Unit {0} | Some processor ↦ AreOthers asked counting boundary processor kept ]

pub record IsCounted (asked : Asked) (counting : List Said) (counted : Counted) : Type 0 where
  pub times : IsPast asked.start counting counted.past
  pub came : HaveCome asked.tasks counting counted.past
  pub as_many : vec_len counted.tasks ≡ length asked.tasks
  pub tasks : (number : ℕ) (default : Followed) → number < length asked.tasks →
      IsFollowed asked counting counted.boundary number (slice_index_or counted.tasks.items number default)
  pub others : AreOthersOf asked counting counted.boundary counted.others
  -- told in parts they aren't counted
  pub touched : asked.in_parts ≡ false → counted.touched ≡ touched asked counting
  pub few : counted.touched ≤ MAX_TOUCHES

-- # All lines

-- who came to a processor by its last switch, behind an event by which this one comes, or none who is told
abbrev pub came_by : ℕ → Event → Happening → Option ℕ → Option ℕ → Option ℕ
came_by processor event (Switch previous state next) came before = if event.processor == processor then came else before
came_by processor event Loss came before = None
came_by processor event _ came before = before

-- what is counted of these lines, but for the end of the trace
pub record IsTallied (asked : Asked) (past : List Said) (tally : Tally) : Type 0 where
  pub losses : tally.losses ≡ capped (losses_before asked past)
  pub missing : tally.missing ≡ capped (missing_switches asked.from asked.to asked.tasks past)
  pub markers : tally.markers ≡ capped (markers asked.from asked.to past)
  pub pause : tally.pause ≡ longest_pause asked.from asked.to past

pub record IsLines (asked : Asked) (past : List Said) (lines : Lines) : Type 0 where
  pub times : IsPast asked.start past lines.past
  pub lost : lines.lost ≡ lost_just_before asked.to past
  pub as_many : vec_len lines.seen ≡ length asked.tasks
  pub came : HaveCome asked.tasks past lines.past
  pub tallied : IsTallied asked past lines.tallied
  pub seen : (number : ℕ) → number < length asked.tasks → slice_index_or lines.seen.items number false ≡ is_some (pid_before asked number past)

-- # A pass

-- What a pass keeps stands for these lines, with what is asked.
pub record IsStanding (asked : Asked) (past : List Said) (pass : Pass) : Type 0 where
  pub same_asked : asked_read pass.asked ≡ asked
  pub lines : IsLines asked past pass.lines
  pub counted : IsCounted asked (up_to asked.to past) pass.counted

-- And no job is forgotten that begins at the boundary or later.
pub record IsAtBehind (asked : Asked) (past : List Said) (boundary : ℕ) (pass : Pass) : Type 0 where
  pub same_asked : asked_read pass.asked ≡ asked
  pub lines : IsLines asked past pass.lines
  pub counted : IsCounted asked (up_to asked.to past) pass.counted
  pub within : pass.counted.boundary ≤ boundary

-- none is
abbrev pub IsAt : Asked → List Said → Pass → Type 0
IsAt asked past pass = IsAtBehind asked past 0 pass

-- The time that it was told last to forget by, or 0: of the jobs that begin before it each task keeps its last one.
abbrev pub told_to_forget : Pass → ℕ
told_to_forget pass = pass.counted.boundary

-- # How much waits

-- At most so many jobs, stretches and spans wait. Beyond 64 bits none is counted.
pub record IsEnough (asked : Asked) (past : List Said) (boundary : ℕ) (amount : Amount) : Type 0 where
  pub jobs : capped (length (waiting_from asked past boundary)) ≤ amount.jobs
  pub stretches : capped (stretches_of (waiting_from asked past boundary)) ≤ amount.stretches
  pub others : capped (length (others_from asked past boundary)) ≤ amount.others
