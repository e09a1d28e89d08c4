-- How events are spelled: their names, the states of threads, and the texts of switches, wake-ups and speeds.
--
-- Two spellings of a text are read: that of the kernel and perf, `prev_comm=NAME prev_pid=PID ..`, and the short one that
-- trace-cmd makes of it, `NAME:PID [PRIORITY] STATE ==> ..`. A name may hold anything, so it ends at the first place behind which
-- a whole mark stands, as ` prev_pid=PID prev_prio=PRIORITY prev_state=STATE ==> next_comm=`; in a wake-up, behind whose name no other
-- stands, at the last one.
use Rattle.std.specs.Prelude.{ℕ, ◌+◌, List, [], ◌∷◌, codes, take, Bool, false, not, ◌==◌, ◌&&◌, ◌||◌, if◌then◌else◌, Option, Some, None}
use Rattle.std.specs.List.{list_all}
use Rattle.std.specs.Str.{bytes_eq}
use Rattle.base.specs.Lines.{is_blank}
use Rattle.yds_kernel.specs.declared.state.State.{State}
use Rattle.yds_kernel.specs.declared.state.State.TheVariants as states
use Rattle.yds_kernel.specs.declared.kind.Kind.{Kind}
use Rattle.yds_kernel.specs.declared.kind.Kind.TheVariants as kinds
use Rattle.yds_kernel.specs.declared.mark.Mark.{Mark}
use Rattle.yds_kernel.specs.declared.mark.Mark.TheVariants as marks
use Rattle.yds_kernel.specs.Parts.{◌>>=◌, or_else, after, field, after_blanks, small_number, after_priority}
use Rattle.yds_kernel.specs.Stamp.{is_letter, last_byte}
use Rattle.yds_kernel.specs.Event.{Thread, Happening, Switch, WakeUp, Speed}

-- # Names of events

-- the name without the system that perf writes before it
abbrev pub bare_name : List ℕ → List ℕ
bare_name word = elim (or_else (after (codes "sched:") word) (or_else (after (codes "power:") word) (after (codes "ftrace:") word))) [
  | Some rest ↦ rest
  | None ↦ word
]

-- A wake-up has two halves: that a thread is about to be woken, and that it has been.
abbrev pub is_woken : List ℕ → Bool
is_woken name = bytes_eq name (codes "sched_wakeup:") || bytes_eq name (codes "sched_wakeup_new:")

abbrev pub is_marker : List ℕ → Bool
is_marker name = bytes_eq name (codes "tracing_mark_write:") || bytes_eq name (codes "print:") || bytes_eq name (codes "bprint:")

abbrev pub kind_of_name : List ℕ → Kind
kind_of_name name =
    if bytes_eq name (codes "sched_switch:") then kinds.Switch
    else (if bytes_eq name (codes "sched_waking:") then kinds.Waking
    else (if is_woken name then kinds.Woken
    else (if bytes_eq name (codes "cpu_frequency:") then kinds.Speed
    else (if bytes_eq name (codes "PERF_RECORD_LOST") then kinds.Loss
    else (if is_marker name then kinds.Marker else kinds.Other)))))

abbrev pub kind_of : List ℕ → Kind
kind_of word = kind_of_name (bare_name word)

-- # States

abbrev pub is_state_letter : ℕ → Bool
is_state_letter byte =
    (byte == 82) || (byte == 68) || (byte == 83) || (byte == 84) || (byte == 116) || (byte == 88) || (byte == 120) || (byte == 90)
    || (byte == 80) || (byte == 73) || (byte == 87) || (byte == 75) || (byte == 78)

-- a letter, `|` or `+`
abbrev pub is_state_byte : ℕ → Bool
is_state_byte byte = is_letter byte || (byte == 124) || (byte == 43)

abbrev pub is_state_number : List ℕ → Bool
is_state_number text =
    bytes_eq text (codes "0") || bytes_eq text (codes "1") || bytes_eq text (codes "2") || bytes_eq text (codes "4") || bytes_eq text (codes "8")
    || bytes_eq text (codes "16") || bytes_eq text (codes "32") || bytes_eq text (codes "64") || bytes_eq text (codes "128") || bytes_eq text (codes "256")

-- a letter of the kernel's (RDSTtXxZPIWKN) and more behind it, or a number that a raw trace has
abbrev pub is_state : List ℕ → Bool
is_state [] = false
is_state (first ∷ more) = (is_state_letter first && list_all is_state_byte more) || is_state_number (first ∷ more)

-- X, Z, x, what begins with them, and the numbers 16 and 32: it is over
abbrev pub is_over : List ℕ → Bool
is_over [] = false
is_over (first ∷ more) =
    (first == 88) || (first == 90) || (first == 120) || bytes_eq (first ∷ more) (codes "16") || bytes_eq (first ∷ more) (codes "32")

-- R, D, T, t, what begins with them, what ends with a plus, and the numbers 0, 2, 4, 8 and 256: preempted, waiting for a disk, stopped or traced
abbrev pub goes_on : List ℕ → Bool
goes_on [] = false
goes_on (first ∷ more) =
    (first == 82) || (first == 68) || (first == 84) || (first == 116) || (last_byte (first ∷ more) == 43)
    || bytes_eq (first ∷ more) (codes "0") || bytes_eq (first ∷ more) (codes "2") || bytes_eq (first ∷ more) (codes "4")
    || bytes_eq (first ∷ more) (codes "8") || bytes_eq (first ∷ more) (codes "256")

abbrev pub state_of : List ℕ → State
state_of text =
    if not (is_state text) then states.Unknown
    else (if is_over text then states.Exits else (if goes_on text then states.GoesOn else states.Sleeps))

-- # Marks behind a name

-- what stands behind a name: the process, the state where the mark has one, and the bytes after the mark
pub record Marked : Type 0 where
  pub pid : ℕ
  pub state : List ℕ
  pub rest : List ℕ

-- nothing but blanks is left
abbrev pub only_blanks : List ℕ → Bool
only_blanks bytes = list_all is_blank bytes

abbrev pub after_arrow : List ℕ → Option (List ℕ)
after_arrow bytes = or_else (after (codes " ==> next_comm=") bytes) (after (codes " next_comm=") bytes)

-- ` prev_pid=PID prev_prio=PRIORITY prev_state=STATE ==> next_comm=`; a raw trace has no arrow
unfoldable pub leaves : List ℕ → Option Marked
leaves bytes = do
  a ← after (codes " prev_pid=") bytes
  pid ← small_number a
  b ← after (codes " prev_prio=") pid.1
  c ← after_priority b
  d ← after (codes " prev_state=") c
  state ← field d
  rest ← after_arrow state.1
  Some (record { pid = pid.0; state = state.0; rest = rest })

-- ` next_pid=PID next_prio=PRIORITY` at the end
unfoldable pub comes : List ℕ → Option Marked
comes bytes = do
  a ← after (codes " next_pid=") bytes
  pid ← small_number a
  b ← after (codes " next_prio=") pid.1
  rest ← after_priority b
  if only_blanks rest then Some (record { pid = pid.0; state = []; rest = rest }) else None

-- ` pid=PID prio=`
unfoldable pub wakes : List ℕ → Option Marked
wakes bytes = do
  a ← after (codes " pid=") bytes
  pid ← small_number a
  rest ← after (codes " prio=") pid.1
  Some (record { pid = pid.0; state = []; rest = rest })

-- `:PID [PRIORITY]`
unfoldable pub short : List ℕ → Option Marked
short bytes = do
  a ← after (codes ":") bytes
  pid ← small_number a
  b ← after (codes " [") pid.1
  c ← after_priority b
  rest ← after (codes "]") c
  Some (record { pid = pid.0; state = []; rest = rest })

-- `:PID [PRIORITY] STATE ==> `
unfoldable pub short_leaves : List ℕ → Option Marked
short_leaves bytes = do
  found ← short bytes
  a ← after (codes " ") found.rest
  state ← field a
  rest ← after (codes " ==> ") state.1
  Some (record { pid = found.pid; state = state.0; rest = rest })

-- `:PID [PRIORITY]` at the end
unfoldable pub short_comes : List ℕ → Option Marked
short_comes bytes = do
  found ← short bytes
  if only_blanks found.rest then Some found else None

abbrev pub marked : Mark → List ℕ → Option Marked
marked marks.Leaves bytes = leaves bytes
marked marks.Comes bytes = comes bytes
marked marks.Wakes bytes = wakes bytes
marked marks.ShortLeaves bytes = short_leaves bytes
marked marks.ShortComes bytes = short_comes bytes
marked marks.ShortWakes bytes = short bytes

-- the byte with which the mark begins: a blank or a colon
abbrev pub first_byte : Mark → ℕ
first_byte marks.Leaves = 32
first_byte marks.Comes = 32
first_byte marks.Wakes = 32
first_byte marks.ShortLeaves = 58
first_byte marks.ShortComes = 58
first_byte marks.ShortWakes = 58

-- the mark at this place
abbrev pub placed : ℕ → Option Marked → Option (ℕ × Marked)
placed place None = None
placed place (Some found) = Some (place, found)

-- the first place at which the mark stands, where these bytes begin at `place`
unfoldable pub first_marked : ℕ → Mark → List ℕ → Option (ℕ × Marked)
first_marked place mark [] = None
first_marked place mark (byte ∷ bytes) = or_else (placed place (marked mark (byte ∷ bytes))) (first_marked (place + 1) mark bytes)

-- the last place at which the mark stands, where these bytes begin at `place`
unfoldable pub last_marked : ℕ → Mark → List ℕ → Option (ℕ × Marked)
last_marked place mark [] = None
last_marked place mark (byte ∷ bytes) = or_else (last_marked (place + 1) mark bytes) (placed place (marked mark (byte ∷ bytes)))

-- a thread's name, up to its mark
pub record Named : Type 0 where
  pub thread : Thread
  pub state : List ℕ
  pub rest : List ℕ

unfoldable pub thread_at : Mark → List ℕ → Option Named
thread_at mark bytes = do
  found ← first_marked 0 mark bytes
  Some (record { thread = record { name = take found.0 bytes; pid = found.1.pid }; state = found.1.state; rest = found.1.rest })

-- # Texts of events

unfoldable pub switch_by : Mark → Mark → List ℕ → Option Happening
switch_by leaving coming text = do
  previous ← thread_at leaving text
  next ← thread_at coming previous.rest
  Some (Switch previous.thread (state_of previous.state) next.thread)

unfoldable pub switch_in : List ℕ → Option Happening
switch_in text = elim (after (codes "prev_comm=") text) [
  | Some names ↦ switch_by marks.Leaves marks.Comes names
  | None ↦ switch_by marks.ShortLeaves marks.ShortComes text
]

unfoldable pub woken_by : Mark → Bool → List ℕ → Option Happening
woken_by mark starts text = do
  found ← last_marked 0 mark text
  Some (WakeUp (record { name = take found.0 text; pid = found.1.pid }) starts)

unfoldable pub wake_up_in : Bool → List ℕ → Option Happening
wake_up_in starts text = elim (after (codes "comm=") text) [
  | Some names ↦ woken_by marks.Wakes starts names
  | None ↦ woken_by marks.ShortWakes starts text
]

-- `state=KHZ cpu_id=CPU`
unfoldable pub speed_in : List ℕ → Option Happening
speed_in text = do
  a ← after (codes "state=") text
  khz ← small_number a
  b ← after_blanks khz.1
  c ← after (codes "cpu_id=") b
  processor ← small_number c
  if only_blanks processor.1 then Some (Speed processor.0 khz.0) else None
