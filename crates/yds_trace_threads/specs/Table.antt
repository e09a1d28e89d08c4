-- The table of a trace's threads, and its text.
use Rattle.std.specs.Prelude.{ℕ, ◌+◌, ◌-◌, ◌/◌, ◌%◌, List, [], ◌∷◌, ◌++◌, length, take, drop, map, codes, decimal, ◌==◌, ◌||◌, if◌then◌else◌}
use Rattle.std.specs.List.{flat_map}
use Rattle.base.specs.Numbers.{sum_below}
use Rattle.base.specs.Spelling.{is_visible}
use Rattle.yds_kernel.specs.declared.limits.TheConstants.{MAX_U64}
use Rattle.yds_kernel.specs.Parts.{capped}
use Rattle.yds_kernel.specs.Event.{Said}
use Rattle.yds_trace.specs.declared.limits.TheConstants.{MAX_PROCESSOR}
use Rattle.yds_trace.specs.Past.{last_time}
use Rattle.yds_trace.specs.Document.{in_order}
use Rattle.yds_trace_threads.specs.declared.limits.TheConstants.{MOST_THREADS}
use Rattle.yds_trace_threads.specs.Acts.{holder, had, acts}
use Rattle.yds_trace_threads.specs.Threads.{threads_of, own, name_of, ran_in, switches_in, wake_ups_in}

-- # Rows

-- a thread's number and last name, how long it ran in nanoseconds, and how often it was woken and came to a processor
pub record Row : Type 0 where
  pub pid : ℕ
  pub name : List ℕ
  pub ran : ℕ
  pub wake_ups : ℕ
  pub switches : ℕ

-- how many processors are told apart
unfoldable pub processors : ℕ
processors = MAX_PROCESSOR + 1

-- who has a processor at the end has had it until the trace's last time
abbrev pub still : ℕ → List Said → ℕ
still pid past = sum_below processors (λ processor. had pid (last_time past) (holder processor past))

-- A number beyond 64 bits is told as the greatest one of 64 bits.
abbrev pub row_of : List Said → ℕ → Row
row_of past pid = record {
  pid = pid;
  name = name_of (own pid (acts past));
  ran = capped (ran_in (own pid (acts past)) + still pid past);
  wake_ups = capped (wake_ups_in (own pid (acts past)));
  switches = capped (switches_in (own pid (acts past)));
}

-- Who ran longest stands first, and of those that ran as long the lesser number.
abbrev pub rows_in_order : List Row → List Row
rows_in_order rows = in_order (λ row. MAX_U64 - row.ran) (in_order (λ row. row.pid) rows)

-- The threads that the trace tells of first have a row.
abbrev pub rows_of : List Said → List Row
rows_of past = rows_in_order (map (row_of past) (take MOST_THREADS (threads_of (acts past))))

-- how many others are counted
abbrev pub others_of : List Said → ℕ
others_of past = length (threads_of (acts past)) - MOST_THREADS

-- # Text

-- these texts, one behind the other
abbrev pub told : List (List ℕ) → List ℕ
told texts = flat_map (λ text. text) texts

-- nanoseconds, told in milliseconds with six digits behind the point: they are exact
abbrev pub in_milliseconds : ℕ → List ℕ
in_milliseconds time = told (decimal (time / 1000000) ∷ codes "." ∷ drop 1 (decimal (1000000 + time % 1000000)) ∷ [])

-- a byte of a name: none of them ends the line
abbrev pub shown : ℕ → ℕ
shown byte = if is_visible byte || (byte == 32) then byte else 63

-- a tab stands behind each field but the last
abbrev pub field : List ℕ → List ℕ
field text = text ++ codes "\t"

abbrev pub numbers_of : Row → List ℕ
numbers_of row = told (field (decimal row.pid) ∷ field (in_milliseconds row.ran) ∷ field (decimal row.wake_ups) ∷ field (decimal row.switches) ∷ [])

-- The name stands last, since it may have blanks.
abbrev pub row_line : Row → List ℕ
row_line row = told (numbers_of row ∷ map shown row.name ∷ codes "\n" ∷ [])

abbrev pub others_line : ℕ → List ℕ
others_line others = if others == 0 then [] else told (codes "# and " ∷ decimal others ∷ codes " more threads\n" ∷ [])

-- The first line is no comment and no line of a document, so no reader takes the table for one.
abbrev pub head_of : ℕ → List ℕ
head_of number = told (codes "threads " ∷ decimal number ∷ codes "\n# pid\tran_ms\twake_ups\tswitches\tname\n" ∷ [])

abbrev pub text_of : List Row → ℕ → List ℕ
text_of rows others = told (head_of (length rows) ∷ flat_map row_line rows ∷ others_line others ∷ [])

-- the text of the threads of a trace whose lines said this
abbrev pub table_of : List Said → List ℕ
table_of past = text_of (rows_of past) (others_of past)
