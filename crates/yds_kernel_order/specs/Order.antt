-- The lines of a trace in the order of their times: some ways of recording write the lines of several processors a little out of it.
use Rattle.std.specs.Prelude.{ℕ, zero, suc, ◌+◌, List, [], ◌∷◌, length, map, Bool, true, false, not, ◌==◌, ◌||◌, nat_lt, reverse, if◌then◌else◌, Option, Some, None, option_map, unwrap_or}
use Rattle.yds_kernel.specs.Event.{Said, Stamped, Lost, Nothing}
use Rattle.yds_kernel.specs.Text.{Trace, trace_of}
use Rattle.yds_kernel_order.specs.declared.limits.TheConstants.{MAX_PASSED, MAX_STEP_BACK}

-- A line that says something: its number in the text, what it says, and whether no line behind it is put before it.
pub record Placed : Type 0 where
  pub number : ℕ
  pub said : Said
  pub stays : Bool

-- # Where a line is put

-- both are events, and this one is before the other by more than so many nanoseconds
abbrev pub is_before_by : ℕ → Said → Said → Bool
is_before_by step (Stamped event) (Stamped other) = nat_lt (event.time + step) other.time
is_before_by step said other = false

-- The line is put behind this one of those before it.
abbrev pub is_behind : Placed → Placed → Bool
is_behind line last = last.stays || not (is_before_by 0 line.said last.said)

abbrev pub with_last : Placed → Option (List Placed) → Option (List Placed)
with_last last before = option_map (λ lines. last ∷ lines) before

-- The lines before it, the last one first, with this line put before each event that is later. There is no such place where more
-- than so many are, or one is by more than a millisecond.
abbrev pub put : ℕ → Placed → List Placed → Option (List Placed)
put most line [] = Some (line ∷ [])
put zero line (last ∷ past) = if is_behind line last then Some (line ∷ last ∷ past) else None
put (suc most) line (last ∷ past) =
    if is_behind line last then Some (line ∷ last ∷ past)
    else (if is_before_by MAX_STEP_BACK line.said last.said then None else with_last last (put most line past))

-- A line without such a place stays where it stands in the text, and its time goes back.
abbrev pub with_line : Placed → List Placed → List Placed
with_line line past = unwrap_or (put MAX_PASSED line past) (record { number = line.number; said = line.said; stays = true } ∷ past)

-- # All lines

-- Where events were lost isn't known by a time: nothing is put before such a line.
abbrev pub is_loss_line : Said → Bool
is_loss_line (Lost processor since) = true
is_loss_line said = false

-- The line of this number behind those that were placed. One that says nothing has no place.
abbrev pub next_placed : ℕ → Said → List Placed → List Placed
next_placed number Nothing past = past
next_placed number said past = with_line (record { number = number; said = said; stays = is_loss_line said }) past

-- these lines, from the one of this number on, behind those that were placed
abbrev pub placed_from : ℕ → List Said → List Placed → List Placed
placed_from number [] past = past
placed_from number (said ∷ more) past = placed_from (number + 1) more (next_placed number said past)

-- the lines of a trace in order of time, the last one first
abbrev pub placed_of : Trace → List Placed
placed_of trace = placed_from 1 trace.said []

abbrev pub said_in : List Placed → List Said
said_in placed = map (λ line. line.said) placed

-- what a trace's lines say in order of time
abbrev pub in_order : Trace → Trace
in_order trace = record { said = reverse (said_in (placed_of trace)); fault = trace.fault }

-- what the lines of these bytes say in order of time, up to the first that is refused by its form
abbrev pub order_of : List ℕ → Trace
order_of bytes = in_order (trace_of bytes)

-- # Which line of the text it is

-- The number in the text of the line at this place in order of time, counted from 1. Where there is none, it is the last one of the text, which
-- has so many.
abbrev pub number_at : ℕ → List Placed → ℕ → ℕ
number_at lines [] place = lines
number_at lines (last ∷ before) place = if place == length before + 1 then last.number else number_at lines before place

abbrev pub line_at : List ℕ → ℕ → ℕ
line_at bytes place = number_at (length (trace_of bytes).said) (placed_of (trace_of bytes)) place
