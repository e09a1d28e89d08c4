-- A line's stamp: the processor, the time and the event's name.
--
-- What is before it is a task's name and isn't read, since names may hold blanks, brackets and arrows. What is behind it is the
-- event's text. An application may write anything into a marker, so only the first stamp of a line counts.
use Rattle.std.specs.Prelude.{ℕ, ◌+◌, ◌-◌, ◌*◌, ◌^◌, List, [], ◌∷◌, length, codes, get_or, Bool, ◌==◌, ◌&&◌, ◌||◌, nat_le, if◌then◌else◌, Option, Some, None}
use Rattle.std.specs.List.{list_all}
use Rattle.std.specs.Str.{bytes_eq}
use Rattle.std.specs.Str.Parse.{digits_value}
use Rattle.base.specs.Spelling.{is_digit}
use Rattle.yds_kernel.specs.declared.limits.TheConstants.{MAX_U64}
use Rattle.yds_kernel.specs.Parts.{◌>>=◌, or_else, after, digits, field, after_blanks, number}

pub record Stamp : Type 0 where
  pub processor : ℕ
  -- how many bytes of the line are left from the time on
  pub left : ℕ
  pub seconds : ℕ
  -- the digits behind the point
  pub fraction : List ℕ
  -- the event's name, with the colon that ends it
  pub word : List ℕ
  -- the event's text
  pub text : List ℕ

abbrev pub is_letter : ℕ → Bool
is_letter byte = (nat_le 65 byte && nat_le byte 90) || (nat_le 97 byte && nat_le byte 122)

-- letters, digits, `_` and `:`
abbrev pub is_word_byte : ℕ → Bool
is_word_byte byte = is_letter byte || is_digit byte || (byte == 95) || (byte == 58)

abbrev pub last_byte : List ℕ → ℕ
last_byte text = get_or text (length text - 1) 0

-- The name of an event ends with a colon. What perf writes of lost events has none.
abbrev pub is_word : List ℕ → Bool
is_word text = ((last_byte text == 58) && list_all is_word_byte text) || bytes_eq text (codes "PERF_RECORD_LOST")

-- the name of an event at the front
unfoldable pub word_at : List ℕ → Option (List ℕ × List ℕ)
word_at bytes = do
  found ← field bytes
  if is_word found.0 then Some found else None

-- `SECONDS.FRACTION:` and the event's name
unfoldable pub timed : ℕ → List ℕ → Option Stamp
timed processor bytes = do
  seconds ← number bytes
  behind_point ← after (codes ".") seconds.1
  fraction ← digits behind_point
  behind_colon ← after (codes ":") fraction.1
  here ← after_blanks behind_colon
  word ← word_at here
  Some (record { processor = processor; left = length bytes; seconds = seconds.0; fraction = fraction.0; word = word.0; text = word.1 })

-- the same behind one field of flags
unfoldable pub flagged : ℕ → List ℕ → Option Stamp
flagged processor bytes = do
  flags ← field bytes
  here ← after_blanks flags.1
  timed processor here

-- `[CPU]`, perhaps a field of flags, the time and the event's name, at the front of these bytes
unfoldable pub stamp_at : List ℕ → Option Stamp
stamp_at bytes = do
  inside ← after (codes "[") bytes
  processor ← number inside
  behind ← after (codes "]") processor.1
  here ← after_blanks behind
  or_else (timed processor.0 here) (flagged processor.0 here)

-- the stamp of a line is at the first place at which one stands
unfoldable pub first_stamp : List ℕ → Option Stamp
first_stamp [] = None
first_stamp (byte ∷ bytes) = or_else (stamp_at (byte ∷ bytes)) (first_stamp bytes)

-- the digits of a fraction as nanoseconds
abbrev pub nanoseconds : List ℕ → ℕ
nanoseconds fraction = digits_value 10 fraction * 10 ^ (9 - length fraction)

-- The time in nanoseconds. A fraction has 1 to 9 digits, and a time 64 bits.
abbrev pub time_of : Stamp → Option ℕ
time_of stamp =
    if nat_le (length stamp.fraction) 9 && nat_le (stamp.seconds * 1000000000 + nanoseconds stamp.fraction) MAX_U64
    then Some (stamp.seconds * 1000000000 + nanoseconds stamp.fraction)
    else None
