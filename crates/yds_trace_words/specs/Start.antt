-- The speeds before the first change that `--start` gives: `KHZ` for all processors, or `CPU:KHZ` for some, parted by commas.
use Rattle.std.specs.Prelude.{ℕ, ◌+◌, List, [], ◌∷◌, length, codes, Bool, ◌==◌, ◌||◌, nat_lt, if◌then◌else◌, Option, Some, None, Result, Ok, Err}
use Rattle.std.specs.List.{list_any, slice_split, before_first, after_first}
use Rattle.base.specs.Spelling.{number_at}
use Rattle.yds_kernel.specs.declared.limits.TheConstants.{MAX_NUMBER}
use Rattle.yds_trace.specs.declared.limits.TheConstants.{MAX_PROCESSOR}
use Rattle.yds_trace.specs.Asked.{StartSpeed, Start, Same, Listed}
use Rattle.yds_trace_words.specs.declared.limits.TheConstants.{MAX_SPEEDS}
use Rattle.yds_trace_words.specs.declared.fault.Reason.{Reason}
use Rattle.yds_trace_words.specs.declared.fault.Reason.TheVariants as reasons
use Rattle.yds_trace_words.specs.declared.fault.Place.TheVariants as places
use Rattle.yds_trace_words.specs.declared.letter.Letter.{Letter}
use Rattle.yds_trace_words.specs.declared.letter.Sign.TheVariants as signs
use Rattle.yds_trace_words.specs.Words.{WordFault, refuse, ◌>>=◌, and_behind}
use Rattle.yds_trace_words.specs.Letters.{letters_of, is_at, text_of}

-- the speed at this place of the list is refused
abbrev pub refuse_speed : {A : Type 0} → ℕ → Reason → Result A WordFault
refuse_speed place reason = Err (record { word = codes "--start"; place = Some (places.Speed place); reason = reason })

abbrev pub number_there : {E : Type 0} → ℕ → Reason → Result ℕ E → Result ℕ WordFault
number_there place reason (Ok number) = Ok number
number_there place reason (Err e) = refuse_speed place reason

-- # One speed

abbrev pub processor_at : ℕ → List Letter → Result ℕ WordFault
processor_at place letters = number_there place reasons.SpeedProcessor (number_at 0 MAX_PROCESSOR (text_of letters))

-- in kilohertz, at least 1
abbrev pub khz_at : ℕ → List Letter → Result ℕ WordFault
khz_at place letters = number_there place reasons.Speed (number_at 1 MAX_NUMBER (text_of letters))

-- `CPU:KHZ`
abbrev pub pair_at : ℕ → List Letter → List Letter → Result StartSpeed WordFault
pair_at place first second = do
  processor ← processor_at place first
  khz ← khz_at place second
  Ok (record { processor = processor; khz = khz })

-- a speed in the list, at this place counted from 1
abbrev pub speed_at : ℕ → List Letter → Result StartSpeed WordFault
speed_at place letters =
    if list_any (is_at signs.Colon) letters
    then pair_at place (before_first (is_at signs.Colon) letters) (after_first (is_at signs.Colon) letters)
    else refuse_speed place reasons.SpeedForm

-- # All speeds

-- those of these letters, from this place on, or the first that is refused
abbrev pub speeds_from : ℕ → List (List Letter) → Result (List StartSpeed) WordFault
speeds_from place [] = Ok []
speeds_from place (letters ∷ more) = and_behind (speed_at place letters) (speeds_from (place + 1) more)

abbrev pub is_of : ℕ → StartSpeed → Bool
is_of processor speed = speed.processor == processor

-- the place of the first speed whose processor stands there again
abbrev pub twice_from : ℕ → List StartSpeed → Option ℕ
twice_from place [] = None
twice_from place (speed ∷ speeds) = if list_any (is_of speed.processor) speeds then Some place else twice_from (place + 1) speeds

abbrev pub once : Option ℕ → List StartSpeed → Result (List StartSpeed) WordFault
once (Some place) speeds = refuse_speed place reasons.ProcessorTwice
once None speeds = Ok speeds

-- At most so many, each of another processor.
abbrev pub speeds_of : List (List Letter) → Result (List StartSpeed) WordFault
speeds_of pieces =
    if nat_lt MAX_SPEEDS (length pieces) then refuse (codes "--start") reasons.TooManySpeeds
    else (do
      speeds ← speeds_from 1 pieces
      once (twice_from 1 speeds) speeds)

abbrev pub speeds_in : List Letter → Result (List StartSpeed) WordFault
speeds_in letters = speeds_of (slice_split (is_at signs.Comma) letters)

-- # The speeds before the first change

abbrev pub same_speed : {E : Type 0} → Result ℕ E → Result Start WordFault
same_speed (Ok khz) = Ok (Same khz)
same_speed (Err e) = refuse (codes "--start") reasons.Speed

-- one speed for all processors
abbrev pub same_in : List Letter → Result Start WordFault
same_in letters = same_speed (number_at 1 MAX_NUMBER (text_of letters))

abbrev pub listed : Result (List StartSpeed) WordFault → Result Start WordFault
listed (Ok speeds) = Ok (Listed speeds)
listed (Err fault) = Err fault

-- A comma or a colon makes it a list.
abbrev pub start_in : List Letter → Result Start WordFault
start_in letters =
    if list_any (is_at signs.Comma) letters || list_any (is_at signs.Colon) letters then listed (speeds_in letters) else same_in letters

-- Where nothing is said of them, none is known.
abbrev pub start_asked : Option (List ℕ) → Result Start WordFault
start_asked None = Ok (Listed [])
start_asked (Some text) = start_in (letters_of text)
