-- What a ring holds, and what its steps do.
use Rattle.std.specs.Prelude.{◌≡◌, ℕ, zero, suc, ◌+◌, ◌-◌, ◌<◌, ◌≤◌, List, [], ◌∷◌, ◌++◌, length, get_or, Bool, true, false, not, ◌||◌, nat_lt, if◌then◌else◌, Option, Some, None, option_map}
use Rattle.yds_kernel.specs.Event.{Said, Stamped, Nothing}
use Rattle.yds_kernel_order.specs.declared.limits.TheConstants.{MAX_PASSED, MAX_STEP_BACK}
use Rattle.yds_kernel_order.specs.declared.ring.TheConstants.{SLOTS}
use Rattle.yds_kernel_order.specs.Order.{Placed, next_placed}

-- the lines that wait, the last one first, and the one that was given last
pub record Held : Type 0 where
  pub waiting : List Placed
  pub given : Option Placed

-- # Places

abbrev pub no_line : Placed
no_line = record { number = 0; said = Nothing; stays = false }

-- behind the last place comes the first one
abbrev pub wrapped : ℕ → ℕ
wrapped place = if nat_lt place SLOTS then place else place - SLOTS

abbrev pub slot_at : List Placed → ℕ → Placed
slot_at slots place = get_or slots (wrapped place) no_line

-- the lines of so many places from this one on, the last one first
abbrev pub held_from : List Placed → ℕ → ℕ → List Placed
held_from slots first zero = []
held_from slots first (suc count) = slot_at slots (first + count) ∷ held_from slots first count

abbrev pub given_at : List Placed → ℕ → ℕ → Option Placed
given_at slots first zero = None
given_at slots first (suc more) = Some (slot_at slots first)

-- # Steps

-- whether what was said is an event that is later than this time by more than so many nanoseconds
abbrev pub is_later_by : ℕ → ℕ → Said → Bool
is_later_by step time (Stamped event) = nat_lt (time + step) event.time
is_later_by step time said = false

-- an event of this time is put behind this line
abbrev pub stands_before : ℕ → Placed → Bool
stands_before time line = line.stays || not (is_later_by 0 time line.said)

-- How many of these lines an event of this time is put before, at most so many. None where it has no place among them.
abbrev pub passed_in : ℕ → ℕ → List Placed → Option ℕ
passed_in most time [] = Some 0
passed_in zero time (last ∷ past) = if stands_before time last then Some 0 else None
passed_in (suc most) time (last ∷ past) =
    if stands_before time last then Some 0
    else (if is_later_by MAX_STEP_BACK time last.said then None else option_map suc (passed_in most time past))

-- the line behind so many that are held was put before `count` of them
pub record IsMovedDown (first held count : ℕ) (old new : List Placed) : Type 0 where
  pub below : (place : ℕ) → place + count < held → slot_at new (first + place) ≡ slot_at old (first + place)
  pub moved : (place : ℕ) → place + count ≡ held → slot_at new (first + place) ≡ slot_at old (first + held)
  pub above : (place : ℕ) → held < place + 1 + count → place < held → slot_at new (first + place + 1) ≡ slot_at old (first + place)

-- this is the first of these lines, of which the last one stands first
pub record IsFirst (line : Placed) (waiting : List Placed) : Type 0 where
  pub behind : List Placed
  pub is : waiting ≡ behind ++ line ∷ []

-- the first line that waited was given, or none waits
pub record GivesFirst (old new : Held) : Type 0 where
  pub line : Placed
  pub first : old.waiting ≡ new.waiting ++ line ∷ []
  pub given : new.given ≡ Some line

abbrev pub Gives : Bool → Held → Held → Type 0
Gives true old new = GivesFirst old new
Gives false old new = (old.waiting ≡ []) × (new ≡ old)

-- The given line is the last one of these, and as many wait as a line may be put before; or none was given.
abbrev pub IsBehind : Held → List Placed → Type 0
IsBehind held [] = held.given ≡ None
IsBehind held (line ∷ before) = (held.given ≡ Some line) × (MAX_PASSED ≤ length held.waiting)

-- What the line of this number says was put among what waits, and no line was put before the given one.
pub record Places (number : ℕ) (said : Said) (old new : Held) : Type 0 where
  pub behind : (given : List Placed) → IsBehind old given → IsBehind new given
  pub placed : (given : List Placed) → IsBehind old given → new.waiting ++ given ≡ next_placed number said (old.waiting ++ given)
