-- The fill of stretches with room by jobs that want units: each job, in order, takes the earliest room in its window.
use Rattle.std.specs.Prelude.{◌≡◌, ℕ, ◌+◌, ◌-◌, ◌<◌, ◌≤◌, ◌⊎◌, ◌==◌, nat_lt, min, List, length, take, slice_index, count_by}
use Rattle.std.specs.List.{All, AllPairs}
use Rattle.yds_events.specs.declared.window.Window.{Window}
use Rattle.yds_timetable.specs.Shares.{JobShare}
use Rattle.yds_search.specs.Found.{units_of_job, units_in_stretch}
use Rattle.yds_events.specs.Window.{window_at, IsIn}

-- one place isn't after another
abbrev pub IsNotAfter : ℕ → ℕ → Type 0
IsNotAfter one other = one ≤ other

-- The stretch has no room, and who has a share in it comes before the job, or is the job. Which job comes before another is told by `Before`:
-- by place in a group, or by deadline and number.
pub record IsFullBefore (Before : ℕ → ℕ → Type 0) (shares : List JobShare) (rooms : List ℕ) (k job : ℕ) : Type 0 where
  pub full : slice_index rooms k ≡ 0
  pub before : All (λ share. share.stretch ≡ k → Before share.job job) shares

-- some units of one of n jobs in one of m stretches, in the job's window
pub record IsPart (windows : List Window) (n m : ℕ) (share : JobShare) : Type 0 where
  pub known : share.job < n
  pub known_stretch : share.stretch < m
  pub inside : IsIn windows share.job share.stretch
  pub some : 1 ≤ share.units

-- a job with a share found each stretch before it in its window full
abbrev pub FoundFull : (ℕ → ℕ → Type 0) → List Window → List JobShare → List ℕ → JobShare → Type 0
FoundFull Before windows shares rooms share = (k : ℕ) → (window_at windows share.job).first ≤ k → k < share.stretch → IsFullBefore Before shares rooms k share.job

-- in a stretch one job comes before the next, which is another one
abbrev pub StandInOrder : (ℕ → ℕ → Type 0) → JobShare → JobShare → Type 0
StandInOrder Before one next = one.stretch ≡ next.stretch → (one.job ≡ next.job → ⊥) × Before one.job next.job

-- the shares that jobs took in order, and the room that is left
pub record AreTaken (Before : ℕ → ℕ → Type 0) (windows : List Window) (m : ℕ) (shares : List JobShare) (rooms : List ℕ) : Type 0 where
  pub parts : All (IsPart windows (length windows) m) shares
  pub early : All (FoundFull Before windows shares rooms) shares
  pub ordered : AllPairs (StandInOrder Before) shares

abbrev pub full_count : List ℕ → ℕ
full_count rooms = count_by (λ room. room == 0) rooms

abbrev pub wanting_count : List ℕ → ℕ
wanting_count wants = count_by (λ want. nat_lt 0 want) wants

-- A job has taken what it could before stretch `next`, and so much of its want is left.
pub record IsServed (windows : List Window) (job want : ℕ) (shares : List JobShare) (rooms : List ℕ)
    (next left : ℕ) (shares' : List JobShare) (rooms' : List ℕ) : Type 0 where
  pub taken : AreTaken IsNotAfter windows (length rooms) shares' rooms'
  pub all : All (λ share. share.job ≤ job) shares'
  pub ahead : All (λ share. share.job ≡ job → share.stretch < next) shares'
  pub wanted : units_of_job shares' job + left ≡ units_of_job shares job + want
  pub others : (i : ℕ) → (i ≡ job → ⊥) → units_of_job shares' i ≡ units_of_job shares i
  pub same_length : length rooms' ≡ length rooms
  pub room : (k : ℕ) → units_in_stretch shares' k + slice_index rooms' k ≡ units_in_stretch shares k + slice_index rooms k
  pub swept : 1 ≤ left → (k : ℕ) → (window_at windows job).first ≤ k → k < next → slice_index rooms' k ≡ 0
  pub kept : (k i : ℕ) → IsFullBefore IsNotAfter shares rooms k i → IsFullBefore IsNotAfter shares' rooms' k i
  pub few : length shares' + full_count rooms + min left 1 ≤ length shares + full_count rooms' + min want 1

-- All jobs have taken what they could.
pub record IsFill (Before : ℕ → ℕ → Type 0) (windows : List Window) (wants rooms : List ℕ)
    (shares : List JobShare) (wants' rooms' : List ℕ) : Type 0 where
  pub taken : AreTaken Before windows (length rooms) shares rooms'
  pub same_wants : length wants' ≡ length wants
  pub same_rooms : length rooms' ≡ length rooms
  pub want : (j : ℕ) → units_of_job shares j + slice_index wants' j ≡ slice_index wants j
  pub room : (k : ℕ) → units_in_stretch shares k + slice_index rooms' k ≡ slice_index rooms k
  pub late : (j : ℕ) → j < length windows → 1 ≤ slice_index wants' j → (k : ℕ) → IsIn windows j k → IsFullBefore Before shares rooms' k j
  pub few : length shares + full_count rooms ≤ wanting_count wants + full_count rooms'

-- The jobs before place i have taken what they could.
pub record IsFilling (windows : List Window) (wants rooms : List ℕ) (i : ℕ) (shares : List JobShare) (wants' rooms' : List ℕ) : Type 0 where
  pub taken : AreTaken IsNotAfter windows (length rooms) shares rooms'
  pub same_wants : length wants' ≡ length wants
  pub same_rooms : length rooms' ≡ length rooms
  pub want : (j : ℕ) → units_of_job shares j + slice_index wants' j ≡ slice_index wants j
  pub room : (k : ℕ) → units_in_stretch shares k + slice_index rooms' k ≡ slice_index rooms k
  pub later : All (λ share. share.job < i) shares
  pub late : (j : ℕ) → j < i → 1 ≤ slice_index wants' j → (k : ℕ) → IsIn windows j k → IsFullBefore IsNotAfter shares rooms' k j
  pub few : length shares + full_count rooms ≤ wanting_count (take i wants) + full_count rooms'

-- From each stretch one may go on to `next`, since all before that are full. There is one more place after the last stretch.
pub record IsNext (rooms next : List ℕ) : Type 0 where
  pub count : length next ≡ length rooms + 1
  pub forward : (k : ℕ) → k < length next → k ≤ slice_index next k
  pub inside : (k : ℕ) → k < length next → slice_index next k < length next
  pub full : (k i : ℕ) → k < length next → k ≤ i → i < slice_index next k → slice_index rooms i ≡ 0

-- a place at which one may go on, with only full stretches before it
pub record IsNextFrom (rooms : List ℕ) (from place n : ℕ) : Type 0 where
  pub after : from ≤ place
  pub within : place < n
  pub full : (i : ℕ) → from ≤ i → i < place → slice_index rooms i ≡ 0

-- each number at its own place, up to the last one
pub record IsNumbers (last : ℕ) (numbers : List ℕ) : Type 0 where
  pub count : length numbers ≡ last + 1
  pub each : (k : ℕ) → k < last + 1 → slice_index numbers k ≡ k
