-- Times with their numbers, sorted as one key each, and what time is cut into by them.
use Rattle.std.specs.Prelude.{◌≡◌, ℕ, ◌+◌, ◌-◌, ◌*◌, ◌/◌, ◌%◌, ◌<◌, ◌==◌, nat_lt, ◌&&◌, Bool, cond, List, [], ◌∷◌, ◌++◌, length, map, slice_index}
use Rattle.std.specs.List.{flat_map, range_with_len}
use Rattle.std.specs.List.Sorted.{IsPermutation, IsNonDecreasing}
use Rattle.yds_model.specs.Job.{Job}
use Rattle.yds_events.specs.declared.window.Window.{Window}

-- The jobs' releases and deadlines, in the jobs' order: a release has twice its job's number, a deadline one more.
abbrev pub ends_of : List Job → List ℕ
ends_of jobs = flat_map (λ job. job.release ∷ job.deadline ∷ []) jobs

-- a time and its number in one
abbrev pub key_of : List ℕ → ℕ → ℕ
key_of times number = slice_index times number * 4294967296 + number

abbrev pub time_of_key : ℕ → ℕ
time_of_key key = key / 4294967296

abbrev pub number_of_key : ℕ → ℕ
number_of_key key = key % 4294967296

-- the keys of all times, sorted
pub record AreKeys (times keys : List ℕ) : Type 0 where
  pub few : length times < 4294967296
  pub once : IsPermutation (map (key_of times) (range_with_len 0 (length times))) keys
  pub rising : IsNonDecreasing keys

-- the last of the times is this one
abbrev pub ends_with : List ℕ → ℕ → Bool
ends_with times time = nat_lt 0 (length times) && (time == slice_index times (length times - 1))

-- a time more, unless it is the last
abbrev pub with_end : List ℕ → ℕ → List ℕ
with_end times time = cond (ends_with times time) times (times ++ time ∷ [])

-- the time stands at the place
pub record IsAt (times : List ℕ) (time place : ℕ) : Type 0 where
  pub within : place < length times
  pub is : slice_index times place ≡ time

-- each number has the place of its time
pub record ArePlaces (times points places : List ℕ) : Type 0 where
  pub all : length places ≡ length times
  pub each : (number : ℕ) → number < length times → IsAt points (slice_index times number) (slice_index places number)

-- a job's window from the place of its release to that of its deadline
abbrev pub window_from : List ℕ → ℕ → Window
window_from places job = record { first = slice_index places (2 * job); end = slice_index places (2 * job + 1) }

-- the key is a deadline's, and whose it is
abbrev pub is_deadline : ℕ → Bool
is_deadline key = key % 2 == 1

abbrev pub job_of_key : ℕ → ℕ
job_of_key key = key % 4294967296 / 2
