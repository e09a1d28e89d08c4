-- The tasks and the speeds of a list, one after another.
use Rattle.base.proofs.Common.{◌≡◌, ℕ, ◌+◌, ◌<◌, ◌≤◌, List, [], ◌∷◌, ◌++◌, length, All, Bool, true, false, not, ◌||◌, cond, Result, Ok, Err, refl, sym, ap, ◌∙◌, append_assoc, arith, false≢true, length-drop, take_all, All-cons, All-nil}
use Rattle.std.specs.List.{list_any, slice_split, before_first, after_first, position_or_len}
use Rattle.std.proofs.lemmas.List.Splits.{slice_split_none, slice_split_first}
use Rattle.yds_trace.specs.Asked.{Task, StartSpeed}
pub use Rattle.yds_trace_words.proofs.Ahead.{ahead, ahead_more}
use Rattle.yds_trace_words.specs.Words.{WordFault, before, and_behind}
use Rattle.yds_trace_words.specs.Tasks.{task_at, tasks_from}
use Rattle.yds_trace_words.specs.Start.{speed_at, speeds_from}
use Rattle.yds_trace_words.specs.declared.letter.Letter.{Letter}

pub task_goes_on : (unit place : ℕ) (letters : List Letter) (more : List (List Letter)) (task : Task) → task_at unit place letters ≡ Ok task
    → tasks_from unit place (letters ∷ more) ≡ before task (tasks_from unit (place + 1) more)
task_goes_on unit place letters more task is = ap (λ (one : Result Task WordFault). and_behind one (tasks_from unit (place + 1) more)) is

pub task_ends : (unit place : ℕ) (letters : List Letter) (more : List (List Letter)) (fault : WordFault) → task_at unit place letters ≡ Err fault
    → tasks_from unit place (letters ∷ more) ≡ Err fault
task_ends unit place letters more fault is = ap (λ (one : Result Task WordFault). and_behind one (tasks_from unit (place + 1) more)) is

pub speed_goes_on : (place : ℕ) (letters : List Letter) (more : List (List Letter)) (speed : StartSpeed) → speed_at place letters ≡ Ok speed
    → speeds_from place (letters ∷ more) ≡ before speed (speeds_from (place + 1) more)
speed_goes_on place letters more speed is = ap (λ (one : Result StartSpeed WordFault). and_behind one (speeds_from (place + 1) more)) is

pub speed_ends : (place : ℕ) (letters : List Letter) (more : List (List Letter)) (fault : WordFault) → speed_at place letters ≡ Err fault
    → speeds_from place (letters ∷ more) ≡ Err fault
speed_ends place letters more fault is = ap (λ (one : Result StartSpeed WordFault). and_behind one (speeds_from (place + 1) more)) is

module _ {X : Type 0} (passes : X → Bool) where
  no_first : (x : X) (xs : List X) (b : Bool) → passes x ≡ b → (b || list_any passes xs) ≡ false → (list_any passes xs ≡ false → All (λ y. passes y ≡ false) xs)
      → All (λ y. passes y ≡ false) (x ∷ xs)
  no_first x xs true is none rest = absurd (false≢true (sym none))
  no_first x xs false is none rest = All-cons (λ y. passes y ≡ false) x xs is (rest none)

  none_all : (xs : List X) → list_any passes xs ≡ false → All (λ x. passes x ≡ false) xs
  none_all [] none = All-nil _
  none_all (x ∷ xs) none = no_first x xs (passes x) refl none (none_all xs)

  placed_by : (xs : List X) (b : Bool) → (b || list_any passes xs) ≡ true → (list_any passes xs ≡ true → position_or_len passes xs < length xs)
      → cond (not b) (1 + position_or_len passes xs) 0 < 1 + length xs
  placed_by xs true is rest = omega arith
  placed_by xs false is rest = let placed : position_or_len passes xs < length xs = rest is in omega arith

  none_by : (xs : List X) (b : Bool) → (b || list_any passes xs) ≡ false → (list_any passes xs ≡ false → length xs ≤ position_or_len passes xs)
      → 1 + length xs ≤ cond (not b) (1 + position_or_len passes xs) 0
  none_by xs true is rest = absurd (false≢true (sym is))
  none_by xs false is rest = let behind : length xs ≤ position_or_len passes xs = rest is in omega (arith, behind)

  some_placed : (xs : List X) → list_any passes xs ≡ true → position_or_len passes xs < length xs
  some_placed [] some = absurd (false≢true some)
  some_placed (x ∷ xs) some = let placed = placed_by xs (passes x) some (some_placed xs) in omega (arith, placed)

  -- no such element: one part
  pub split_none : (xs : List X) → list_any passes xs ≡ false → slice_split passes xs ≡ xs ∷ []
  split_none xs none = slice_split_none passes xs (none_all xs none)

  -- the part before the first such element, and those of what is behind it
  pub split_some : (xs : List X) (d : X) → list_any passes xs ≡ true → slice_split passes xs ≡ before_first passes xs ∷ slice_split passes (after_first passes xs)
  split_some xs d some = slice_split_first passes xs d (some_placed xs some)

  -- what is behind it is shorter
  pub after_shorter : (xs : List X) → list_any passes xs ≡ true → length (after_first passes xs) < length xs
  after_shorter xs some = let placed = some_placed xs some in omega (arith, placed, length-drop (position_or_len passes xs + 1) xs)

  -- the pieces up to here, and one more
  pub one_more : (done : List (List X)) (rest : List X) (d : X) (all : List (List X)) → done ++ slice_split passes rest ≡ all → list_any passes rest ≡ true
      → (done ++ before_first passes rest ∷ []) ++ slice_split passes (after_first passes rest) ≡ all
  one_more done rest d all so_far some =
      append_assoc done (before_first passes rest ∷ []) (slice_split passes (after_first passes rest)) ∙ ap (λ (more : List (List X)). done ++ more) (sym (split_some rest d some)) ∙ so_far

  none_placed : (xs : List X) → list_any passes xs ≡ false → length xs ≤ position_or_len passes xs
  none_placed [] none = omega arith
  none_placed (x ∷ xs) none = let behind = none_by xs (passes x) none (none_placed xs) in omega (arith, behind)

  -- the last piece
  pub last_one : (done : List (List X)) (rest : List X) (all : List (List X)) → done ++ slice_split passes rest ≡ all → list_any passes rest ≡ false
      → done ++ before_first passes rest ∷ [] ≡ all
  last_one done rest all so_far none =
      ap (λ (piece : List X). done ++ piece ∷ []) (take_all (position_or_len passes rest) rest (none_placed rest none))
      ∙ ap (λ (more : List (List X)). done ++ more) (sym (split_none rest none)) ∙ so_far
