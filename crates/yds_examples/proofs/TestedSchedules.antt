-- Tests of what is said of schedules: scales, feasible, earliest deadline first, served in stretches, the run of a policy.
use Rattle.yds_model.proofs.Common.{◌≡◌, ℕ, zero, suc, ◌-◌, ◌*◌, List, [], ◌∷◌, ◌++◌, true, false, All, Job, job_at, WrittenSlot, WholeSlot, IsDivided, IsScale, IsSolid, slots_at, work_given, slot_at, written_slot_at, AreAlike, RunFrom, IsInWindow, IsFeasibleAt, IsFeasible, Piece, stretches, LiesIn, IsUncut, ComesFirst, MayRun, IsFirstDue, EarliestAfter, IsEarliestFirst, IsServedInStretches, slots_in, FillsAtSpeed, ServesCapacity, IsRunAt, AreSlots}
use Rattle.model_lemmas.proofs.Scale.{one_scale_decides}
use Rattle.yds_examples.proofs.Tests.{Test, tests, proved, refuted, test_never, test_eq, test_implied, test_each, test_grid, test_ordered}

-- # Written slots

abbrev pub divided : (scale : ℕ) (slot : WrittenSlot) → Test (IsDivided scale slot)
divided scale slot = hlevel tests

-- a scale of the slots
abbrev pub is_scale : (scale : ℕ) (slots : List WrittenSlot) → Test (IsScale scale slots)
is_scale scale slots = hlevel (tests, divided)

abbrev pub solid : (slot : WrittenSlot) → Test (IsSolid slot)
solid slot = hlevel tests

-- the works of one job are alike
abbrev pub works_alike : (slots : List WrittenSlot) (i j : ℕ) →
    Test ((written_slot_at slots i).job ≡ (written_slot_at slots j).job → AreAlike (written_slot_at slots i).work (written_slot_at slots j).work)
works_alike slots i j = hlevel tests

-- what the types of the program keep of slots
abbrev pub are_slots : (jobs : ℕ) (slots : List WrittenSlot) → Test (AreSlots jobs slots)
are_slots jobs slots = hlevel (tests, solid, test_grid (works_alike slots))

-- # Feasible

-- one job at a time
abbrev pub run_from : (start : ℕ) (slots : List WholeSlot) → Test (RunFrom start slots)
run_from start [] = hlevel tests
run_from start (slot ∷ slots) = hlevel (tests, run_from slot.to slots)

-- each in its window
abbrev pub in_window : (jobs : List Job) (scale : ℕ) (slot : WholeSlot) → Test (IsInWindow jobs scale slot)
in_window jobs scale slot = hlevel tests

-- a schedule at a scale
abbrev pub feasible_at : (jobs : List Job) (scale : ℕ) (slots : List WholeSlot) → Test (IsFeasibleAt jobs scale slots)
feasible_at jobs scale slots =
    hlevel (tests, run_from, in_window, test_each (λ number. test_eq (work_given slots number) ((job_at jobs number).work * scale)))

module _ (jobs : List Job) (slots : List WrittenSlot) (scale : ℕ) (is : (is_scale scale slots).passes ≡ true) where
  -- written slots that are so at one scale are feasible, and where they aren't so they aren't
  pub feasible_by_test : (feasible_at jobs scale (slots_at scale slots)).passes ≡ true → IsFeasible jobs slots
  feasible_by_test passed = one_scale_decides jobs slots scale (proved (is_scale scale slots) is) (proved (feasible_at jobs scale (slots_at scale slots)) passed)

  -- one scale is enough to show that they aren't
  pub not_feasible_by_test : (feasible_at jobs scale (slots_at scale slots)).passes ≡ false → IsFeasible jobs slots → ⊥
  not_feasible_by_test failed feasible =
      refuted (feasible_at jobs scale (slots_at scale slots)) failed (feasible.holds scale (proved (is_scale scale slots) is))

-- # Earliest deadline first

-- the job comes before another one, if that may run
abbrev pub comes_before : (jobs : List Job) (scale : ℕ) (before : List WholeSlot) (slot : WholeSlot) (other : ℕ) →
    Test (MayRun jobs scale slot.from before other → ComesFirst jobs slot.job other)
comes_before jobs scale before slot other = hlevel tests

-- a slot whose job comes first
abbrev pub is_first_due : (jobs : List Job) (scale : ℕ) (before : List WholeSlot) (slot : WholeSlot) → Test (IsFirstDue jobs scale before slot)
is_first_due jobs scale before slot = hlevel (tests, test_each (comes_before jobs scale before slot))

-- slots after others
abbrev pub earliest_after : (jobs : List Job) (scale : ℕ) (before slots : List WholeSlot) → Test (EarliestAfter jobs scale before slots)
earliest_after jobs scale before [] = hlevel tests
earliest_after jobs scale before (slot ∷ slots) = hlevel (tests, is_first_due, earliest_after jobs scale (before ++ slot ∷ []) slots)

-- all slots
abbrev pub earliest_first : (jobs : List Job) (scale : ℕ) (slots : List WholeSlot) → Test (IsEarliestFirst jobs scale slots)
earliest_first jobs scale slots = earliest_after jobs scale [] slots

-- # Served in stretches

-- a slot in a stretch
abbrev pub lies_in : (scale : ℕ) (slot : WholeSlot) (stretch : Piece) → Test (LiesIn scale slot stretch)
lies_in scale slot stretch = hlevel tests

-- a slot in one stretch
abbrev pub uncut : (jobs : List Job) (scale : ℕ) (slot : WholeSlot) → Test (IsUncut jobs scale slot)
uncut jobs scale slot = hlevel (tests, lies_in)

-- two slots of one job lie in different stretches
abbrev pub is_once : (jobs : List Job) (scale : ℕ) (slots : List WholeSlot) (i j : ℕ) → Test ((slot_at slots i).job ≡ (slot_at slots j).job →
    All (λ stretch. LiesIn scale (slot_at slots i) stretch → LiesIn scale (slot_at slots j) stretch → ⊥) (stretches jobs))
is_once jobs scale slots i j =
    hlevel (tests, λ (stretch : Piece). test_implied (lies_in scale (slot_at slots i) stretch) (test_implied (lies_in scale (slot_at slots j) stretch) test_never))

-- slots in order, uncut, and one for a job and stretch
abbrev pub served_in_stretches : (jobs : List Job) (scale : ℕ) (slots : List WholeSlot) → Test (IsServedInStretches jobs scale slots)
served_in_stretches jobs scale slots = hlevel (tests, earliest_first, uncut, test_ordered (is_once jobs scale slots))

-- # A policy's run

-- slots without a gap, at one speed
abbrev pub fills_at_speed : (capacity per from to : ℕ) (slots : List WholeSlot) → Test (FillsAtSpeed capacity per from to slots)
fills_at_speed capacity per from to [] = hlevel tests
fills_at_speed capacity per from to (slot ∷ slots) = hlevel (tests, fills_at_speed capacity per slot.to to slots)

-- a stretch that serves so much
abbrev pub serves_capacity : (grid scale capacity : ℕ) (stretch : Piece) (slots : List WholeSlot) → Test (ServesCapacity grid scale capacity stretch slots)
serves_capacity grid scale zero stretch slots = hlevel tests
serves_capacity grid scale (suc capacity) stretch slots =
    fills_at_speed (suc capacity) (grid * (stretch.to - stretch.from) * scale) (stretch.from * scale) (stretch.to * scale) (slots_in scale stretch slots)

-- a run at a scale
abbrev pub run_at : (jobs : List Job) (grid scale : ℕ) (capacity : Piece → ℕ) (slots : List WholeSlot) → Test (IsRunAt jobs grid scale capacity slots)
run_at jobs grid scale capacity slots = hlevel (tests, feasible_at, served_in_stretches, λ (stretch : Piece). serves_capacity grid scale (capacity stretch) stretch slots)
