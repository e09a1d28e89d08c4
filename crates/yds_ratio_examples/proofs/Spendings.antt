-- What slots spend, tried on one or two slots: a spending at a scale, when one schedule spends at most so many times what another does, and
-- slots that have no such comparison.
use Rattle.yds_model.proofs.Common.{◌≡◌, ℕ, List, [], ◌∷◌, ◌++◌, refl, arith, true, false, Job, Fraction, of_whole, of_parts, Quotient, IsSameQuotient, WrittenSlot, WholeSlot, slots_at}
use Rattle.yds_ratios.specs.SpendingByPower.{slot_spending, spending, IsAtMostTimes, SpendsAtMost}
use Rattle.yds_ratios.proofs.SpendingScale.{one_scale_decides_spending}
use Rattle.yds_examples.proofs.Tests.{Test, tests, test_all, proved, refuted}
use Rattle.yds_examples.proofs.TestedSchedules.{solid, is_scale}

abbrev pub job : ℕ → ℕ → ℕ → Job
job release deadline work = record { release = release; deadline = deadline; work = work }

abbrev pub slot : ℕ → Fraction → Fraction → Fraction → WrittenSlot
slot job from to work = record { job = job; from = from; to = to; work = work }

-- one quotient at most so many times another
abbrev pub at_most_times : (factor : ℕ) (x y : Quotient) → Test (IsAtMostTimes factor x y)
at_most_times factor x y = hlevel tests

module _ (exponent factor scale : ℕ) (slots others : List WrittenSlot) (is : (is_scale scale (slots ++ others)).passes ≡ true) where
  -- what is so at one common scale is so at each,
  pub spends_by_test : (test_all solid (slots ++ others)).passes ≡ true →
      (at_most_times factor (spending exponent (slots_at scale slots)) (spending exponent (slots_at scale others))).passes ≡ true → SpendsAtMost exponent factor slots others
  spends_by_test are passed =
      one_scale_decides_spending exponent factor scale slots others (proved (test_all solid (slots ++ others)) are) (proved (is_scale scale (slots ++ others)) is)
      (proved (at_most_times factor (spending exponent (slots_at scale slots)) (spending exponent (slots_at scale others))) passed)

  -- and one common scale is enough to show that it isn't.
  pub more_by_test : (at_most_times factor (spending exponent (slots_at scale slots)) (spending exponent (slots_at scale others))).passes ≡ false →
      SpendsAtMost exponent factor slots others → ⊥
  more_by_test failed spends =
      refuted (at_most_times factor (spending exponent (slots_at scale slots)) (spending exponent (slots_at scale others))) failed
      (spends.at_most scale (proved (is_scale scale (slots ++ others)) is))

-- # One slot

-- work 3 in 2 units of time
abbrev three_in_two : WholeSlot
three_in_two = record { job = 0; from = 4; to = 6; work = 3 }

-- spends 9/2 by the square, 27/4 by the cube, and its work where power is speed
spent : (slot_spending 2 three_in_two ≡ record { num = 9; den = 2 }) × (slot_spending 3 three_in_two ≡ record { num = 27; den = 4 })
    × (slot_spending 1 three_in_two ≡ record { num = 3; den = 1 })
spent = (refl, refl, refl)

-- With another slot after 4 units without one: the time between spends nothing. 9/2 and 4/1 are 17/2.
spent_by_two : IsSameQuotient (spending 2 (three_in_two ∷ record { job = 1; from = 10; to = 11; work = 2 } ∷ [])) (record { num = 17; den = 2 })
spent_by_two = refl

-- # One job from 0 to 4 with work 4

-- at one speed, in two halves, and at twice the speed for half the time
abbrev pub even : List WrittenSlot
even = slot 0 (of_whole 0) (of_whole 4) (of_whole 4) ∷ []

abbrev halves : List WrittenSlot
halves = slot 0 (of_whole 0) (of_parts 4 3) (of_parts 4 3) ∷ slot 0 (of_parts 4 3) (of_whole 4) (of_parts 8 3) ∷ []

abbrev pub hasty : List WrittenSlot
hasty = slot 0 (of_whole 1) (of_whole 3) (of_whole 4) ∷ []

-- A slot in two parts of its speed spends the same.
same_spent : SpendsAtMost 2 1 even halves × SpendsAtMost 2 1 halves even
same_spent = (spends_by_test 2 1 3 even halves refl refl refl, spends_by_test 2 1 3 halves even refl refl refl)

-- Twice the speed spends twice as much by the square, and four times by the cube,
twice_spent : SpendsAtMost 2 2 hasty even × SpendsAtMost 3 4 hasty even
twice_spent = (spends_by_test 2 2 1 hasty even refl refl refl, spends_by_test 3 4 1 hasty even refl refl refl)

-- and no less,
not_less : (SpendsAtMost 2 1 hasty even → ⊥) × (SpendsAtMost 3 3 hasty even → ⊥)
not_less = (more_by_test 2 1 1 hasty even refl refl, more_by_test 3 3 1 hasty even refl refl)

-- but the same where power is speed.
work_spent : SpendsAtMost 1 1 hasty even
work_spent = spends_by_test 1 1 1 hasty even refl refl refl

-- # What has no comparison

-- a slot without time
abbrev at_once : List WrittenSlot
at_once = slot 0 (of_whole 2) (of_whole 2) (of_whole 4) ∷ []

-- is over nothing: it spends at most no number of times what another does, nor the other what it does,
nothing_compared : (factor : ℕ) → (SpendsAtMost 2 factor at_once even → ⊥) × (SpendsAtMost 2 factor even at_once → ⊥)
nothing_compared factor = (
  λ spends. absurd (omega (arith, (spends.at_most 1 (proved (is_scale 1 (at_once ++ even)) refl)).some)),
  λ spends. absurd (omega (arith, (spends.at_most 1 (proved (is_scale 1 (even ++ at_once)) refl)).other_some)),
)

-- also where it does no work.
abbrev nothing_at_once : List WrittenSlot
nothing_at_once = slot 0 (of_whole 2) (of_whole 2) (of_whole 0) ∷ []

nothing_done : SpendsAtMost 2 0 nothing_at_once even → ⊥
nothing_done spends = absurd (omega (arith, (spends.at_most 1 (proved (is_scale 1 (nothing_at_once ++ even)) refl)).some))

-- A slot with a denominator of 0 has no scale, and nothing is said of it,
abbrev broken : List WrittenSlot
broken = slot 0 (of_whole 0) (record { whole = 4; num = 0; den = 0 }) (of_whole 4) ∷ []

-- not even that it spends at most what it does itself.
broken_refused : (factor : ℕ) → SpendsAtMost 2 factor broken broken → ⊥
broken_refused factor spends = absurd (omega (arith, (spends.solid 0 (slot 0 (of_whole 0) (of_whole 0) (of_whole 0)) (omega arith)).to))

-- No slots spend nothing.
none_spent : SpendsAtMost 2 0 [] even
none_spent = spends_by_test 2 0 1 [] even refl refl refl
