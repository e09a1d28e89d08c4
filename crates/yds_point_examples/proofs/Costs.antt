-- Tests of what costs are, and small names for the examples.
use Rattle.yds_model.proofs.Common.{◌≡◌, ℕ, ◌≤◌, List, [], ◌∷◌, true, Job, Fraction, Quotient, WrittenSlot, WholeSlot, slots_at, Level, Point, hull_multiple, stretches, Spent, IsSpentAt, IsSpent, HoldsStretch, HoldsAll, All}
use Rattle.yds_energy.proofs.Finer.{each_scale_of}
use Rattle.yds_energy.proofs.SpentScale.{spent_free, all_hold_free}
use Rattle.yds_examples.proofs.Tests.{Test, tests, test_all, proved}
use Rattle.yds_examples.proofs.TestedSchedules.{is_scale}
use Rattle.yds_point_laws.specs.PowerPoints.{RiseWithin, IsAtMostTimesAnd, CostsByPower}

abbrev pub job : ℕ → ℕ → ℕ → Job
job release deadline work = record { release = release; deadline = deadline; work = work }

abbrev pub slot : ℕ → Fraction → Fraction → Fraction → WrittenSlot
slot job from to work = record { job = job; from = from; to = to; work = work }

abbrev pub level : ℕ → ℕ → ℕ → ℕ → List ℕ → Level
level work length from to members = record { work = work; length = length; pieces = record { from = from; to = to } ∷ []; members = members }

-- a quotient
abbrev pub over : ℕ → ℕ → Quotient
over num den = record { num = num; den = den }

-- rising speeds within a ratio
abbrev pub rise_within : (p q : ℕ) (speeds : List ℕ) → Test (RiseWithin p q speeds)
rise_within p q [] = hlevel tests
rise_within p q (speed ∷ []) = hlevel tests
rise_within p q (speed ∷ next ∷ speeds) = let later = rise_within p q (next ∷ speeds) in hlevel (tests, later)

-- one quotient at most so many times another and so much more
abbrev pub at_most : (factor : Quotient) (more : ℕ) (x y : Quotient) → Test (IsAtMostTimesAnd factor more x y)
at_most factor more x y = hlevel tests

-- what the points of a power cost
abbrev pub costs : (exponent p q slowest work : ℕ) (energy : Fraction) (scale : ℕ) (slots : List WholeSlot) → Test (CostsByPower exponent p q slowest work energy scale slots)
costs exponent p q slowest work energy scale slots = hlevel (tests, at_most)

-- the top point is fast enough for each stretch
abbrev pub all_hold : (jobs : List Job) (points : List Point) (scale : ℕ) (slots : List WholeSlot) → Test (All (HoldsStretch points scale slots) (stretches jobs))
all_hold jobs points scale slots = test_all {P = HoldsStretch points scale slots} (λ stretch. hlevel tests) (stretches jobs)

module _ (jobs : List Job) (points : List Point) (slots : List WrittenSlot) (spent : Spent) (scale : ℕ) (is : (is_scale scale slots).passes ≡ true)
    (wide : 1 ≤ hull_multiple points) where
  -- what is spent at one scale is spent,
  pub spends_by_test : IsSpentAt jobs points spent scale (slots_at scale slots) → IsSpent jobs points slots spent
  spends_by_test at = each_scale_of _ (spent_free jobs points spent wide) slots scale (proved (is_scale scale slots) is) at

  -- where the top point is fast enough
  pub holds_by_test : IsSpentAt jobs points spent scale (slots_at scale slots) → (all_hold jobs points scale (slots_at scale slots)).passes ≡ true → HoldsAll jobs points slots spent
  holds_by_test at passed = record {
    holds = each_scale_of _ (all_hold_free jobs points) slots scale (proved (is_scale scale slots) is) (proved (all_hold jobs points scale (slots_at scale slots)) passed);
    is_spent = spends_by_test at;
  }
