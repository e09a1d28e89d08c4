-- What slots spend where power is speed to a whole exponent, and when one schedule spends at most so many times what another does.
-- Power as speed to an exponent: Yao, Demers and Shenker (FOCS 1995).
use Rattle.std.specs.Prelude.{ℕ, ◌+◌, ◌-◌, ◌*◌, ◌^◌, ◌≤◌, List, [], ◌∷◌, ◌++◌, sum_by, Bool, nat_lt, if◌then◌else◌}
use Rattle.std.specs.List.{All, filter, list_all}
use Rattle.yds_model.specs.Job.{Job, job_at}
use Rattle.yds_model.specs.Scale.{Quotient}
use Rattle.yds_model.specs.Slot.{WrittenSlot, WholeSlot, IsSolid, IsScale, slots_at}
use Rattle.yds_model.specs.Piece.{Piece}
use Rattle.yds_model.specs.Event.{stretches}
use Rattle.yds_model.specs.Policy.{numbers_of}
use Rattle.yds_model.specs.AverageRate.{is_live}
use Rattle.yds_model.specs.Comparison.{work_in}

-- A slot that does `work` in `to - from` spends its time times (work over time) to the exponent. That is work to the exponent over time
-- to one less, in parts of the scale. The exponent is at least 1.
abbrev pub slot_spending : ℕ → WholeSlot → Quotient
slot_spending exponent slot = record { num = slot.work ^ exponent; den = (slot.to - slot.from) ^ (exponent - 1) }

abbrev pub sum_of_quotients : Quotient → Quotient → Quotient
sum_of_quotients x y = record { num = x.num * y.den + y.num * x.den; den = x.den * y.den }

-- what slots spend, together; the time between them spends nothing
abbrev pub spending : ℕ → List WholeSlot → Quotient
spending exponent [] = record { num = 0; den = 1 }
spending exponent (slot ∷ slots) = sum_of_quotients (slot_spending exponent slot) (spending exponent slots)

-- the one is at most so many times the other, by cross products; each is over something
pub record IsAtMostTimes (factor : ℕ) (x y : Quotient) : Type 0 where
  pub some : 1 ≤ x.den
  pub other_some : 1 ≤ y.den
  pub at_most : x.num * y.den ≤ factor * y.num * x.den

-- Written slots spend at most so many times what others do, at each common scale. Their denominators are at least 1, so there is one.
pub record SpendsAtMost (exponent factor : ℕ) (slots others : List WrittenSlot) : Type 0 where
  pub solid : All IsSolid (slots ++ others)
  pub at_most : (scale : ℕ) → IsScale scale (slots ++ others) →
      IsAtMostTimes factor (spending exponent (slots_at scale slots)) (spending exponent (slots_at scale others))

-- the slot is faster than p/q
abbrev pub is_faster : ℕ → ℕ → WholeSlot → Bool
is_faster p q slot = nat_lt (p * (slot.to - slot.from)) (q * slot.work)

-- how long the slots run that are faster than p/q, in parts of the scale
abbrev pub time_above : ℕ → ℕ → List WholeSlot → ℕ
time_above p q slots = sum_by (λ slot. if is_faster p q slot then slot.to - slot.from else 0) slots

-- what the slots do in the stretch is done at more than p/q, taken over all of it
abbrev pub is_fast : ℕ → ℕ → ℕ → List WholeSlot → Piece → Bool
is_fast p q scale slots stretch = nat_lt (p * ((stretch.to - stretch.from) * scale)) (q * work_in scale stretch slots)

-- each stretch of the job's window is so
abbrev pub runs_faster : List Job → ℕ → ℕ → ℕ → List WholeSlot → Job → Bool
runs_faster jobs p q scale slots job = list_all (is_fast p q scale slots) (filter (λ stretch. is_live stretch job) (stretches jobs))

-- the numbers of the jobs in all of whose window it is so
abbrev pub faster_throughout : List Job → ℕ → ℕ → ℕ → List WholeSlot → List ℕ
faster_throughout jobs p q scale slots = filter (λ number. runs_faster jobs p q scale slots (job_at jobs number)) (numbers_of jobs)
