-- A walk over places in order of deadlines, which keeps the greatest quotient, and passes over some places together.
use Rattle.yds_model.proofs.Common.{◌≡◌, ℕ, ◌+◌, ◌-◌, ◌*◌, ◌<◌, ◌≤◌, ◌⊎◌, List, length, slice_index, ◌∙◌, sym, subst, ap, arith, inl, inr, cases_lt, cases_eq, mul-le-mul_right, mul-le-mul_left}
use Rattle.fraction_lemmas.proofs.Fractions.{at_most_still}
use Rattle.yds_edf.specs.declared.pending.PendingJobs.{PendingJobs}
use Rattle.yds_oa.specs.declared.quotient.Quotient.{Quotient}
use Rattle.yds_edf.specs.Blocks.{units_before}
use Rattle.yds_edf.specs.DueOrder.{no_due, due_at}
use Rattle.yds_oa.specs.declared.walk.Walk.{Walk}
use Rattle.yds_oa.specs.Greatest.{AreInOrder, AreDueAfter, IsQuotientAmong, IsNotGreater, IsGreatestWithin, IsWalk}
use Rattle.model_lemmas.proofs.SumsBelow.{sum_below_term}
use Rattle.yds_edf.proofs.PlacedSums.{before_rises, none_left}

-- before a place with no units before it there are none
pub none_there : (units : List ℕ) (start place : ℕ) → units_before units start ≡ 0 → place < start → slice_index units place ≡ 0
none_there units start place none less = omega (arith, none, sum_below_term start place (slice_index units) less)

-- the places behind the first that is due later
pub due_behind : (pending : PendingJobs) (from start : ℕ) → AreInOrder pending → start ≤ length pending.order.items →
    ((place : ℕ) → place < start → ((due_at pending.order.items place).deadline ≤ from) ⊎ (slice_index pending.units place ≡ 0)) →
    (start < length pending.order.items → from < (due_at pending.order.items start).deadline) → AreDueAfter pending from start
due_behind pending from start are within before next = grind arith

-- one place more is looked at
module _ (pending : PendingJobs) (from start place units : ℕ) (old new one : Quotient) (after : AreDueAfter pending from start) (past : start ≤ place)
    (known : place < length pending.order.items) (sum : units_before pending.units start + units ≡ units_before pending.units (place + 1))
    (units_is : one.units ≡ units) (time_is : one.time ≡ (due_at pending.order.items place).deadline - from) (either : (new ≡ old) ⊎ (new ≡ one))
    (first : old.units * new.time ≤ new.units * old.time) (second : one.units * new.time ≤ new.units * one.time) (before : IsGreatestWithin pending from start place old) where
  still_attained : (new ≡ old) ⊎ (new ≡ one) → IsQuotientAmong pending from start new
  still_attained (inl same) = subst (IsQuotientAmong pending from start) (sym same) before.attained
  still_attained (inr other) = inr (record {
    place = place;
    after = past;
    known = known;
    units = omega (arith, sum, units_is, ap (λ (q : Quotient). q.units) other);
    time = ap (λ (q : Quotient). q.time) other ∙ time_is;
  })

  still_some : (new ≡ old) ⊎ (new ≡ one) → 1 ≤ new.time
  still_some (inl same) = omega (arith, before.some_time, ap (λ (q : Quotient). q.time) same)
  still_some (inr other) = omega (arith, after.after place past known, time_is, ap (λ (q : Quotient). q.time) other)

  here_at_most : IsNotGreater pending from start new place
  here_at_most = grind arith

  pub one_further : IsGreatestWithin pending from start (place + 1) new
  one_further = record {
    some_time = still_some either;
    attained = still_attained either;
    upper = λ p most less. elim (cases_eq p place) [
      | inl last ↦ subst (IsNotGreater pending from start new) (sym last) here_at_most
      | inr other ↦ at_most_still (units_before pending.units (p + 1) - units_before pending.units start) ((due_at pending.order.items p).deadline - from) old.units old.time new.units new.time
          before.some_time (before.upper p most (omega (arith, less, other))) first
    ];
  }

-- some places are passed over: even all units until their end, at the first deadline, give no greater quotient
pub passed_over : (pending : PendingJobs) (from start place end units : ℕ) (best : Quotient) → AreInOrder pending → start ≤ place → end ≤ length pending.order.items →
    units_before pending.units start + units ≡ units_before pending.units end → units * best.time ≤ best.units * ((due_at pending.order.items place).deadline - from) →
    IsGreatestWithin pending from start place best → IsGreatestWithin pending from start end best
passed_over pending from start place end units best are past within sum most before = grind (arith, before_rises, cases_lt, mul-le-mul_left, mul-le-mul_right)

-- none is looked at yet
pub none_within : (pending : PendingJobs) (from start : ℕ) (guess : Quotient) → 1 ≤ guess.time → IsQuotientAmong pending from start guess → IsGreatestWithin pending from start start guess
none_within pending from start guess some attained =
    record { some_time = some; attained = attained; upper = λ p most less. absurd (omega (arith, most, less)) }

-- the units so far, at the next deadline, give no greater quotient: they didn't at the last one, which is no later
at_last : (pending : PendingJobs) (walk : Walk) → AreInOrder pending → IsWalk pending walk → walk.place < length pending.order.items →
    walk.units * walk.greatest.time ≤ walk.greatest.units * ((due_at pending.order.items walk.place).deadline - walk.from)
at_last pending walk are is more = elim (cases_lt walk.start walk.place) [
  | inr begun ↦
      let place : walk.place ≡ walk.start = omega (arith, begun, is.past) in
      let none : walk.units ≡ 0 = omega (arith, is.units, ap (units_before pending.units) place) in
      omega (arith, ap (λ n. n * walk.greatest.time) none)
  | inl further ↦
      let last = walk.place - 1 in
      let next : last + 1 ≡ walk.place = omega (arith, further) in
      let upper : IsNotGreater pending walk.from walk.start walk.greatest last = is.greatest.upper last (omega (arith, further)) (omega (arith, further)) in
      let units : units_before pending.units (last + 1) - units_before pending.units walk.start ≡ walk.units = omega (arith, is.units, ap (units_before pending.units) next) in
      let longer : (due_at pending.order.items last).deadline - walk.from ≤ (due_at pending.order.items walk.place).deadline - walk.from =
      omega (arith, are.rising last walk.place no_due (omega (arith, next)) more) in
      omega (arith, upper, ap (λ n. n * walk.greatest.time) units, mul-le-mul_left walk.greatest.units longer)
]

-- a walk is over at the end of the places, or where it has counted all units
walked_to_end : (pending : PendingJobs) (walk : Walk) → IsWalk pending walk → length pending.order.items ≤ walk.place →
    IsGreatestWithin pending walk.from walk.start (length pending.order.items) walk.greatest
walked_to_end pending walk is past = grind arith

pub walked_through : (pending : PendingJobs) (walk : Walk) → AreInOrder pending → IsWalk pending walk →
    (length pending.order.items ≤ walk.place) ⊎ (units_before pending.units (length pending.units) ≤ walk.units) →
    IsGreatestWithin pending walk.from walk.start (length pending.order.items) walk.greatest
walked_through pending walk are is (inl past) = walked_to_end pending walk is past
walked_through pending walk are is (inr counted) = elim (cases_lt walk.place (length pending.order.items)) [
  | inr past ↦ walked_to_end pending walk is past
  | inl more ↦
      passed_over pending walk.from walk.start walk.place (length pending.order.items) walk.units walk.greatest are is.past (omega arith)
      (subst (λ (n : ℕ). units_before pending.units walk.start + walk.units ≡ units_before pending.units n) are.all_units
      (none_left pending.units walk.start walk.place walk.units (omega (arith, are.all_units, is.within)) is.units counted))
      (at_last pending walk are is more) is.greatest
]
