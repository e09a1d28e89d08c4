-- How long slots of confined jobs run: no longer than the pieces are. Time is cut into units, and counted one by one.
use Rattle.std.proofs.Common.{◌≡◌, ℕ, zero, suc, ◌+◌, ◌-◌, ◌*◌, ◌/◌, ◌<◌, ◌≤◌, List, [], ◌∷◌, get_or, refl, arith, inl, inr, min, ap}
use Rattle.std.specs.List.{All, sum_by}
use Rattle.std.proofs.lemmas.List.Sums.{sum_by-cons, get_or-le-sum_by}
use Rattle.std.proofs.lemmas.List.Elements.{All-tail, All-contains}
use Rattle.std.proofs.lemmas.Bool.{cases_lt}
use Rattle.std.proofs.Math.Nat.{mul-add, mul-sub, le-div_iff_mul-le, div-lt_iff_lt-mul}
use Rattle.base.specs.Numbers.{count, AreDifferent}
use Rattle.yds_model.specs.Job.{Job, job_at}
use Rattle.yds_model.specs.Slot.{WholeSlot}
use Rattle.yds_model.specs.Feasible.{RunFrom, IsInWindow}
use Rattle.yds_model.specs.Piece.{Piece, Covers, IsConfined, total_length}
use Rattle.base.proofs.Sums.{sum_by-mul, sum_by_same, sum_by_at_most, sum_by_zero}
use Rattle.base.proofs.Lists.{counted_contains}

-- how much of an interval lies before `now`
abbrev pub before : ℕ → ℕ → ℕ → ℕ
before from to now = min to now - min from now

-- 1 if the unit of time that begins at `now` lies in the interval, else 0
abbrev pub here : ℕ → ℕ → ℕ → ℕ
here from to now = before from to (suc now) - before from to now

-- before the next unit lies what lies before this one and what lies in it
before_grows : (from to now : ℕ) → before from to (suc now) ≡ before from to now + here from to now
before_grows from to now = grind arith

-- a unit after the interval doesn't lie in it
here_late : (from to now : ℕ) → to ≤ now → here from to now ≡ 0
here_late from to now h = grind arith

-- nor does one before it
here_early : (from to now : ℕ) → now < from → here from to now ≡ 0
here_early from to now h = grind arith

-- one between its ends does
here_inside : (from to now : ℕ) → from ≤ now → now < to → here from to now ≡ 1
here_inside from to now h k = grind arith

-- nothing lies before time 0
before_none : (from to : ℕ) → before from to 0 ≡ 0
before_none from to = grind arith

-- the whole interval lies before its end and later
before_all : (from to now : ℕ) → to ≤ now → before from to now ≡ to - from
before_all from to now h = grind arith

-- and never more than the whole
before_some : (from to now : ℕ) → before from to now ≤ to - from
before_some from to now = grind arith

-- what is counted no time comes to nothing
pub none_times : (often n : ℕ) → often < 1 → often * n ≡ 0
none_times often n none = grind arith

-- where weights count intervals, their parts before the next unit are those before this one and those in it
grows : {X : Type 0} (weight from to : X → ℕ) (xs : List X) (now : ℕ) →
    sum_by (λ x. weight x * before (from x) (to x) (suc now)) xs
    ≡ sum_by (λ x. weight x * before (from x) (to x) now) xs + sum_by (λ x. weight x * here (from x) (to x) now) xs
grows weight from to [] now = refl
grows weight from to (x ∷ xs) now =
    simp sum_by-cons (omega (
      arith,
      grows weight from to xs now,
      ap (λ n. weight x * n) (before_grows (from x) (to x) now),
      mul-add (weight x) (before (from x) (to x) now) (here (from x) (to x) now),
    ))

-- slots that begin later don't run now
pub none_running : (weight : WholeSlot → ℕ) (start now : ℕ) (slots : List WholeSlot) → RunFrom start slots → now < start →
    sum_by (λ slot. weight slot * here slot.from slot.to now) slots ≡ 0
none_running weight start now [] run early = refl
none_running weight start now (slot ∷ slots) run early =
    simp sum_by-cons (omega (
      arith,
      none_running weight slot.to now slots run.2 (omega (arith, run.0, run.1)),
      ap (λ n. weight slot * n) (here_early slot.from slot.to now (omega (arith, run.0))),
    ))

-- at most one slot runs at a time
pub one_running : (weight : WholeSlot → ℕ) (start now most : ℕ) (slots : List WholeSlot) → RunFrom start slots →
    All (λ slot. weight slot * here slot.from slot.to now ≤ most) slots →
    sum_by (λ slot. weight slot * here slot.from slot.to now) slots ≤ most
one_running weight start now most [] run each = omega arith
one_running weight start now most (slot ∷ slots) run each = elim (cases_lt now slot.to) [
  | inl early ↦ simp sum_by-cons (omega (arith, each 0 slot (omega arith), none_running weight slot.to now slots run.2 early))
  | inr late ↦ simp sum_by-cons (omega (
    arith,
    ap (λ n. weight slot * n) (here_late slot.from slot.to now late),
    one_running weight slot.to now most slots run.2
        (All-tail (λ slot. weight slot * here slot.from slot.to now ≤ most) slot slots each),
  ))
]

-- a piece that has the unit of time of `now` counts it
covered : (scale now : ℕ) (pieces : List Piece) → 1 ≤ scale → Covers pieces (now / scale) →
    1 ≤ sum_by (λ piece. 1 * here (piece.from * scale) (piece.to * scale) now) pieces
covered scale now pieces positive covers = grind (arith, div-lt_iff_lt-mul, get_or-le-sum_by, here_inside, le-div_iff_mul-le)

-- a slot of confined jobs, one of which it is at most once, runs now only where the pieces have the unit
slot_covered : (jobs : List Job) (scale now : ℕ) (members : List ℕ) (pieces : List Piece) (slot : WholeSlot) →
    1 ≤ scale → AreDifferent members → All (λ number. IsConfined (job_at jobs number) pieces) members →
    IsInWindow jobs scale slot →
    count slot.job members * here slot.from slot.to now
    ≤ sum_by (λ piece. 1 * here (piece.from * scale) (piece.to * scale) now) pieces
slot_covered jobs scale now members pieces slot positive different confined window =
    elim (cases_lt now slot.from) [
      | inl early ↦ omega (arith, ap (λ n. count slot.job members * n) (here_early slot.from slot.to now early))
      | inr begun ↦ elim (cases_lt now slot.to) [
        | inr late ↦ omega (arith, ap (λ n. count slot.job members * n) (here_late slot.from slot.to now late))
        | inl running ↦ elim (cases_lt (count slot.job members) 1) [
          | inl none ↦ omega (arith, none_times (count slot.job members) (here slot.from slot.to now) none)
          | inr some ↦ omega (
            arith,
            different slot.job,
            ap (λ n. count slot.job members * n) (here_inside slot.from slot.to now begun running),
            covered scale now pieces positive
                (All-contains (λ number. IsConfined (job_at jobs number) pieces) members slot.job confined
                (counted_contains slot.job members some) (now / scale)
                ((le-div_iff_mul-le positive).1 (omega (arith, window.released)))
                ((div-lt_iff_lt-mul positive).1 (omega (arith, window.due)))),
          )
        ]
      ]
    ]

-- Slots of different jobs that are confined to pieces run, together, no longer than the pieces are long.
module _ (jobs : List Job) (scale : ℕ) (members : List ℕ) (pieces : List Piece) (slots : List WholeSlot)
    (positive : 1 ≤ scale) (different : AreDifferent members)
    (confined : All (λ number. IsConfined (job_at jobs number) pieces) members)
    (run : RunFrom 0 slots) (windows : All (IsInWindow jobs scale) slots) where
  -- the same of what lies before a unit of time
  time_before : (now : ℕ) →
      sum_by (λ slot. count slot.job members * before slot.from slot.to now) slots
      ≤ sum_by (λ piece. 1 * before (piece.from * scale) (piece.to * scale) now) pieces
  time_before zero =
      omega (
        arith,
        sum_by_zero (λ slot. count slot.job members * before slot.from slot.to 0) slots
            (λ k d within. omega (
              arith,
              ap (λ n. count (get_or slots k d).job members * n)
                  (before_none (get_or slots k d).from (get_or slots k d).to),
            )),
      )
  time_before (suc now) =
      omega (
        arith,
        time_before now,
        grows (λ slot. count slot.job members) (λ slot. slot.from) (λ slot. slot.to) slots now,
        grows (λ piece. 1) (λ piece. piece.from * scale) (λ piece. piece.to * scale) pieces now,
        one_running (λ slot. count slot.job members) 0 now _ slots run
            (λ k d within. slot_covered jobs scale now members pieces (get_or slots k d) positive different confined
            (windows k d within)),
      )

  -- and of all of them
  pub time_within : sum_by (λ slot. count slot.job members * (slot.to - slot.from)) slots ≤ scale * total_length pieces
  time_within =
      let end = sum_by (λ (slot : WholeSlot). slot.to) slots in
      omega (
        arith,
        time_before end,
        sum_by_same (λ slot. count slot.job members * before slot.from slot.to end)
            (λ slot. count slot.job members * (slot.to - slot.from)) slots
            (λ k d within. ap (λ n. count (get_or slots k d).job members * n)
            (before_all (get_or slots k d).from (get_or slots k d).to end
            (get_or-le-sum_by (λ (slot : WholeSlot). slot.to) slots k d within))),
        sum_by_at_most (λ piece. 1 * before (piece.from * scale) (piece.to * scale) end)
            (λ piece. scale * (piece.to - piece.from)) pieces
            (λ k d within. omega (
              arith,
              before_some ((get_or pieces k d).from * scale) ((get_or pieces k d).to * scale) end,
              mul-sub scale (get_or pieces k d).to (get_or pieces k d).from,
            )),
        sum_by-mul scale (λ (piece : Piece). piece.to - piece.from) pieces,
      )
