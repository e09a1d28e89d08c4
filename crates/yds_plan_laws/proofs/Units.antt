-- Pieces cut into units of time, those that others cover and those that they don't.
use Rattle.yds_model.proofs.Common.{◌≡◌, ℕ, zero, suc, ◌+◌, ◌-◌, ◌<◌, ◌≤◌, List, [], ◌∷◌, ◌++◌, filter, refl, ap, ◌∙◌, arith, inl, inr, cond, Bool, true, false, false≢true, true≢false, not, cases_Bool, cases_lt, Contains, Contains-append_left, Contains-append_right, contains_filter, sum_by-cons, sum_by-append, sum_by-filter_both, get_or-le-sum_by, Piece, Covers, total_length}
use Rattle.yds_plan_laws.proofs.Ends.{has, has_time, covers_later, covers_rest}

-- # Whether pieces have a unit of time

-- one of them has it
abbrev pub covers_time : List Piece → ℕ → Bool
covers_time [] time = false
covers_time (piece ∷ pieces) time = cond (has time piece) true (covers_time pieces time)

-- so they cover it
pub time_covered : (pieces : List Piece) (time : ℕ) → covers_time pieces time ≡ true → Covers pieces time
time_covered [] time passes = absurd (false≢true passes)
time_covered (piece ∷ pieces) time passes = elim (cases_Bool (has time piece)) [
  | inl here ↦ (0, piece, omega arith, refl, has_time time piece here)
  | inr not ↦ covers_later time piece pieces (time_covered pieces time (rw not at passes))
]

-- and else they don't
pub time_uncovered : (pieces : List Piece) (time : ℕ) → covers_time pieces time ≡ false → Covers pieces time → ⊥
time_uncovered [] time fails (k, one, within, is, holds) = absurd (omega (arith, within))
time_uncovered (piece ∷ pieces) time fails covers = elim (cases_Bool (has time piece)) [
  | inl here ↦ absurd (true≢false (rw here at fails))
  | inr not ↦ time_uncovered pieces time (rw not at fails) (covers_rest time piece pieces not covers)
]

-- # Units

-- the unit of time from `time`
abbrev pub unit : ℕ → Piece
unit time = record { from = time; to = suc time }

-- so many units from a time on
abbrev units_from : ℕ → ℕ → List Piece
units_from from zero = []
units_from from (suc n) = unit from ∷ units_from (suc from) n

-- pieces in units
abbrev pub units : List Piece → List Piece
units [] = []
units (piece ∷ pieces) = units_from piece.from (piece.to - piece.from) ++ units pieces

-- they are as many
units_long : (from n : ℕ) → total_length (units_from from n) ≡ n
units_long from zero = refl
units_long from (suc n) = omega (
  arith,
  sum_by-cons (λ (piece : Piece). piece.to - piece.from) (unit from) (units_from (suc from) n),
  units_long (suc from) n,
)

-- and all together as long as the pieces
pub all_units_long : (pieces : List Piece) → total_length (units pieces) ≡ total_length pieces
all_units_long [] = refl
all_units_long (piece ∷ pieces) = omega (
  arith,
  sum_by-append (λ (one : Piece). one.to - one.from) (units_from piece.from (piece.to - piece.from)) (units pieces),
  units_long piece.from (piece.to - piece.from),
  sum_by-cons (λ (one : Piece). one.to - one.from) piece pieces,
  all_units_long pieces,
)

-- each time from the first on has its unit
unit_from : (from n time : ℕ) → from ≤ time → time < from + n → Contains (units_from from n) (unit time)
unit_from from zero time begun before = absurd (omega (arith, begun, before))
unit_from from (suc n) time begun before = elim (cases_lt from time) [
  | inl later ↦ let rest = unit_from (suc from) n time (omega (arith, later)) (omega (arith, before)) in (suc rest.0, omega (arith, rest.1), rest.2)
  | inr first ↦ let same : from ≡ time = omega (arith, begun, first) in (0, omega arith, ap unit same)
]

-- and so has each time of the pieces
pub unit_of : (pieces : List Piece) (time : ℕ) → Covers pieces time → Contains (units pieces) (unit time)
unit_of [] time (k, one, within, is, holds) = absurd (omega (arith, within))
unit_of (piece ∷ pieces) time covers = elim (cases_Bool (has time piece)) [
  | inl here ↦
      let both = has_time time piece here in
      Contains-append_left (units_from piece.from (piece.to - piece.from)) (units pieces) (unit time)
      (unit_from piece.from (piece.to - piece.from) time both.0 (omega (arith, both.0, both.1)))
  | inr not ↦ Contains-append_right (units_from piece.from (piece.to - piece.from)) (units pieces) (unit time)
      (unit_of pieces time (covers_rest time piece pieces not covers))
]

-- # The units that other pieces have, and the others

-- the unit is one of other pieces
abbrev is_in : List Piece → Piece → Bool
is_in others one = covers_time others one.from

-- the units of pieces that others have
abbrev pub shared : List Piece → List Piece → List Piece
shared others pieces = filter (is_in others) (units pieces)

-- and those that they haven't
abbrev pub apart : List Piece → List Piece → List Piece
apart others pieces = filter (λ one. not (is_in others one)) (units pieces)

-- together they are as long as the pieces
pub parted_long : (others pieces : List Piece) → total_length (shared others pieces) + total_length (apart others pieces) ≡ total_length pieces
parted_long others pieces =
    sum_by-filter_both (is_in others) (λ one. not (is_in others one)) (λ one. refl) (λ (one : Piece). one.to - one.from) (units pieces) ∙ all_units_long pieces

-- a unit of a list covers its time
covers_unit : (pieces : List Piece) (time : ℕ) → Contains pieces (unit time) → Covers pieces time
covers_unit pieces time (k, within, is) = (k, unit time, within, is, (omega arith, omega arith))

-- a time of both is one of the shared units
pub shared_covers : (others pieces : List Piece) (time : ℕ) → Covers pieces time → Covers others time → Covers (shared others pieces) time
shared_covers others pieces time covers too = elim (cases_Bool (covers_time others time)) [
  | inl here ↦ covers_unit (shared others pieces) time (contains_filter (is_in others) (units pieces) (unit time) here (unit_of pieces time covers))
  | inr none ↦ absurd (time_uncovered others time none too)
]

-- and a time of the pieces alone one of the others
pub apart_covers : (others pieces : List Piece) (time : ℕ) → Covers pieces time → covers_time others time ≡ false → Covers (apart others pieces) time
apart_covers others pieces time covers none =
    covers_unit (apart others pieces) time (contains_filter (λ one. not (is_in others one)) (units pieces) (unit time) (ap not none) (unit_of pieces time covers))

-- pieces that cover a time are not of no length
pub some_length : (pieces : List Piece) (time : ℕ) → Covers pieces time → 1 ≤ total_length pieces
some_length pieces time (k, one, within, is, holds) =
    omega (
      arith,
      holds.0,
      holds.1,
      ap (λ (piece : Piece). piece.to - piece.from) is,
      get_or-le-sum_by (λ (piece : Piece). piece.to - piece.from) pieces k one within,
    )
