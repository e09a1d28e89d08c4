-- Units of time before, in and after removed stretches, and how much is removed before a time.
use Rattle.yds_model.proofs.Common.{◌≡◌, ℕ, zero, suc, ◌+◌, ◌-◌, ◌<◌, ◌≤◌, min, List, [], ◌∷◌, length, get_or, take, inl, inr, arith, refl, All, cases_lt, All-tail, sum_by-cons, Piece, Covers, total_length}
use Rattle.yds_certificate.proofs.Cover.{Covers-cons}
use Rattle.yds_contract.specs.Contracted.{AreApartFrom, removed_before}

-- how much of a stretch lies before a time
abbrev pub part_before : ℕ → Piece → ℕ
part_before time piece = min piece.to time - min piece.from time

none_of : (from to time : ℕ) → time ≤ from → from < to → min to time - min from time ≡ 0
none_of from to time early forward = grind arith

some_of : (from to time : ℕ) → from ≤ time → time ≤ to → min to time - min from time ≡ time - from
some_of from to time late within = grind arith

all_of : (from to time : ℕ) → to ≤ time → from < to → min to time - min from time ≡ to - from
all_of from to time late forward = grind arith

-- no cell is covered without pieces, or before them
pub none_covered : (time : ℕ) → Covers [] time → ⊥
none_covered time found = omega (arith, found.2)

pub apart_weaker : (early late : ℕ) (pieces : List Piece) → early ≤ late → AreApartFrom late pieces → AreApartFrom early pieces
apart_weaker early late [] before apart = tt
apart_weaker early late (piece ∷ pieces) before apart = (omega (arith, apart.0), apart.1, apart.2)

pub covered_later : (start time : ℕ) (pieces : List Piece) → AreApartFrom start pieces → Covers pieces time → start ≤ time
covered_later start time [] apart covers = absurd (none_covered time covers)
covered_later start time (piece ∷ pieces) apart covers = elim ((Covers-cons piece pieces time).0 covers) [
  | inl here ↦ omega (arith, apart.0, here.0)
  | inr later ↦ omega (arith, apart.0, apart.1, covered_later (suc piece.to) time pieces apart.2 later)
]

-- nothing is removed before all stretches
pub none_before : (start time : ℕ) (removed : List Piece) → AreApartFrom start removed → time ≤ start → removed_before removed time ≡ 0
none_before start time [] apart early = refl
none_before start time (piece ∷ removed) apart early = omega (
  arith,
  sum_by-cons (part_before time) piece removed,
  none_of piece.from piece.to time (omega (arith, apart.0)) apart.1,
  none_before (suc piece.to) time removed apart.2 (omega (arith, apart.0, apart.1)),
)

-- in or before the first stretch
pub first_before : (time : ℕ) (piece : Piece) (removed : List Piece) → AreApartFrom (suc piece.to) removed → piece.from < piece.to → time ≤ piece.to →
    removed_before (piece ∷ removed) time ≡ time - piece.from
first_before time piece removed apart forward early = elim (cases_lt time piece.from) [
  | inl before ↦ omega (arith, sum_by-cons (part_before time) piece removed, none_of piece.from piece.to time (omega arith) forward, none_before (suc piece.to) time removed apart (omega arith))
  | inr within ↦ omega (arith, sum_by-cons (part_before time) piece removed, some_of piece.from piece.to time within early, none_before (suc piece.to) time removed apart (omega arith))
]

-- after the first stretch
pub rest_before : (time : ℕ) (piece : Piece) (removed : List Piece) → piece.from < piece.to → piece.to ≤ time →
    removed_before (piece ∷ removed) time ≡ (piece.to - piece.from) + removed_before removed time
rest_before time piece removed forward late = omega (arith, sum_by-cons (part_before time) piece removed, all_of piece.from piece.to time late forward)

-- no more is removed before a time than there is since the start
pub few_before : (start time : ℕ) (removed : List Piece) → AreApartFrom start removed → start ≤ time → start + removed_before removed time ≤ time
few_before start time [] apart late = omega arith
few_before start time (piece ∷ removed) apart late = elim (cases_lt piece.to time) [
  | inl after ↦ omega (arith, apart.0, apart.1, rest_before time piece removed apart.1 (omega arith), few_before (suc piece.to) time removed apart.2 (omega arith))
  | inr within ↦ omega (arith, apart.0, first_before time piece removed apart.2 apart.1 within)
]

-- after all stretches they are removed whole
pub whole_before : (start time : ℕ) (removed : List Piece) → AreApartFrom start removed → All (λ piece. piece.to ≤ time) removed → removed_before removed time ≡ total_length removed
whole_before start time [] apart ended = refl
whole_before start time (piece ∷ removed) apart ended = omega (
  arith,
  rest_before time piece removed apart.1 (ended 0 piece (omega arith)),
  whole_before (suc piece.to) time removed apart.2 (All-tail (λ p. p.to ≤ time) piece removed ended),
  sum_by-cons (λ (p : Piece). p.to - p.from) piece removed,
)

abbrev pub no_piece : Piece
no_piece = record { from = 0; to = 0 }

abbrev pub piece_at : List Piece → ℕ → Piece
piece_at pieces i = get_or pieces i no_piece

pub later_at : (start : ℕ) (pieces : List Piece) (k : ℕ) → AreApartFrom start pieces → k < length pieces → start ≤ (piece_at pieces k).from
later_at start [] k apart within = absurd (omega arith)
later_at start (piece ∷ pieces) zero apart within = apart.0
later_at start (piece ∷ pieces) (suc k) apart within = omega (arith, apart.0, apart.1, later_at (suc piece.to) pieces k apart.2 (omega arith))

pub forward_at : (start : ℕ) (pieces : List Piece) (k : ℕ) → AreApartFrom start pieces → k < length pieces → (piece_at pieces k).from < (piece_at pieces k).to
forward_at start [] k apart within = absurd (omega arith)
forward_at start (piece ∷ pieces) zero apart within = apart.1
forward_at start (piece ∷ pieces) (suc k) apart within = forward_at (suc piece.to) pieces k apart.2 (omega arith)

pub in_order_at : (start : ℕ) (pieces : List Piece) (i j : ℕ) → AreApartFrom start pieces → i ≤ j → j < length pieces → (piece_at pieces i).from ≤ (piece_at pieces j).from
in_order_at start [] i j apart before within = absurd (omega arith)
in_order_at start (piece ∷ pieces) zero zero apart before within = omega arith
in_order_at start (piece ∷ pieces) zero (suc j) apart before within = omega (arith, apart.1, later_at (suc piece.to) pieces j apart.2 (omega arith))
in_order_at start (piece ∷ pieces) (suc i) zero apart before within = absurd (omega arith)
in_order_at start (piece ∷ pieces) (suc i) (suc j) apart before within = in_order_at (suc piece.to) pieces i j apart.2 (omega arith) (omega arith)

-- nothing is removed before a time by which no stretch begins
pub none_begun : (start time : ℕ) (removed : List Piece) → AreApartFrom start removed → (0 < length removed → time ≤ (piece_at removed 0).from) → removed_before removed time ≡ 0
none_begun start time [] apart early = refl
none_begun start time (piece ∷ removed) apart early = none_before piece.from time (piece ∷ removed) (omega arith, apart.1, apart.2) (early (omega arith))

part_of : (from to time : ℕ) → from < time → min to time - min from time ≡ min time to - from
part_of from to time begun = grind arith

-- by the stretch that begins last before a time
pub last_begun : (start time k : ℕ) (removed : List Piece) → AreApartFrom start removed → k < length removed → (piece_at removed k).from < time →
    (suc k < length removed → time ≤ (piece_at removed (suc k)).from) →
    removed_before removed time ≡ total_length (take k removed) + (min time (piece_at removed k).to - (piece_at removed k).from)
last_begun start time k [] apart within begun next = absurd (omega arith)
last_begun start time zero (piece ∷ removed) apart within begun next = omega (
  arith,
  sum_by-cons (part_before time) piece removed,
  part_of piece.from piece.to time begun,
  none_begun (suc piece.to) time removed apart.2 (λ some. next (omega arith)),
)
last_begun start time (suc k) (piece ∷ removed) apart within begun next = omega (
  arith,
  rest_before time piece removed apart.1 (omega (arith, later_at (suc piece.to) removed k apart.2 (omega arith), begun)),
  last_begun (suc piece.to) time k removed apart.2 (omega arith) begun (λ more. next (omega arith)),
  sum_by-cons (λ (p : Piece). p.to - p.from) piece (take k removed),
)
