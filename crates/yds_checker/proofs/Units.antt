-- Units of time in pieces.
use Rattle.yds_model.proofs.Common.{◌≡◌, ℕ, ◌<◌, ◌≤◌, ◌&&◌, cond, List, [], ◌∷◌, length, get_or, ap, arith, inl, inr, refl, ◌↔◌, nat_le, nat_lt, Decides, cases_Bool, leb-true, le-leb, Decides-and, Decides-ltb, get_or_default, sum_by-cons, sum_by-le-sum_by, Piece, PiecesFrom, Covers}
use Rattle.yds_checker.specs.declared.placed.Placed.{Placed}
use Rattle.yds_checker.specs.Placed.{has_unit, covering, holding, AreApartBelow}
use Rattle.yds_checker.specs.Heights.{no_placed, placed_at}
use Rattle.yds_checker.proofs.Counts.{counted_at, counted_where, counted_twice, uncounted}

abbrev pub no_piece : Piece
no_piece = record { from = 0; to = 0 }

-- what the tests tell
pub unit_decides : (time from to : ℕ) → Decides (has_unit time from to) ((from ≤ time) × (time < to))
unit_decides time from to = Decides-and (nat_le from time) (nat_lt time to) (leb-true from time, le-leb from time) (Decides-ltb time to)

-- the piece is of the first so many levels and has the unit of time
abbrev pub Holds : ℕ → ℕ → Placed → Type 0
Holds levels time piece = (piece.level < levels) × ((piece.from ≤ time) × (time < piece.to))

pub holds_decides : (levels time : ℕ) (piece : Placed) → Decides (nat_lt piece.level levels && has_unit time piece.from piece.to) (Holds levels time piece)
holds_decides levels time piece = grind (arith, Decides-and, Decides-ltb, unit_decides)

-- a unit of time in a piece is counted
pub held_at : (levels time i : ℕ) (placed : List Placed) → i < length placed → Holds levels time (placed_at placed i) → 1 ≤ holding levels time placed
held_at levels time i placed within holds = grind (arith, counted_at, holds_decides)

-- one that is counted lies in a piece
pub held_where : (levels time : ℕ) (placed : List Placed) → 1 ≤ holding levels time placed →
    (i : ℕ) × (i < length placed) × Holds levels time (placed_at placed i)
held_where levels time placed some =
    let found = counted_where (λ (piece : Placed). nat_lt piece.level levels && has_unit time piece.from piece.to) placed no_placed some in
    (found.0, found.1, (holds_decides levels time (placed_at placed found.0)).0 found.2)

-- in two pieces it is counted twice
pub held_twice : (levels time i j : ℕ) (placed : List Placed) → i < j → j < length placed → Holds levels time (placed_at placed i) →
    Holds levels time (placed_at placed j) → 2 ≤ holding levels time placed
held_twice levels time i j placed order within first second = grind (arith, counted_twice, holds_decides)

-- in none it isn't counted
pub unheld : (levels time : ℕ) (placed : List Placed) → ((i : ℕ) → i < length placed → Holds levels time (placed_at placed i) → ⊥) →
    holding levels time placed ≡ 0
unheld levels time placed none =
    uncounted (λ (piece : Placed). nat_lt piece.level levels && has_unit time piece.from piece.to) placed no_placed
    (λ i within passes. none i within ((holds_decides levels time (placed_at placed i)).0 passes))

-- of the pieces of fewer levels no more hold it
pub held_in_fewer : (few many time : ℕ) (placed : List Placed) → few ≤ many → holding few time placed ≤ holding many time placed
held_in_fewer few many time placed less = grind (arith, cases_Bool, holds_decides, sum_by-le-sum_by)

pub apart_in_fewer : (few many : ℕ) (placed : List Placed) → few ≤ many → AreApartBelow many placed → AreApartBelow few placed
apart_in_fewer few many placed less apart time = omega (arith, held_in_fewer few many time placed less, apart time)

-- of no level none holds it
pub apart_in_none : (placed : List Placed) → AreApartBelow 0 placed
apart_in_none placed time = omega (arith, unheld 0 time placed (λ i within holds. absurd (omega (arith, holds.0))))

-- the same of pieces without levels
pub covered_at : (time i : ℕ) (pieces : List Piece) (d : Piece) → i < length pieces → (get_or pieces i d).from ≤ time → time < (get_or pieces i d).to →
    1 ≤ covering time pieces
covered_at time i pieces d within begun before = grind (arith, counted_at, unit_decides)

pub covered_where : (time : ℕ) (pieces : List Piece) → 1 ≤ covering time pieces →
    (i : ℕ) × (i < length pieces) × ((get_or pieces i no_piece).from ≤ time) × (time < (get_or pieces i no_piece).to)
covered_where time pieces some =
    let found = counted_where (λ (piece : Piece). has_unit time piece.from piece.to) pieces no_piece some in
    let has = (unit_decides time (get_or pieces found.0 no_piece).from (get_or pieces found.0 no_piece).to).0 found.2 in
    (found.0, found.1, has.0, has.1)

-- a unit of time is covered exactly where some piece is counted for it
pub covers_counted : (pieces : List Piece) (time : ℕ) → Covers pieces time ↔ (1 ≤ covering time pieces)
covers_counted pieces time = (
  λ (i, piece, within, is, has).
      let begun : (get_or pieces i piece).from ≤ time = rw is has.0 in
      let before : time < (get_or pieces i piece).to = rw is has.1 in
      covered_at time i pieces piece within begun before,
  λ some.
      let found = covered_where time pieces some in
      (found.0, get_or pieces found.0 no_piece, found.1, get_or_default pieces found.0 (get_or pieces found.0 no_piece) no_piece found.1, (found.2, found.3)),
)

-- pieces that lie one after another cover each unit of time once at most, and none before their start
pub in_order_once : (start time : ℕ) (pieces : List Piece) → PiecesFrom start pieces →
    (covering time pieces ≤ 1) × (time < start → covering time pieces ≡ 0)
in_order_once start time [] run = (omega arith, λ early. refl)
in_order_once start time (piece ∷ pieces) run =
    let rest = in_order_once piece.to time pieces run.2 in
    let one = sum_by-cons (λ (p : Piece). cond (has_unit time p.from p.to) 1 0) piece pieces in
    elim (cases_Bool (has_unit time piece.from piece.to)) [
      | inl so ↦
          let has = (unit_decides time piece.from piece.to).0 so in
          let same = ap {B = ℕ} (λ b. cond b 1 0) so in
          let none = rest.1 has.1 in
          (omega (arith, one, same, none), λ early. absurd (omega (arith, has.0, run.0, early)))
      | inr not_so ↦
          let same = ap {B = ℕ} (λ b. cond b 1 0) not_so in
          (omega (arith, one, same, rest.0), λ early. omega (arith, one, same, rest.1 (omega (arith, early, run.0, run.1))))
    ]
