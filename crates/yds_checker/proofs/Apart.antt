-- Pieces in rising order of which no two overlap.
use Rattle.yds_model.proofs.Common.{◌≡◌, ℕ, zero, suc, ◌+◌, ◌<◌, ◌≤◌, ◌&&◌, cond, List, length, take, length-take, get_or-take, arith, inl, inr, refl, nat_lt, All, cases_Bool, cases_lt, sum_by_more}
use Rattle.yds_checker.specs.declared.placed.Placed.{Placed}
use Rattle.yds_checker.specs.Placed.{has_unit, holding, AreApartBelow, AreByStart}
use Rattle.yds_checker.specs.Heights.{no_placed, placed_at}
use Rattle.yds_checker.proofs.Units.{Holds, holds_decides, held_twice, unheld, apart_in_none}

-- what the walk knows before the piece at a place: those of the first so many levels have ended, the last one just then
pub record Walked (placed : List Placed) (levels end i : ℕ) : Type 0 where
  pub ended : (j : ℕ) → j < i → (placed_at placed j).level < levels → (placed_at placed j).to ≤ end
  pub last : 0 < end → (j : ℕ) × (j < i) × ((placed_at placed j).level < levels) × (end ≡ (placed_at placed j).to)
  pub apart : (time : ℕ) → holding levels time (take i placed) ≤ 1

pub walk_begins : (placed : List Placed) (levels : ℕ) → Walked placed levels 0 0
walk_begins placed levels = grind arith

-- a piece of a later level is passed by
pub walked_by : (placed : List Placed) (levels end i : ℕ) → i < length placed → levels ≤ (placed_at placed i).level → Walked placed levels end i →
    Walked placed levels end (i + 1)
walked_by placed levels end i within high walked = record {
  ended = λ j before low. elim (cases_lt j i) [
    | inl early ↦ walked.ended j early low
    | inr here ↦
        let same : j ≡ i = omega (arith, before, here) in
        absurd (omega (arith, rw same at low, high))
  ];
  last = λ some.
      let found = walked.last some in
      (found.0, omega (arith, found.1), found.2, found.3);
  apart = λ time.
      let one = sum_by_more (λ (p : Placed). cond (nat_lt p.level levels && has_unit time p.from p.to) 1 0) placed i no_placed within in
      elim (cases_Bool (nat_lt (placed_at placed i).level levels && has_unit time (placed_at placed i).from (placed_at placed i).to)) [
        | inl so ↦ absurd (omega (arith, ((holds_decides levels time (placed_at placed i)).0 so).0, high))
        | inr not_so ↦ omega (arith, rw not_so at one, walked.apart time)
      ];
}

-- no piece before holds a time after the end
walked_none : (placed : List Placed) (levels end i time : ℕ) → end ≤ time → Walked placed levels end i → holding levels time (take i placed) ≡ 0
walked_none placed levels end i time after walked =
    unheld levels time (take i placed) (λ j within holds.
    let before : j < i = omega (arith, within, length-take i placed) in
    let has = rw (get_or-take i placed j no_placed before) at holds in
    absurd (omega (arith, walked.ended j before has.0, has.1.1, after)))

-- a piece that begins later is walked over
pub walked_on : (placed : List Placed) (levels end i : ℕ) → i < length placed → (placed_at placed i).level < levels → end ≤ (placed_at placed i).from →
    (placed_at placed i).from < (placed_at placed i).to → Walked placed levels end i → Walked placed levels (placed_at placed i).to (i + 1)
walked_on placed levels end i within low after forward walked = record {
  ended = λ j before low. elim (cases_lt j i) [
    | inl early ↦ omega (arith, walked.ended j early low, after, forward)
    | inr here ↦
        let same : j ≡ i = omega (arith, before, here) in
        rw same (omega arith)
  ];
  last = λ some. (i, omega arith, low, refl);
  apart = λ time.
      let one = sum_by_more (λ (p : Placed). cond (nat_lt p.level levels && has_unit time p.from p.to) 1 0) placed i no_placed within in
      elim (cases_Bool (nat_lt (placed_at placed i).level levels && has_unit time (placed_at placed i).from (placed_at placed i).to)) [
        | inl so ↦
            let holds = (holds_decides levels time (placed_at placed i)).0 so in
            let none = walked_none placed levels end i time (omega (arith, after, holds.1.0)) walked in
            omega (arith, rw so at one, none)
        | inr not_so ↦ omega (arith, rw not_so at one, walked.apart time)
      ];
}

-- a piece that begins before the end of an earlier one overlaps it
pub overlapping : (placed : List Placed) (levels end i : ℕ) → AreByStart placed → All (λ piece. piece.from < piece.to) placed → i < length placed →
    (placed_at placed i).level < levels → (placed_at placed i).from < end → Walked placed levels end i → AreApartBelow levels placed → ⊥
overlapping placed levels end i rising each within low early walked apart =
    let found = walked.last (omega (arith, early)) in
    let j = found.0 in
    let time = (placed_at placed i).from in
    let first : Holds levels time (placed_at placed j) =
    (found.2, (rising j i no_placed (omega (arith, found.1)) within, omega (arith, early, found.3))) in
    let second : Holds levels time (placed_at placed i) = (low, (omega arith, each i no_placed within)) in
    absurd (omega (arith, held_twice levels time j i placed found.1 within first second, apart time))

-- where the pieces of so many levels aren't apart, there is a level
pub some_level : (placed : List Placed) (levels : ℕ) → (AreApartBelow levels placed → ⊥) → 0 < levels
some_level placed zero not_apart = absurd (not_apart (apart_in_none placed))
some_level placed (suc levels) not_apart = omega arith

pub next_not_apart : (placed : List Placed) (apart not_apart : ℕ) → not_apart ≡ apart + 1 → (AreApartBelow not_apart placed → ⊥) →
    AreApartBelow (apart + 1) placed → ⊥
next_not_apart placed apart not_apart next fails both = fails (rw next both)
