-- Removed stretches in parts of a time unit.
use Rattle.yds_model.proofs.Common.{◌≡◌, ℕ, suc, ◌+◌, ◌-◌, ◌*◌, ◌<◌, ◌≤◌, List, [], ◌∷◌, ◌∙◌, length, map, ap, arith, get_or-map, length-map, sum_by-cons, mul-le-mul_right, mul-lt-mul_of_pos_right, mul-sub, Piece, total_length}
use Rattle.base.specs.declared.limits.TheConstants.{MAX_TIME}
use Rattle.yds_contract.specs.declared.removed.Removed.{Removed}
use Rattle.yds_contract.specs.Contracted.{AreApartFrom, removed_before, place}
use Rattle.yds_contract.specs.Removed.{removed_at, stretch_of, removed_stretches, IsContraction}
use Rattle.yds_contract.specs.Spread.{piece_in_parts}
use Rattle.yds_contract.proofs.Cells.{piece_at, no_piece, apart_weaker, whole_before}
use Rattle.yds_contract.proofs.RemovedStretches.{count, stretch_at, ends_fit, few_removed}

pub parts_apart : (parts start : ℕ) (pieces : List Piece) → 1 ≤ parts → AreApartFrom start pieces → AreApartFrom (start * parts) (map (piece_in_parts parts) pieces)
parts_apart parts start [] some apart = tt
parts_apart parts start (piece ∷ pieces) some apart = (
  mul-le-mul_right parts apart.0,
  mul-lt-mul_of_pos_right apart.1 some,
  apart_weaker (suc (piece.to * parts)) (suc piece.to * parts) (map (piece_in_parts parts) pieces) (omega arith) (parts_apart parts (suc piece.to) pieces some apart.2),
)

pub length_in_parts : (a b k : ℕ) → b * k - a * k ≡ (b - a) * k
length_in_parts a b k = omega (arith, mul-sub k b a)

pub parts_total : (parts : ℕ) (pieces : List Piece) → total_length (map (piece_in_parts parts) pieces) ≡ total_length pieces * parts
parts_total parts [] = omega arith
parts_total parts (piece ∷ pieces) = omega (
  arith,
  sum_by-cons (λ (p : Piece). p.to - p.from) (piece_in_parts parts piece) (map (piece_in_parts parts) pieces),
  length_in_parts piece.from piece.to parts,
  parts_total parts pieces,
  ap (λ n. n * parts) (sum_by-cons (λ (p : Piece). p.to - p.from) piece pieces),
)

pub parts_at : (parts : ℕ) (removed : List Removed) (i : ℕ) → i < length removed → piece_at (map (piece_in_parts parts) (removed_stretches removed)) i ≡ piece_in_parts parts (stretch_of (removed_at removed i))
parts_at parts removed i within =
    get_or-map (piece_in_parts parts) (removed_stretches removed) i no_piece no_piece (omega (arith, count removed)) ∙ ap (piece_in_parts parts) (stretch_at removed i within)

pub parts_count : (parts : ℕ) (removed : List Removed) → length (map (piece_in_parts parts) (removed_stretches removed)) ≡ length removed
parts_count parts removed = length-map (removed_stretches removed) (piece_in_parts parts) ∙ count removed

-- what an end in parts leaves for all that is removed
pub parts_fit : (removed : List Removed) (parts end : ℕ) → IsContraction removed → end ≤ place (removed_stretches removed) MAX_TIME * parts →
    end + total_length (map (piece_in_parts parts) (removed_stretches removed)) ≤ MAX_TIME * parts
parts_fit removed parts end kept within =
    let all : removed_before (removed_stretches removed) MAX_TIME ≡ total_length (removed_stretches removed) = whole_before 0 MAX_TIME (removed_stretches removed) kept.apart (ends_fit removed kept) in
    let left : place (removed_stretches removed) MAX_TIME + total_length (removed_stretches removed) ≡ MAX_TIME = omega (arith, all, few_removed removed MAX_TIME kept) in
    omega (arith, parts_total parts (removed_stretches removed), ap (λ n. n * parts) left)
