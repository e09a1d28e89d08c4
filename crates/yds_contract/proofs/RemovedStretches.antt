-- What a contraction keeps of its removed stretches, each beside the removed time before it.
use Rattle.yds_model.proofs.Common.{◌≡◌, ℕ, suc, ◌+◌, ◌-◌, ◌<◌, ◌≤◌, min, max, List, ◌∷◌, ◌++◌, ◌∙◌, length, take, drop, ap, sym, subst, arith, All, IsNonDecreasingBy, get_or-map, length-map, get_or_default, append_assoc, at_drop_more, at_drop_all, take_more, All-weaker, sum_by-take-le, sum_by_push, Piece, total_length, IsPiece}
use Rattle.base.specs.declared.limits.TheConstants.{MAX_TIME}
use Rattle.yds_contract.specs.declared.removed.Removed.{Removed}
use Rattle.yds_contract.specs.Contracted.{AreApartFrom, removed_before, place, ArePieces}
use Rattle.yds_contract.specs.Removed.{removed_at, no_removed, stretch_of, removed_stretches, AreBegun, IsContraction}
use Rattle.yds_contract.specs.Clipped.{clipped, pieces_after}
use Rattle.yds_contract.proofs.Cells.{piece_at, in_order_at, forward_at, none_begun, last_begun, few_before, whole_before}
use Rattle.yds_contract.proofs.Pieces.{pieces_found}

pub count : (removed : List Removed) → length (removed_stretches removed) ≡ length removed
count removed = length-map removed stretch_of

pub stretch_at : (removed : List Removed) (k : ℕ) → k < length removed → piece_at (removed_stretches removed) k ≡ stretch_of (removed_at removed k)
stretch_at removed k within = get_or-map stretch_of removed k no_removed (stretch_of no_removed) within

from_at : (removed : List Removed) (k : ℕ) → k < length removed → (piece_at (removed_stretches removed) k).from ≡ (removed_at removed k).from
from_at removed k within = ap (λ (piece : Piece). piece.from) (stretch_at removed k within)

to_at : (removed : List Removed) (k : ℕ) → k < length removed → (piece_at (removed_stretches removed) k).to ≡ (removed_at removed k).to
to_at removed k within = ap (λ (piece : Piece). piece.to) (stretch_at removed k within)

-- the stretches begin in order
pub begin_in_order : (removed : List Removed) → IsContraction removed → IsNonDecreasingBy (λ (stretch : Removed). stretch.from) removed
begin_in_order removed kept i j d before within = omega (
  arith,
  in_order_at 0 (removed_stretches removed) i j kept.apart before (omega (arith, count removed)),
  from_at removed i (omega arith),
  from_at removed j within,
  ap (λ (stretch : Removed). stretch.from) (get_or_default removed i d no_removed (omega arith)),
  ap (λ (stretch : Removed). stretch.from) (get_or_default removed j d no_removed within),
)

-- the removed time before a time by which none begins
pub nothing_before : (removed : List Removed) (time : ℕ) → IsContraction removed → (0 < length removed → time ≤ (removed_at removed 0).from) →
    removed_before (removed_stretches removed) time ≡ 0
nothing_before removed time kept early = none_begun 0 time (removed_stretches removed) kept.apart
    (λ some. let within : 0 < length removed = omega (arith, count removed) in omega (arith, early within, from_at removed 0 within))

-- the removed time by the stretch that begins last before a time
pub before_by : (removed : List Removed) (time k : ℕ) → IsContraction removed → k < length removed → (removed_at removed k).from < time →
    (suc k < length removed → time ≤ (removed_at removed (suc k)).from) →
    removed_before (removed_stretches removed) time ≡ (removed_at removed k).before + (min time (removed_at removed k).to - (removed_at removed k).from)
before_by removed time k kept within begun next = grind (arith, count, from_at, last_begun, min, piece_at, stretch_at)

-- the same, by the number of those that begin before it
pub before_begun : (removed : List Removed) (time begun : ℕ) → IsContraction removed → AreBegun removed time begun → 1 ≤ begun →
    removed_before (removed_stretches removed) time ≡ (removed_at removed (begun - 1)).before + (min time (removed_at removed (begun - 1)).to - (removed_at removed (begun - 1)).from)
before_begun removed time begun kept are some =
    before_by removed time (begun - 1) kept (omega (arith, are.within)) (are.before (begun - 1) (omega arith)) (λ more. are.after (suc (begun - 1)) (omega arith) more)

pub removed_forward : (removed : List Removed) (k : ℕ) → IsContraction removed → k < length removed → (removed_at removed k).from < (removed_at removed k).to
removed_forward removed k kept within = omega (arith, forward_at 0 (removed_stretches removed) k kept.apart (omega (arith, count removed)), from_at removed k within, to_at removed k within)

pub few_removed : (removed : List Removed) (time : ℕ) → IsContraction removed → removed_before (removed_stretches removed) time ≤ time
few_removed removed time kept = omega (arith, few_before 0 time (removed_stretches removed) kept.apart (omega arith))

-- what an end in contracted time leaves for all that is removed
pub end_fits : (removed : List Removed) (end : ℕ) → IsContraction removed → 1 ≤ end → end ≤ place (removed_stretches removed) MAX_TIME →
    end + total_length (removed_stretches removed) ≤ MAX_TIME
end_fits removed end kept some within = grind (arith, All-weaker, whole_before)

-- a walk over the gaps between the first i stretches
pub record Walked (most start end : ℕ) (removed : List Piece) (i from before : ℕ) (pieces : List Piece) : Type 0 where
  pub are : pieces ++ pieces_after start end from before (drop i removed) ≡ pieces_after start end 0 0 removed
  pub sums : before ≡ total_length (take i removed)
  pub fits : end + before ≤ most

before_fits : (removed : List Piece) (i before : ℕ) → before ≡ total_length (take i removed) → before ≤ total_length removed
before_fits removed i before is = omega (arith, sum_by-take-le (λ (p : Piece). p.to - p.from) removed i)

sums_more : (removed : List Piece) (i before : ℕ) → i < length removed → before ≡ total_length (take i removed) →
    before + ((piece_at removed i).to - (piece_at removed i).from) ≡ total_length (take (i + 1) removed)
sums_more removed i before within is =
    omega (arith, ap (λ (ps : List Piece). total_length ps) (take_more removed i (record { from = 0; to = 0 }) within), sum_by_push (λ (p : Piece). p.to - p.from) (take i removed) (piece_at removed i))

-- with the next stretch no more is removed than with all
pub next_fits : (removed : List Piece) (i before : ℕ) (stretch : Piece) → i < length removed → stretch ≡ piece_at removed i → before ≡ total_length (take i removed) →
    before + (stretch.to - stretch.from) ≤ total_length removed
next_fits removed i before stretch within is sums =
    omega (
      arith,
      ap (λ (piece : Piece). before + (piece.to - piece.from)) is,
      sums_more removed i before within sums,
      before_fits removed (i + 1) (before + ((piece_at removed i).to - (piece_at removed i).from)) (sums_more removed i before within sums),
    )

pub walked_more : (most start end : ℕ) (removed : List Piece) (i from before : ℕ) (pieces more : List Piece) (stretch : Piece) → i < length removed → stretch ≡ piece_at removed i →
    more ≡ pieces ++ clipped (max from (start + before)) (min stretch.from (end + before)) → end + total_length removed ≤ most →
    Walked most start end removed i from before pieces → Walked most start end removed (i + 1) stretch.to (before + (stretch.to - stretch.from)) more
walked_more most start end removed i from before pieces more stretch within is adds limit walked = record {
  are =
      ap (λ (ps : List Piece). ps ++ pieces_after start end stretch.to (before + (stretch.to - stretch.from)) (drop (i + 1) removed)) adds
      ∙ append_assoc pieces (clipped (max from (start + before)) (min stretch.from (end + before))) (pieces_after start end stretch.to (before + (stretch.to - stretch.from)) (drop (i + 1) removed))
      ∙ ap (λ (piece : Piece). pieces ++ pieces_after start end from before (piece ∷ drop (i + 1) removed)) is
      ∙ ap (λ (ps : List Piece). pieces ++ ps) (sym (at_drop_more (pieces_after start end from before) removed i (record { from = 0; to = 0 }) within))
      ∙ walked.are;
  sums = ap (λ (piece : Piece). before + (piece.to - piece.from)) is ∙ sums_more removed i before within walked.sums;
  fits = omega (arith, limit, next_fits removed i before stretch within is walked.sums);
}

-- after the last gap
pub walked_pieces : (most start end : ℕ) (removed : List Piece) (i from before : ℕ) (pieces all : List Piece) → length removed ≤ i →
    all ≡ pieces ++ clipped (max from (start + before)) (end + before) → Walked most start end removed i from before pieces → all ≡ pieces_after start end 0 0 removed
walked_pieces most start end removed i from before pieces all ended adds walked =
    adds ∙ ap (λ (ps : List Piece). pieces ++ ps) (sym (at_drop_all (pieces_after start end from before) removed i ended)) ∙ walked.are

pub walked_all : (most start end : ℕ) (removed : List Piece) (i from before : ℕ) (pieces all : List Piece) → length removed ≤ i → AreApartFrom 0 removed →
    all ≡ pieces ++ clipped (max from (start + before)) (end + before) → Walked most start end removed i from before pieces → ArePieces removed start end all
walked_all most start end removed i from before pieces all ended apart adds walked =
    subst (ArePieces removed start end) (sym (walked_pieces most start end removed i from before pieces all ended adds walked)) (pieces_found start end removed apart)

-- no stretch ends after the limit
pub ends_fit : (removed : List Removed) → IsContraction removed → All (λ piece. piece.to ≤ MAX_TIME) (removed_stretches removed)
ends_fit removed kept = All-weaker IsPiece (λ (piece : Piece). piece.to ≤ MAX_TIME) (λ piece fits. fits.to_in_range) (removed_stretches removed) kept.in_range
