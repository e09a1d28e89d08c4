-- A walk over removed stretches that joins one more to them.
use Rattle.yds_model.proofs.Common.{◌≡◌, ℕ, suc, ◌+◌, ◌-◌, ◌<◌, ◌≤◌, List, [], ◌∷◌, ◌++◌, ◌∙◌, length, get_or, drop, ap, sym, subst, arith, All, append_assoc, at_drop_more, at_drop_all, All-cons, All-nil, sum_by-append, All-front, All-back, Piece, IsForward, total_length, IsPiece}
use Rattle.base.specs.declared.limits.TheConstants.{MAX_TIME}
use Rattle.yds_contract.specs.declared.removed.Removed.{Removed}
use Rattle.yds_contract.specs.Contracted.{AreApartFrom, place, Removes}
use Rattle.yds_contract.specs.Removed.{removed_stretches, AreSummed, IsContraction}
use Rattle.yds_contract.specs.Removing.{IsAppended}
use Rattle.yds_contract.proofs.Cells.{piece_at}
use Rattle.yds_contract.proofs.RemovedStretches.{ends_fit, end_fits}
use Rattle.yds_contract.proofs.Joined.{joined, joined_before, joined_inside, joined_after, joined_total, joined_ends, joined_reaches, joined_apart, joined_removes}

-- the first i stretches are taken up: those that lie before, and the one that is being joined, from here to there
pub record Joining (start end : ℕ) (removed : List Piece) (i from to : ℕ) (changed : List Removed) : Type 0 where
  pub are : removed_stretches changed ++ joined from to (drop i removed) ≡ joined start end removed
  pub summed : AreSummed changed
  pub forward : from < to

all_forward : (start : ℕ) (pieces : List Piece) → AreApartFrom start pieces → All IsForward pieces
all_forward start [] apart = All-nil IsForward
all_forward start (piece ∷ pieces) apart = All-cons IsForward piece pieces apart.1 (all_forward (suc piece.to) pieces apart.2)

-- what can be said of stretches and the joined one
pub record Fits (start end : ℕ) (removed : List Piece) : Type 0 where
  pub window : start < end
  pub apart : AreApartFrom 0 removed
  pub ends : All (λ piece. piece.to ≤ MAX_TIME) removed
  pub total : end + total_length removed ≤ MAX_TIME

-- a contraction leaves room for what is removed besides
pub fits_of : (removed : List Removed) (start end : ℕ) → IsContraction removed → start < end → end ≤ place (removed_stretches removed) MAX_TIME → Fits start end (removed_stretches removed)
fits_of removed start end kept window within = record {
  window = window;
  apart = kept.apart;
  ends = ends_fit removed kept;
  total = end_fits removed end kept (omega arith) within;
}

pub changed_forward : (start end : ℕ) (removed : List Piece) (i from to : ℕ) (changed : List Removed) → Fits start end removed → Joining start end removed i from to changed →
    All IsForward (removed_stretches changed)
changed_forward start end removed i from to changed fits joining =
    All-front IsForward (removed_stretches changed) (joined from to (drop i removed))
    (subst (All IsForward) (sym joining.are) (all_forward 0 (joined start end removed) (joined_apart 0 start end removed (omega arith) fits.window fits.apart)))

pub changed_fits : (start end : ℕ) (removed : List Piece) (i from to : ℕ) (changed : List Removed) → Fits start end removed → Joining start end removed i from to changed →
    total_length (removed_stretches changed) ≤ MAX_TIME
changed_fits start end removed i from to changed fits joining = omega (
  arith,
  sum_by-append (λ (p : Piece). p.to - p.from) (removed_stretches changed) (joined from to (drop i removed)),
  ap (λ (ps : List Piece). total_length ps) joining.are,
  joined_total start end removed fits.window fits.apart,
  fits.total,
  fits.window,
)

pub end_reached : (start end : ℕ) (removed : List Piece) (i from to : ℕ) (changed : List Removed) → Fits start end removed → Joining start end removed i from to changed → to ≤ MAX_TIME
end_reached start end removed i from to changed fits joining =
    joined_reaches MAX_TIME from to (drop i removed)
    (All-back (λ (p : Piece). p.to ≤ MAX_TIME) (removed_stretches changed) (joined from to (drop i removed))
    (subst (All (λ (p : Piece). p.to ≤ MAX_TIME)) (sym joining.are) (joined_ends MAX_TIME start end removed fits.window fits.apart fits.total fits.ends)))

next_drop : (from to : ℕ) (removed : List Piece) (i : ℕ) (stretch : Piece) → i < length removed → stretch ≡ piece_at removed i →
    joined from to (drop i removed) ≡ joined from to (stretch ∷ drop (i + 1) removed)
next_drop from to removed i stretch within is =
    at_drop_more (joined from to) removed i (record { from = 0; to = 0 }) within ∙ ap (λ (p : Piece). joined from to (p ∷ drop (i + 1) removed)) (sym is)

-- the next stretch lies before
pub joining_before : (start end : ℕ) (removed : List Piece) (i from to : ℕ) (changed more : List Removed) (stretch : Piece) → i < length removed → stretch ≡ piece_at removed i →
    stretch.from < from → IsAppended changed stretch more → Joining start end removed i from to changed →
    Joining start end removed (i + 1) (from + (stretch.to - stretch.from)) (to + (stretch.to - stretch.from)) more
joining_before start end removed i from to changed more stretch within is less adds joining = record {
  are =
      ap (λ (ps : List Piece). ps ++ joined (from + (stretch.to - stretch.from)) (to + (stretch.to - stretch.from)) (drop (i + 1) removed)) adds.stretches
      ∙ append_assoc (removed_stretches changed) (stretch ∷ []) (joined (from + (stretch.to - stretch.from)) (to + (stretch.to - stretch.from)) (drop (i + 1) removed))
      ∙ ap (λ (ps : List Piece). removed_stretches changed ++ ps) (sym (next_drop from to removed i stretch within is ∙ joined_before from to stretch (drop (i + 1) removed) less))
      ∙ joining.are;
  summed = adds.summed;
  forward = omega (arith, joining.forward);
}

-- the next stretch lies inside or touches
pub joining_inside : (start end : ℕ) (removed : List Piece) (i from to : ℕ) (changed : List Removed) (stretch : Piece) → i < length removed → stretch ≡ piece_at removed i →
    from ≤ stretch.from → stretch.from ≤ to → Joining start end removed i from to changed → Joining start end removed (i + 1) from (to + (stretch.to - stretch.from)) changed
joining_inside start end removed i from to changed stretch within is after_it inside_it joining = record {
  are =
      ap (λ (ps : List Piece). removed_stretches changed ++ ps) (sym (next_drop from to removed i stretch within is ∙ joined_inside from to stretch (drop (i + 1) removed) after_it inside_it))
      ∙ joining.are;
  summed = joining.summed;
  forward = omega (arith, joining.forward);
}

-- the next stretch lies after
pub joining_after : (start end : ℕ) (removed : List Piece) (i from to : ℕ) (changed more : List Removed) (stretch : Piece) → i < length removed → stretch ≡ piece_at removed i →
    stretch.from < stretch.to → from ≤ stretch.from → to < stretch.from → IsAppended changed (record { from = from; to = to }) more → Joining start end removed i from to changed →
    Joining start end removed (i + 1) stretch.from stretch.to more
joining_after start end removed i from to changed more stretch within is long after_it beyond adds joining = record {
  are =
      ap (λ (ps : List Piece). ps ++ joined stretch.from stretch.to (drop (i + 1) removed)) adds.stretches
      ∙ append_assoc (removed_stretches changed) (record { from = from; to = to } ∷ []) (joined stretch.from stretch.to (drop (i + 1) removed))
      ∙ ap (λ (ps : List Piece). removed_stretches changed ++ ps) (sym (next_drop from to removed i stretch within is ∙ joined_after from to stretch (drop (i + 1) removed) after_it beyond))
      ∙ joining.are;
  summed = adds.summed;
  forward = long;
}

-- after the last
pub joining_all : (start end : ℕ) (removed : List Piece) (i from to : ℕ) (changed all : List Removed) → length removed ≤ i → IsAppended changed (record { from = from; to = to }) all →
    Joining start end removed i from to changed → removed_stretches all ≡ joined start end removed
joining_all start end removed i from to changed all ended adds joining =
    adds.stretches
    ∙ ap (λ (ps : List Piece). removed_stretches changed ++ ps) (sym (at_drop_all (joined from to) removed i ended))
    ∙ joining.are

piece_within : (piece : Piece) → IsForward piece → piece.to ≤ MAX_TIME → IsPiece piece
piece_within piece forward ends = record { from_in_range = omega arith; to_in_range = ends }

-- and the joined stretches are a contraction that removes the time besides
pub joined_kept : (start end : ℕ) (removed : List Piece) (all : List Removed) → Fits start end removed → AreSummed all → removed_stretches all ≡ joined start end removed → IsContraction all
joined_kept start end removed all fits summed are = record {
  apart = subst (AreApartFrom 0) (sym are) (joined_apart 0 start end removed (omega arith) fits.window fits.apart);
  in_range = subst (All IsPiece) (sym are) (λ k d within.
      piece_within (get_or (joined start end removed) k d)
      (all_forward 0 (joined start end removed) (joined_apart 0 start end removed (omega arith) fits.window fits.apart) k d within)
      (joined_ends MAX_TIME start end removed fits.window fits.apart fits.total fits.ends k d within));
  summed = summed;
}

pub joined_changes : (start end : ℕ) (removed : List Piece) (all : List Removed) → Fits start end removed → removed_stretches all ≡ joined start end removed →
    Removes removed start end (removed_stretches all)
joined_changes start end removed all fits are = subst (Removes removed start end) (sym are) (joined_removes start end removed fits.window fits.apart)
