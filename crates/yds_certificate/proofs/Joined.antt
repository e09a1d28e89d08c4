-- Pieces that lie one after another, with touching ones joined.
use Rattle.yds_model.proofs.Common.{◌≡◌, ℕ, suc, zero, ◌+◌, ◌-◌, ◌<◌, ◌≤◌, inl, inr, List, [], ◌∷◌, ◌++◌, length, take, sym, ap, ◌∙◌, subst, arith, slice_index_or, sum_by_push, length-append, take_more, take_all, Piece, PiecesFrom}
use Rattle.yds_certificate.specs.Merging.{end_of, IsExtended, IsJoined}
use Rattle.yds_certificate.proofs.Cover.{Covers-append}
use Rattle.yds_certificate.proofs.Extended.{one_covered, end_pushed, end_cons}

pub piece_next : (start : ℕ) (pieces : List Piece) (i : ℕ) (piece : Piece) → PiecesFrom start pieces → i < length pieces → piece ≡ slice_index_or pieces i piece →
    (piece.from < piece.to) × (end_of (take i pieces) ≤ piece.from)
piece_next start [] i piece run within is = absurd (omega arith)
piece_next start (first ∷ pieces) zero piece run within is = rw is (run.1, omega arith)
piece_next start (first ∷ []) (suc i) piece run within is = absurd (omega arith)
piece_next start (first ∷ next ∷ pieces) (suc zero) piece run within is = rw is (run.2.1, run.2.0)
piece_next start (first ∷ next ∷ pieces) (suc (suc i)) piece run within is =
    let rest = piece_next first.to (next ∷ pieces) (suc i) piece run.2 (omega arith) is in
    (rest.0, rw (end_cons first (take (suc i) (next ∷ pieces)) (omega arith)) rest.1)

pub joined_more : (pieces : List Piece) (i : ℕ) (piece : Piece) (old new : List Piece) → i < length pieces → piece ≡ slice_index_or pieces i piece →
    IsJoined (take i pieces) old → IsExtended old new piece → IsJoined (take (i + 1) pieces) new
joined_more pieces i piece old new within is joined extended =
    let more : take (i + 1) pieces ≡ take i pieces ++ piece ∷ [] = take_more pieces i piece within ∙ ap (λ (x : Piece). take i pieces ++ x ∷ []) (sym is) in
    rw more (record {
      time = λ time. (
        λ found. (Covers-append (take i pieces) (piece ∷ []) time).1 (elim ((extended.time time).0 found) [
          | inl early ↦ inl ((joined.time time).0 early)
          | inr late ↦ inr ((one_covered piece time).1 late)
        ]),
        λ found. (extended.time time).1 (elim ((Covers-append (take i pieces) (piece ∷ []) time).0 found) [
          | inl early ↦ inl ((joined.time time).1 early)
          | inr late ↦ inr ((one_covered piece time).0 late)
        ]),
      );
      separate = extended.separate;
      total = extended.total ∙ ap (λ n. n + (piece.to - piece.from)) joined.total ∙ sym (sum_by_push (λ (p : Piece). p.to - p.from) (take i pieces) piece);
      few = omega (arith, extended.few, joined.few, length-append (take i pieces) (piece ∷ []));
      ends = extended.ends ∙ sym (end_pushed (take i pieces) piece);
      limits = extended.limits joined.limits;
    })

pub joined_all : (pieces joined : List Piece) (i : ℕ) → length pieces ≤ i → IsJoined (take i pieces) joined → IsJoined pieces joined
joined_all pieces joined i end is = subst (λ (all : List Piece). IsJoined all joined) (take_all i pieces end) is
