-- The time that pieces cover, piece by piece.
use Rattle.yds_model.proofs.Common.{ℕ, suc, zero, ◌⊎◌, inl, inr, List, [], ◌∷◌, ◌++◌, refl, sym, subst, arith, ◌↔◌, Piece, Covers}
use Rattle.yds_certificate.specs.Merging.{IsInPiece}

covers_first : (piece : Piece) (pieces : List Piece) (time : ℕ) → Covers (piece ∷ pieces) time → IsInPiece time piece ⊎ Covers pieces time
covers_first piece pieces time (zero, found, within, is, holds) = inl (subst (IsInPiece time) (sym is) holds)
covers_first piece pieces time (suc k, found, within, is, holds) = inr (k, found, omega arith, is, holds)

covers_again : (piece : Piece) (pieces : List Piece) (time : ℕ) → IsInPiece time piece ⊎ Covers pieces time → Covers (piece ∷ pieces) time
covers_again piece pieces time (inl holds) = (zero, piece, omega arith, refl, holds)
covers_again piece pieces time (inr rest) = (suc rest.0, rest.1, omega (arith, rest.2), rest.3, rest.4)

-- the first piece has the time, or the others cover it
pub Covers-cons : (piece : Piece) (pieces : List Piece) (time : ℕ) → Covers (piece ∷ pieces) time ↔ (IsInPiece time piece ⊎ Covers pieces time)
Covers-cons piece pieces time = (covers_first piece pieces time, covers_again piece pieces time)

nothing_covered : (time : ℕ) → Covers [] time → ⊥
nothing_covered time found = omega (arith, found.2)

pub Covers-append : (first second : List Piece) (time : ℕ) → Covers (first ++ second) time ↔ (Covers first time ⊎ Covers second time)
Covers-append [] second time = (λ found. inr found, λ found. elim found [ inl none ↦ absurd (nothing_covered time none) | inr some ↦ some ])
Covers-append (piece ∷ first) second time =
    let rest = Covers-append first second time in
    let whole = Covers-cons piece (first ++ second) time in
    let left = Covers-cons piece first time in (
      λ found. elim (whole.0 found) [
        | inl here ↦ inl (left.1 (inl here))
        | inr later ↦ elim (rest.0 later) [ inl early ↦ inl (left.1 (inr early)) | inr late ↦ inr late ]
      ],
      λ found. elim found [
        | inl early ↦ elim (left.0 early) [ inl here ↦ whole.1 (inl here) | inr later ↦ whole.1 (inr (rest.1 (inl later))) ]
        | inr late ↦ whole.1 (inr (rest.1 (inr late)))
      ],
    )
