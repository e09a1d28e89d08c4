-- Pieces with one more after them.
use Rattle.yds_model.proofs.Common.{◌≡◌, ℕ, suc, ◌+◌, ◌-◌, ◌<◌, ◌≤◌, ◌⊎◌, inl, inr, List, [], ◌∷◌, ◌++◌, length, refl, sym, ap, ◌∙◌, subst, arith, ◌↔◌, slice_index_or, slice_set, sum_by-cons, sum_by_push, length-append, length-set, cases_lt, All-push, All-set, get_or-append_seam, Piece, Covers, total_length, IsPiece}
use Rattle.yds_certificate.specs.Merging.{AreSeparate, end_of, IsInPiece, Touches, IsExtended}
use Rattle.yds_certificate.proofs.Cover.{Covers-cons, Covers-append}

abbrev no_piece : Piece
no_piece = record { from = 0; to = 0 }

-- # A piece that doesn't touch the last one

pub separate_pushed : (pieces : List Piece) (piece : Piece) → AreSeparate pieces → (1 ≤ length pieces → end_of pieces < piece.from) → piece.from < piece.to → AreSeparate (pieces ++ piece ∷ [])
separate_pushed [] piece separate after forward = forward
separate_pushed (only ∷ []) piece separate after forward = (separate, after (omega arith), forward)
separate_pushed (first ∷ next ∷ pieces) piece separate after forward =
    let here : suc (suc (length pieces)) - 1 ≡ suc (suc (length pieces) - 1) = omega arith in
    let P : ℕ → Type 0 = λ i. (slice_index_or (first ∷ next ∷ pieces) i (record { from = 0; to = 0 })).to < piece.from in
    (separate.0, separate.1, separate_pushed (next ∷ pieces) piece separate.2 (λ some. subst P here (after (omega arith))) forward)

pub end_pushed : (pieces : List Piece) (piece : Piece) → end_of (pieces ++ piece ∷ []) ≡ piece.to
end_pushed pieces piece =
    let last : length (pieces ++ piece ∷ []) - 1 ≡ length pieces = omega (arith, length-append pieces (piece ∷ [])) in
    let P : ℕ → Type 0 = λ i. (slice_index_or (pieces ++ piece ∷ []) i no_piece).to ≡ piece.to in
    subst P (sym last) (ap (λ (x : Piece). x.to) (get_or-append_seam pieces piece [] no_piece))

pub one_covered : (piece : Piece) (time : ℕ) → Covers (piece ∷ []) time ↔ IsInPiece time piece
one_covered piece time = grind (arith, Covers-cons)

pub pushed : (pieces : List Piece) (piece : Piece) → AreSeparate pieces → (1 ≤ length pieces → end_of pieces < piece.from) → piece.from < piece.to → IsPiece piece →
    IsExtended pieces (pieces ++ piece ∷ []) piece
pushed pieces piece separate after forward limit = record {
  time = λ time. (
    λ found. elim ((Covers-append pieces (piece ∷ []) time).0 found) [ inl early ↦ inl early | inr late ↦ inr ((one_covered piece time).0 late) ],
    λ found. (Covers-append pieces (piece ∷ []) time).1 (elim found [ inl early ↦ inl early | inr late ↦ inr ((one_covered piece time).1 late) ]),
  );
  separate = separate_pushed pieces piece separate after forward;
  total = sum_by_push (λ (p : Piece). p.to - p.from) pieces piece;
  few = omega (arith, length-append pieces (piece ∷ []));
  ends = end_pushed pieces piece;
  limits = λ limits. All-push IsPiece pieces piece limits limit;
}

-- # A piece that touches the last one

pub apart_from : (pieces : List Piece) (piece : Piece) → end_of pieces ≤ piece.from → ¬ (Touches pieces piece) → 1 ≤ length pieces → end_of pieces < piece.from
apart_from pieces piece after apart some = grind (arith, cases_lt)

abbrev extend_last : ℕ → List Piece → List Piece
extend_last to [] = []
extend_last to (piece ∷ []) = record { from = piece.from; to = to } ∷ []
extend_last to (piece ∷ next ∷ pieces) = piece ∷ extend_last to (next ∷ pieces)

abbrev until : Piece → ℕ → Piece
until piece to = record { from = piece.from; to = to }

-- the last piece goes on to the time at which the other ends
pub extended_is : (pieces : List Piece) (last : Piece) (to : ℕ) → 1 ≤ length pieces → last ≡ slice_index_or pieces (length pieces - 1) last →
    slice_set pieces (length pieces - 1) (until last to) ≡ extend_last to pieces
extended_is [] last to some is = absurd (omega arith)
extended_is (only ∷ []) last to some is = ap (λ (x : Piece). until x to ∷ []) is
extended_is (first ∷ next ∷ pieces) last to some is =
    let here : suc (suc (length pieces)) - 1 ≡ suc (suc (length pieces) - 1) = omega arith in
    let P : ℕ → Type 0 = λ i. last ≡ slice_index_or (first ∷ next ∷ pieces) i last in
    ap (λ (i : ℕ). slice_set (first ∷ next ∷ pieces) i (until last to)) here
    ∙ ap (λ (more : List Piece). first ∷ more) (extended_is (next ∷ pieces) last to (omega arith) (subst P here is))

pub end_cons : (first : Piece) (pieces : List Piece) → 1 ≤ length pieces → end_of (first ∷ pieces) ≡ end_of pieces
end_cons first [] some = absurd (omega arith)
end_cons first (next ∷ pieces) some =
    let here : suc (suc (length pieces)) - 1 ≡ suc (suc (length pieces) - 1) = omega arith in
    ap (λ (i : ℕ). (slice_index_or (first ∷ next ∷ pieces) i no_piece).to) here

length_extended : (to : ℕ) (pieces : List Piece) → length (extend_last to pieces) ≡ length pieces
length_extended to [] = refl
length_extended to (only ∷ []) = refl
length_extended to (first ∷ next ∷ pieces) = ap (λ n. suc n) (length_extended to (next ∷ pieces))

extended_separate : (pieces : List Piece) (from to : ℕ) → AreSeparate pieces → 1 ≤ length pieces → end_of pieces ≡ from → from < to → AreSeparate (extend_last to pieces)
extended_separate [] from to separate some meets forward = absurd (omega arith)
extended_separate (only ∷ []) from to separate some meets forward = omega arith
extended_separate (first ∷ next ∷ []) from to separate some meets forward = (separate.0, separate.1, omega (arith, separate.2))
extended_separate (first ∷ next ∷ later ∷ pieces) from to separate some meets forward =
    (separate.0, separate.1, extended_separate (next ∷ later ∷ pieces) from to separate.2 (omega arith) (sym (end_cons first (next ∷ later ∷ pieces) (omega arith)) ∙ meets) forward)

extended_end : (pieces : List Piece) (to : ℕ) → 1 ≤ length pieces → end_of (extend_last to pieces) ≡ to
extended_end [] to some = absurd (omega arith)
extended_end (only ∷ []) to some = refl
extended_end (first ∷ next ∷ pieces) to some =
    end_cons first (extend_last to (next ∷ pieces)) (omega (arith, length_extended to (next ∷ pieces))) ∙ extended_end (next ∷ pieces) to (omega arith)

extended_total : (pieces : List Piece) (from to : ℕ) → AreSeparate pieces → 1 ≤ length pieces → end_of pieces ≡ from → from < to →
    total_length (extend_last to pieces) ≡ total_length pieces + (to - from)
extended_total [] from to separate some meets forward = absurd (omega arith)
extended_total (only ∷ []) from to separate some meets forward = omega arith
extended_total (first ∷ next ∷ pieces) from to separate some meets forward =
    let rest = extended_total (next ∷ pieces) from to separate.2 (omega arith) (sym (end_cons first (next ∷ pieces) (omega arith)) ∙ meets) forward in
    omega (
      arith,
      rest,
      sum_by-cons (λ (p : Piece). p.to - p.from) first (extend_last to (next ∷ pieces)),
      sum_by-cons (λ (p : Piece). p.to - p.from) first (next ∷ pieces),
    )

goes_on : (start from to time : ℕ) → start < from → from < to → (start ≤ time) × (time < to) → ((start ≤ time) × (time < from)) ⊎ ((from ≤ time) × (time < to))
goes_on start from to time before forward here = elim (cases_lt time from) [ inl early ↦ inl (here.0, early) | inr late ↦ inr (late, here.1) ]

goes_back : (start from to time : ℕ) → start < from → from < to → ((start ≤ time) × (time < from)) ⊎ ((from ≤ time) × (time < to)) → (start ≤ time) × (time < to)
goes_back start from to time before forward (inl early) = (early.0, omega (arith, early.1))
goes_back start from to time before forward (inr late) = (omega (arith, late.0), late.1)

extended_covers : (pieces : List Piece) (piece : Piece) (time : ℕ) → AreSeparate pieces → 1 ≤ length pieces → end_of pieces ≡ piece.from → piece.from < piece.to →
    Covers (extend_last piece.to pieces) time ↔ (Covers pieces time ⊎ IsInPiece time piece)
extended_covers [] piece time separate some meets forward = absurd (omega arith)
extended_covers (only ∷ []) piece time separate some meets forward =
    let new = one_covered (until only piece.to) time in
    let old = one_covered only time in
    let before : only.from < piece.from = omega arith in (
      λ found. elim (goes_on only.from piece.from piece.to time before forward (new.0 found)) [
        | inl early ↦ inl (old.1 (subst (λ (n : ℕ). (only.from ≤ time) × (time < n)) (sym meets) early))
        | inr late ↦ inr late
      ],
      λ found. new.1 (goes_back only.from piece.from piece.to time before forward (elim found [
        | inl early ↦ inl (subst (λ (n : ℕ). (only.from ≤ time) × (time < n)) meets (old.0 early))
        | inr late ↦ inr late
      ])),
    )
extended_covers (first ∷ next ∷ pieces) piece time separate some meets forward =
    let rest = extended_covers (next ∷ pieces) piece time separate.2 (omega arith) (sym (end_cons first (next ∷ pieces) (omega arith)) ∙ meets) forward in
    let new = Covers-cons first (extend_last piece.to (next ∷ pieces)) time in
    let old = Covers-cons first (next ∷ pieces) time in (
      λ found. elim (new.0 found) [
        | inl here ↦ inl (old.1 (inl here))
        | inr later ↦ elim (rest.0 later) [ inl inner ↦ inl (old.1 (inr inner)) | inr last ↦ inr last ]
      ],
      λ found. elim found [
        | inl covered ↦ elim (old.0 covered) [ inl here ↦ new.1 (inl here) | inr inner ↦ new.1 (inr (rest.1 (inl inner))) ]
        | inr last ↦ new.1 (inr (rest.1 (inr last)))
      ],
    )

pub extended : (pieces : List Piece) (last piece : Piece) → AreSeparate pieces → Touches pieces piece → last ≡ slice_index_or pieces (length pieces - 1) last →
    piece.from < piece.to → IsPiece last → IsPiece piece → IsExtended pieces (slice_set pieces (length pieces - 1) (until last piece.to)) piece
extended pieces last piece separate touches is forward limits limit =
    let same = extended_is pieces last piece.to touches.some is in record {
      time = λ time. rw same (extended_covers pieces piece time separate touches.some touches.meets forward);
      separate = rw same (extended_separate pieces piece.from piece.to separate touches.some touches.meets forward);
      total = rw same (extended_total pieces piece.from piece.to separate touches.some touches.meets forward);
      few = omega (arith, length-set pieces (length pieces - 1) (until last piece.to));
      ends = rw same (extended_end pieces piece.to touches.some);
      limits = λ all. All-set IsPiece pieces (length pieces - 1) (until last piece.to) (record { from_in_range = limits.from_in_range; to_in_range = limit.to_in_range }) all;
    }
