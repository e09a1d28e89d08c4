-- A certificate with its last level changed.
use Rattle.yds_model.proofs.Common.{◌≡◌, ℕ, suc, ◌+◌, ◌-◌, ◌<◌, ◌≤◌, List, [], ◌∷◌, ◌++◌, length, sym, ap, ◌∙◌, subst, arith, ◌==◌, cond, All, slice_index_or, slice_set, flat_map, length-append, length-set, append-nil, length-flat_map, flat_map-cons, sum_by-set, sum_by-append, length_permutation, All-push, All-set, count, Piece, AreApart, Level, level_at, all_members, all_pieces, IsPiece, IsLevel, All-back}
use Rattle.base.specs.declared.limits.TheConstants.{MAX_PIECES, MAX_MEMBERS}
use Rattle.yds_certificate.specs.Level.{with_piece, with_member}
use Rattle.yds_certificate.specs.Certificate.{IsCertificate, with_last}
use Rattle.yds_certificate.specs.Merging.{IsNewTo, AreTogether, last_level}

pub last_set : (levels : List Level) (old new : Level) (change : Level → Level) → 1 ≤ length levels →
    old ≡ slice_index_or levels (length levels - 1) old → change old ≡ new → slice_set levels (length levels - 1) new ≡ with_last change levels
last_set [] old new change some is e = absurd (omega arith)
last_set (only ∷ []) old new change some is e = ap (λ (level : Level). level ∷ []) (sym e ∙ ap change is)
last_set (first ∷ next ∷ levels) old new change some is e =
    let here : suc (suc (length levels)) - 1 ≡ suc (suc (length levels) - 1) = omega arith in
    let P : ℕ → Type 0 = λ i. old ≡ slice_index_or (first ∷ next ∷ levels) i old in
    let rest = last_set (next ∷ levels) old new change (omega arith) (subst P here is) e in
    ap (λ (i : ℕ). slice_set (first ∷ next ∷ levels) i new) here ∙ ap (λ (more : List Level). first ∷ more) rest

-- as many elements more as the changed level has more
length_changed : {A : Type 0} (f : Level → List A) (levels : List Level) (old new : Level) (i : ℕ) → i < length levels → old ≡ slice_index_or levels i old →
    length (flat_map f (slice_set levels i new)) + length (f old) ≡ length (flat_map f levels) + length (f new)
length_changed f levels old new i within is =
    omega (arith, length-flat_map f (slice_set levels i new), length-flat_map f levels, sum_by-set (λ level. length (f level)) levels i new old within, ap (λ level. length (f level)) is)

pub piece_kept : (levels : List Level) (old : Level) (piece : Piece) → 1 ≤ length levels → old ≡ slice_index_or levels (length levels - 1) old →
    IsCertificate levels → IsPiece piece → IsLevel old → length (all_pieces levels) < MAX_PIECES →
    IsCertificate (slice_set levels (length levels - 1) (with_piece piece old))
piece_kept levels old piece some is kept limits level room = record {
  each = All-set IsLevel levels (length levels - 1) (with_piece piece old)
      (record {
        has_work = level.has_work;
        work_in_range = level.work_in_range;
        has_length = level.has_length;
        length_in_range = level.length_in_range;
        pieces = All-push IsPiece old.pieces piece level.pieces limits;
      }) kept.each;
  few = omega (arith, kept.few, length-set levels (length levels - 1) (with_piece piece old));
  few_pieces = omega (arith, length_changed (λ l. l.pieces) levels old (with_piece piece old) (length levels - 1) (omega arith) is, length-append old.pieces (piece ∷ []));
  few_members = omega (arith, kept.few_members, length_changed (λ l. l.members) levels old (with_piece piece old) (length levels - 1) (omega arith) is);
}

pub member_kept : (levels : List Level) (old : Level) (job : ℕ) → 1 ≤ length levels → old ≡ slice_index_or levels (length levels - 1) old →
    IsCertificate levels → IsLevel old → length (all_members levels) < MAX_MEMBERS →
    IsCertificate (slice_set levels (length levels - 1) (with_member job old))
member_kept levels old job some is kept level room = record {
  each = All-set IsLevel levels (length levels - 1) (with_member job old)
      (record {
        has_work = level.has_work;
        work_in_range = level.work_in_range;
        has_length = level.has_length;
        length_in_range = level.length_in_range;
        pieces = level.pieces;
      }) kept.each;
  few = omega (arith, kept.few, length-set levels (length levels - 1) (with_member job old));
  few_pieces = omega (arith, kept.few_pieces, length_changed (λ l. l.pieces) levels old (with_member job old) (length levels - 1) (omega arith) is);
  few_members = omega (arith, length_changed (λ l. l.members) levels old (with_member job old) (length levels - 1) (omega arith) is, length-append old.members (job ∷ []));
}

-- # The last level joined by another

pub merged_kept : (levels : List Level) (old level both : Level) → 1 ≤ length levels → old ≡ slice_index_or levels (length levels - 1) old →
    IsCertificate levels → IsLevel both → AreTogether old level both → length both.pieces ≤ length old.pieces + length level.pieces →
    length (all_pieces levels) + length level.pieces ≤ MAX_PIECES → length (all_members levels) + length level.members ≤ MAX_MEMBERS →
    IsCertificate (slice_set levels (length levels - 1) both)
merged_kept levels old level both some is kept limits together few room_for_pieces room_for_members = record {
  each = All-set IsLevel levels (length levels - 1) both limits kept.each;
  few = omega (arith, kept.few, length-set levels (length levels - 1) both);
  few_pieces = omega (arith, few, room_for_pieces, length_changed (λ l. l.pieces) levels old both (length levels - 1) (omega arith) is);
  few_members = omega (
    arith,
    room_for_members,
    length_permutation (old.members ++ level.members) both.members together.members,
    length-append old.members level.members,
    length_changed (λ l. l.members) levels old both (length levels - 1) (omega arith) is,
  );
}

last_cons : (first : Level) (levels : List Level) → 1 ≤ length levels → last_level (first ∷ levels) ≡ last_level levels
last_cons first [] some = absurd (omega arith)
last_cons first (next ∷ levels) some =
    let here : suc (suc (length levels)) - 1 ≡ suc (suc (length levels) - 1) = omega arith in
    ap (λ (i : ℕ). level_at (first ∷ next ∷ levels) i) here

-- what all pieces have, those of the last level have
last_pieces : (P : Piece → Type 0) (levels : List Level) → 1 ≤ length levels → All P (all_pieces levels) → All P (last_level levels).pieces
last_pieces P [] some all = absurd (omega arith)
last_pieces P (only ∷ []) some all =
    subst (All P) (flat_map-cons (λ (l : Level). l.pieces) only [] ∙ append-nil only.pieces) all
last_pieces P (first ∷ next ∷ levels) some all =
    rw (last_cons first (next ∷ levels) (omega arith))
    (last_pieces P (next ∷ levels) (omega arith)
    (All-back P first.pieces (all_pieces (next ∷ levels)) (subst (All P) (flat_map-cons (λ (l : Level). l.pieces) first (next ∷ levels)) all)))

-- a number that is no member is none of the last level
last_members : (number : ℕ) (levels : List Level) → 1 ≤ length levels → count number (all_members levels) ≡ 0 → count number (last_level levels).members ≡ 0
last_members number [] some none = absurd (omega arith)
last_members number (only ∷ []) some none =
    subst (λ (all : List ℕ). count number all ≡ 0) (flat_map-cons (λ (l : Level). l.members) only [] ∙ append-nil only.members) none
last_members number (first ∷ next ∷ levels) some none =
    let split : count number (first.members ++ all_members (next ∷ levels)) ≡ 0 =
    subst (λ (all : List ℕ). count number all ≡ 0) (flat_map-cons (λ (l : Level). l.members) first (next ∷ levels)) none in
    rw (last_cons first (next ∷ levels) (omega arith))
    (last_members number (next ∷ levels) (omega arith)
    (omega (arith, split, sum_by-append (λ (other : ℕ). cond (number == other) 1 0) first.members (all_members (next ∷ levels)))))

pub new_to_last : (levels : List Level) (level : Level) → 1 ≤ length levels → IsNewTo level (all_pieces levels) (all_members levels) →
    IsNewTo level (last_level levels).pieces (last_level levels).members
new_to_last levels level some new = record {
  apart = λ k d within. last_pieces (AreApart (slice_index_or level.pieces k d)) levels some (new.apart k d within);
  members = λ k d within. last_members (slice_index_or level.members k d) levels some (new.members k d within);
}
