-- A certificate whose last level has one more piece or member.
use Rattle.yds_model.proofs.Common.{◌≡◌, ℕ, ◌<◌, ◌≤◌, List, [], ◌∷◌, ◌++◌, length, refl, sym, ap, ◌∙◌, arith, All, All-cons, All-nil, All-head, All-tail, All-push, Piece, Level, all_pieces, all_members}
use Rattle.model_lemmas.proofs.Said.{last_longer}
use Rattle.yds_certificate.specs.Certificate.{with_last}
use Rattle.yds_certificate.specs.Level.{with_piece, with_member}

-- levels with a last one, and what they are as that one is changed
pub record Ended (levels : List Level) : Type 0 where
  pub before : List Level
  pub last : Level
  pub is : levels ≡ before ++ last ∷ []
  pub changed : (change : Level → Level) → with_last change levels ≡ before ++ change last ∷ []

pub ended : (levels : List Level) → 1 ≤ length levels → Ended levels
ended [] some = absurd (omega arith)
ended (level ∷ []) some = record { before = []; last = level; is = refl; changed = λ change. refl }
ended (level ∷ next ∷ levels) some =
    let rest = ended (next ∷ levels) (omega arith) in
    record { before = level ∷ rest.before; last = rest.last; is = ap (λ l. level ∷ l) rest.is; changed = λ change. ap (λ l. level ∷ l) (rest.changed change) }

abbrev pub AreKnown : ℕ → Level → Type 0
AreKnown jobs level = All (λ job. job < jobs) level.members

pub pieces_more : (levels : List Level) (piece : Piece) → 1 ≤ length levels → all_pieces (with_last (with_piece piece) levels) ≡ all_pieces levels ++ piece ∷ []
pieces_more levels piece some =
    let end = ended levels some in
    ap all_pieces (end.changed (with_piece piece)) ∙ sym (last_longer (λ level. level.pieces) end.before end.last (with_piece piece end.last) (piece ∷ []) refl)
    ∙ ap (λ l. all_pieces l ++ piece ∷ []) (sym end.is)

pub members_more : (levels : List Level) (job : ℕ) → 1 ≤ length levels → all_members (with_last (with_member job) levels) ≡ all_members levels ++ job ∷ []
members_more levels job some =
    let end = ended levels some in
    ap all_members (end.changed (with_member job)) ∙ sym (last_longer (λ level. level.members) end.before end.last (with_member job end.last) (job ∷ []) refl)
    ∙ ap (λ l. all_members l ++ job ∷ []) (sym end.is)

pub members_stay : (levels : List Level) (piece : Piece) → all_members (with_last (with_piece piece) levels) ≡ all_members levels
members_stay [] piece = refl
members_stay (level ∷ []) piece = refl
members_stay (level ∷ next ∷ levels) piece = ap (λ l. level.members ++ l) (members_stay (next ∷ levels) piece)

pub pieces_stay : (levels : List Level) (job : ℕ) → all_pieces (with_last (with_member job) levels) ≡ all_pieces levels
pieces_stay [] job = refl
pieces_stay (level ∷ []) job = refl
pieces_stay (level ∷ next ∷ levels) job = ap (λ l. level.pieces ++ l) (pieces_stay (next ∷ levels) job)

pub known_more : (levels : List Level) (jobs job : ℕ) → job < jobs → All (AreKnown jobs) levels → All (AreKnown jobs) (with_last (with_member job) levels)
known_more [] jobs job known each = each
known_more (level ∷ []) jobs job known each =
    All-cons (AreKnown jobs) (with_member job level) [] (All-push (λ j. j < jobs) level.members job (All-head (AreKnown jobs) level [] each) known) (All-nil (AreKnown jobs))
known_more (level ∷ next ∷ levels) jobs job known each =
    All-cons (AreKnown jobs) level (with_last (with_member job) (next ∷ levels)) (All-head (AreKnown jobs) level (next ∷ levels) each)
    (known_more (next ∷ levels) jobs job known (All-tail (AreKnown jobs) level (next ∷ levels) each))

pub known_stay : (levels : List Level) (jobs : ℕ) (piece : Piece) → All (AreKnown jobs) levels → All (AreKnown jobs) (with_last (with_piece piece) levels)
known_stay [] jobs piece each = each
known_stay (level ∷ []) jobs piece each = All-cons (AreKnown jobs) (with_piece piece level) [] (All-head (AreKnown jobs) level [] each) (All-nil (AreKnown jobs))
known_stay (level ∷ next ∷ levels) jobs piece each =
    All-cons (AreKnown jobs) level (with_last (with_piece piece) (next ∷ levels)) (All-head (AreKnown jobs) level (next ∷ levels) each)
    (known_stay (next ∷ levels) jobs piece (All-tail (AreKnown jobs) level (next ∷ levels) each))
