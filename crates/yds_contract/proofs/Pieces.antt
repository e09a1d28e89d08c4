-- The pieces of real time between two places are what isn't removed and has a place there.
use Rattle.yds_model.proofs.Common.{◌≡◌, ℕ, suc, ◌+◌, ◌-◌, ◌<◌, ◌≤◌, ◌⊎◌, min, max, List, [], ◌∷◌, ◌++◌, ◌∙◌, subst, inl, inr, arith, ◌↔◌, cases_lt, cond-true, cond-false, lt-ltb, le-ltb, append-nil, sum_by-append, Piece, Covers, total_length}
use Rattle.yds_certificate.proofs.Cover.{Covers-cons, Covers-append}
use Rattle.yds_contract.specs.Contracted.{AreApartFrom, removed_before, ArePieces}
use Rattle.yds_contract.specs.Clipped.{clipped, pieces_after}
use Rattle.yds_contract.proofs.Cells.{none_covered, apart_weaker, covered_later, first_before, rest_before, few_before}

-- one piece, or none
pub clipped_cases : (from to : ℕ) → ((from < to) × (clipped from to ≡ record { from = from; to = to } ∷ [])) ⊎ ((to ≤ from) × (clipped from to ≡ []))
clipped_cases from to = grind (arith, cases_lt, cond-false, cond-true, le-ltb, lt-ltb)

-- it covers just the time between
covers_clipped : (from to time : ℕ) → Covers (clipped from to) time ↔ ((from ≤ time) × (time < to))
covers_clipped from to time = elim (clipped_cases from to) [
  | inl (some, is) ↦ rw is (
    (λ covers. elim ((Covers-cons (record { from = from; to = to }) [] time).0 covers) [ inl here ↦ here | inr none ↦ absurd (none_covered time none) ]),
    (λ between. (Covers-cons (record { from = from; to = to }) [] time).1 (inl between)),
  )
  | inr (none, is) ↦ rw is ((λ covers. absurd (none_covered time covers)), (λ between. absurd (omega (arith, between.0, between.1))))
]

-- a piece before others that begin later
apart_clipped : (start from to later : ℕ) (pieces : List Piece) → start ≤ from → start ≤ later → to < later → AreApartFrom later pieces → AreApartFrom start (clipped from to ++ pieces)
apart_clipped start from to later pieces first second before apart = grind (arith, apart_weaker, clipped_cases)

length_clipped : (from to : ℕ) → total_length (clipped from to) ≡ to - from
length_clipped from to = grind (arith, clipped_cases)

-- what isn't removed and has a place between the two, where so much is removed before these stretches
abbrev IsBetween : ℕ → ℕ → ℕ → List Piece → ℕ → Type 0
IsBetween start end before removed time =
    (Covers removed time → ⊥) × (start + before + removed_before removed time ≤ time) × (time < end + before + removed_before removed time)

pieces_later : (start end from before : ℕ) (removed : List Piece) (time : ℕ) → AreApartFrom from removed →
    Covers (pieces_after start end from before removed) time → from ≤ time
pieces_later start end from before [] time apart covers = omega (arith, ((covers_clipped (max from (start + before)) (end + before) time).0 covers).0)
pieces_later start end from before (stretch ∷ removed) time apart covers =
    elim ((Covers-append (clipped (max from (start + before)) (min stretch.from (end + before))) (pieces_after start end stretch.to (before + (stretch.to - stretch.from)) removed) time).0 covers) [
      | inl here ↦ omega (arith, ((covers_clipped (max from (start + before)) (min stretch.from (end + before)) time).0 here).0)
      | inr later ↦ omega (
        arith,
        apart.0,
        apart.1,
        pieces_later start end stretch.to (before + (stretch.to - stretch.from)) removed time
            (apart_weaker stretch.to (suc stretch.to) removed (omega arith) apart.2) later,
      )
    ]

pieces_time : (start end from before : ℕ) (removed : List Piece) (time : ℕ) → AreApartFrom from removed → from ≤ time →
    Covers (pieces_after start end from before removed) time ↔ IsBetween start end before removed time
pieces_time start end from before [] time apart late =
    let clip = covers_clipped (max from (start + before)) (end + before) time in (
      (λ covers. let between = clip.0 covers in (none_covered time, omega (arith, between.0), omega (arith, between.1))),
      (λ between. clip.1 (omega (arith, between.1), omega (arith, between.2))),
    )
pieces_time start end from before (stretch ∷ removed) time apart late =
    let clip = covers_clipped (max from (start + before)) (min stretch.from (end + before)) time in
    let both = Covers-append (clipped (max from (start + before)) (min stretch.from (end + before))) (pieces_after start end stretch.to (before + (stretch.to - stretch.from)) removed) time in
    let whole = Covers-cons stretch removed time in
    let apart_rest : AreApartFrom stretch.to removed = apart_weaker stretch.to (suc stretch.to) removed (omega arith) apart.2 in
    elim (cases_lt time stretch.to) [
      | inr after ↦
          let rest = pieces_time start end stretch.to (before + (stretch.to - stretch.from)) removed time apart_rest after in
          let removed_here = rest_before time stretch removed apart.1 after in (
            (λ covers. elim (both.0 covers) [
              | inl here ↦ absurd (omega (arith, (clip.0 here).1, apart.1))
              | inr later ↦ let between = rest.0 later in (
                (λ gone. elim (whole.0 gone) [ inl in_first ↦ omega (arith, in_first.1) | inr in_rest ↦ between.0 in_rest ]),
                omega (arith, removed_here, between.1),
                omega (arith, removed_here, between.2),
              )
            ]),
            (λ between. both.1 (inr (rest.1 (
              (λ gone. between.0 (whole.1 (inr gone))),
              omega (arith, removed_here, between.1),
              omega (arith, removed_here, between.2),
            )))),
          )
      | inl early ↦
          let removed_here = first_before time stretch removed apart.2 apart.1 (omega arith) in
          let not_later : Covers (pieces_after start end stretch.to (before + (stretch.to - stretch.from)) removed) time → ⊥ =
          λ covers. omega (arith, pieces_later start end stretch.to (before + (stretch.to - stretch.from)) removed time apart_rest covers) in (
            (λ covers. elim (both.0 covers) [
              | inl here ↦ let between = clip.0 here in (
                (λ gone. elim (whole.0 gone) [ inl in_first ↦ omega (arith, in_first.0, between.1) | inr in_rest ↦ omega (arith, covered_later (suc stretch.to) time removed apart.2 in_rest) ]),
                omega (arith, removed_here, between.0, between.1),
                omega (arith, removed_here, between.0, between.1),
              )
              | inr later ↦ absurd (not_later later)
            ]),
            (λ between. elim (cases_lt time stretch.from) [
              | inl before_it ↦ both.1 (inl (clip.1 (omega (arith, removed_here, between.1), omega (arith, removed_here, between.2))))
              | inr in_it ↦ absurd (between.0 (whole.1 (inl (in_it, early))))
            ]),
          )
    ]

pieces_apart : (start end from before : ℕ) (removed : List Piece) → AreApartFrom from removed → AreApartFrom from (pieces_after start end from before removed)
pieces_apart start end from before [] apart =
    subst (AreApartFrom from) (append-nil (clipped (max from (start + before)) (end + before)))
    (apart_clipped from (max from (start + before)) (end + before) (suc (max from (end + before))) [] (omega arith) (omega arith) (omega arith) tt)
pieces_apart start end from before (stretch ∷ removed) apart =
    apart_clipped from (max from (start + before)) (min stretch.from (end + before)) stretch.to (pieces_after start end stretch.to (before + (stretch.to - stretch.from)) removed)
    (omega arith) (omega (arith, apart.0, apart.1)) (omega (arith, apart.1))
    (pieces_apart start end stretch.to (before + (stretch.to - stretch.from)) removed (apart_weaker stretch.to (suc stretch.to) removed (omega arith) apart.2))

last_total : (start end from before : ℕ) → before ≤ from → (end + before) - max from (start + before) ≡ end - max start (from - before)
last_total start end from before few = grind arith

next_total : (start end from before f t : ℕ) → before ≤ from → from ≤ f → f < t →
    (min f (end + before) - max from (start + before)) + (end - max start (t - (before + (t - f)))) ≡ end - max start (from - before)
next_total start end from before f t few order forward = grind arith

pieces_total : (start end from before : ℕ) (removed : List Piece) → before ≤ from → AreApartFrom from removed →
    total_length (pieces_after start end from before removed) ≡ end - max start (from - before)
pieces_total start end from before [] few apart =
    length_clipped (max from (start + before)) (end + before) ∙ last_total start end from before few
pieces_total start end from before (stretch ∷ removed) few apart = omega (
  arith,
  sum_by-append (λ (p : Piece). p.to - p.from) (clipped (max from (start + before)) (min stretch.from (end + before)))
      (pieces_after start end stretch.to (before + (stretch.to - stretch.from)) removed),
  length_clipped (max from (start + before)) (min stretch.from (end + before)),
  pieces_total start end stretch.to (before + (stretch.to - stretch.from)) removed (omega (arith, apart.0, apart.1))
      (apart_weaker stretch.to (suc stretch.to) removed (omega arith) apart.2),
  next_total start end from before stretch.from stretch.to few apart.0 apart.1,
)

-- the pieces are those between the two places
pub pieces_found : (start end : ℕ) (removed : List Piece) → AreApartFrom 0 removed → ArePieces removed start end (pieces_after start end 0 0 removed)
pieces_found start end removed apart = record {
  apart = pieces_apart start end 0 0 removed apart;
  time = λ time.
      let found = pieces_time start end 0 0 removed time apart (omega arith) in
      let few = few_before 0 time removed apart (omega arith) in (
        (λ covers. let between = found.0 covers in record { stays = between.0; from = omega (arith, between.1, few); to = omega (arith, between.2, few) }),
        (λ has. found.1 (has.stays, omega (arith, has.from, few), omega (arith, has.to, few))),
      );
  total = omega (arith, pieces_total start end 0 0 removed (omega arith) apart);
}
