-- Removed stretches with one more, which those that touch it or lie inside it join.
use Rattle.yds_model.proofs.Common.{◌≡◌, ℕ, suc, ◌+◌, ◌-◌, ◌<◌, ◌≤◌, ◌⊎◌, List, [], ◌∷◌, ◌∙◌, ap, sym, subst, inl, inr, arith, refl, ◌↔◌, nat_lt, nat_le, if◌then◌else◌, All, cases_lt, cond-true, cond-false, lt-ltb, le-ltb, le-leb, lt-leb, sum_by-cons, All-cons, All-nil, All-head, All-tail, Piece, Covers, total_length}
use Rattle.yds_certificate.proofs.Cover.{Covers-cons}
use Rattle.yds_contract.specs.Contracted.{AreApartFrom, removed_before, Removes}
use Rattle.yds_contract.proofs.Cells.{none_covered, apart_weaker, covered_later, none_before, first_before, rest_before, few_before}

-- These stretches with one more from here to there in the time that isn't removed by them. Where the first lies before it,
-- both its ends come later by that; where the first lies inside it or touches it, its last end does, and it takes the first in.
abbrev pub joined : ℕ → ℕ → List Piece → List Piece
joined from to [] = record { from = from; to = to } ∷ []
joined from to (first ∷ rest) =
    if nat_lt first.from from then first ∷ joined (from + (first.to - first.from)) (to + (first.to - first.from)) rest
    else (if nat_le first.from to then joined from (to + (first.to - first.from)) rest
    else record { from = from; to = to } ∷ joined first.from first.to rest)

pub joined_before : (from to : ℕ) (first : Piece) (rest : List Piece) → first.from < from →
    joined from to (first ∷ rest) ≡ first ∷ joined (from + (first.to - first.from)) (to + (first.to - first.from)) rest
joined_before from to first rest before = cond-true (nat_lt first.from from) _ _ (lt-ltb first.from from before)

pub joined_inside : (from to : ℕ) (first : Piece) (rest : List Piece) → from ≤ first.from → first.from ≤ to →
    joined from to (first ∷ rest) ≡ joined from (to + (first.to - first.from)) rest
joined_inside from to first rest after within =
    cond-false (nat_lt first.from from) _ _ (le-ltb first.from from after) ∙ cond-true (nat_le first.from to) _ _ (le-leb first.from to within)

pub joined_after : (from to : ℕ) (first : Piece) (rest : List Piece) → from ≤ first.from → to < first.from →
    joined from to (first ∷ rest) ≡ record { from = from; to = to } ∷ joined first.from first.to rest
joined_after from to first rest after beyond =
    cond-false (nat_lt first.from from) _ _ (le-ltb first.from from after) ∙ cond-false (nat_le first.from to) _ _ (lt-leb first.from to beyond)

-- where the first of these lies before, inside or after
data Lies (from to : ℕ) (first : Piece) : Type 0 where
  before : first.from < from → Lies from to first
  inside : from ≤ first.from → first.from ≤ to → Lies from to first
  after : from ≤ first.from → to < first.from → Lies from to first

lies : (from to : ℕ) (first : Piece) → Lies from to first
lies from to first = grind (arith, cases_lt)

-- one that lies before all others stays as it is
joined_first : (from to : ℕ) (rest : List Piece) → from < to → AreApartFrom (suc to) rest → joined from to rest ≡ record { from = from; to = to } ∷ rest
joined_first from to [] forward apart = refl
joined_first from to (first ∷ rest) forward apart =
    joined_after from to first rest (omega (arith, apart.0)) (omega (arith, apart.0))
    ∙ ap (λ (ps : List Piece). record { from = from; to = to } ∷ ps) (joined_first first.from first.to rest apart.1 apart.2)

-- the length is added
pub joined_total : (from to : ℕ) (removed : List Piece) → from < to → AreApartFrom 0 removed → total_length (joined from to removed) ≡ total_length removed + (to - from)
joined_total from to [] forward apart = omega arith
joined_total from to (first ∷ rest) forward apart =
    let later : AreApartFrom 0 rest = apart_weaker 0 (suc first.to) rest (omega arith) apart.2 in
    let sum = sum_by-cons (λ (p : Piece). p.to - p.from) first rest in
    elim (lies from to first) [
      | before less ↦ omega (
        arith,
        ap (λ (ps : List Piece). total_length ps) (joined_before from to first rest less),
        sum,
        sum_by-cons (λ (p : Piece). p.to - p.from) first (joined (from + (first.to - first.from)) (to + (first.to - first.from)) rest),
        joined_total (from + (first.to - first.from)) (to + (first.to - first.from)) rest (omega arith) later,
      )
      | inside more within ↦ omega (
        arith,
        ap (λ (ps : List Piece). total_length ps) (joined_inside from to first rest more within),
        sum,
        apart.1,
        joined_total from (to + (first.to - first.from)) rest (omega arith) later,
      )
      | after more beyond ↦ omega (
        arith,
        ap (λ (ps : List Piece). total_length ps) (joined_after from to first rest more beyond),
        sum,
        apart.1,
        sum_by-cons (λ (p : Piece). p.to - p.from) (record { from = from; to = to }) (joined first.from first.to rest),
        joined_total first.from first.to rest apart.1 later,
      )
    ]

-- the ends stay within a limit
pub joined_ends : (most from to : ℕ) (removed : List Piece) → from < to → AreApartFrom 0 removed → to + total_length removed ≤ most → All (λ piece. piece.to ≤ most) removed →
    All (λ piece. piece.to ≤ most) (joined from to removed)
joined_ends most from to [] forward apart fits ends = All-cons (λ (p : Piece). p.to ≤ most) (record { from = from; to = to }) [] (omega (arith, fits)) (All-nil (λ (p : Piece). p.to ≤ most))
joined_ends most from to (first ∷ rest) forward apart fits ends =
    let later : AreApartFrom 0 rest = apart_weaker 0 (suc first.to) rest (omega arith) apart.2 in
    let sum = sum_by-cons (λ (p : Piece). p.to - p.from) first rest in
    let ends_rest = All-tail (λ (p : Piece). p.to ≤ most) first rest ends in
    elim (lies from to first) [
      | before less ↦ subst (All (λ (p : Piece). p.to ≤ most)) (sym (joined_before from to first rest less))
          (All-cons (λ (p : Piece). p.to ≤ most) first (joined (from + (first.to - first.from)) (to + (first.to - first.from)) rest) (ends 0 first (omega arith))
          (joined_ends most (from + (first.to - first.from)) (to + (first.to - first.from)) rest (omega arith) later (omega (arith, fits, sum)) ends_rest))
      | inside more within ↦ subst (All (λ (p : Piece). p.to ≤ most)) (sym (joined_inside from to first rest more within))
          (joined_ends most from (to + (first.to - first.from)) rest (omega arith) later (omega (arith, fits, sum)) ends_rest)
      | after more beyond ↦ subst (All (λ (p : Piece). p.to ≤ most)) (sym (joined_after from to first rest more beyond))
          (All-cons (λ (p : Piece). p.to ≤ most) (record { from = from; to = to }) (joined first.from first.to rest) (omega (arith, fits))
          (subst (All (λ (p : Piece). p.to ≤ most)) (sym (joined_first first.from first.to rest apart.1 apart.2)) ends))
    ]

-- and so the last end reached does
pub joined_reaches : (most from to : ℕ) (removed : List Piece) → All (λ piece. piece.to ≤ most) (joined from to removed) → to ≤ most
joined_reaches most from to [] ends = ends 0 (record { from = from; to = to }) (omega arith)
joined_reaches most from to (first ∷ rest) ends = elim (lies from to first) [
  | before less ↦ omega (
    arith,
    joined_reaches most (from + (first.to - first.from)) (to + (first.to - first.from)) rest
        (All-tail (λ (p : Piece). p.to ≤ most) first (joined (from + (first.to - first.from)) (to + (first.to - first.from)) rest) (subst (All (λ (p : Piece). p.to ≤ most)) (joined_before from to first rest less) ends)),
  )
  | inside more within ↦ omega (arith, joined_reaches most from (to + (first.to - first.from)) rest (subst (All (λ (p : Piece). p.to ≤ most)) (joined_inside from to first rest more within) ends))
  | after more beyond ↦ All-head (λ (p : Piece). p.to ≤ most) (record { from = from; to = to }) (joined first.from first.to rest) (subst (All (λ (p : Piece). p.to ≤ most)) (joined_after from to first rest more beyond) ends)
]

-- they lie apart
pub joined_apart : (start from to : ℕ) (removed : List Piece) → start ≤ from → from < to → AreApartFrom start removed → AreApartFrom start (joined from to removed)
joined_apart start from to [] first_end forward apart = (first_end, forward, tt)
joined_apart start from to (first ∷ rest) first_end forward apart = elim (lies from to first) [
  | before less ↦ subst (AreApartFrom start) (sym (joined_before from to first rest less))
      (apart.0, apart.1, joined_apart (suc first.to) (from + (first.to - first.from)) (to + (first.to - first.from)) rest (omega (arith, less, apart.1)) (omega arith) apart.2)
  | inside more within ↦ subst (AreApartFrom start) (sym (joined_inside from to first rest more within))
      (joined_apart start from (to + (first.to - first.from)) rest first_end (omega arith) (apart_weaker start (suc first.to) rest (omega (arith, apart.0, apart.1)) apart.2))
  | after more beyond ↦ subst (AreApartFrom start) (sym (joined_after from to first rest more beyond))
      (first_end, forward, subst (AreApartFrom (suc to)) (sym (joined_first first.from first.to rest apart.1 apart.2)) (beyond, apart.1, apart.2))
]

-- from where the joined stretch begins, once it has begun: what these cover, and what isn't removed and lies before its end
inside_time : (from to start : ℕ) (removed : List Piece) (time : ℕ) → from < to → from ≤ start → start ≤ to → AreApartFrom start removed → from ≤ time →
    Covers (joined from to removed) time ↔ (Covers removed time ⊎ ((Covers removed time → ⊥) × (time < to + removed_before removed time)))
inside_time from to start [] time forward begun ends apart late =
    let one = Covers-cons (record { from = from; to = to }) [] time in (
      (λ covers. elim (one.0 covers) [ inl here ↦ inr (none_covered time, omega (arith, here.1)) | inr none ↦ absurd (none_covered time none) ]),
      (λ found. elim found [ inl none ↦ absurd (none_covered time none) | inr (free, before_end) ↦ one.1 (inl (late, omega arith)) ]),
    )
inside_time from to start (first ∷ rest) time forward begun ends apart late =
    let whole = Covers-cons first rest time in
    elim (cases_lt to first.from) [
      | inr within ↦
          let same = joined_inside from to first rest (omega (arith, apart.0)) within in
          let more = inside_time from (to + (first.to - first.from)) first.to rest time (omega arith) (omega (arith, apart.0, apart.1)) (omega (arith, apart.1))
          (apart_weaker first.to (suc first.to) rest (omega arith) apart.2) late in
          elim (cases_lt time first.to) [
            | inr past ↦
                let gone = rest_before time first rest apart.1 past in (
                  (λ covers. elim (more.0 (subst (λ (ps : List Piece). Covers ps time) same covers)) [
                    | inl in_rest ↦ inl (whole.1 (inr in_rest))
                    | inr (free, before_end) ↦ inr (
                      (λ has. elim (whole.0 has) [ inl here ↦ omega (arith, here.1) | inr in_rest ↦ free in_rest ]),
                      omega (arith, gone),
                    )
                  ]),
                  (λ found. subst (λ (ps : List Piece). Covers ps time) (sym same) (more.1 (elim found [
                    | inl has ↦ elim (whole.0 has) [ inl here ↦ absurd (omega (arith, here.1)) | inr in_rest ↦ inl in_rest ]
                    | inr (free, before_end) ↦ inr ((λ in_rest. free (whole.1 (inr in_rest))), omega (arith, gone))
                  ]))),
                )
            | inl early ↦
                let gone = first_before time first rest apart.2 apart.1 (omega arith) in (
                  (λ covers. elim (cases_lt time first.from) [
                    | inl less ↦ inr (
                      (λ has. elim (whole.0 has) [ inl here ↦ omega (arith, here.0) | inr in_rest ↦ omega (arith, covered_later (suc first.to) time rest apart.2 in_rest) ]),
                      omega arith,
                    )
                    | inr here ↦ inl (whole.1 (inl (here, early)))
                  ]),
                  (λ found. subst (λ (ps : List Piece). Covers ps time) (sym same) (more.1 (inr (
                    (λ in_rest. omega (arith, covered_later (suc first.to) time rest apart.2 in_rest)),
                    omega (arith, apart.1),
                  )))),
                )
          ]
      | inl beyond ↦
          let same = joined_after from to first rest (omega (arith, apart.0)) beyond ∙ ap (λ (ps : List Piece). record { from = from; to = to } ∷ ps) (joined_first first.from first.to rest apart.1 apart.2) in
          let one = Covers-cons (record { from = from; to = to }) (first ∷ rest) time in
          let later : AreApartFrom first.from (first ∷ rest) = (omega arith, apart.1, apart.2) in (
            (λ covers. elim (one.0 (subst (λ (ps : List Piece). Covers ps time) same covers)) [
              | inl here ↦ inr ((λ has. omega (arith, here.1, covered_later first.from time (first ∷ rest) later has)), omega (arith, here.1))
              | inr has ↦ inl has
            ]),
            (λ found. subst (λ (ps : List Piece). Covers ps time) (sym same) (elim found [
              | inl has ↦ one.1 (inr has)
              | inr (free, before_end) ↦ elim (cases_lt time first.from) [
                | inl less ↦ one.1 (inl (late, omega (arith, none_before first.from time (first ∷ rest) later (omega arith))))
                | inr past ↦ absurd (omega (arith, few_before first.from time (first ∷ rest) later past))
              ]
            ])),
          )
    ]

-- what is covered once one stretch more is removed
joined_time : (from to start : ℕ) (removed : List Piece) (time : ℕ) → from < to → start ≤ from → AreApartFrom start removed → start ≤ time →
    Covers (joined from to removed) time
    ↔ (Covers removed time ⊎ ((Covers removed time → ⊥) × (from + removed_before removed time ≤ time) × (time < to + removed_before removed time)))
joined_time from to start [] time forward first_end apart late =
    let one = Covers-cons (record { from = from; to = to }) [] time in (
      (λ covers. elim (one.0 covers) [ inl here ↦ inr (none_covered time, omega (arith, here.0), omega (arith, here.1)) | inr none ↦ absurd (none_covered time none) ]),
      (λ found. elim found [ inl none ↦ absurd (none_covered time none) | inr (free, after_start, before_end) ↦ one.1 (inl (omega arith, omega arith)) ]),
    )
joined_time from to start (first ∷ rest) time forward first_end apart late = elim (cases_lt first.from from) [
  | inl less ↦
      let whole = Covers-cons first rest time in
      let length : ℕ = first.to - first.from in
      let others : List Piece = joined (from + length) (to + length) rest in
      let same = joined_before from to first rest less in
      let both = Covers-cons first others time in
      let apart_others : AreApartFrom (suc first.to) others = joined_apart (suc first.to) (from + length) (to + length) rest (omega (arith, less, apart.1)) (omega arith) apart.2 in
      elim (cases_lt time first.to) [
        | inr past ↦
            let more = joined_time (from + length) (to + length) first.to rest time (omega arith) (omega (arith, less, apart.1)) (apart_weaker first.to (suc first.to) rest (omega arith) apart.2) past in
            let gone = rest_before time first rest apart.1 past in (
              (λ covers. elim (both.0 (subst (λ (ps : List Piece). Covers ps time) same covers)) [
                | inl here ↦ absurd (omega (arith, here.1))
                | inr in_others ↦ elim (more.0 in_others) [
                  | inl in_rest ↦ inl (whole.1 (inr in_rest))
                  | inr (free, after_start, before_end) ↦ inr (
                    (λ has. elim (whole.0 has) [ inl here ↦ omega (arith, here.1) | inr in_rest ↦ free in_rest ]),
                    omega (arith, gone),
                    omega (arith, gone),
                  )
                ]
              ]),
              (λ found. subst (λ (ps : List Piece). Covers ps time) (sym same) (both.1 (inr (more.1 (elim found [
                | inl has ↦ elim (whole.0 has) [ inl here ↦ absurd (omega (arith, here.1)) | inr in_rest ↦ inl in_rest ]
                | inr (free, after_start, before_end) ↦ inr ((λ in_rest. free (whole.1 (inr in_rest))), omega (arith, gone), omega (arith, gone))
              ]))))),
            )
        | inl early ↦
            let gone = first_before time first rest apart.2 apart.1 (omega arith) in (
              (λ covers. elim (both.0 (subst (λ (ps : List Piece). Covers ps time) same covers)) [
                | inl here ↦ inl (whole.1 (inl here))
                | inr in_others ↦ absurd (omega (arith, covered_later (suc first.to) time others apart_others in_others))
              ]),
              (λ found. subst (λ (ps : List Piece). Covers ps time) (sym same) (elim found [
                | inl has ↦ elim (whole.0 has) [ inl here ↦ both.1 (inl here) | inr in_rest ↦ absurd (omega (arith, covered_later (suc first.to) time rest apart.2 in_rest)) ]
                | inr (free, after_start, before_end) ↦ elim (cases_lt time first.from) [
                  | inl before_it ↦ absurd (omega (arith, gone))
                  | inr in_it ↦ absurd (free (whole.1 (inl (in_it, early))))
                ]
              ])),
            )
      ]
  | inr after_it ↦
      let later : AreApartFrom from (first ∷ rest) = (after_it, apart.1, apart.2) in
      elim (cases_lt time from) [
        | inl early ↦ (
          (λ covers. absurd (omega (arith, covered_later from time (joined from to (first ∷ rest)) (joined_apart from from to (first ∷ rest) (omega arith) forward later) covers))),
          (λ found. elim found [
            | inl has ↦ absurd (omega (arith, covered_later from time (first ∷ rest) later has))
            | inr (free, after_start, before_end) ↦ absurd (omega arith)
          ]),
        )
        | inr begun ↦
            let found = inside_time from to from (first ∷ rest) time forward (omega arith) (omega arith) later begun in
            let few = few_before from time (first ∷ rest) later begun in (
              (λ covers. elim (found.0 covers) [ inl has ↦ inl has | inr (free, before_end) ↦ inr (free, few, before_end) ]),
              (λ which. found.1 (elim which [ inl has ↦ inl has | inr (free, after_start, before_end) ↦ inr (free, before_end) ])),
            )
      ]
]

-- with one stretch more just the time between the two places is removed besides
pub joined_removes : (start end : ℕ) (removed : List Piece) → start < end → AreApartFrom 0 removed → Removes removed start end (joined start end removed)
joined_removes start end removed forward apart = record {
  apart = joined_apart 0 start end removed (omega arith) forward apart;
  time = λ time.
      let found = joined_time start end 0 removed time forward (omega arith) apart (omega arith) in
      let few = few_before 0 time removed apart (omega arith) in (
        (λ covers. elim (found.0 covers) [
          | inl has ↦ inl has
          | inr (free, after_start, before_end) ↦ inr (record { stays = free; from = omega (arith, few); to = omega (arith, few) })
        ]),
        (λ which. found.1 (elim which [ inl has ↦ inl has | inr has ↦ inr (has.stays, omega (arith, has.from, few), omega (arith, has.to, few)) ])),
      );
}
