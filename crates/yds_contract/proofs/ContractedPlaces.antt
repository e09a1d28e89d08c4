-- A place in contracted time once an interval of it is removed besides.
use Rattle.yds_model.proofs.Common.{◌≡◌, ℕ, zero, suc, ◌+◌, ◌-◌, ◌<◌, ◌≤◌, ◌⊎◌, min, List, [], ◌∷◌, inl, inr, arith, refl, subst, le_refl, cases_lt, Piece, Covers}
use Rattle.yds_certificate.proofs.Cover.{Covers-cons}
use Rattle.yds_contract.specs.Contracted.{AreApartFrom, removed_before, place, Removes}
use Rattle.yds_contract.proofs.Cells.{none_covered, covered_later, first_before, rest_before, few_before}

-- a unit of time is removed, or one more is left before the next
cell_removed : (start time : ℕ) (removed : List Piece) → AreApartFrom start removed →
    (Covers removed time × (removed_before removed (suc time) ≡ removed_before removed time + 1))
    ⊎ ((Covers removed time → ⊥) × (removed_before removed (suc time) ≡ removed_before removed time))
cell_removed start time [] apart = inr (none_covered time, refl)
cell_removed start time (piece ∷ removed) apart = elim (cases_lt time piece.to) [
  | inl early ↦
      let now = first_before time piece removed apart.2 apart.1 (omega arith) in
      let next = first_before (suc time) piece removed apart.2 apart.1 (omega arith) in
      elim (cases_lt time piece.from) [
        | inl before ↦ inr (
          (λ covers. elim ((Covers-cons piece removed time).0 covers) [
            | inl here ↦ omega (arith, here.0)
            | inr later ↦ omega (arith, covered_later (suc piece.to) time removed apart.2 later)
          ]),
          omega (arith, now, next),
        )
        | inr within ↦ inl ((Covers-cons piece removed time).1 (inl (within, early)), omega (arith, now, next))
      ]
  | inr late ↦
      let now = rest_before time piece removed apart.1 late in
      let next = rest_before (suc time) piece removed apart.1 (omega arith) in
      elim (cell_removed (suc piece.to) time removed apart.2) [
        | inl more ↦ inl ((Covers-cons piece removed time).1 (inr more.0), omega (arith, now, next, more.1))
        | inr same ↦ inr (
          (λ covers. elim ((Covers-cons piece removed time).0 covers) [
            | inl here ↦ omega (arith, here.1)
            | inr later ↦ same.0 later
          ]),
          omega (arith, now, next, same.1),
        )
      ]
]

-- the place of the next time
pub place_next : (time : ℕ) (removed : List Piece) → AreApartFrom 0 removed →
    (Covers removed time × (place removed (suc time) ≡ place removed time))
    ⊎ ((Covers removed time → ⊥) × (place removed (suc time) ≡ suc (place removed time)))
place_next time removed apart =
    let now = few_before 0 time removed apart (omega arith) in
    let next = few_before 0 (suc time) removed apart (omega arith) in
    elim (cell_removed 0 time removed apart) [
      | inl more ↦ inl (more.0, omega (arith, now, next, more.1))
      | inr same ↦ inr (same.0, omega (arith, now, next, same.1))
    ]

-- places rise
place_more : (more time late : ℕ) (removed : List Piece) → AreApartFrom 0 removed → late ≡ more + time → place removed time ≤ place removed late
place_more zero time late removed apart is =
    let same : time ≡ late = omega (arith, is) in
    subst (λ (t : ℕ). place removed time ≤ place removed t) same (le_refl (place removed time))
place_more (suc more) time late removed apart is =
    let next : suc (more + time) ≡ late = omega (arith, is) in
    subst (λ (t : ℕ). place removed time ≤ place removed t) next
    (let step : place removed time ≤ place removed (suc (more + time)) = elim (place_next (more + time) removed apart) [
      | inl same ↦ omega (arith, same.1, place_more more time (more + time) removed apart refl)
      | inr more_left ↦ omega (arith, more_left.1, place_more more time (more + time) removed apart refl)
    ] in step)

pub place_rises : (early late : ℕ) (removed : List Piece) → AreApartFrom 0 removed → early ≤ late → place removed early ≤ place removed late
place_rises early late removed apart before =
    place_more (late - early) early late removed apart (omega arith)

-- a place in the interval goes to its start, and a later one comes earlier by its length
pub place_removes : (start end : ℕ) (removed changed : List Piece) → AreApartFrom 0 removed → start < end → Removes removed start end changed →
    (time : ℕ) → place changed time ≡ min (place removed time) start + (place removed time - end)
place_removes start end removed changed apart forward removes zero = omega arith
place_removes start end removed changed apart forward removes (suc time) =
    let before = place_removes start end removed changed apart forward removes time in
    let own = place_next time removed apart in
    let other = place_next time changed removes.apart in
    elim own [
      | inl same ↦ elim other [
        | inl kept ↦ omega (arith, before, same.1, kept.1)
        | inr next ↦ absurd (next.0 ((removes.time time).1 (inl same.0)))
      ]
      | inr next ↦ elim other [
        | inl kept ↦ elim ((removes.time time).0 kept.0) [
          | inl gone ↦ absurd (next.0 gone)
          | inr here ↦ omega (arith, before, next.1, kept.1, here.from, here.to)
        ]
        | inr more ↦ elim (cases_lt (place removed time) start) [
          | inl early ↦ omega (arith, before, next.1, more.1, early)
          | inr from ↦ elim (cases_lt (place removed time) end) [
            | inl within ↦ absurd (more.0 ((removes.time time).1 (inr (record { stays = next.0; from = from; to = within }))))
            | inr late ↦ omega (arith, before, next.1, more.1, late)
          ]
        ]
      ]
    ]

-- some time is left between two places that don't both lie in the interval
pub window_left : (start end from to : ℕ) → start < end → from < to → (start ≤ from → to ≤ end → ⊥) →
    min from start + (from - end) < min to start + (to - end)
window_left start end from to forward window outside = grind (arith, cases_lt)
