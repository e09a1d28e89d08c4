-- How many elements of a list pass a test.
use Rattle.yds_model.proofs.Common.{◌≡◌, ℕ, suc, ◌<◌, ◌≤◌, Bool, true, cond, List, [], ◌∷◌, length, get_or, take, ap, arith, inl, inr, length-take, get_or-take, count_by, cases_Bool, cases_lt, sum_by-cons, get_or-le-sum_by, sum_by_more_le}

-- one that passes is counted
pub counted_at : {X : Type 0} (p : X → Bool) (xs : List X) (i : ℕ) (d : X) → i < length xs → p (get_or xs i d) ≡ true → 1 ≤ count_by p xs
counted_at p xs i d within passes = grind (arith, get_or-le-sum_by)

-- where some are counted, one passes
pub counted_where : {X : Type 0} (p : X → Bool) (xs : List X) (d : X) → 1 ≤ count_by p xs →
    (i : ℕ) × (i < length xs) × (p (get_or xs i d) ≡ true)
counted_where p [] d some = absurd (omega arith)
counted_where p (x ∷ xs) d some = elim (cases_Bool (p x)) [
  | inl so ↦ (0, omega arith, so)
  | inr not_so ↦
      let one = sum_by-cons (λ y. cond (p y) 1 0) x xs in
      let rest = counted_where p xs d (omega (arith, some, one, ap {B = ℕ} (λ b. cond b 1 0) not_so)) in
      (suc rest.0, omega (arith, rest.1), rest.2)
]

-- two that pass are counted twice
pub counted_twice : {X : Type 0} (p : X → Bool) (xs : List X) (i j : ℕ) (d : X) → i < j → j < length xs → p (get_or xs i d) ≡ true →
    p (get_or xs j d) ≡ true → 2 ≤ count_by p xs
counted_twice p xs i j d order within first second =
    let both = sum_by_more_le (λ x. cond (p x) 1 0) xs j d within in
    let inside : i < length (take j xs) = omega (arith, length-take j xs) in
    let front : p (get_or (take j xs) i d) ≡ true = rw (get_or-take j xs i d order) first in
    omega (arith, counted_at p (take j xs) i d inside front, rw second at both)

-- where none passes, none is counted
pub uncounted : {X : Type 0} (p : X → Bool) (xs : List X) (d : X) → ((i : ℕ) → i < length xs → p (get_or xs i d) ≡ true → ⊥) → count_by p xs ≡ 0
uncounted p xs d none = elim (cases_lt 0 (count_by p xs)) [
  | inl some ↦
      let found = counted_where p xs d (omega (arith, some)) in
      absurd (none found.0 found.1 found.2)
  | inr empty ↦ omega (arith, empty)
]
