-- Shares by their stretches, and sums that are equal term by term.
use Rattle.yds_model.proofs.Common.{◌≡◌, ℕ, zero, suc, ◌+◌, ◌<◌, ◌≤◌, ◌==◌, List, [], ◌∷◌, length, get_or, sym, arith, inl, inr, cond, refl, subst, Bool, nat_lt, filter, All, AllPairs, sum_by, range_with_len, cases_lt, cases_Bool, cases_order, eq-eqb, ne_eqb, lt-ltb, le-ltb, get_or-le-sum_by, All-contains, Contains-get_or, length-range_with_len, get_or-range_with_len, sum_by-add, sum_by_at_most, sum_by-filter, contains_filter}
use Rattle.yds_edf.specs.Serving.{AreTies}
use Rattle.base.specs.Numbers.{sum_below}
use Rattle.yds_timetable.specs.Shares.{JobShare, units_given, shares_in, shares_before}
use Rattle.model_lemmas.proofs.SumsBelow.{sum_below_less}

-- terms that are at most others, with the same sum, are the same
pub same_terms : (n k : ℕ) (f g : ℕ → ℕ) → k < n → ((j : ℕ) → j < n → f j ≤ g j) → sum_below n f ≡ sum_below n g → f k ≡ g k
same_terms n k f g within most same = elim (cases_lt (f k) (g k)) [
  | inl less ↦ absurd (omega (arith, sum_below_less n k f g within most less, same))
  | inr more ↦ omega (arith, more, most k within)
]

-- what holds of each pair in which the first comes before the second holds of the first element and each later one
first_pairs : {X : Type 0} (R : X → X → Type 0) (x : X) (xs : List X) → AllPairs R (x ∷ xs) → All (R x) xs
first_pairs R x xs pairs k d within = pairs 0 (suc k) d (omega arith) (omega arith)

later_pairs : {X : Type 0} (R : X → X → Type 0) (x : X) (xs : List X) → AllPairs R (x ∷ xs) → AllPairs R xs
later_pairs R x xs pairs i j d order within = pairs (suc i) (suc j) d (omega arith) (omega arith)

-- two elements of one key stand among those of the key in the same order
pub pairs_of_key : {X : Type 0} (R : X → X → Type 0) (key : X → ℕ) (k : ℕ) (xs : List X) → AllPairs R (filter (λ x. k == key x) xs) →
    (i j : ℕ) (d : X) → i < j → j < length xs → k ≡ key (get_or xs i d) → k ≡ key (get_or xs j d) → R (get_or xs i d) (get_or xs j d)
pairs_of_key R key k [] pairs i j d order within one other = absurd (omega arith)
pairs_of_key R key k (x ∷ xs) pairs i zero d order within one other = absurd (omega arith)
pairs_of_key R key k (x ∷ xs) pairs zero (suc j) d order within one other =
    let own : AllPairs R (x ∷ filter (λ y. k == key y) xs) =
    subst (λ (b : Bool). AllPairs R (cond b (x ∷ filter (λ y. k == key y) xs) (filter (λ y. k == key y) xs))) (eq-eqb k (key x) one) pairs in
    All-contains (R x) (filter (λ y. k == key y) xs) (get_or xs j d) (first_pairs R x (filter (λ y. k == key y) xs) own)
    (contains_filter (λ y. k == key y) xs (get_or xs j d) (eq-eqb k (key (get_or xs j d)) other) (Contains-get_or xs j d (omega arith)))
pairs_of_key R key k (x ∷ xs) pairs (suc i) (suc j) d order within one other =
    let rest : AllPairs R (filter (λ y. k == key y) xs) = elim (cases_Bool (k == key x)) [
      | inl here ↦ later_pairs R x (filter (λ y. k == key y) xs)
          (subst (λ (b : Bool). AllPairs R (cond b (x ∷ filter (λ y. k == key y) xs) (filter (λ y. k == key y) xs))) here pairs)
      | inr off ↦ subst (λ (b : Bool). AllPairs R (cond b (x ∷ filter (λ y. k == key y) xs) (filter (λ y. k == key y) xs))) off pairs
    ] in
    pairs_of_key R key k xs rest i j d (omega arith) (omega arith) one other

-- the numbers of a range rise
pub range_rises : (n : ℕ) → AllPairs (λ (x y : ℕ). x < y) (range_with_len 0 n)
range_rises n i j d order within = grind (arith, get_or-range_with_len, length-range_with_len)

-- where numbers differ by pairs, a number stands at one place
pub one_place : (R : ℕ → ℕ → Type 0) → ((x y : ℕ) → R x y → x ≡ y → ⊥) → (numbers : List ℕ) (x y : ℕ) → AllPairs R numbers → x < length numbers → y < length numbers →
    get_or numbers x 0 ≡ get_or numbers y 0 → x ≡ y
one_place R differ numbers x y pairs one other same = elim (cases_order x y) [
  | inl is ↦ is
  | inr apart ↦ elim apart [
    | inl before ↦ absurd (differ _ _ (pairs x y 0 before other) same)
    | inr after ↦ absurd (differ _ _ (pairs y x 0 after one) (sym same))
  ]
]

-- numbers that rise keep the order of their places
pub place_order : (numbers : List ℕ) (x y : ℕ) → AllPairs (λ (a b : ℕ). a < b) numbers → x < length numbers → y < length numbers →
    get_or numbers x 0 < get_or numbers y 0 → x < y
place_order numbers x y pairs one other less = grind (arith, cases_order)

-- a share's units in the stretches before one, in it and after it
parts_of : (i s v : ℕ) → cond (nat_lt s i) v 0 + cond (i == s) v 0 + cond (nat_lt i s) v 0 ≡ v
parts_of i s v = grind (arith, cases_order, eq-eqb, le-ltb, lt-ltb, ne_eqb)

-- a job that gets units in a later stretch has got fewer by the end of this one
pub fewer_before : (shares : List JobShare) (i x : ℕ) (d : JobShare) → x < length shares → i < (get_or shares x d).stretch →
    units_given (shares_before shares i) (get_or shares x d).job + units_given (shares_in shares i) (get_or shares x d).job + (get_or shares x d).units
    ≤ units_given shares (get_or shares x d).job
fewer_before shares i x d within later =
    let job = (get_or shares x d).job in
    let f = λ (s : JobShare). cond (job == s.job) s.units 0 in
    let before = λ (s : JobShare). cond (nat_lt s.stretch i) (f s) 0 in
    let here = λ (s : JobShare). cond (i == s.stretch) (f s) 0 in
    let after = λ (s : JobShare). cond (nat_lt i s.stretch) (f s) 0 in
    let own : after (get_or shares x d) ≡ (get_or shares x d).units = rw (lt-ltb i (get_or shares x d).stretch later, eq-eqb job job refl) refl in
    let all : sum_by (λ s. before s + here s + after s) shares ≤ sum_by f shares =
    sum_by_at_most (λ s. before s + here s + after s) f shares (λ k e below. omega (arith, parts_of i (get_or shares k e).stretch (f (get_or shares k e)))) in
    omega (
      arith,
      sum_by-filter (λ s. nat_lt s.stretch i) f shares,
      sum_by-filter (λ s. i == s.stretch) f shares,
      own,
      get_or-le-sum_by after shares x d within,
      all,
      sum_by-add (λ s. before s + here s) after shares,
      sum_by-add before here shares,
    )

-- the numbers of a range tell jobs of the same deadline apart
pub range_ties : (n : ℕ) → AreTies (range_with_len 0 n)
range_ties n i j first second same = grind (arith, get_or-range_with_len, length-range_with_len)
