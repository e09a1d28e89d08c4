-- Tests of elements: what a filter keeps of a list, what its sum is, and whether some number passes at all.
use Rattle.std.proofs.Common.{◌≡◌, ℕ, zero, suc, ◌+◌, ◌<◌, ◌⊎◌, Bool, true, false, cond, List, [], ◌∷◌, ◌++◌, ◌∙◌, refl, sym, ap, arith, inl, inr}
use Rattle.std.specs.List.{All, Contains, filter, range_with_len, sum_by}
use Rattle.std.proofs.lemmas.Bool.{cases_Bool, cases_eq}
use Rattle.std.proofs.lemmas.List.{map-id}
use Rattle.std.proofs.lemmas.List.Elements.{All-tail}
use Rattle.std.proofs.lemmas.List.FromFn.{filter_of_map_range_with_len_more}
use Rattle.std.proofs.lemmas.List.Sums.{sum_by-cons}

-- where each element passes, all are kept
pub filter_all : {X : Type 0} (p : X → Bool) (xs : List X) → All (λ x. p x ≡ true) xs → filter p xs ≡ xs
filter_all p [] pass = refl
filter_all p (x ∷ xs) pass = rw (pass 0 x (omega arith), filter_all p xs (All-tail (λ y. p y ≡ true) x xs pass)) refl

-- where none does, none is
pub filter_none : {X : Type 0} (p : X → Bool) (xs : List X) → All (λ x. p x ≡ false) xs → filter p xs ≡ []
filter_none p [] fail = refl
filter_none p (x ∷ xs) fail = rw (fail 0 x (omega arith), filter_none p xs (All-tail (λ y. p y ≡ false) x xs fail)) refl

-- of one number more, that number is kept beside the others if it passes
pub filter-range_with_len_more : (p : ℕ → Bool) (n : ℕ) →
    filter p (range_with_len 0 (n + 1)) ≡ filter p (range_with_len 0 n) ++ cond (p n) (n ∷ []) []
filter-range_with_len_more p n =
    ap (filter p) (sym (map-id (range_with_len 0 (n + 1)))) ∙ filter_of_map_range_with_len_more p (λ (k : ℕ). k) 0 n n (omega arith)
    ∙ ap (λ (xs : List ℕ). filter p xs ++ cond (p n) (n ∷ []) []) (map-id (range_with_len 0 n))

-- an element that passes stands among those that are kept
pub contains_filter : {X : Type 0} (p : X → Bool) (xs : List X) (x : X) → p x ≡ true → Contains xs x → Contains (filter p xs) x
contains_filter p [] x passes (k, within, is) = absurd (omega arith)
contains_filter p (y ∷ ys) x passes (zero, within, is) = rw (ap p is ∙ passes) (0, omega arith, is)
contains_filter p (y ∷ ys) x passes (suc k, within, is) =
    let found = contains_filter p ys x passes (k, omega arith, is) in
    elim (cases_Bool (p y)) [
      | inl kept ↦ rw kept (suc found.0, omega (arith, found.1), found.2)
      | inr fails ↦ rw fails found
    ]

-- one element more counts in a sum if it passes
pub filter_step : {X : Type 0} (b : Bool) (x : X) (f : X → ℕ) (xs : List X) → sum_by f (cond b (x ∷ xs) xs) ≡ cond b (f x) 0 + sum_by f xs
filter_step true x f xs = sum_by-cons f x xs
filter_step false x f xs = omega arith

-- so the sum over those that are kept is that of the terms that count
pub sum_by-filter : {X : Type 0} (p : X → Bool) (f : X → ℕ) (xs : List X) → sum_by f (filter p xs) ≡ sum_by (λ x. cond (p x) (f x) 0) xs
sum_by-filter p f [] = refl
sum_by-filter p f (x ∷ xs) =
    omega (arith, filter_step (p x) x f (filter p xs), sum_by-cons (λ y. cond (p y) (f y) 0) x xs, sum_by-filter p f xs)

-- some of the first n numbers passes a test, or none does
pub found_or_none : (n : ℕ) (test : ℕ → Bool) →
    ((k : ℕ) × (k < n) × (test k ≡ true)) ⊎ ((k : ℕ) → k < n → test k ≡ false)
found_or_none zero test = inr (λ k within. absurd (omega arith))
found_or_none (suc n) test = elim (found_or_none n test) [
  | inl found ↦ inl (found.0, omega (arith, found.1), found.2)
  | inr none ↦ elim (cases_Bool (test n)) [
    | inl passes ↦ inl (n, omega arith, passes)
    | inr fails ↦ inr (λ k within. elim (cases_eq k n) [
      | inl same ↦ rw same fails
      | inr other ↦ none k (omega arith)
    ])
  ]
]
