-- Numbers among others, and the first stage that has one.
use Rattle.yds_model.proofs.Common.{◌≡◌, ℕ, zero, suc, ◌+◌, ◌<◌, ◌≤◌, ◌==◌, List, [], ◌∷◌, length, get_or, ◌∙◌, sym, ap, arith, cond, refl, true, false, Bool, ◌||◌, filter, All, AllPairs, Contains, sum_by, position_or_len, cases_eq, eq-eqb, ne_eqb, eqb-true, false_from_ne_true, get_or_read, sum_by-cons, get_or-le-sum_by, position_or_len_is, place_cases, Any-from_list_any, list_any_at, All-contains, All-filter, All-tail, All-head, All-contains_itself, filter_passes}
use Rattle.yds_search.proofs.KeySums.{over, over_same, over_add, over_zero, over_more, inside_range}
use Rattle.base.specs.Numbers.{sum_below}
use Rattle.yds_textbook.specs.Together.{stands_among}

-- the test finds just the numbers that stand there
pub stands_there : (numbers : List ℕ) (n : ℕ) → stands_among numbers n ≡ true → Contains numbers n
stands_there numbers n stands = grind (arith, Any-from_list_any, eqb-true)

pub stands_if : (numbers : List ℕ) (n : ℕ) → Contains numbers n → stands_among numbers n ≡ true
stands_if numbers n here = list_any_at (λ (other : ℕ). other == n) numbers here.0 n here.1 (eq-eqb (get_or numbers here.0 n) n here.2)

pub stands_not : (numbers : List ℕ) (n : ℕ) → (Contains numbers n → ⊥) → stands_among numbers n ≡ false
stands_not numbers n none = false_from_ne_true (stands_among numbers n) (λ stands. none (stands_there numbers n stands))

-- what a filter keeps
pub kept_from : (p : ℕ → Bool) (numbers : List ℕ) (n : ℕ) → Contains (filter p numbers) n → Contains numbers n × (p n ≡ true)
kept_from p numbers n here = (
  All-contains (Contains numbers) (filter p numbers) n (All-filter p (Contains numbers) numbers (All-contains_itself numbers)) here,
  All-contains (λ x. p x ≡ true) (filter p numbers) n (filter_passes p numbers) here,
)

-- the first element that passes: the first of all, or one of the rest
pub first_passes : {X : Type 0} (p : X → Bool) (x : X) (xs : List X) → p x ≡ true → position_or_len p (x ∷ xs) ≡ 0
first_passes p x xs passes = rw passes refl

pub first_fails : {X : Type 0} (p : X → Bool) (x : X) (xs : List X) → p x ≡ false → position_or_len p (x ∷ xs) ≡ suc (position_or_len p xs)
first_fails p x xs fails = rw fails (omega arith)

-- a sum over numbers below n, as a sum up to each of them
pub over_is_below : (n : ℕ) (f : ℕ → ℕ) → over n f ≡ sum_below n f
over_is_below zero f = refl
over_is_below (suc n) f = omega (arith, over_more f n, over_is_below n f)

-- two elements of a list have no more together than all have
pub two_places : (f : ℕ → ℕ) (xs : List ℕ) (i j d : ℕ) → i < j → j < length xs → f (get_or xs i d) + f (get_or xs j d) ≤ sum_by f xs
two_places f [] i j d order within = absurd (omega arith)
two_places f (x ∷ xs) i zero d order within = absurd (omega arith)
two_places f (x ∷ xs) zero (suc j) d order within = omega (arith, sum_by-cons f x xs, get_or-le-sum_by f xs j d (omega arith))
two_places f (x ∷ xs) (suc i) (suc j) d order within = omega (arith, sum_by-cons f x xs, two_places f xs i j d (omega arith) (omega arith))

-- the number at the head, or one of the rest
head_or_rest : (f : ℕ → ℕ) (x j : ℕ) (rest : Bool) → (x ≡ j → rest ≡ true → ⊥) → cond ((x == j) || rest) (f j) 0 ≡ cond (x == j) (f x) 0 + cond rest (f j) 0
head_or_rest f x j rest once = grind (arith, cases_eq, eq-eqb, false_from_ne_true, ne_eqb)

-- a sum over all numbers of what some of them have is their sum, where none stands twice
pub sum_of_some : (R : ℕ → ℕ → Type 0) → ((x y : ℕ) → R x y → x ≡ y → ⊥) → (f : ℕ → ℕ) (n : ℕ) (numbers : List ℕ) → AllPairs R numbers → All (λ x. x < n) numbers →
    over n (λ j. cond (stands_among numbers j) (f j) 0) ≡ sum_by f numbers
sum_of_some R differ f n [] pairs below = over_zero (λ j. 0) n (λ k within. refl)
sum_of_some R differ f n (x ∷ xs) pairs below =
    let rest : AllPairs R xs = λ i j d order within. pairs (suc i) (suc j) d (omega arith) (omega arith) in
    let once : (j : ℕ) → x ≡ j → stands_among xs j ≡ true → ⊥ = λ j same stands.
    let there = stands_there xs j stands in
    differ x (get_or xs there.0 j) (pairs 0 (suc there.0) j (omega arith) (omega (arith, there.1))) (same ∙ sym there.2) in
    over_same (λ j. cond (stands_among (x ∷ xs) j) (f j) 0) (λ j. cond (x == j) (f x) 0 + cond (stands_among xs j) (f j) 0) n
    (λ j within. head_or_rest f x j (stands_among xs j) (once j))
    ∙ over_add (λ j. cond (x == j) (f x) 0) (λ j. cond (stands_among xs j) (f j) 0) n
    ∙ (omega (
      arith,
      inside_range 0 n x (f x) (omega arith) (omega (arith, All-head (λ y. y < n) x xs below)),
      sum_of_some R differ f n xs rest (All-tail (λ y. y < n) x xs below),
      sum_by-cons f x xs,
    ))

-- a search goes on where an element fails the test, and ends at the first that passes, or after all
pub fails_more : {X : Type 0} (p : X → Bool) (xs : List X) (i : ℕ) (x : X) → i < length xs → x ≡ get_or xs i x → p x ≡ false →
    ((k : ℕ) (d : X) → k < i → p (get_or xs k d) ≡ false) → (k : ℕ) (d : X) → k < i + 1 → p (get_or xs k d) ≡ false
fails_more p xs i x within is fails before k d below = grind (arith, get_or_read, place_cases)

pub passes_here : {X : Type 0} (p : X → Bool) (xs : List X) (i : ℕ) (x : X) → i < length xs → x ≡ get_or xs i x → p x ≡ true →
    ((k : ℕ) (d : X) → k < i → p (get_or xs k d) ≡ false) → i ≡ position_or_len p xs
passes_here p xs i x within is passes before =
    sym (position_or_len_is p xs i x (omega (arith, within)) (λ k below. before k x below) (λ below. ap p (sym is) ∙ passes))

pub none_passes : {X : Type 0} (p : X → Bool) (xs : List X) (i : ℕ) → i ≡ length xs → ((k : ℕ) (d : X) → k < i → p (get_or xs k d) ≡ false) → i ≡ position_or_len p xs
none_passes p [] i all before = omega (arith, all)
none_passes p (x ∷ xs) i all before =
    sym (position_or_len_is p (x ∷ xs) i x (omega (arith, all)) (λ k below. before k x below) (λ below. absurd (omega (arith, below, all))))
