-- Sums over the numbers below n: what they are made of, how two of them compare, and sums over a list as such sums.
use Rattle.yds_model.proofs.Common.{◌≡◌, ◌≢◌, ℕ, zero, suc, ◌+◌, ◌*◌, ◌<◌, ◌≤◌, List, [], ◌∷◌, refl, arith, inl, inr, ap, cond, ◌==◌, sum_by, All, sum_by-cons, All-head, All-tail, cases_eq, eq-eqb, ne_eqb, length, get_or, ◌∙◌, sym, Bool, filter, range_with_len, filter_step}
use Rattle.base.specs.Numbers.{sum_below}

-- equal terms, equal sums
pub sum_below_same : (n : ℕ) (f g : ℕ → ℕ) → ((k : ℕ) → k < n → f k ≡ g k) → sum_below n f ≡ sum_below n g
sum_below_same zero f g h = refl
sum_below_same (suc n) f g h = omega (arith, sum_below_same n f g (λ k within. h k (omega arith)), h n (omega arith))

-- terms that are at most others
pub sum_below_at_most : (n : ℕ) (f g : ℕ → ℕ) → ((k : ℕ) → k < n → f k ≤ g k) → sum_below n f ≤ sum_below n g
sum_below_at_most zero f g h = omega arith
sum_below_at_most (suc n) f g h =
    omega (arith, sum_below_at_most n f g (λ k within. h k (omega arith)), h n (omega arith))

-- terms of nothing
pub sum_below_zero : (n : ℕ) (f : ℕ → ℕ) → ((k : ℕ) → k < n → f k ≡ 0) → sum_below n f ≡ 0
sum_below_zero zero f h = refl
sum_below_zero (suc n) f h = omega (arith, sum_below_zero n f (λ k within. h k (omega arith)), h n (omega arith))

-- a sum of sums
pub sum_below-add : (n : ℕ) (f g : ℕ → ℕ) → sum_below n (λ k. f k + g k) ≡ sum_below n f + sum_below n g
sum_below-add zero f g = refl
sum_below-add (suc n) f g = omega (arith, sum_below-add n f g)

-- a term is at most the sum
pub sum_below_term : (n k : ℕ) (f : ℕ → ℕ) → k < n → f k ≤ sum_below n f
sum_below_term zero k f within = absurd (omega arith)
sum_below_term (suc n) k f within = elim (cases_eq k n) [
  | inl same ↦ omega (arith, ap f same)
  | inr other ↦ omega (arith, sum_below_term n k f (omega arith))
]

-- a sum of so many terms that are at most m
pub sum_below_bound : (n m : ℕ) (f : ℕ → ℕ) → ((k : ℕ) → k < n → f k ≤ m) → sum_below n f ≤ n * m
sum_below_bound zero m f h = omega arith
sum_below_bound (suc n) m f h =
    omega (arith, sum_below_bound n m f (λ k within. h k (omega arith)), h n (omega arith))

-- two sums that differ in one term
pub sum_below_change : (n k : ℕ) (f g : ℕ → ℕ) → k < n → ((j : ℕ) → j < n → j ≢ k → f j ≡ g j) →
    sum_below n f + g k ≡ sum_below n g + f k
sum_below_change zero k f g within h = absurd (omega arith)
sum_below_change (suc n) k f g within h = elim (cases_eq k n) [
  | inl same ↦ omega (
    arith,
    ap f same,
    ap g same,
    sum_below_same n f g (λ j below. h j (omega arith) (λ is. omega (arith, is, same))),
  )
  | inr other ↦ omega (
    arith,
    sum_below_change n k f g (omega arith) (λ j below. h j (omega arith)),
    h n (omega arith) (λ is. other (omega (arith, is))),
  )
]

-- one term alone
pub sum_below_one : (n k m : ℕ) → k < n → sum_below n (λ j. cond (j == k) m 0) ≡ m
sum_below_one n k m within =
    omega (
      arith,
      sum_below_change n k (λ j. cond (j == k) m 0) (λ j. 0) within
          (λ j below other. ap {B = ℕ} (λ b. cond b m 0) (ne_eqb j k other)),
      sum_below_zero n (λ j. 0) (λ j below. refl),
      ap {B = ℕ} (λ b. cond b m 0) (eq-eqb k k refl),
    )

-- a sum over a list, grouped by a number of each element
pub sum_by_grouped : {X : Type 0} (n : ℕ) (key f : X → ℕ) (xs : List X) → All (λ x. key x < n) xs →
    sum_by f xs ≡ sum_below n (λ j. sum_by (λ x. cond (j == key x) (f x) 0) xs)
sum_by_grouped n key f [] h = omega (arith, sum_below_zero n (λ j. 0) (λ j below. refl))
sum_by_grouped n key f (x ∷ xs) h =
    omega (
      arith,
      sum_by-cons f x xs,
      sum_by_grouped n key f xs (All-tail (λ y. key y < n) x xs h),
      sum_below_one n (key x) (f x) (All-head (λ y. key y < n) x xs h),
      sum_below-add n (λ j. cond (j == key x) (f x) 0) (λ j. sum_by (λ y. cond (j == key y) (f y) 0) xs),
      sum_below_same n (λ j. sum_by (λ y. cond (j == key y) (f y) 0) (x ∷ xs))
          (λ j. cond (j == key x) (f x) 0 + sum_by (λ y. cond (j == key y) (f y) 0) xs)
          (λ j below. sum_by-cons (λ y. cond (j == key y) (f y) 0) x xs),
    )

-- a sum of fewer terms is no greater
pub sum_below_front : (i n : ℕ) (f : ℕ → ℕ) → i ≤ n → sum_below i f ≤ sum_below n f
sum_below_front i zero f h = rw (let e : i ≡ 0 = omega arith in e) (omega arith)
sum_below_front i (suc n) f h = elim (cases_eq i (suc n)) [
  | inl same ↦ rw same (omega arith)
  | inr other ↦ omega (arith, sum_below_front i n f (omega arith))
]

-- a sum of terms that are at most others, and one of them less
pub sum_below_less : (n k : ℕ) (f g : ℕ → ℕ) → k < n → ((j : ℕ) → j < n → f j ≤ g j) → f k < g k → sum_below n f < sum_below n g
sum_below_less zero k f g within h less = absurd (omega arith)
sum_below_less (suc n) k f g within h less = elim (cases_eq k n) [
  | inl same ↦ omega (
    arith,
    ap f same,
    ap g same,
    less,
    sum_below_at_most n f g (λ j below. h j (omega arith)),
  )
  | inr other ↦ omega (
    arith,
    h n (omega arith),
    sum_below_less n k f g (omega arith) (λ j below. h j (omega arith)) less,
  )
]

-- the first term apart
sum_below_first : (n : ℕ) (f : ℕ → ℕ) → sum_below (suc n) f ≡ f 0 + sum_below n (λ k. f (suc k))
sum_below_first zero f = omega arith
sum_below_first (suc n) f = omega (arith, sum_below_first n f)

-- the sum over the numbers from a on that pass a test
sum_range : (p : ℕ → Bool) (f : ℕ → ℕ) (a n : ℕ) → sum_by f (filter p (range_with_len a n)) ≡ sum_below n (λ k. cond (p (a + k)) (f (a + k)) 0)
sum_range p f a zero = refl
sum_range p f a (suc n) =
    let first : a + 0 ≡ a = omega arith in
    let same = sum_below_same n (λ k. cond (p (a + suc k)) (f (a + suc k)) 0) (λ k. cond (p (a + 1 + k)) (f (a + 1 + k)) 0)
    (λ k below. let next : a + suc k ≡ a + 1 + k = omega arith in ap {B = ℕ} (λ i. cond (p i) (f i) 0) next) in
    omega (
      arith,
      filter_step (p a) a f (filter p (range_with_len (a + 1) n)),
      sum_range p f (a + 1) n,
      sum_below_first n (λ k. cond (p (a + k)) (f (a + k)) 0),
      ap {B = ℕ} (λ i. cond (p i) (f i) 0) first,
      same,
    )

-- the sum over the numbers below n that pass a test
pub sum_numbers : (p : ℕ → Bool) (f : ℕ → ℕ) (n : ℕ) → sum_by f (filter p (range_with_len 0 n)) ≡ sum_below n (λ k. cond (p k) (f k) 0)
sum_numbers p f n =
    sum_range p f 0 n
    ∙ sum_below_same n (λ k. cond (p (0 + k)) (f (0 + k)) 0) (λ k. cond (p k) (f k) 0)
    (λ k below. let same : 0 + k ≡ k = omega arith in ap {B = ℕ} (λ i. cond (p i) (f i) 0) same)

-- a sum of multiples
pub sum_below-mul : (n k : ℕ) (f : ℕ → ℕ) → sum_below n (λ i. k * f i) ≡ k * sum_below n f
sum_below-mul zero k f = omega arith
sum_below-mul (suc n) k f = omega (arith, sum_below-mul n k f)

-- a sum over a list, by its places
pub sum_places : {X : Type 0} (f : X → ℕ) (xs : List X) (d : X) → sum_by f xs ≡ sum_below (length xs) (λ i. f (get_or xs i d))
sum_places f [] d = refl
sum_places f (x ∷ xs) d = omega (
  arith,
  sum_by-cons f x xs,
  sum_places f xs d,
  sum_below_first (length xs) (λ i. f (get_or (x ∷ xs) i d)),
)

-- two sums, one in the other, in either order
pub sum_below_swap : (m n : ℕ) (f : ℕ → ℕ → ℕ) → sum_below m (λ k. sum_below n (λ j. f k j)) ≡ sum_below n (λ j. sum_below m (λ k. f k j))
sum_below_swap zero n f = sym (sum_below_zero n (λ j. 0) (λ j below. refl))
sum_below_swap (suc m) n f = omega (arith, sum_below_swap m n f, sum_below-add n (λ j. sum_below m (λ k. f k j)) (f m))
