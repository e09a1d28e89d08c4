-- Sums over lists that are merged, over the numbers below n, and a sum that is split by a key.
use Rattle.yds_model.proofs.Common.{◌≡◌, ℕ, zero, suc, ◌+◌, ◌<◌, ◌≤◌, ◌==◌, List, [], ◌∷◌, ◌++◌, ◌∙◌, length, get_or, take, sym, refl, ap, arith, inl, inr, Bool, true, false, add-one, cond, nat_lt, All, sum_by, filter, flat_map, range_with_len, cases_eq, cases_lt, ne_eqb, eq-eqb, lt-ltb, le-ltb, sum_by-cons, sum_by-append, sum_by_push, sum_by_more, sum_by-le-sum_by, map-id, take_all, get_or-range_with_len, length-range_with_len, map-range_with_len_more, sum_by-add, sum_by_same, sum_by_zero, sum_by-filter}

pub sum_by-flat_map : {X Y : Type 0} (g : X → List Y) (f : Y → ℕ) (xs : List X) → sum_by f (flat_map g xs) ≡ sum_by (λ x. sum_by f (g x)) xs
sum_by-flat_map g f [] = refl
sum_by-flat_map g f (x ∷ xs) = omega (arith, sum_by-append f (g x) (flat_map g xs), sum_by-cons (λ y. sum_by f (g y)) x xs, sum_by-flat_map g f xs)

-- the order of two sums doesn't matter
pub sums_swap : {X Y : Type 0} (f : X → Y → ℕ) (xs : List X) (ys : List Y) → sum_by (λ x. sum_by (f x) ys) xs ≡ sum_by (λ y. sum_by (λ x. f x y) xs) ys
sums_swap f [] ys = sym (sum_by_zero (λ y. 0) ys (λ k d within. refl))
sums_swap f (x ∷ xs) ys =
    sum_by-cons (λ one. sum_by (f one) ys) x xs ∙ ap (λ n. sum_by (f x) ys + n) (sums_swap f xs ys) ∙ sym (sum_by-add (f x) (λ y. sum_by (λ one. f one y) xs) ys)
    ∙ sum_by_same (λ y. f x y + sum_by (λ one. f one y) xs) (λ y. sum_by (λ one. f one y) (x ∷ xs)) ys
    (λ k d within. sym (sum_by-cons (λ one. f one (get_or ys k d)) x xs))

-- facts about each number of a range
pub All-range : (P : ℕ → Type 0) (a n : ℕ) → ((i : ℕ) → i < n → P (a + i)) → All P (range_with_len a n)
All-range P a n each k d within = grind (arith, get_or-range_with_len, length-range_with_len)

pub in_range : (n k d : ℕ) → k < length (range_with_len 0 n) → (k < n) × (get_or (range_with_len 0 n) k d ≡ k)
in_range n k d within = grind (arith, get_or-range_with_len, length-range_with_len)

pub not_here : (key k v : ℕ) → (key ≡ k → ⊥) → cond (key == k) v 0 ≡ 0
not_here key k v other = ap (λ b. cond b v 0) (ne_eqb key k other)

pub is_here : (key k v : ℕ) → key ≡ k → cond (key == k) v 0 ≡ v
is_here key k v same = ap (λ b. cond b v 0) (eq-eqb key k same)

-- of a range's terms only that of the key counts
outside_range : (a n key v : ℕ) → (a + n ≤ key) → sum_by (λ k. cond (key == k) v 0) (range_with_len a n) ≡ 0
outside_range a n key v out =
    sum_by_zero (λ k. cond (key == k) v 0) (range_with_len a n) (All-range (λ k. cond (key == k) v 0 ≡ 0) a n (λ i below. not_here key (a + i) v (λ same. omega arith)))

before_range : (a n key v : ℕ) → key < a → sum_by (λ k. cond (key == k) v 0) (range_with_len a n) ≡ 0
before_range a n key v out =
    sum_by_zero (λ k. cond (key == k) v 0) (range_with_len a n) (All-range (λ k. cond (key == k) v 0 ≡ 0) a n (λ i below. not_here key (a + i) v (λ same. omega arith)))

pub inside_range : (a n key v : ℕ) → a ≤ key → key < a + n → sum_by (λ k. cond (key == k) v 0) (range_with_len a n) ≡ v
inside_range a zero key v from below = absurd (omega arith)
inside_range a (suc n) key v from below = elim (cases_eq key a) [
  | inl same ↦ omega (arith, sum_by-cons (λ k. cond (key == k) v 0) a (range_with_len (a + 1) n), is_here key a v same, before_range (a + 1) n key v (omega arith))
  | inr other ↦
      let later : a < key = grind arith in
      omega (arith, sum_by-cons (λ k. cond (key == k) v 0) a (range_with_len (a + 1) n), not_here key a v other, inside_range (a + 1) n key v (omega arith) (omega arith))
]

pub one_of_range : (n key v : ℕ) → sum_by (λ k. cond (key == k) v 0) (range_with_len 0 n) ≡ cond (nat_lt key n) v 0
one_of_range n key v = elim (cases_lt key n) [
  | inl below ↦ inside_range 0 n key v (omega arith) (omega arith) ∙ sym (ap (λ b. cond b v 0) (lt-ltb key n below))
  | inr out ↦ outside_range 0 n key v (omega arith) ∙ sym (ap (λ b. cond b v 0) (le-ltb key n out))
]

-- the sums over the elements of each key, together
pub split_sum : {X : Type 0} (key : X → ℕ) (f : X → ℕ) (n : ℕ) (xs : List X) → sum_by (λ k. sum_by f (filter (λ x. key x == k) xs)) (range_with_len 0 n)
    ≡ sum_by (λ x. cond (nat_lt (key x) n) (f x) 0) xs
split_sum key f n xs =
    sum_by_same (λ k. sum_by f (filter (λ x. key x == k) xs)) (λ k. sum_by (λ x. cond (key x == k) (f x) 0) xs) (range_with_len 0 n)
    (λ i d within. sum_by-filter (λ x. key x == get_or (range_with_len 0 n) i d) f xs) ∙ sums_swap (λ k x. cond (key x == k) (f x) 0) (range_with_len 0 n) xs
    ∙ sum_by_same (λ x. sum_by (λ k. cond (key x == k) (f x) 0) (range_with_len 0 n)) (λ x. cond (nat_lt (key x) n) (f x) 0) xs
    (λ i d within. one_of_range n (key (get_or xs i d)) (f (get_or xs i d)))

-- where each key is below n, they are the whole sum
pub split_all : {X : Type 0} (key : X → ℕ) (f : X → ℕ) (n : ℕ) (xs : List X) → All (λ x. key x < n) xs →
    sum_by (λ k. sum_by f (filter (λ x. key x == k) xs)) (range_with_len 0 n) ≡ sum_by f xs
split_all key f n xs below = grind (arith, lt-ltb, split_sum, sum_by_same)

pub cond_at_most : (b : Bool) (v : ℕ) → cond b v 0 ≤ v
cond_at_most true v = omega arith
cond_at_most false v = omega arith

-- they are never more
pub split_at_most : {X : Type 0} (key : X → ℕ) (f : X → ℕ) (n : ℕ) (xs : List X) → sum_by (λ k. sum_by f (filter (λ x. key x == k) xs)) (range_with_len 0 n) ≤ sum_by f xs
split_at_most key f n xs = omega (arith, split_sum key f n xs, sum_by-le-sum_by (λ x. cond (nat_lt (key x) n) (f x) 0) f xs (λ x. cond_at_most (nat_lt (key x) n) (f x)))

-- a length is a sum of ones
pub count_all : {X : Type 0} (xs : List X) → sum_by (λ x. 1) xs ≡ length xs
count_all [] = refl
count_all (x ∷ xs) = omega (arith, sum_by-cons (λ one. 1) x xs, count_all xs)

-- a range, one longer
pub range_more : (n : ℕ) → range_with_len 0 (n + 1) ≡ range_with_len 0 n ++ n ∷ []
range_more n = sym (map-id (range_with_len 0 (n + 1))) ∙ map-range_with_len_more (λ k. k) 0 n n (omega arith) ∙ ap (λ ks. ks ++ n ∷ []) (map-id (range_with_len 0 n))

-- a sum over the first elements, by their places
pub sum_of_first : {X : Type 0} (f : X → ℕ) (xs : List X) (d : X) (i : ℕ) → i ≤ length xs → sum_by (λ k. f (get_or xs k d)) (range_with_len 0 i) ≡ sum_by f (take i xs)
sum_of_first f xs d zero within = refl
sum_of_first f xs d (suc i) within =
    ap (sum_by (λ k. f (get_or xs k d))) (ap (range_with_len 0) (sym (add-one i)) ∙ range_more i) ∙ sum_by_push (λ k. f (get_or xs k d)) (range_with_len 0 i) i
    ∙ ap (λ n. n + f (get_or xs i d)) (sum_of_first f xs d i (omega arith)) ∙ sym (ap (λ n. sum_by f (take n xs)) (sym (add-one i)) ∙ sum_by_more f xs i d (omega arith))

pub sum_of_all : {X : Type 0} (f : X → ℕ) (xs : List X) (d : X) → sum_by (λ k. f (get_or xs k d)) (range_with_len 0 (length xs)) ≡ sum_by f xs
sum_of_all f xs d = sum_of_first f xs d (length xs) (omega arith) ∙ ap (sum_by f) (take_all (length xs) xs (omega arith))

-- the sum of f over the numbers below n
abbrev pub over : ℕ → (ℕ → ℕ) → ℕ
over n f = sum_by f (range_with_len 0 n)

-- one number more
pub over_more : (f : ℕ → ℕ) (n : ℕ) → over (suc n) f ≡ over n f + f n
over_more f n = ap (sum_by f) (ap (range_with_len 0) (sym (add-one n)) ∙ range_more n) ∙ sum_by_push f (range_with_len 0 n) n

pub over_same : (f g : ℕ → ℕ) (n : ℕ) → ((k : ℕ) → k < n → f k ≡ g k) → over n f ≡ over n g
over_same f g zero same = refl
over_same f g (suc n) same = omega (arith, over_more f n, over_more g n, same n (omega arith), over_same f g n (λ k below. same k (omega arith)))

pub over_zero : (f : ℕ → ℕ) (n : ℕ) → ((k : ℕ) → k < n → f k ≡ 0) → over n f ≡ 0
over_zero f zero none = refl
over_zero f (suc n) none = omega (arith, over_more f n, none n (omega arith), over_zero f n (λ k below. none k (omega arith)))

-- a number's own term is within the sum
pub over_one : (f : ℕ → ℕ) (n k : ℕ) → k < n → f k ≤ over n f
over_one f zero k below = absurd (omega arith)
over_one f (suc n) k below = elim (cases_lt k n) [
  | inl before ↦ omega (arith, over_more f n, over_one f n k before)
  | inr after ↦ let same : k ≡ n = omega arith in omega (arith, over_more f n, ap f same)
]

-- a sum that isn't 0 has a term that isn't
pub over_some : (f : ℕ → ℕ) (n : ℕ) → 1 ≤ over n f → (k : ℕ) × (k < n) × (1 ≤ f k)
over_some f zero some = absurd (omega arith)
over_some f (suc n) some = elim (cases_lt 0 (f n)) [
  | inl here ↦ (n, omega arith, here)
  | inr none ↦
      let found = over_some f n (omega (arith, over_more f n)) in
      (found.0, omega (arith, found.1), found.2)
]

pub over_add : (f g : ℕ → ℕ) (n : ℕ) → over n (λ k. f k + g k) ≡ over n f + over n g
over_add f g n = sum_by-add f g (range_with_len 0 n)
