-- Signed numbers as differences of two naturals, and the greatest and the sum of a list of them.
use Rattle.yds_model.proofs.Common.{◌≡◌, ℕ, ◌+◌, ◌*◌, ◌≤◌, List, [], ◌∷◌, refl, ap, ◌∙◌, arith, ℤ, pos, ◌+ℤ◌, ◌-ℤ◌, ◌*ℤ◌, ◌≤ℤ◌, map, fold, sum_by, int_max, ints, clamps, sum_by-cons, greatest, total}
use borrow.Author.Differences.{up, down}

-- the signed number is a - b
abbrev pub IsDifference : ℕ → ℕ → ℤ → Type 0
IsDifference a b z = up z + b ≡ a + down z

-- a - b is one
pub difference_of : (a b : ℕ) → IsDifference a b (pos a -ℤ pos b)
difference_of a b = omega (arith, ints)

-- k times a difference is one of k times its two numbers
pub difference_times : (k a b : ℕ) (z : ℤ) → IsDifference a b z → IsDifference (k * a) (k * b) (pos k *ℤ z)
difference_times k a b z is = omega (arith, ints, ap (λ n. k * n) is)

-- the sum of two differences is one of the sums
pub difference_plus : (a b c d : ℕ) (x y : ℤ) → IsDifference a b x → IsDifference c d y → IsDifference (a + c) (b + d) (x +ℤ y)
difference_plus a b c d x y first second = omega (arith, ints, first, second)

-- differences are ordered as their numbers are, each with the other's second
pub difference_at_most : (a b c d : ℕ) (x y : ℤ) → IsDifference a b x → IsDifference c d y → a + d ≤ c + b → x ≤ℤ y
difference_at_most a b c d x y first second order = omega (arith, ints, first, second, order)

-- the order of signed numbers goes on from one to the next
pub at_most_in_turn : (x y z : ℤ) → x ≤ℤ y → y ≤ℤ z → x ≤ℤ z
at_most_in_turn x y z first second = omega (arith, ints, first, second)

-- the first is the greater of two numbers
pub difference_first : (a b c d : ℕ) (x y : ℤ) → IsDifference a b x → IsDifference c d y → c + b ≤ a + d → IsDifference a b (int_max x y)
difference_first a b c d x y first second order = omega (arith, ints, clamps, first, second, order)

-- the second is
pub difference_second : (a b c d : ℕ) (x y : ℤ) → IsDifference a b x → IsDifference c d y → a + d ≤ c + b → IsDifference c d (int_max x y)
difference_second a b c d x y first second order = omega (arith, ints, clamps, first, second, order)

-- what is put together from a first element is put together from the others and then with it, where brackets don't matter
pub fold_from : {X : Type 0} (both : X → X → X) → ((x y z : X) → both (both x y) z ≡ both x (both y z)) → (x y : X) (zs : List X) →
    fold both (both x y) zs ≡ both x (fold both y zs)
fold_from both same x y [] = refl
fold_from both same x y (z ∷ zs) = ap (λ first. fold both first zs) (same x y z) ∙ fold_from both same x (both y z) zs

-- the greatest of a number and a list is the greater of the number and the list's greatest
pub greatest-cons : (x y : ℤ) (zs : List ℤ) → greatest x (y ∷ zs) ≡ int_max x (greatest y zs)
greatest-cons x y zs = fold_from int_max (λ x y z. omega (arith, ints, clamps)) x y zs

-- the sum of a list with one number more is more by it
pub total-cons : (z : ℤ) (zs : List ℤ) → total (z ∷ zs) ≡ z +ℤ total zs
total-cons z zs =
    let same : pos 0 +ℤ z ≡ z +ℤ pos 0 = omega (arith, ints) in
    ap (λ x. fold (λ a n. a +ℤ n) x zs) same ∙ fold_from (λ a n. a +ℤ n) (λ x y z. omega (arith, ints)) z (pos 0) zs

-- a total of differences is the difference of the sums
pub total_is : {X : Type 0} (a b : X → ℕ) (f : X → ℤ) (xs : List X) → ((x : X) → IsDifference (a x) (b x) (f x)) →
    IsDifference (sum_by a xs) (sum_by b xs) (total (map f xs))
total_is a b f [] each = refl
total_is a b f (x ∷ xs) each =
    rw (sum_by-cons a x xs) (rw (sum_by-cons b x xs) (rw (total-cons (f x) (map f xs))
    (difference_plus (a x) (b x) (sum_by a xs) (sum_by b xs) (f x) (total (map f xs)) (each x) (total_is a b f xs each))))
