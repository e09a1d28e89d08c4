-- Sums over a list: of sums, of multiples, of what a function makes, of terms that are compared one by one, and of those of one number.
use Rattle.std.proofs.Common.{◌≡◌, ℕ, ◌+◌, ◌*◌, ◌≤◌, ◌==◌, List, [], ◌∷◌, map, refl, arith}
use Rattle.std.specs.Prelude.{if◌then◌else◌}
use Rattle.std.specs.List.{All, sum_by}
use Rattle.std.proofs.lemmas.List.Sums.{sum_by-cons}
use Rattle.std.proofs.lemmas.List.Elements.{All-tail}
use Rattle.std.proofs.Math.Nat.{mul-add}
use Rattle.std.proofs.lemmas.Bool.Decides.{nat_tests}

-- a sum of sums is the sum of the two
pub sum_by-add : {X : Type 0} (f g : X → ℕ) (xs : List X) → sum_by (λ x. f x + g x) xs ≡ sum_by f xs + sum_by g xs
sum_by-add f g [] = refl
sum_by-add f g (x ∷ xs) = simp sum_by-cons (omega (arith, sum_by-add f g xs))

-- a sum of multiples is the multiple of the sum
pub sum_by-mul : {X : Type 0} (k : ℕ) (f : X → ℕ) (xs : List X) → sum_by (λ x. k * f x) xs ≡ k * sum_by f xs
sum_by-mul k f [] = omega arith
sum_by-mul k f (x ∷ xs) = simp sum_by-cons (omega (arith, sum_by-mul k f xs, mul-add k (f x) (sum_by f xs)))

-- a sum over what a function makes
pub sum_by-map : {X Y : Type 0} (g : X → Y) (f : Y → ℕ) (xs : List X) → sum_by f (map g xs) ≡ sum_by (λ x. f (g x)) xs
sum_by-map g f [] = refl
sum_by-map g f (x ∷ xs) = omega (arith, sum_by-cons f (g x) (map g xs), sum_by-cons (λ y. f (g y)) x xs, sum_by-map g f xs)

-- a sum of terms that are equal, each to its own
pub sum_by_same : {X : Type 0} (f g : X → ℕ) (xs : List X) → All (λ x. f x ≡ g x) xs → sum_by f xs ≡ sum_by g xs
sum_by_same f g [] h = refl
sum_by_same f g (x ∷ xs) h =
    simp sum_by-cons (omega (arith, h 0 x (omega arith), sum_by_same f g xs (All-tail (λ y. f y ≡ g y) x xs h)))

-- a sum of terms that are at most others, each at most its own
pub sum_by_at_most : {X : Type 0} (f g : X → ℕ) (xs : List X) → All (λ x. f x ≤ g x) xs → sum_by f xs ≤ sum_by g xs
sum_by_at_most f g [] h = omega arith
sum_by_at_most f g (x ∷ xs) h =
    simp sum_by-cons (omega (arith, h 0 x (omega arith), sum_by_at_most f g xs (All-tail (λ y. f y ≤ g y) x xs h)))

-- a sum of zeros
pub sum_by_zero : {X : Type 0} (f : X → ℕ) (xs : List X) → All (λ x. f x ≡ 0) xs → sum_by f xs ≡ 0
sum_by_zero f [] h = refl
sum_by_zero f (x ∷ xs) h =
    simp sum_by-cons (omega (arith, h 0 x (omega arith), sum_by_zero f xs (All-tail (λ y. f y ≡ 0) x xs h)))

-- the part of a sum over one number's own elements: an element of this number counts
pub part_own : (number other part : ℕ) → number ≡ other → (if number == other then part else 0) ≡ part
part_own number other part same = grind (arith, nat_tests)

-- and one of another number doesn't
pub part_other : (number other part : ℕ) → (number ≡ other → ⊥) → (if number == other then part else 0) ≡ 0
part_other number other part apart = grind (arith, nat_tests)
