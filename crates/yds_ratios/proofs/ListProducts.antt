-- The product of a function's numbers over a list, which is a common multiple of them.
use Rattle.yds_model.proofs.Common.{◌≡◌, ℕ, ◌*◌, ◌≤◌, ◌∣◌, List, [], ◌∷◌, subst, arith, mul-pos, dvd-mul_right, All, All-nil, All-cons, All-tail, All-weaker}
use Rattle.std.proofs.Math.Nat.{dvd-mul_right_of_dvd}

-- the product of f over the elements
abbrev pub product_of : {X : Type 0} → (X → ℕ) → List X → ℕ
product_of f [] = 1
product_of f (x ∷ xs) = f x * product_of f xs

-- of numbers of at least 1 it is at least 1
pub product_some : {X : Type 0} (f : X → ℕ) (xs : List X) → All (λ x. 1 ≤ f x) xs → 1 ≤ product_of f xs
product_some f [] some = omega arith
product_some f (x ∷ xs) some = mul-pos (some 0 x (omega arith)) (product_some f xs (All-tail (λ y. 1 ≤ f y) x xs some))

-- each number divides it, and each multiple of it
pub product_divided : {X : Type 0} (f : X → ℕ) (xs : List X) (more : ℕ) → All (λ x. f x ∣ product_of f xs * more) xs
product_divided f [] more = All-nil (λ x. f x ∣ 1 * more)
product_divided f (x ∷ xs) more =
    All-cons (λ y. f y ∣ f x * product_of f xs * more) x xs
    (dvd-mul_right_of_dvd _ (dvd-mul_right (f x) (product_of f xs)) more)
    (let here : product_of f xs * (f x * more) ≡ f x * product_of f xs * more = omega arith in
    All-weaker (λ y. f y ∣ product_of f xs * (f x * more)) (λ y. f y ∣ f x * product_of f xs * more)
    (λ y divides. subst (λ (n : ℕ). f y ∣ n) here divides) xs (product_divided f xs (f x * more)))
