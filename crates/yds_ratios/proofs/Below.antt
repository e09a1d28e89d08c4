-- More sums over the numbers below n: of lists' sums, of units that lie in an interval, and of what changes from one number to the next.
use Rattle.yds_model.proofs.Common.{◌≡◌, ℕ, zero, suc, ◌+◌, ◌-◌, ◌*◌, ◌<◌, ◌≤◌, min, List, refl, sym, arith, cond, nat_le, nat_lt, sum_by, nat_tests, add-mul, sum_by-add, sum_by_same, sum_by_zero}
use Rattle.base.specs.Numbers.{sum_below}
use Rattle.model_lemmas.proofs.SumsBelow.{sum_below_at_most, sum_below-add}
use Rattle.model_lemmas.proofs.Time.{before, here}

-- a sum of multiples, with the factor behind
pub sum_below_times : (factor : ℕ) (f : ℕ → ℕ) (n : ℕ) → sum_below n (λ k. f k * factor) ≡ sum_below n f * factor
sum_below_times factor f zero = omega arith
sum_below_times factor f (suc n) = omega (arith, sum_below_times factor f n)

-- a sum that begins with the next number's term has one term more at the end and one less at the start
pub sum_below_next : (f : ℕ → ℕ) (n : ℕ) → sum_below n (λ k. f (suc k)) + f 0 ≡ sum_below n f + f n
sum_below_next f zero = refl
sum_below_next f (suc n) = omega (arith, sum_below_next f n)

-- sums of lists' sums, each element's terms by themselves
pub sum_below_list : {X : Type 0} (f : ℕ → X → ℕ) (g : X → ℕ) (xs : List X) (n : ℕ) →
    sum_below n (λ k. sum_by (λ x. f k x * g x) xs) ≡ sum_by (λ x. sum_below n (λ k. f k x) * g x) xs
sum_below_list f g xs zero = sym (sum_by_zero (λ x. 0 * g x) xs (λ k d within. omega arith))
sum_below_list f g xs (suc n) =
    omega (
      arith,
      sum_below_list f g xs n,
      sum_by-add (λ x. sum_below n (λ k. f k x) * g x) (λ x. f n x * g x) xs,
      sum_by_same (λ x. (sum_below n (λ k. f k x) + f n x) * g x) (λ x. sum_below n (λ k. f k x) * g x + f n x * g x) xs
          (λ k d within. add-mul _ _ _),
    )

-- the numbers from one on and below another, counted
abbrev pub is_between : ℕ → ℕ → ℕ → ℕ
is_between from to k = cond (nat_le from k) (cond (nat_lt k to) 1 0) 0

-- and the next of them
between_step : (from to n : ℕ) → (min n to - from) + is_between from to n ≡ min (suc n) to - from
between_step from to n = grind (arith, nat_tests)

-- there are as many of them as it is from the one to the other
pub count_between : (from to n : ℕ) → sum_below n (is_between from to) ≡ min n to - from
count_between from to zero = omega arith
count_between from to (suc n) = omega (arith, count_between from to n, between_step from to n)

-- the units that lie in an interval are counted once
pub count_here : (from to n : ℕ) → sum_below n (here from to) ≡ before from to n
count_here from to zero = omega arith
count_here from to (suc n) = omega (arith, count_here from to n)

-- what falls by at most a term with each number falls by at most all terms together
pub all_steps : (f : ℕ → ℕ → ℕ) (term : ℕ → ℕ → ℕ) (n last : ℕ) → ((k now : ℕ) → k < n → f k now ≤ f k (suc now) + term k now) →
    sum_below n (λ k. f k 0) ≤ sum_below n (λ k. f k last) + sum_below last (λ now. sum_below n (λ k. term k now))
all_steps f term n zero each = omega arith
all_steps f term n (suc last) each =
    omega (
      arith,
      all_steps f term n last each,
      sum_below_at_most n (λ k. f k last) (λ k. f k (suc last) + term k last) (λ k within. each k last within),
      sum_below-add n (λ k. f k (suc last)) (λ k. term k last),
    )

-- and what rises so rises by at most all of them
pub all_rises : (f : ℕ → ℕ → ℕ) (term : ℕ → ℕ → ℕ) (n last : ℕ) → ((k now : ℕ) → k < n → f k (suc now) ≤ f k now + term k now) →
    sum_below n (λ k. f k last) ≤ sum_below n (λ k. f k 0) + sum_below last (λ now. sum_below n (λ k. term k now))
all_rises f term n zero each = omega arith
all_rises f term n (suc last) each =
    omega (
      arith,
      all_rises f term n last each,
      sum_below_at_most n (λ k. f k (suc last)) (λ k. f k last + term k last) (λ k within. each k last within),
      sum_below-add n (λ k. f k last) (λ k. term k last),
    )
