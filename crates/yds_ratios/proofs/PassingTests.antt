-- Numbers that count where tests pass, and lists of what passes a test.
use Rattle.yds_model.proofs.Common.{◌≡◌, ℕ, zero, suc, ◌+◌, ◌*◌, ◌<◌, ◌≤◌, List, [], ◌∷◌, length, map, get_or, cond, Bool, true, false, ◌==◌, ◌&&◌, refl, sym, ap, ◌∙◌, arith, inl, inr, All, Contains, filter, list_all, sum_by, cases_Bool, ne_eqb, true≢false, and_parts, and_from, All-nil, All-cons, All-tail, All-filter, filter_passes, get_or-map, length-map, sum_by-cons, count, Job, numbers_of, contains_filter, sum_by_at_most, sum_by_zero}
use Rattle.model_lemmas.proofs.Counted.{contained_counted}
use Rattle.yds_laws.proofs.Served.{is_number, kept_different}

-- # Numbers

-- a number that counts where a test passes is at most another where it is so then
pub one_at_most : (a : Bool) (n m : ℕ) → (a ≡ true → n ≤ m) → cond a n 0 ≤ m
one_at_most true n m most = most refl
one_at_most false n m most = omega arith

-- so it is with two tests
pub two_at_most : (a b : Bool) (n m : ℕ) → (a ≡ true → b ≡ true → n ≤ m) → cond a (cond b n 0) 0 ≤ m
two_at_most true true n m most = most refl refl
two_at_most true false n m most = omega arith
two_at_most false b n m most = omega arith

-- where both pass it counts
pub both_pass : (a b : Bool) (n : ℕ) → a ≡ true → b ≡ true → cond a (cond b n 0) 0 ≡ n
both_pass a b n one other = rw (one, other) refl

-- what counts where both pass counts where the second does
pub less_of_both : (a b : Bool) (n : ℕ) → cond (a && b) n 0 ≤ cond b n 0
less_of_both true b n = omega arith
less_of_both false true n = omega arith
less_of_both false false n = omega arith

-- of two tests just one passes
pub either_part : (a b : Bool) (n : ℕ) → (a ≡ true → b ≡ false) → (a ≡ false → b ≡ true) → n ≡ cond a n 0 + cond b n 0
either_part true b n one other = rw (one refl) (omega arith)
either_part false b n one other = rw (other refl) (omega arith)

-- a number times 1 or 0
pub one_or_none : (b : Bool) (n : ℕ) → cond b 1 0 * n ≡ cond b n 0
one_or_none true n = omega arith
one_or_none false n = omega arith

-- a factor of a number that isn't 0 isn't 0
pub factor_some : (a b : ℕ) → 1 ≤ a * b → 1 ≤ b
factor_some a b some = grind arith

-- # Lists

-- what passes one by one
pub all_pass : {X : Type 0} (p : X → Bool) (xs : List X) → All (λ x. p x ≡ true) xs → list_all p xs ≡ true
all_pass p [] each = refl
all_pass p (x ∷ xs) each = and_from (p x) (list_all p xs) (each 0 x (omega arith)) (all_pass p xs (All-tail (λ y. p y ≡ true) x xs each))

-- and back
pub each_passes : {X : Type 0} (p : X → Bool) (xs : List X) → list_all p xs ≡ true → All (λ x. p x ≡ true) xs
each_passes p [] all = All-nil (λ x. p x ≡ true)
each_passes p (x ∷ xs) all =
    let both = and_parts (p x) (list_all p xs) all in
    All-cons (λ y. p y ≡ true) x xs both.0 (each_passes p xs both.1)

-- what is kept has what follows from the test
pub filter_has : {X : Type 0} (p : X → Bool) (P : X → Type 0) (xs : List X) → All (λ x. p x ≡ true → P x) xs → All P (filter p xs)
filter_has p P xs each k d within = All-filter p (λ x. p x ≡ true → P x) xs each k d within (filter_passes p xs k d within)

-- what stands in a list has its image among the images
pub contains_map : {X Y : Type 0} (f : X → Y) (xs : List X) (x : X) → Contains xs x → Contains (map f xs) (f x)
contains_map f xs x (k, within, is) = (k, omega (arith, length-map xs f, within), get_or-map f xs k x (f x) within ∙ ap f is)

-- sums of terms that are at most others differ by at least what one term does
pub sum_by_one_less : {X : Type 0} (f g : X → ℕ) (d : X) (xs : List X) (s : ℕ) → s < length xs → All (λ x. f x ≤ g x) xs →
    sum_by f xs + g (get_or xs s d) ≤ sum_by g xs + f (get_or xs s d)
sum_by_one_less f g d [] s within most = absurd (omega arith)
sum_by_one_less f g d (x ∷ xs) zero within most =
    simp sum_by-cons (omega (arith, sum_by_at_most f g xs (All-tail (λ y. f y ≤ g y) x xs most)))
sum_by_one_less f g d (x ∷ xs) (suc s) within most =
    simp sum_by-cons (omega (arith, most 0 x (omega arith), sum_by_one_less f g d xs s (omega arith) (All-tail (λ y. f y ≤ g y) x xs most)))

-- of the jobs' numbers that are kept each is there once
pub counted_kept : (jobs : List Job) (p : ℕ → Bool) (j : ℕ) → j < length jobs → count j (filter p (numbers_of jobs)) ≡ cond (p j) 1 0
counted_kept jobs p j known =
    let kept = filter p (numbers_of jobs) in
    elim (cases_Bool (p j)) [
      | inl passes ↦
          let some : 1 ≤ count j kept = contained_counted kept j (contains_filter p (numbers_of jobs) j passes (is_number jobs j known)) in
          let one : count j kept ≡ 1 = omega (arith, some, kept_different jobs p j) in
          one ∙ ap {B = ℕ} (λ b. cond b 1 0) (sym passes)
      | inr fails ↦
          sum_by_zero (λ other. cond (j == other) 1 0) kept (λ k d within.
          ap {B = ℕ} (λ b. cond b 1 0)
          (ne_eqb j (get_or kept k d) (λ same. true≢false (sym (filter_passes p (numbers_of jobs) k d within) ∙ ap p (sym same) ∙ fails))))
          ∙ ap {B = ℕ} (λ b. cond b 1 0) (sym fails)
    ]
