-- Tests: a truth value that decides a statement. `hlevel` puts the test of a record together from those of its fields.
use Rattle.yds_model.proofs.Common.{◌≡◌, ℕ, zero, suc, ◌+◌, ◌%◌, ◌<◌, ◌≤◌, ◌⊎◌, List, [], ◌∷◌, length, get_or, Bool, true, false, ◌&&◌, ◌||◌, ◌==◌, nat_le, refl, sym, subst, inl, inr, arith, eqb-true, eq-eqb, ap, not, Decides, ◌∣◌, All, Any, Contains, list_all, bytes_eq, bytes_eq-Decides, leb-true, le-leb, true≢false, not_from_Decides, Decides-like, Decides-and, Decides-or, Decides-by_and, Decides-below_and, dvd_of_mod-eq-zero, mod-eq-zero_of_dvd, Each, Fraction}

-- a truth value that is true exactly where P holds
pub record Test (P : Type 0) : Type 0 where
  pub passes : Bool
  pub decides : Decides passes P

module _ {P : Type 0} (test : Test P) where
  -- P holds where its test passes
  pub proved : test.passes ≡ true → P
  proved passed = test.decides.0 passed

  -- and doesn't where it fails
  pub refuted : test.passes ≡ false → P → ⊥
  refuted failed = not_from_Decides test.passes test.decides failed

-- what is always so
abbrev pub test_always : Test (Unit {0})
test_always = record { passes = true; decides = (λ e. tt, λ h. refl) }

-- what is never so
abbrev pub test_never : Test ⊥
test_never = record { passes = false; decides = (λ e. absurd (true≢false (sym e)), λ h. absurd h) }

-- a number at most another, and with `suc` one that is less
abbrev pub test_le : (a b : ℕ) → Test (a ≤ b)
test_le a b = record { passes = nat_le a b; decides = (leb-true a b, le-leb a b) }

-- equal numbers
abbrev pub test_eq : (a b : ℕ) → Test (a ≡ b)
test_eq a b = record { passes = a == b; decides = (eqb-true a b, eq-eqb a b) }

-- a divisor
abbrev pub test_divides : (a b : ℕ) → Test (a ∣ b)
test_divides a b = record {
  passes = b % a == 0;
  decides = (λ none. dvd_of_mod-eq-zero a (eqb-true (b % a) 0 none), λ divides. eq-eqb (b % a) 0 (mod-eq-zero_of_dvd a divides));
}

-- no elements
pub empty_decided : {X : Type 0} (xs : List X) → Decides (length xs == 0) (xs ≡ [])
empty_decided [] = (λ e. refl, λ h. refl)
empty_decided (x ∷ xs) = (λ e. absurd (omega (arith, eqb-true (length (x ∷ xs)) 0 e)), λ h. absurd cc)

abbrev pub test_empty : {X : Type 0} (xs : List X) → Test (xs ≡ [])
test_empty xs = record { passes = length xs == 0; decides = empty_decided xs }

-- a fact under a premise
pub implied_decided : {P Q : Type 0} (x y : Bool) → Decides x P → Decides y Q → Decides (not x || y) (P → Q)
implied_decided true y p q = (λ e h. q.0 e, λ f. q.1 (f (p.0 refl)))
implied_decided false y p q = (λ e h. absurd (not_from_Decides false p refl h), λ f. refl)

module _ {P Q : Type 0} where
  -- the same said in other words
  abbrev pub test_like : (P → Q) → (Q → P) → Test P → Test Q
  test_like to from p = record { passes = p.passes; decides = Decides-like p.passes to from p.decides }

  -- a record of the same fields
  abbrev pub test_record : (to : Q → P) (from : P → Q) → ((x : Q) → from (to x) ≡ x) → Test P → Test Q
  test_record to from back p = test_like from to p

  -- both
  abbrev pub test_both : Test P → Test Q → Test (P × Q)
  test_both p q = record { passes = p.passes && q.passes; decides = Decides-and p.passes q.passes p.decides q.decides }

  -- one of two
  abbrev pub test_either : Test P → Test Q → Test (P ⊎ Q)
  test_either p q = record { passes = p.passes || q.passes; decides = Decides-or p.passes q.passes p.decides q.decides }

  -- what follows
  abbrev pub test_implied : Test P → Test Q → Test (P → Q)
  test_implied p q = record { passes = not p.passes || q.passes; decides = implied_decided p.passes q.passes p.decides q.decides }

-- what each place below a number has
abbrev pub all_below : (ℕ → Bool) → ℕ → Bool
all_below test zero = true
all_below test (suc n) = test n && all_below test n

module _ {P : ℕ → Type 0} (each : (i : ℕ) → Test (P i)) where
  -- each place
  abbrev pub test_each : (n : ℕ) → Test (Each n P)
  test_each n = record {
    passes = all_below (λ i. (each i).passes) n;
    decides = Decides-below_and (λ i. (each i).passes) P (all_below (λ i. (each i).passes)) (λ i. (each i).decides) refl (λ n. refl) n;
  }

  -- the place before this one, if there is one
  abbrev pub test_before : (i : ℕ) → Test ((before : ℕ) → before + 1 ≡ i → P before)
  test_before zero = record { passes = true; decides = (λ e before next. absurd (omega arith), λ h. refl) }
  test_before (suc i) = test_like (λ h before next. subst P (omega (arith, next)) h) (λ h. h i (omega arith)) (each i)

-- each place from one to another
abbrev pub test_between : {P : ℕ → Type 0} → ((i : ℕ) → Test (P i)) → (from to : ℕ) → Test ((i : ℕ) → from ≤ i → i < to → P i)
test_between each from to = test_like (λ h i after below. h i below after) (λ h i below after. h i after below) (test_each (λ i. test_implied (test_le from i) (each i)) to)

-- each two places below these numbers
abbrev pub test_grid : {P : ℕ → ℕ → Type 0} → ((i j : ℕ) → Test (P i j)) → (n m : ℕ) → Test ((i j : ℕ) → i < n → j < m → P i j)
test_grid each n m = test_like (λ h i j below other. h i below j other) (λ h i below j other. h i j below other) (test_each (λ i. test_each (each i) m) n)

-- each place before each below a number
abbrev pub test_ordered : {P : ℕ → ℕ → Type 0} → ((i j : ℕ) → Test (P i j)) → (n : ℕ) → Test ((i j : ℕ) → i < j → j < n → P i j)
test_ordered each n = test_like (λ h i j before below. h j below i before) (λ h j below i before. h i j before below) (test_each (λ j. test_each (λ i. each i j) j) n)

module _ {X : Type 0} {P : X → Type 0} (each : (x : X) → Test (P x)) where
  -- each element of a list
  abbrev pub test_all : (xs : List X) → Test (All P xs)
  test_all xs = record {
    passes = list_all (λ x. (each x).passes) xs;
    decides = Decides-by_and (λ x. (each x).passes) P (list_all (λ x. (each x).passes)) (λ x. (each x).decides) refl (λ x xs. refl) xs;
  }

  -- an element of a list has P where the first or a later one does
  pub some_later : (x : X) (xs : List X) → P x ⊎ Any P xs → Any P (x ∷ xs)
  some_later x xs (inl here) = (0, x, omega arith, refl, here)
  some_later x xs (inr later) = (suc later.0, later.1, omega (arith, later.2), later.3, later.4)

  -- and only there
  pub first_or_later : (x : X) (xs : List X) → Any P (x ∷ xs) → P x ⊎ Any P xs
  first_or_later x xs (zero, y, within, is, has) = inl (subst P (sym is) has)
  first_or_later x xs (suc i, y, within, is, has) = inr (i, y, omega arith, is, has)

  -- an empty list has none
  pub not_in_empty : Any P [] → ⊥
  not_in_empty some = let below : some.0 < 0 = some.2 in absurd (omega arith)

  -- some element of a list
  abbrev pub test_any : (xs : List X) → Test (Any P xs)
  test_any [] = test_like (λ none. absurd none) not_in_empty test_never
  test_any (x ∷ xs) = test_like (some_later x xs) (first_or_later x xs) (test_either (each x) (test_any xs))

-- a number of a list
abbrev pub test_contains : (numbers : List ℕ) (number : ℕ) → Test (Contains numbers number)
test_contains numbers number =
    test_like (λ some. (some.0, some.2, subst (λ (n : ℕ). get_or numbers some.0 n ≡ n) some.4 some.3)) (λ found. (found.0, number, found.1, found.2, refl))
    (test_any (λ other. test_eq other number) numbers)

-- the same numbers in the same order
abbrev pub test_numbers : (xs ys : List ℕ) → Test (xs ≡ ys)
test_numbers xs ys = record { passes = bytes_eq xs ys; decides = bytes_eq-Decides xs ys }

-- fractions of the same parts are one
pub one_fraction : (x y : Fraction) → (x.whole ≡ y.whole) × (x.num ≡ y.num) × (x.den ≡ y.den) → x ≡ y
one_fraction x y same = λ i. record { whole = same.0 i; num = same.1 i; den = same.2 i }

-- one fraction
abbrev pub test_fraction : (x y : Fraction) → Test (x ≡ y)
test_fraction x y =
    test_like (one_fraction x y) (λ same. (ap (λ (z : Fraction). z.whole) same, ap (λ (z : Fraction). z.num) same, ap (λ (z : Fraction). z.den) same))
    (hlevel (test_eq, test_both, test_record))

-- the tests of which `hlevel` makes others
pub ruleset tests = (test_always, test_never, test_le, test_eq, test_divides, test_empty, test_numbers, test_fraction, test_contains, test_record, test_both, test_either, test_implied, test_each, test_before, test_between, test_grid, test_ordered, test_all, test_any)
