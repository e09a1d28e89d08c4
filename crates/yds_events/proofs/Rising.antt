-- Times that rise, each later than the one before it: the event points do, and such a list is known by what stands in it.
use Rattle.yds_model.proofs.Common.{◌≡◌, ℕ, zero, suc, ◌+◌, ◌<◌, ◌≤◌, ◌⊎◌, List, [], ◌∷◌, length, get_or, refl, sym, ◌∙◌, inl, inr, arith, ◌==◌, All, Contains, dedup, IsPermutation, IsSorted, nat_cmp, All-cons, All-head, All-tail, Contains-dedup_nat, Contains-from_dedup, AllPairs-from_increasing, Contains-permutation, IsPermutation-sym, IsStrictlyIncreasing-dedup, with_time, rising_times}

-- the times rise, from this one on
abbrev pub Rises : ℕ → List ℕ → Type 0
Rises low [] = Unit {0}
Rises low (time ∷ times) = (low ≤ time) × Rises (suc time) times

-- the time is one of them
abbrev pub Stands : ℕ → List ℕ → Type 0
Stands time [] = ⊥
Stands time (first ∷ times) = (time ≡ first) ⊎ Stands time times

-- where a time goes among rising times
with_time-cons : (time first : ℕ) (times : List ℕ) →
    ((time ≡ first) × (with_time time (first ∷ times) ≡ first ∷ times))
    ⊎ (((time < first) × (with_time time (first ∷ times) ≡ time ∷ first ∷ times))
    ⊎ ((first < time) × (with_time time (first ∷ times) ≡ first ∷ with_time time times)))
with_time-cons time first times = grind arith

-- # They rise

rises_with : (low time : ℕ) (times : List ℕ) → low ≤ time → Rises low times → Rises low (with_time time times)
rises_with low time [] from rises = (from, tt)
rises_with low time (first ∷ times) from rises = elim (with_time-cons time first times) [
  | inl same ↦ rw same.1 rises
  | inr (inl before) ↦ rw before.1 (from, (before.0, rises.1))
  | inr (inr after) ↦ rw after.1 (rises.0, rises_with (suc first) time times after.0 rises.1)
]

pub rises_times : (times : List ℕ) → Rises 0 (rising_times times)
rises_times [] = tt
rises_times (time ∷ times) = rises_with 0 time (rising_times times) (omega arith) (rises_times times)

rises_from : (low : ℕ) (times : List ℕ) (i : ℕ) → Rises low times → i < length times → low ≤ get_or times i 0
rises_from low [] i rises within = absurd (omega arith)
rises_from low (time ∷ times) zero rises within = rises.0
rises_from low (time ∷ times) (suc i) rises within = omega (arith, rises.0, rises_from (suc time) times i rises.1 (omega arith))

-- a time at a later place is later
pub rises_at : (low : ℕ) (times : List ℕ) (i j : ℕ) → Rises low times → i < j → j < length times → get_or times i 0 < get_or times j 0
rises_at low [] i j rises before within = absurd (omega arith)
rises_at low (time ∷ times) i zero rises before within = absurd (omega arith)
rises_at low (time ∷ times) zero (suc j) rises before within = omega (arith, rises_from (suc time) times j rises.1 (omega arith))
rises_at low (time ∷ times) (suc i) (suc j) rises before within = rises_at (suc time) times i j rises.1 (omega arith) (omega arith)

-- # What stands among them

-- what stands in a list with a time is that time or stood there
stands_with : (z time : ℕ) (times : List ℕ) → Stands z (time ∷ times) → Stands z (with_time time times)
stands_with z time [] stands = stands
stands_with z time (first ∷ times) stands = elim (with_time-cons time first times) [
  | inl same ↦ rw same.1 (elim stands [ inl is ↦ inl (is ∙ same.0) | inr there ↦ there ])
  | inr (inl before) ↦ rw before.1 stands
  | inr (inr after) ↦ rw after.1 (elim stands [
    | inl is ↦ inr (stands_with z time times (inl is))
    | inr (inl is) ↦ inl is
    | inr (inr there) ↦ inr (stands_with z time times (inr there))
  ])
]

stands_from_with : (z time : ℕ) (times : List ℕ) → Stands z (with_time time times) → Stands z (time ∷ times)
stands_from_with z time [] stands = stands
stands_from_with z time (first ∷ times) stands = elim (with_time-cons time first times) [
  | inl same ↦ inr (rw same.1 at stands)
  | inr (inl before) ↦ rw before.1 at stands
  | inr (inr after) ↦
      let later : Stands z (first ∷ with_time time times) = rw after.1 at stands in
      elim later [
        | inl is ↦ inr (inl is)
        | inr there ↦ elim (stands_from_with z time times there) [ inl is ↦ inl is | inr old ↦ inr (inr old) ]
      ]
]

pub stands_times : (z : ℕ) (times : List ℕ) → Stands z times → Stands z (rising_times times)
stands_times z [] stands = stands
stands_times z (time ∷ times) stands =
    stands_with z time (rising_times times) (elim stands [ inl is ↦ inl is | inr there ↦ inr (stands_times z times there) ])

stands_from_times : (z : ℕ) (times : List ℕ) → Stands z (rising_times times) → Stands z times
stands_from_times z [] stands = stands
stands_from_times z (time ∷ times) stands = elim (stands_from_with z time (rising_times times) stands) [
  | inl is ↦ inl is
  | inr there ↦ inr (stands_from_times z times there)
]

stands_from : (low z : ℕ) (times : List ℕ) → Rises low times → Stands z times → low ≤ z
stands_from low z [] rises stands = absurd stands
stands_from low z (time ∷ times) rises stands = elim stands [
  | inl is ↦ omega (arith, rises.0, is)
  | inr there ↦ omega (arith, rises.0, stands_from (suc time) z times rises.1 there)
]

-- what stands in a list has a place there, and back
pub contains_from_Stands : (z : ℕ) (times : List ℕ) → Stands z times → Contains times z
contains_from_Stands z [] stands = absurd stands
contains_from_Stands z (time ∷ times) (inl is) = (0, omega arith, sym is)
contains_from_Stands z (time ∷ times) (inr there) =
    let found = contains_from_Stands z times there in (suc found.0, omega (arith, found.1), found.2)

pub stands_from_Contains : (z : ℕ) (times : List ℕ) → Contains times z → Stands z times
stands_from_Contains z [] (k, within, is) = absurd (omega arith)
stands_from_Contains z (time ∷ times) (zero, within, is) = inl (sym is)
stands_from_Contains z (time ∷ times) (suc k, within, is) = inr (stands_from_Contains z times (k, omega arith, is))

-- what holds of each of some times holds of them when they rise
with_time_all : (P : ℕ → Type 0) (time : ℕ) (times : List ℕ) → P time → All P times → All P (with_time time times)
with_time_all P time [] is all = All-cons P time [] is all
with_time_all P time (first ∷ times) is all = elim (with_time-cons time first times) [
  | inl same ↦ rw same.1 all
  | inr (inl before) ↦ rw before.1 (All-cons P time (first ∷ times) is all)
  | inr (inr after) ↦
      rw after.1 (All-cons P first (with_time time times) (All-head P first times all)
      (with_time_all P time times is (All-tail P first times all)))
]

pub rising_all : (P : ℕ → Type 0) (times : List ℕ) → All P times → All P (rising_times times)
rising_all P [] all = all
rising_all P (time ∷ times) all =
    with_time_all P time (rising_times times) (All-head P time times all) (rising_all P times (All-tail P time times all))

pub with_time_length : (time : ℕ) (times : List ℕ) → length (with_time time times) ≤ length times + 1
with_time_length time [] = omega arith
with_time_length time (first ∷ times) = elim (with_time-cons time first times) [
  | inl same ↦ rw same.1 (omega arith)
  | inr (inl before) ↦ rw before.1 (omega arith)
  | inr (inr after) ↦ rw after.1 (omega (arith, with_time_length time times))
]

-- # Sorted and rid of repeats

-- rising lists in which the same times stand are equal
same_times : (low low' : ℕ) (xs ys : List ℕ) → Rises low xs → Rises low' ys → ((z : ℕ) → Stands z xs → Stands z ys) →
    ((z : ℕ) → Stands z ys → Stands z xs) → xs ≡ ys
same_times low low' [] [] up down there back = refl
same_times low low' [] (y ∷ ys) up down there back = absurd (back y (inl refl))
same_times low low' (x ∷ xs) [] up down there back = absurd (there x (inl refl))
same_times low low' (x ∷ xs) (y ∷ ys) up down there back =
    let least : (a b : ℕ) (cs : List ℕ) → Rises (suc b) cs → Stands a (b ∷ cs) → b ≤ a = λ a b cs rises stands. elim stands [
      | inl is ↦ omega (arith, is)
      | inr later ↦ omega (arith, stands_from (suc b) a cs rises later)
    ] in
    let same : x ≡ y =
    omega (arith, least x y ys down.1 (there x (inl refl)), least y x xs up.1 (back y (inl refl))) in
    let rest : xs ≡ ys = same_times (suc x) (suc y) xs ys up.1 down.1
    (λ z stands. elim (there z (inr stands)) [
      | inl is ↦ absurd (omega (arith, stands_from (suc x) z xs up.1 stands, is, same))
      | inr later ↦ later
    ])
    (λ z stands. elim (back z (inr stands)) [
      | inl is ↦ absurd (omega (arith, stands_from (suc y) z ys down.1 stands, is, same))
      | inr later ↦ later
    ]) in
    cc

rises_from_pairs : (low : ℕ) (times : List ℕ) → ((k d : ℕ) → k < length times → low ≤ get_or times k d) →
    ((i j d : ℕ) → i < j → j < length times → get_or times i d < get_or times j d) → Rises low times
rises_from_pairs low [] from pairs = tt
rises_from_pairs low (time ∷ times) from pairs = (
  from 0 0 (omega arith),
  rises_from_pairs (suc time) times (λ k d within. omega (arith, pairs 0 (suc k) d (omega arith) (omega arith)))
      (λ i j d order within. pairs (suc i) (suc j) d (omega arith) (omega arith)),
)

-- a list that is sorted and rid of repeats is that of the rising times
pub sorted_times : (xs ys : List ℕ) → IsPermutation xs ys → IsSorted nat_cmp ys → dedup (λ x y. x == y) ys ≡ rising_times xs
sorted_times xs ys moved sorted =
    same_times 0 0 (dedup (λ x y. x == y) ys) (rising_times xs)
    (rises_from_pairs 0 (dedup (λ x y. x == y) ys) (λ k d within. omega arith)
    (AllPairs-from_increasing _ (IsStrictlyIncreasing-dedup ys sorted)))
    (rises_times xs)
    (λ z stands. stands_times z xs (stands_from_Contains z xs (Contains-permutation ys xs z (IsPermutation-sym xs ys moved)
    (Contains-from_dedup (λ x y. x == y) ys z (contains_from_Stands z _ stands)))))
    (λ z stands. stands_from_Contains z _ (Contains-dedup_nat ys z
    (Contains-permutation xs ys z moved (contains_from_Stands z xs (stands_from_times z xs stands)))))
