-- Lists of members, each with a number: whether one has a number, what counts once, and what is written at all their numbers.
use Rattle.yds_model.proofs.Common.{◌≡◌, ℕ, zero, suc, ◌+◌, ◌<◌, ◌≢◌, ◌⊎◌, ◌==◌, Bool, true, List, [], ◌∷◌, ◌++◌, ◌∙◌, length, map, get_or, set, refl, sym, ap, subst, inl, inr, arith, if◌then◌else◌, All, AllPairs, filter, sum_by, range_with_len, cases_eq, cond_both, get_or-map, length-map, get_or-set_same, get_or-set_other, length-set, All-append, All-tail, AllPairs-cons, sum_by-cons, sum_by_same}
use Rattle.yds_search.specs.Found.{group_of}
use Rattle.yds_search.specs.Numbers.{AreWritten}
use Rattle.yds_search.specs.Waiting.{HasOne}
use Rattle.yds_search.proofs.KeySums.{over, over_same, is_here, not_here, inside_range, sums_swap}

-- one number's value, in a sum over all of them
pub over_alone : (value : ℕ) (n k : ℕ) → k < n → over n (λ j. if k == j then value else 0) ≡ value
over_alone value n k within = inside_range 0 n k value (omega arith) (omega arith)

-- where the one stands
pub one_at : {X : Type 0} (P : X → Type 0) (xs : List X) → HasOne P xs → (i : ℕ) × (i < length xs) × ((d : X) → P (get_or xs i d))
one_at P [] one = absurd one
one_at P (x ∷ xs) one = elim one [
  | inl here ↦ (0, omega arith, λ d. here)
  | inr later ↦ let found = one_at P xs later in (suc found.0, omega (arith, found.1), found.2)
]

-- what stands at a place is one of the list
pub at_one : {X : Type 0} (P : X → Type 0) (xs : List X) (i : ℕ) (d : X) → i < length xs → P (get_or xs i d) → HasOne P xs
at_one P [] i d within is = absurd (omega (arith, within))
at_one P (x ∷ xs) zero d within is = inl is
at_one P (x ∷ xs) (suc i) d within is = inr (at_one P xs i d (omega (arith, within)) is)

-- one of a list is such, and so is one of a list made of it
pub one_map : {X Y : Type 0} (P : Y → Type 0) (f : X → Y) (xs : List X) → HasOne (λ x. P (f x)) xs → HasOne P (map f xs)
one_map P f [] one = one
one_map P f (x ∷ xs) one = elim one [ inl here ↦ inl here | inr later ↦ inr (one_map P f xs later) ]

-- one that passes is among those that pass
pub one_filter : {X : Type 0} (P : X → Type 0) (p : X → Bool) (xs : List X) → HasOne (λ x. P x × (p x ≡ true)) xs → HasOne P (filter p xs)
one_filter P p [] one = one
one_filter P p (x ∷ xs) one = elim one [
  | inl here ↦ rw here.1 (inl here.0)
  | inr later ↦ let rest = one_filter P p xs later in
      cond_both (p x) (x ∷ filter p xs) (filter p xs) (HasOne P) (λ yes. inr rest) (λ no. rest)
]

-- one of the list has the number, or none
pub one_or_none : {X : Type 0} (number : X → ℕ) (xs : List X) (k : ℕ) → HasOne (λ x. number x ≡ k) xs ⊎ (HasOne (λ x. number x ≡ k) xs → ⊥)
one_or_none number [] k = inr (λ one. one)
one_or_none number (x ∷ xs) k = elim (cases_eq (number x) k) [
  | inl here ↦ inl (inl here)
  | inr other ↦ elim (one_or_none number xs k) [
    | inl later ↦ inl (inr later)
    | inr none ↦ inr (λ one. elim one [ inl here ↦ other here | inr later ↦ none later ])
  ]
]

-- pairs of a list of images, and of two lists
pub all_pairs_map : {X Y : Type 0} (R : Y → Y → Type 0) (f : X → Y) (xs : List X) → AllPairs (λ a b. R (f a) (f b)) xs → AllPairs R (map f xs)
all_pairs_map R f [] pairs = λ a b d before within. absurd (omega (arith, within))
all_pairs_map R f (x ∷ xs) pairs = AllPairs-cons R (f x) (map f xs)
    (λ i d within.
    let here : i < length xs = omega (arith, within, length-map xs f) in
    subst (R (f x)) (sym (get_or-map f xs i x d here)) (pairs 0 (suc i) x (omega arith) (omega (arith, here))))
    (all_pairs_map R f xs (λ a b d before within. pairs (suc a) (suc b) d (omega (arith, before)) (omega (arith, within))))

-- pairs of two lists in a row
pub all_pairs_append : {X : Type 0} (R : X → X → Type 0) (xs ys : List X) → AllPairs R xs → AllPairs R ys → All (λ x. All (R x) ys) xs → AllPairs R (xs ++ ys)
all_pairs_append R [] ys pairs pairs' across = pairs'
all_pairs_append R (x ∷ xs) ys pairs pairs' across = AllPairs-cons R x (xs ++ ys)
    (All-append (R x) xs ys (λ i d within. pairs 0 (suc i) d (omega arith) (omega (arith, within))) (across 0 x (omega arith)))
    (all_pairs_append R xs ys (λ a b d before within. pairs (suc a) (suc b) d (omega (arith, before)) (omega (arith, within))) pairs'
    (All-tail (λ x. All (R x) ys) x xs across))

-- each number stands once
abbrev pub AreApart : {X : Type 0} → (X → ℕ) → List X → Type 0
AreApart number xs = AllPairs (λ a b. number a ≢ number b) xs

-- so do those of the rest
apart_rest : {X : Type 0} (number : X → ℕ) (x : X) (xs : List X) → AreApart number (x ∷ xs) → AreApart number xs
apart_rest number x xs apart a b d before within = apart (suc a) (suc b) d (omega (arith, before)) (omega (arith, within))

-- so two with the same number are at one place
pub same_place : {X : Type 0} (number : X → ℕ) (xs : List X) (a b : ℕ) (d : X) → AreApart number xs → a < length xs → b < length xs → number (get_or xs a d) ≡ number (get_or xs b d) → a ≡ b
same_place number xs a b d apart within within' same = grind arith

-- nothing counts where none has the number
pub never : {X : Type 0} (number : X → ℕ) (xs : List X) (k value : ℕ) → (HasOne (λ x. number x ≡ k) xs → ⊥) → sum_by (λ x. if k == number x then value else 0) xs ≡ 0
never number [] k value none = refl
never number (x ∷ xs) k value none = omega (
  arith,
  sum_by-cons (λ x. if k == number x then value else 0) x xs,
  not_here k (number x) value (λ same. none (inl (sym same))),
  never number xs k value (λ one. none (inr one)),
)

-- a value counts once at the one that has the number
pub once : {X : Type 0} (number : X → ℕ) (xs : List X) (k value : ℕ) → AreApart number xs → HasOne (λ x. number x ≡ k) xs → sum_by (λ x. if k == number x then value else 0) xs ≡ value
once number [] k value apart one = absurd one
once number (x ∷ xs) k value apart one = elim one [
  | inl here ↦ omega (
    arith,
    sum_by-cons (λ x. if k == number x then value else 0) x xs,
    is_here k (number x) value (sym here),
    never number xs k value (λ later.
        let found = one_at (λ x. number x ≡ k) xs later in
        apart 0 (suc found.0) x (omega arith) (omega (arith, found.1)) (here ∙ sym (found.2 x))),
  )
  | inr later ↦
      let found = one_at (λ x. number x ≡ k) xs later in
      omega (
        arith,
        sum_by-cons (λ x. if k == number x then value else 0) x xs,
        not_here k (number x) value (λ same. apart 0 (suc found.0) x (omega arith) (omega (arith, found.1)) (sym same ∙ sym (found.2 x))),
        once number xs k value (apart_rest number x xs apart) later,
      )
]

-- a value for each number that is marked, where the marked ones are those of the list, is a sum over the list
pub over_members : {X : Type 0} (number : X → ℕ) (xs : List X) (f : ℕ → ℕ) (groups : List ℕ) (group n : ℕ) → AreApart number xs → All (λ x. number x < n) xs →
    ((k : ℕ) → k < n → HasOne (λ x. number x ≡ k) xs → group_of groups k ≡ group) → ((k : ℕ) → k < n → (HasOne (λ x. number x ≡ k) xs → ⊥) → group_of groups k ≢ group) →
    over n (λ k. if group_of groups k == group then f k else 0) ≡ sum_by (λ x. f (number x)) xs
over_members number xs f groups group n apart within there other =
    over_same (λ k. if group_of groups k == group then f k else 0) (λ k. sum_by (λ x. if k == number x then f k else 0) xs) n (λ k below. elim (one_or_none number xs k) [
      | inl one ↦ is_here (group_of groups k) group (f k) (there k below one) ∙ sym (once number xs k (f k) apart one)
      | inr none ↦ not_here (group_of groups k) group (f k) (other k below none) ∙ sym (never number xs k (f k) none)
    ])
    ∙ sums_swap (λ k x. if k == number x then f k else 0) (range_with_len 0 n) xs
    ∙ sum_by_same (λ x. over n (λ k. if k == number x then f k else 0)) (λ x. f (number x)) xs (λ i d inside.
    over_same (λ k. if k == number (get_or xs i d) then f k else 0) (λ k. if number (get_or xs i d) == k then f (number (get_or xs i d)) else 0) n
    (λ k below. turned k (number (get_or xs i d)) f) ∙ over_alone (f (number (get_or xs i d))) n (number (get_or xs i d)) (within i d inside)) where
      -- either number may be asked for the other
      turned : (k number : ℕ) (f : ℕ → ℕ) → (if k == number then f k else 0) ≡ (if number == k then f number else 0)
      turned k number f = elim (cases_eq k number) [
        | inl same ↦ is_here k number (f k) same ∙ ap f same ∙ sym (is_here number k (f number) (sym same))
        | inr other ↦ not_here k number (f k) other ∙ sym (not_here number k (f number) (λ same. other (sym same)))
      ]

-- one more is written, at the number of the next member
pub written_more : {X : Type 0} (number : X → ℕ) (xs : List X) (n value m : ℕ) (d : X) (old new : List ℕ) → AreWritten (λ i other. other ≡ value) (map number xs) n old new →
    n < length xs → All (λ x. number x < m) xs → length old ≡ m → AreWritten (λ i other. other ≡ value) (map number xs) (n + 1) old (set new (number (get_or xs n d)) value)
written_more number xs n value m d old new so_far within known count =
    let here : get_or (map number xs) n 0 ≡ number (get_or xs n d) = get_or-map number xs n d 0 within in
    let inside : number (get_or xs n d) < length new = omega (arith, known n d within, count, so_far.count) in
    record {
      count = length-set new (number (get_or xs n d)) value ∙ so_far.count;
      there = λ p before. elim (cases_eq (get_or (map number xs) p 0) (number (get_or xs n d))) [
        | inl same ↦ ap (λ i. get_or (set new (number (get_or xs n d)) value) i 0) same ∙ get_or-set_same new (number (get_or xs n d)) value 0 inside
        | inr other ↦ get_or-set_other new (number (get_or xs n d)) (get_or (map number xs) p 0) value 0 other
            ∙ so_far.there p (elim (cases_eq p n) [ inl last ↦ absurd (other (ap (λ i. get_or (map number xs) i 0) last ∙ here)) | inr less ↦ omega (arith, before, less) ])
      ];
      others = λ i outside. get_or-set_other new (number (get_or xs n d)) i value 0 (λ same. outside n (omega arith) (here ∙ sym same))
          ∙ so_far.others i (λ p before. outside p (omega (arith, before)));
    }

-- where all are written, the value stands at their numbers, and elsewhere what stood there before
pub written_at : {X : Type 0} (number : X → ℕ) (xs : List X) (value : ℕ) (old new : List ℕ) (k : ℕ) → AreWritten (λ i other. other ≡ value) (map number xs) (length xs) old new →
    HasOne (λ x. number x ≡ k) xs → group_of new k ≡ value
written_at {X} number xs value old new k written one =
    let found = one_at (λ x. number x ≡ k) xs one in
    subst (λ (i : ℕ). group_of new i ≡ value) (numbered xs found.0 found.1 found.2) (written.there found.0 found.1) where
      numbered : (xs : List X) (i : ℕ) → i < length xs → ((d : X) → number (get_or xs i d) ≡ k) → get_or (map number xs) i 0 ≡ k
      numbered [] i within is = absurd (omega (arith, within))
      numbered (x ∷ xs) i within is = get_or-map number (x ∷ xs) i x 0 within ∙ is x

-- elsewhere stands what stood there before
pub written_off : {X : Type 0} (number : X → ℕ) (xs : List X) (value : ℕ) (old new : List ℕ) (k : ℕ) → AreWritten (λ i other. other ≡ value) (map number xs) (length xs) old new →
    (HasOne (λ x. number x ≡ k) xs → ⊥) → group_of new k ≡ group_of old k
written_off {X} number xs value old new k written none = written.others k (λ p before same. none (numbered xs p before same)) where
  numbered : (xs : List X) (p : ℕ) → p < length xs → get_or (map number xs) p 0 ≡ k → HasOne (λ x. number x ≡ k) xs
  numbered [] p within is = absurd (omega (arith, within))
  numbered (x ∷ xs) p within is = at_one (λ x. number x ≡ k) (x ∷ xs) p x within (sym (get_or-map number (x ∷ xs) p x 0 within) ∙ is)
