-- Lists: how often a number stands in one, and facts about elements and pairs of lists that are joined.
use Rattle.std.proofs.Common.{◌≡◌, ℕ, suc, ◌+◌, ◌<◌, ◌≤◌, ◌==◌, ◌⊎◌, List, [], ◌∷◌, ◌++◌, ◌∙◌, length, get_or, take, arith, inl, inr, ap, add-one, subst, refl}
use Rattle.std.specs.List.{All, AllPairs, Any, Contains, flat_map}
use Rattle.std.proofs.lemmas.List.{take_more, append-nil, length-append, length_push, get_or_append_left, get_or-append-add, get_or_push}
use Rattle.std.proofs.lemmas.List.Concat.{flat_map-append}
use Rattle.std.proofs.lemmas.List.Elements.{All-nil, All-append, All-tail}
use Rattle.std.proofs.lemmas.List.Kept.{AllPairs-cons}
use Rattle.std.proofs.lemmas.List.Sums.{sum_by-cons}
use Rattle.std.proofs.lemmas.Bool.{cases_eq, cases_lt, ne_eqb}
use Rattle.std.specs.Prelude.{cond}
use Rattle.base.specs.Numbers.{count}

-- one more number in a list is counted by one more
pub count-cons : (number x : ℕ) (xs : List ℕ) → count number (x ∷ xs) ≡ cond (number == x) 1 0 + count number xs
count-cons number x xs = sum_by-cons (λ other. cond (number == other) 1 0) x xs

-- a number that is counted stands in the list
pub counted_contains : (number : ℕ) (numbers : List ℕ) → 1 ≤ count number numbers → Contains numbers number
counted_contains number [] h = absurd (omega arith)
counted_contains number (x ∷ xs) h = elim (cases_eq number x) [
  | inl same ↦ (0, omega arith, cc)
  | inr other ↦
      let rest : 1 ≤ count number xs = omega (arith, count-cons number x xs, ap {B = ℕ} (λ b. cond b 1 0) (ne_eqb number x other)) in
      let found = counted_contains number xs rest in
      (suc found.0, omega (arith, found.1), found.2)
]

-- what holds of each element of two lists together holds of those of the first, and of those of the second
pub All-front : {X : Type 0} (P : X → Type 0) (xs ys : List X) → All P (xs ++ ys) → All P xs
All-front P xs ys all k d within = subst P (get_or_append_left xs ys d k within) (all k d (omega (arith, length-append xs ys)))

pub All-back : {X : Type 0} (P : X → Type 0) (xs ys : List X) → All P (xs ++ ys) → All P ys
All-back P xs ys all k d within = subst P (get_or-append-add xs ys k d) (all (length xs + k) d (omega (arith, length-append xs ys)))

-- what holds of all elements of each part holds of the parts together
pub All-flat : {X A : Type 0} (P : A → Type 0) (f : X → List A) (xs : List X) → All (λ x. All P (f x)) xs → All P (flat_map f xs)
All-flat P f [] each = All-nil P
All-flat P f (x ∷ xs) each =
    All-append P (f x) (flat_map f xs) (each 0 x (omega arith)) (All-flat P f xs (All-tail (λ y. All P (f y)) x xs each))

-- some element of a list is one of a longer list
pub Any-append_left : {X : Type 0} (P : X → Type 0) (xs ys : List X) → Any P xs → Any P (xs ++ ys)
Any-append_left P xs ys some = grind (arith, get_or_append_left, length-append)

-- and so is some element of the list that is put behind it
pub Any-append_right : {X : Type 0} (P : X → Type 0) (xs ys : List X) → Any P ys → Any P (xs ++ ys)
Any-append_right P xs ys some = (
  length xs + some.0,
  some.1,
  omega (arith, some.2, length-append xs ys),
  get_or-append-add xs ys some.0 some.1 ∙ some.3,
  some.4,
)

-- pairs of two lists together: those of each, and each of the second with each of the first
pub AllPairs-append : {X : Type 0} (R : X → X → Type 0) (xs ys : List X) → AllPairs R xs → AllPairs R ys →
    All (λ y. All (λ x. R x y) xs) ys → AllPairs R (xs ++ ys)
AllPairs-append R [] ys first second across = second
AllPairs-append R (x ∷ xs) ys first second across =
    AllPairs-cons R x (xs ++ ys)
    (All-append (R x) xs ys (λ k d within. first 0 (suc k) d (omega arith) (omega arith))
    (λ k d within. across k d within 0 x (omega arith)))
    (AllPairs-append R xs ys (λ i j d order within. first (suc i) (suc j) d (omega arith) (omega arith)) second
    (λ k d within. All-tail (λ one. R one (get_or ys k d)) x xs (across k d within)))

-- one element more of a list, and what it stands for
pub flat_map-take : {X A : Type 0} (f : X → List A) (xs : List X) (i : ℕ) (d : X) → i < length xs →
    flat_map f (take (suc i) xs) ≡ flat_map f (take i xs) ++ f (get_or xs i d)
flat_map-take f xs i d within =
    ap (flat_map f) (rw add-one at (take_more xs i d within))
    ∙ flat_map-append f (take i xs) (get_or xs i d ∷ [])
    ∙ ap (λ ys. flat_map f (take i xs) ++ ys) (append-nil (f (get_or xs i d)))

-- a place below n + 1 lies below n or is n
pub place_cases : (i n : ℕ) → i < n + 1 → (i < n) ⊎ (i ≡ n)
place_cases i n within = elim (cases_lt i n) [ inl less ↦ inl less | inr more ↦ inr (omega arith) ]

-- what holds of each element holds of the last
pub All-last : {X : Type 0} (P : X → Type 0) (xs : List X) (x : X) → All P (xs ++ x ∷ []) → P x
All-last P xs x all = subst P (get_or_push xs x x (length xs) refl) (all (length xs) x (omega (arith, length_push xs x)))
