-- Lists put in order have the same elements and the same sums.
use Rattle.yds_model.proofs.Common.{cond_both, filter, ◌≡◌, ℕ, ◌+◌, List, [], ◌∷◌, ◌++◌, map, Bool, true, false, nat_le, if◌then◌else◌, Option, Some, None, refl, arith, sum_by, sum_by-cons, All, All-cons, All-head, All-nil, All-tail}
use Rattle.std.specs.List.{AllByRecursion, filter_map, cons_option}
use Rattle.yds_trace.specs.Document.{put_in, in_order}

-- in either case
pub either_all : {A : Type 0} (P : A → Type 0) (b : Bool) (xs ys : List A) →
    AllByRecursion P xs → AllByRecursion P ys → AllByRecursion P (if b then xs else ys)
either_all P true xs ys first second = first
either_all P false xs ys first second = second

pub put_in-all : {A : Type 0} (P : A → Type 0) (key : A → ℕ) (x : A) (ys : List A) →
    P x → AllByRecursion P ys → AllByRecursion P (put_in key x ys)
put_in-all P key x [] here all = (here, tt)
put_in-all P key x (y ∷ ys) here all =
    either_all P (nat_le (key x) (key y)) (x ∷ y ∷ ys) (y ∷ put_in key x ys) (here, all) (all.0, put_in-all P key x ys here all.1)

pub in_order-all : {A : Type 0} (P : A → Type 0) (key : A → ℕ) (xs : List A) → AllByRecursion P xs → AllByRecursion P (in_order key xs)
in_order-all P key [] all = tt
in_order-all P key (x ∷ xs) all = put_in-all P key x (in_order key xs) all.0 (in_order-all P key xs all.1)

split : {A : Type 0} (P : A → Type 0) (b : Bool) (x y : A) (ys zs : List A) →
    (AllByRecursion P zs → P x × AllByRecursion P ys) → AllByRecursion P (if b then (x ∷ y ∷ ys) else (y ∷ zs)) → P x × AllByRecursion P (y ∷ ys)
split P true x y ys zs back all = (all.0, all.1)
split P false x y ys zs back all = ((back all.1).0, (all.0, (back all.1).1))

pub put_in-all_back : {A : Type 0} (P : A → Type 0) (key : A → ℕ) (x : A) (ys : List A) →
    AllByRecursion P (put_in key x ys) → P x × AllByRecursion P ys
put_in-all_back P key x [] all = (all.0, tt)
put_in-all_back P key x (y ∷ ys) all =
    split P (nat_le (key x) (key y)) x y ys (put_in key x ys) (λ rest. put_in-all_back P key x ys rest) all

pub in_order-all_back : {A : Type 0} (P : A → Type 0) (key : A → ℕ) (xs : List A) → AllByRecursion P (in_order key xs) → AllByRecursion P xs
in_order-all_back P key [] all = tt
in_order-all_back P key (x ∷ xs) all =
    let parts : P x × AllByRecursion P (in_order key xs) = put_in-all_back P key x (in_order key xs) all in
    (parts.0, in_order-all_back P key xs parts.1)

either_sum : {A : Type 0} (f : A → ℕ) (b : Bool) (xs ys : List A) (n : ℕ) → sum_by f xs ≡ n → sum_by f ys ≡ n → sum_by f (if b then xs else ys) ≡ n
either_sum f true xs ys n first second = first
either_sum f false xs ys n first second = second

pub put_in-sum : {A : Type 0} (f : A → ℕ) (key : A → ℕ) (x : A) (ys : List A) → sum_by f (put_in key x ys) ≡ f x + sum_by f ys
put_in-sum f key x [] = sum_by-cons f x []
put_in-sum f key x (y ∷ ys) =
    either_sum f (nat_le (key x) (key y)) (x ∷ y ∷ ys) (y ∷ put_in key x ys) (f x + sum_by f (y ∷ ys)) (sum_by-cons f x (y ∷ ys))
    (omega (arith, sum_by-cons f y (put_in key x ys), put_in-sum f key x ys, sum_by-cons f y ys))

pub in_order-sum : {A : Type 0} (f : A → ℕ) (key : A → ℕ) (xs : List A) → sum_by f (in_order key xs) ≡ sum_by f xs
in_order-sum f key [] = omega arith
in_order-sum f key (x ∷ xs) = omega (arith, put_in-sum f key x (in_order key xs), in_order-sum f key xs, sum_by-cons f x xs)

-- of two lists together
pub append-all_left : {A : Type 0} (P : A → Type 0) (xs ys : List A) → AllByRecursion P (xs ++ ys) → AllByRecursion P xs
append-all_left P [] ys all = tt
append-all_left P (x ∷ xs) ys all = (all.0, append-all_left P xs ys all.1)

pub append-all_right : {A : Type 0} (P : A → Type 0) (xs ys : List A) → AllByRecursion P (xs ++ ys) → AllByRecursion P ys
append-all_right P [] ys all = all
append-all_right P (x ∷ xs) ys all = append-all_right P xs ys all.1

pub append-all : {A : Type 0} (P : A → Type 0) (xs ys : List A) → AllByRecursion P xs → AllByRecursion P ys → AllByRecursion P (xs ++ ys)
append-all P [] ys first second = second
append-all P (x ∷ xs) ys first second = (first.0, append-all P xs ys first.1 second)

-- of a list's images
pub map-all : {A B : Type 0} (P : B → Type 0) (f : A → B) (xs : List A) → ((x : A) → P (f x)) → AllByRecursion P (map f xs)
map-all P f [] each = tt
map-all P f (x ∷ xs) each = (each x, map-all P f xs each)

-- what holds of each value holds of each element by its value
pub All-map_back : {A B : Type 0} (P : B → Type 0) (f : A → B) (xs : List A) → All P (map f xs) → All (λ x. P (f x)) xs
All-map_back P f [] all = All-nil _
All-map_back P f (x ∷ xs) all =
    All-cons (λ x. P (f x)) x xs (All-head P (f x) (map f xs) all) (All-map_back P f xs (All-tail P (f x) (map f xs) all))

-- of those that pass a test
pub filter-all : {A : Type 0} (P : A → Type 0) (p : A → Bool) (xs : List A) → AllByRecursion P xs → AllByRecursion P (filter p xs)
filter-all P p [] all = tt
filter-all P p (x ∷ xs) all =
    cond_both (p x) (x ∷ filter p xs) (filter p xs) (AllByRecursion P) (λ held. (all.0, filter-all P p xs all.1)) (λ denied. filter-all P p xs all.1)

-- of what a list gives, element by element
pub filter_map-all : {A B : Type 0} (h : A → Option B) (P : A → Type 0) (Q : B → Type 0) → ((x : A) (y : B) → P x → h x ≡ Some y → Q y) → (xs : List A) →
    AllByRecursion P xs → AllByRecursion Q (filter_map h xs)
filter_map-all {A} {B} h P Q each [] all = tt
filter_map-all {A} {B} h P Q each (x ∷ xs) all = by (filter_map h xs) (h x) refl (filter_map-all h P Q each xs all.1)
  where
    by : (ys : List B) (o : Option B) → h x ≡ o → AllByRecursion Q ys → AllByRecursion Q (cons_option o ys)
    by ys None is rest = rest
    by ys (Some y) is rest = (each x y all.0 is, rest)
