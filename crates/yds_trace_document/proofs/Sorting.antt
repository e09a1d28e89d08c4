-- A stable sort puts a list in order: there is one list that rises and keeps equal keys as they stand.
use Rattle.base.proofs.Common.{◌≡◌, ℕ, suc, ◌<◌, ◌≤◌, ◌==◌, ◌&&◌, Bool, true, false, not, cond, List, [], ◌∷◌, map, length, get_or, filter, ◌∙◌, refl, sym, ap, ap₂, inl, inr, arith, nat_le, nat_tests, cases_order, cond_both, le-leb, leb-true, leb-false, eqb-true, eq-eqb, is_lt, nat_cmp, IsNonDecreasingBy, IsStableByKey}
use Rattle.yds_trace.specs.Document.{put_in, in_order}

-- each key is at least this
abbrev pub FromLow : {A : Type 0} → (A → ℕ) → ℕ → List A → Type 0
FromLow key low [] = Unit {0}
FromLow key low (x ∷ xs) = (low ≤ key x) × FromLow key low xs

abbrev pub Rises : {A : Type 0} → (A → ℕ) → List A → Type 0
Rises key [] = Unit {0}
Rises key (x ∷ xs) = FromLow key (key x) xs × Rises key xs

abbrev pub same : {A : Type 0} → (A → ℕ) → ℕ → A → Bool
same key k x = k == key x

-- # What is put in

pub lower : {A : Type 0} (key : A → ℕ) (low less : ℕ) (xs : List A) → less ≤ low → FromLow key low xs → FromLow key less xs
lower key low less [] below all = tt
lower key low less (x ∷ xs) below all = (omega (arith, all.0), lower key low less xs below all.1)

put_low : {A : Type 0} (key : A → ℕ) (low : ℕ) (x : A) (xs : List A) → low ≤ key x → FromLow key low xs → FromLow key low (put_in key x xs)
put_low key low x [] within all = (within, tt)
put_low key low x (y ∷ ys) within all =
    cond_both (nat_le (key x) (key y)) (x ∷ y ∷ ys) (y ∷ put_in key x ys) (FromLow key low) (λ held. (within, all))
    (λ denied. (all.0, put_low key low x ys within all.1))

put_rises : {A : Type 0} (key : A → ℕ) (x : A) (xs : List A) → Rises key xs → Rises key (put_in key x xs)
put_rises key x [] rising = (tt, tt)
put_rises key x (y ∷ ys) rising =
    cond_both (nat_le (key x) (key y)) (x ∷ y ∷ ys) (y ∷ put_in key x ys) (Rises key)
    (λ held. ((leb-true (key x) (key y) held, lower key (key y) (key x) ys (leb-true (key x) (key y) held) rising.0), rising))
    (λ denied. (put_low key (key y) x ys (omega (arith, leb-false (key x) (key y) denied)) rising.0, put_rises key x ys rising.1))

swap_two : {A : Type 0} (b c : Bool) (x y : A) (rest put : List A) → (b ≡ true → c ≡ true → ⊥) → put ≡ cond b (x ∷ rest) rest →
    cond c (y ∷ put) put ≡ cond b (x ∷ cond c (y ∷ rest) rest) (cond c (y ∷ rest) rest)
swap_two true true x y rest put denied is = absurd (denied refl refl)
swap_two true false x y rest put denied is = is
swap_two false true x y rest put denied is = ap (λ (l : List _). y ∷ l) is
swap_two false false x y rest put denied is = is

put_filter : {A : Type 0} (key : A → ℕ) (k : ℕ) (x : A) (xs : List A) → filter (same key k) (put_in key x xs) ≡ filter (same key k) (x ∷ xs)
put_filter key k x [] = refl
put_filter {A} key k x (y ∷ ys) =
    cond_both (nat_le (key x) (key y)) (x ∷ y ∷ ys) (y ∷ put_in key x ys) (λ (zs : List A). filter (same key k) zs ≡ filter (same key k) (x ∷ y ∷ ys))
    (λ held. refl)
    (λ denied. swap_two (k == key x) (k == key y) x y (filter (same key k) ys) (filter (same key k) (put_in key x ys))
    (λ mine other. omega (arith, leb-false (key x) (key y) denied, eqb-true k (key x) mine, eqb-true k (key y) other)) (put_filter key k x ys))

in_order_rises : {A : Type 0} (key : A → ℕ) (xs : List A) → Rises key (in_order key xs)
in_order_rises key [] = tt
in_order_rises key (x ∷ xs) = put_rises key x (in_order key xs) (in_order_rises key xs)

in_order_filter : {A : Type 0} (key : A → ℕ) (k : ℕ) (xs : List A) → filter (same key k) (in_order key xs) ≡ filter (same key k) xs
in_order_filter key k [] = refl
in_order_filter {A} key k (x ∷ xs) =
    put_filter key k x (in_order key xs) ∙ ap (λ (l : List A). cond (k == key x) (x ∷ l) l) (in_order_filter key k xs)

-- # There is one

none_below : {A : Type 0} (key : A → ℕ) (k low : ℕ) (xs : List A) → k < low → FromLow key low xs → filter (same key k) xs ≡ []
none_below key k low [] below all = refl
none_below {A} key k low (x ∷ xs) below all =
    cond_both (k == key x) (x ∷ filter (same key k) xs) (filter (same key k) xs) (λ (l : List A). l ≡ [])
    (λ held. absurd (omega (arith, eqb-true k (key x) held, all.0))) (λ denied. none_below key k low xs below all.1)

heads : {A : Type 0} (b c : Bool) (y z : A) (ys zs : List A) → b ≡ true → c ≡ true → cond b (y ∷ ys) ys ≡ cond c (z ∷ zs) zs → y ∷ ys ≡ z ∷ zs
heads true true y z ys zs held also is = is
heads true false y z ys zs held also is = cc
heads false true y z ys zs held also is = cc
heads false false y z ys zs held also is = cc

tails : {A : Type 0} (b c : Bool) (y z : A) (ys zs : List A) → b ≡ c → cond b (y ∷ ys) ys ≡ cond c (z ∷ zs) zs → ys ≡ zs
tails true true y z ys zs both is = cc
tails true false y z ys zs both is = cc
tails false true y z ys zs both is = cc
tails false false y z ys zs both is = is

front_alone : {A : Type 0} (b : Bool) (y : A) (ys zs : List A) → b ≡ true → zs ≡ [] → cond b (y ∷ ys) ys ≡ zs → ⊥
front_alone true y ys zs held none is = let e : y ∷ ys ≡ [] = is ∙ none in cc
front_alone false y ys zs held none is = cc

one_list : {A : Type 0} (key : A → ℕ) (ys zs : List A) → Rises key ys → Rises key zs →
    ((x : A) → filter (same key (key x)) ys ≡ filter (same key (key x)) zs) → ys ≡ zs
one_list key [] [] rising also alike = refl
one_list key [] (z ∷ zs) rising also alike =
    absurd (front_alone (key z == key z) z (filter (same key (key z)) zs) [] (eq-eqb (key z) (key z) refl) refl (sym (alike z)))
one_list key (y ∷ ys) [] rising also alike =
    absurd (front_alone (key y == key y) y (filter (same key (key y)) ys) [] (eq-eqb (key y) (key y) refl) refl (alike y))
one_list {A} key (y ∷ ys) (z ∷ zs) rising also alike = elim (cases_order (key y) (key z)) [
  | inl equal ↦
      (let both : y ∷ filter (same key (key y)) ys ≡ z ∷ filter (same key (key y)) zs =
      heads (key y == key y) (key y == key z) y z (filter (same key (key y)) ys) (filter (same key (key y)) zs)
      (eq-eqb (key y) (key y) refl) (eq-eqb (key y) (key z) equal) (alike y) in
      let first : y ≡ z = cc in
      let rest : ys ≡ zs = one_list key ys zs rising.1 also.1 (λ x.
      tails (key x == key y) (key x == key z) y z (filter (same key (key x)) ys) (filter (same key (key x)) zs)
      (ap (λ (n : ℕ). key x == n) equal) (alike x)) in
      ap₂ (λ (w : A) (ws : List A). w ∷ ws) first rest)
  | inr apart ↦ elim apart [
    | inl less ↦ absurd (front_alone (key y == key y) y (filter (same key (key y)) ys) (filter (same key (key y)) (z ∷ zs))
        (eq-eqb (key y) (key y) refl)
        (none_below key (key y) (key z) (z ∷ zs) less (omega arith, also.0)) (alike y))
    | inr more ↦ absurd (front_alone (key z == key z) z (filter (same key (key z)) zs) (filter (same key (key z)) (y ∷ ys))
        (eq-eqb (key z) (key z) refl)
        (none_below key (key z) (key y) (y ∷ ys) more (omega arith, rising.0)) (sym (alike z)))
  ]
]

-- # What a sort ensures

low_from : {A : Type 0} (key : A → ℕ) (low : ℕ) (xs : List A) → ((j : ℕ) (d : A) → j < length xs → low ≤ key (get_or xs j d)) → FromLow key low xs
low_from key low [] each = tt
low_from key low (x ∷ xs) each = (each 0 x (omega arith), low_from key low xs (λ j d within. each (suc j) d (omega arith)))

rises_from : {A : Type 0} (key : A → ℕ) (xs : List A) → IsNonDecreasingBy key xs → Rises key xs
rises_from key [] rising = tt
rises_from key (x ∷ xs) rising = (
  low_from key (key x) xs (λ j d within. rising 0 (suc j) d (omega arith) (omega arith)),
  rises_from key xs (λ i j d before within. rising (suc i) (suc j) d (omega arith) (omega arith)),
)

tie_is_same : (m n : ℕ) → (not (is_lt (nat_cmp m n)) && not (is_lt (nat_cmp n m))) ≡ (m == n)
tie_is_same m n = grind (arith, nat_tests)

ties_filter : {A : Type 0} (key : A → ℕ) (x : A) (xs : List A) →
    filter (λ y. not (is_lt (nat_cmp (key x) (key y))) && not (is_lt (nat_cmp (key y) (key x)))) xs ≡ filter (same key (key x)) xs
ties_filter key x [] = refl
ties_filter {A} key x (y ∷ ys) =
    ap₂ (λ (b : Bool) (l : List A). cond b (y ∷ l) l) (tie_is_same (key x) (key y)) (ties_filter key x ys)

pub stably_sorted : {A : Type 0} (key : A → ℕ) (xs ys : List A) → IsNonDecreasingBy key ys → IsStableByKey key nat_cmp xs ys → ys ≡ in_order key xs
stably_sorted key xs ys rising stable =
    one_list key ys (in_order key xs) (rises_from key ys rising) (in_order_rises key xs)
    (λ x. sym (ties_filter key x ys) ∙ stable x ∙ ties_filter key x xs ∙ sym (in_order_filter key (key x) xs))

-- # Order is kept by a view

pub map_cond : {A B : Type 0} (f : A → B) (b : Bool) (xs ys : List A) → map f (cond b xs ys) ≡ cond b (map f xs) (map f ys)
map_cond f true xs ys = refl
map_cond f false xs ys = refl

put_in_map : {A B : Type 0} (f : A → B) (key : B → ℕ) (x : A) (xs : List A) → put_in key (f x) (map f xs) ≡ map f (put_in (λ y. key (f y)) x xs)
put_in_map f key x [] = refl
put_in_map {A} {B} f key x (y ∷ ys) =
    ap (λ (l : List B). cond (nat_le (key (f x)) (key (f y))) (f x ∷ f y ∷ map f ys) (f y ∷ l)) (put_in_map f key x ys)
    ∙ sym (map_cond f (nat_le (key (f x)) (key (f y))) (x ∷ y ∷ ys) (y ∷ put_in (λ z. key (f z)) x ys))

pub in_order_map : {A B : Type 0} (f : A → B) (key : B → ℕ) (xs : List A) → in_order key (map f xs) ≡ map f (in_order (λ x. key (f x)) xs)
in_order_map f key [] = refl
in_order_map {A} {B} f key (x ∷ xs) =
    ap (put_in key (f x)) (in_order_map f key xs) ∙ put_in_map f key x (in_order (λ y. key (f y)) xs)

-- # What a filter leaves stays in order

put_before : {A : Type 0} (key : A → ℕ) (x : A) (xs : List A) → FromLow key (key x) xs → put_in key x xs ≡ x ∷ xs
put_before key x [] low = refl
put_before {A} key x (y ∷ ys) low =
    ap (λ (b : Bool). cond b (x ∷ y ∷ ys) (y ∷ put_in key x ys)) (le-leb (key x) (key y) low.0)

filter_low : {A : Type 0} (key : A → ℕ) (p : A → Bool) (low : ℕ) (xs : List A) → FromLow key low xs → FromLow key low (filter p xs)
filter_low key p low [] all = tt
filter_low {A} key p low (x ∷ xs) all =
    cond_both (p x) (x ∷ filter p xs) (filter p xs) (FromLow key low) (λ held. (all.0, filter_low key p low xs all.1)) (λ denied. filter_low key p low xs all.1)

-- an element that is kept is put in among those that are kept
abbrev put_kept : {A : Type 0} → (A → ℕ) → Bool → A → List A → List A
put_kept key kept x xs = cond kept (put_in key x xs) xs

kept_front : {A : Type 0} (key : A → ℕ) (b c : Bool) (x y : A) (ys : List A) → key x ≤ key y → FromLow key (key y) ys →
    cond b (x ∷ cond c (y ∷ ys) ys) (cond c (y ∷ ys) ys) ≡ put_kept key b x (cond c (y ∷ ys) ys)
kept_front {A} key true true x y ys below low = sym (put_before key x (y ∷ ys) (below, lower key (key y) (key x) ys below low))
kept_front {A} key true false x y ys below low = sym (put_before key x ys (lower key (key y) (key x) ys below low))
kept_front key false c x y ys below low = refl

kept_behind : {A : Type 0} (key : A → ℕ) (b c : Bool) (x y : A) (ys put : List A) → nat_le (key x) (key y) ≡ false → put ≡ put_kept key b x ys →
    cond c (y ∷ put) put ≡ put_kept key b x (cond c (y ∷ ys) ys)
kept_behind {A} key true true x y ys put above is =
    ap (λ (l : List A). y ∷ l) is ∙ ap (λ (first : Bool). cond first (x ∷ y ∷ ys) (y ∷ put_in key x ys)) (sym above)
kept_behind key true false x y ys put above is = is
kept_behind {A} key false true x y ys put above is = ap (λ (l : List A). y ∷ l) is
kept_behind key false false x y ys put above is = is

filter_put : {A : Type 0} (key : A → ℕ) (p : A → Bool) (x : A) (xs : List A) → Rises key xs →
    filter p (put_in key x xs) ≡ put_kept key (p x) x (filter p xs)
filter_put key p x [] rising = refl
filter_put {A} key p x (y ∷ ys) rising =
    cond_both (nat_le (key x) (key y)) (x ∷ y ∷ ys) (y ∷ put_in key x ys) (λ (zs : List A). filter p zs ≡ put_kept key (p x) x (filter p (y ∷ ys)))
    (λ held. kept_front key (p x) (p y) x y (filter p ys) (leb-true (key x) (key y) held) (filter_low key p (key y) ys rising.0))
    (λ denied. kept_behind key (p x) (p y) x y (filter p ys) (filter p (put_in key x ys)) denied (filter_put key p x ys rising.1))

kept_order : {A : Type 0} (key : A → ℕ) (b : Bool) (x : A) (xs : List A) → put_kept key b x (in_order key xs) ≡ in_order key (cond b (x ∷ xs) xs)
kept_order key true x xs = refl
kept_order key false x xs = refl

pub filter_in_order : {A : Type 0} (key : A → ℕ) (p : A → Bool) (xs : List A) → filter p (in_order key xs) ≡ in_order key (filter p xs)
filter_in_order key p [] = refl
filter_in_order {A} key p (x ∷ xs) =
    filter_put key p x (in_order key xs) (in_order_rises key xs)
    ∙ ap (put_kept key (p x) x) (filter_in_order key p xs)
    ∙ kept_order key (p x) x (filter p xs)

pub rises_in_order : {A : Type 0} (key : A → ℕ) (xs : List A) → Rises key (in_order key xs)
rises_in_order key xs = in_order_rises key xs

pub rises_filter : {A : Type 0} (key : A → ℕ) (p : A → Bool) (xs : List A) → Rises key xs → Rises key (filter p xs)
rises_filter key p [] rising = tt
rises_filter {A} key p (x ∷ xs) rising =
    cond_both (p x) (x ∷ filter p xs) (filter p xs) (Rises key) (λ held. (filter_low key p (key x) xs rising.0, rises_filter key p xs rising.1))
    (λ denied. rises_filter key p xs rising.1)
