-- Lists that are made of parts or of a range, and pairs of two lists.
use Rattle.yds_model.proofs.Common.{◌≡◌, ℕ, zero, suc, ◌<◌, List, [], ◌∷◌, ◌++◌, length, get_or, refl, sym, ◌∙◌, map, arith, Some, None, Bor, Option, slice_get, IsItemAt, option_copied, All, AllZip, flat_map, range_with_len, All-nil, All-cons, All-head, All-tail, ext_get_or, slice_get_past, slice_get_read, length-map-range_with_len, get_or-map-range_with_len, All-front, All-back}

-- what holds of all elements of the parts together holds of those of a part
pub all_of_part : {X A : Type 0} (P : A → Type 0) (f : X → List A) (xs : List X) (k : ℕ) (d : X) → k < length xs → All P (flat_map f xs) → All P (f (get_or xs k d))
all_of_part P f [] k d within all = absurd (omega arith)
all_of_part P f (x ∷ xs) zero d within all = All-front P (f x) (flat_map f xs) all
all_of_part P f (x ∷ xs) (suc k) d within all = all_of_part P f xs k d (omega arith) (All-back P (f x) (flat_map f xs) all)

-- the copy of what a list lends at a place
pub copied_read : {X : Type 0} (xs : List X) (i : ℕ) (lent : Option (Bor X)) → IsItemAt xs i lent → option_copied lent ≡ slice_get xs i
copied_read xs i None item = sym (slice_get_past xs i item.3)
copied_read xs i (Some x) item = sym (slice_get_read xs (length xs) i x.now refl item.3.0 item.1)

-- equal values over a range
pub map_range_same : {X : Type 0} (d : X) (f g : ℕ → X) (n : ℕ) → ((k : ℕ) → k < n → f k ≡ g k) → map f (range_with_len 0 n) ≡ map g (range_with_len 0 n)
map_range_same d f g n same =
    ext_get_or d _ _ (length-map-range_with_len f 0 n ∙ sym (length-map-range_with_len g 0 n)) (λ i within.
    let known : i < n = omega (arith, length-map-range_with_len f 0 n) in
    get_or-map-range_with_len f 0 n i i d known (omega arith) ∙ same i known ∙ sym (get_or-map-range_with_len g 0 n i i d known (omega arith)))

-- pairs that are joined
pub AllZip-append : {X Y : Type 0} (R : X → Y → Type 0) (xs : List X) (ys : List Y) (xs' : List X) (ys' : List Y) → AllZip R xs ys →
    AllZip R xs' ys' → AllZip R (xs ++ xs') (ys ++ ys')
AllZip-append R [] [] xs' ys' h k = k
AllZip-append R [] (y ∷ ys) xs' ys' h k = absurd h
AllZip-append R (x ∷ xs) [] xs' ys' h k = absurd h
AllZip-append R (x ∷ xs) (y ∷ ys) xs' ys' h k = (h.0, AllZip-append R xs ys xs' ys' h.1 k)

pub AllZip-flat : {X Y Z : Type 0} (R : Y → Z → Type 0) (f : X → List Y) (g : X → List Z) (xs : List X) (d : X) →
    ((k : ℕ) → k < length xs → AllZip R (f (get_or xs k d)) (g (get_or xs k d))) → AllZip R (flat_map f xs) (flat_map g xs)
AllZip-flat R f g [] d each = tt
AllZip-flat R f g (x ∷ xs) d each =
    AllZip-append R (f x) (g x) (flat_map f xs) (flat_map g xs) (each 0 (omega arith)) (AllZip-flat R f g xs d (λ k within. each (suc k) (omega arith)))

pub length_zipped : {X Y : Type 0} (R : X → Y → Type 0) (xs : List X) (ys : List Y) → AllZip R xs ys → length ys ≡ length xs
length_zipped R [] [] h = refl
length_zipped R [] (y ∷ ys) h = absurd h
length_zipped R (x ∷ xs) [] h = absurd h
length_zipped R (x ∷ xs) (y ∷ ys) h = omega (arith, length_zipped R xs ys h.1)

-- the pair at a place
pub zipped_at : {X Y : Type 0} (R : X → Y → Type 0) (xs : List X) (ys : List Y) (i : ℕ) (d : X) (e : Y) → AllZip R xs ys → i < length xs →
    R (get_or xs i d) (get_or ys i e)
zipped_at R [] ys i d e h within = absurd (omega arith)
zipped_at R (x ∷ xs) [] i d e h within = absurd h
zipped_at R (x ∷ xs) (y ∷ ys) zero d e h within = h.0
zipped_at R (x ∷ xs) (y ∷ ys) (suc i) d e h within = zipped_at R xs ys i d e h.1 (omega arith)

-- pairs at each place
pub zipped_by_places : {X Y : Type 0} (R : X → Y → Type 0) (xs : List X) (ys : List Y) (d : X) (e : Y) → length ys ≡ length xs →
    ((i : ℕ) → i < length xs → R (get_or xs i d) (get_or ys i e)) → AllZip R xs ys
zipped_by_places R [] [] d e same each = tt
zipped_by_places R [] (y ∷ ys) d e same each = absurd (omega arith)
zipped_by_places R (x ∷ xs) [] d e same each = absurd (omega arith)
zipped_by_places R (x ∷ xs) (y ∷ ys) d e same each =
    (each 0 (omega arith), zipped_by_places R xs ys d e (omega arith) (λ i within. each (suc i) (omega arith)))

-- what each pair says of its second
pub all_second : {X Y : Type 0} (R : X → Y → Type 0) (P : Y → Type 0) → ((x : X) (y : Y) → R x y → P y) → (xs : List X) (ys : List Y) → AllZip R xs ys → All P ys
all_second R P says [] [] h = All-nil P
all_second R P says [] (y ∷ ys) h = absurd h
all_second R P says (x ∷ xs) [] h = absurd h
all_second R P says (x ∷ xs) (y ∷ ys) h = All-cons P y ys (says x y h.0) (all_second R P says xs ys h.1)

-- one more pair
pub all_zip_push : {A B : Type 0} (R : A → B → Type 0) (xs : List A) (ys : List B) (x : A) (y : B) → AllZip R xs ys → R x y →
    AllZip R (xs ++ x ∷ []) (ys ++ y ∷ [])
all_zip_push R xs ys x y h k = AllZip-append R xs ys (x ∷ []) (y ∷ []) h (k, tt)

-- what follows from one relation and a fact of the first elements
pub AllZip-weaker : {X Y : Type 0} (R S : X → Y → Type 0) (P : X → Type 0) → ((x : X) (y : Y) → P x → R x y → S x y) → (xs : List X) (ys : List Y) →
    All P xs → AllZip R xs ys → AllZip S xs ys
AllZip-weaker R S P f [] [] all h = tt
AllZip-weaker R S P f [] (y ∷ ys) all h = absurd h
AllZip-weaker R S P f (x ∷ xs) [] all h = absurd h
AllZip-weaker R S P f (x ∷ xs) (y ∷ ys) all h =
    (f x y (All-head P x xs all) h.0, AllZip-weaker R S P f xs ys (All-tail P x xs all) h.1)
