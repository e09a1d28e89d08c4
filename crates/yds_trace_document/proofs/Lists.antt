-- Lists as they are kept and as they are read.
use Rattle.base.proofs.Common.{◌≡◌, ℕ, suc, ◌+◌, ◌||◌, Bool, not, cond, List, [], ◌∷◌, ◌++◌, map, reverse, length, ◌∙◌, refl, sym, ap, ap₂, arith, nat_lt, Some, None, list_any, sum_by, sum_by-cons, count_by, position, prefix_len, enumerate_from, length-map, map-append, reverse-append}

pub map_reverse : {A B : Type 0} (f : A → B) (xs : List A) → map f (reverse xs) ≡ reverse (map f xs)
map_reverse f [] = refl
map_reverse {A} {B} f (x ∷ xs) =
    ap (map f) (reverse-append (x ∷ []) xs)
    ∙ map-append f (reverse xs) (x ∷ [])
    ∙ ap (λ (rest : List B). rest ++ f x ∷ []) (map_reverse f xs)
    ∙ sym (reverse-append (f x ∷ []) (map f xs))

pub list_any_map : {A B : Type 0} (p : B → Bool) (f : A → B) (xs : List A) → list_any p (map f xs) ≡ list_any (λ x. p (f x)) xs
list_any_map p f [] = refl
list_any_map p f (x ∷ xs) = ap (λ (b : Bool). p (f x) || b) (list_any_map p f xs)

pub sum_by_map : {A B : Type 0} (g : B → ℕ) (f : A → B) (xs : List A) → sum_by g (map f xs) ≡ sum_by (λ x. g (f x)) xs
sum_by_map g f [] = refl
sum_by_map g f (x ∷ xs) = simp sum_by-cons (omega (arith, sum_by_map g f xs))

pub count_by_map : {A B : Type 0} (p : B → Bool) (f : A → B) (xs : List A) → count_by p (map f xs) ≡ count_by (λ x. p (f x)) xs
count_by_map p f xs = sum_by_map (λ y. cond (p y) 1 0) f xs

prefix_len_map : {A B : Type 0} (p : B → Bool) (f : A → B) (xs : List A) → prefix_len p (map f xs) ≡ prefix_len (λ x. p (f x)) xs
prefix_len_map p f [] = refl
prefix_len_map p f (x ∷ xs) = ap (λ (n : ℕ). cond (p (f x)) (1 + n) 0) (prefix_len_map p f xs)

pub position_map : {A B : Type 0} (p : B → Bool) (f : A → B) (xs : List A) → position p (map f xs) ≡ position (λ x. p (f x)) xs
position_map p f xs =
    ap₂ (λ (m n : ℕ). cond (nat_lt m n) (Some m) None) (prefix_len_map (λ y. not (p y)) f xs) (length-map xs f)

-- one more element, numbered
pub enumerate_push : {A : Type 0} (n : ℕ) (xs : List A) (x : A) → enumerate_from n (xs ++ x ∷ []) ≡ enumerate_from n xs ++ (n + length xs, x) ∷ []
enumerate_push {A} n [] x = ap (λ (m : ℕ). let pair : ℕ × A = (m, x) in pair ∷ []) (let e : n ≡ n + 0 = omega arith in e)
enumerate_push {A} n (y ∷ ys) x =
    ap (λ (rest : List (ℕ × A)). let pair : ℕ × A = (n, y) in pair ∷ rest)
    (enumerate_push (n + 1) ys x ∙ ap (λ (m : ℕ). let pair : ℕ × A = (m, x) in enumerate_from (n + 1) ys ++ pair ∷ []) (let e : n + 1 + length ys ≡ n + suc (length ys) = omega arith in e))
