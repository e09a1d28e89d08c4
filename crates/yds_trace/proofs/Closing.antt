-- Items that are made from others, one after another.
use Rattle.base.proofs.Common.{◌≡◌, List, [], ◌∷◌, ◌++◌, ◌∙◌, map, sym, ap, map-append, append-nil, append_assoc}

pub made_more : {A B F : Type 0} (f : A → B) (g : F → B) (all now : List A) (made : A) (item : F) (before rest : List F) →
    now ≡ all ++ made ∷ [] → before ≡ item ∷ rest → f made ≡ g item → (map f now ++ map g rest) ≡ (map f all ++ map g before)
made_more {A} {B} {F} f g all now made item before rest now_is before_is same =
    ap (λ (xs : List A). map f xs ++ map g rest) now_is
    ∙ ap (λ (ys : List B). ys ++ map g rest) (map-append f all (made ∷ []))
    ∙ append_assoc (map f all) (f made ∷ []) (map g rest)
    ∙ ap (λ (y : B). map f all ++ (y ∷ map g rest)) same
    ∙ ap (λ (xs : List F). map f all ++ map g xs) (sym before_is)

pub made_all : {A B F : Type 0} (f : A → B) (g : F → B) (all : List A) (rest : List F) (whole : List B) →
    rest ≡ [] → (map f all ++ map g rest) ≡ whole → map f all ≡ whole
made_all {A} {B} {F} f g all rest whole none made =
    sym (append-nil (map f all)) ∙ ap (λ (xs : List F). map f all ++ map g xs) (sym none) ∙ made
