-- Items once more.
use Rattle.base.proofs.Common.{◌≡◌, ◌∙◌, ℕ, ◌+◌, ◌<◌, inl, inr, cases_lt, subst, arith, get_or_append_left, get_or_push, get_or_default, List, [], ◌∷◌, ◌++◌, map, length, get_or, take, sym, ap, ap₂, map-append, take_more}

-- one more copy, by what is read of it
pub copied_more : {A B : Type 0} (read : A → B) (items all now : List A) (made item : A) (i : ℕ) → i < length items → now ≡ all ++ made ∷ [] →
    item ≡ get_or items i item → read made ≡ read item → map read all ≡ map read (take i items) → map read now ≡ map read (take (i + 1) items)
copied_more {A} {B} read items all now made item i within now_is item_is same before =
    ap (map read) now_is
    ∙ map-append read all (made ∷ [])
    ∙ ap₂ (λ (xs : List B) (x : B). xs ++ x ∷ []) before (same ∙ ap read item_is)
    ∙ sym (map-append read (take i items) (get_or items i item ∷ []))
    ∙ ap (map read) (sym (take_more items i item within))

-- what holds of one more item and of what is made of it
pub each_more : {A B : Type 0} (P : A → B → Type 0) (xs : List A) (all now : List B) (made : B) (i : ℕ) (item : A) → i < length xs → length all ≡ i →
    now ≡ all ++ made ∷ [] → item ≡ get_or xs i item → P item made → ((k : ℕ) (d : B) (e : A) → k < i → P (get_or xs k e) (get_or all k d)) →
    (k : ℕ) (d : B) (e : A) → k < i + 1 → P (get_or xs k e) (get_or now k d)
each_more {A} {B} P xs all now made i item within many now_is item_is here below k d e lower =
    subst (λ (list : List B). P (get_or xs k e) (get_or list k d)) (sym now_is) (elim (cases_lt k i) [
      | inl less ↦
          let inside : k < length all = omega arith in
          subst (λ (x : B). P (get_or xs k e) x) (sym (get_or_append_left all (made ∷ []) d k inside)) (below k d e less)
      | inr more ↦
          let same : length all ≡ k = omega arith in
          let there : i ≡ k = omega arith in
          let mine : item ≡ get_or xs k e =
          item_is ∙ ap (λ (n : ℕ). get_or xs n item) there ∙ get_or_default xs k item e (omega arith) in
          let put : made ≡ get_or (all ++ made ∷ []) k d = sym (get_or_push all made d k same) in
          subst (λ (x : B). P (get_or xs k e) x) put (subst (λ (x : A). P x made) mine here)
    ])
