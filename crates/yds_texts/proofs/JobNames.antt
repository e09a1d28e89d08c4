-- Names in the order of their jobs: a new one has no number yet, and a known one has its own.
use Rattle.yds_model.proofs.Common.{◌≡◌, ℕ, ◌+◌, ◌<◌, false, List, [], ◌∷◌, ◌++◌, length, get_or, Some, None, refl, sym, ap, ◌∙◌, arith, position, bytes_eq, le_refl, get_or-append_seam, cases_Bool, lt-ltb, le-ltb, get_or_append_left, length-append, position_or_len_is, bytes_eq-Decides, name_at, AreDifferentNames}

-- the test tells different names apart
bytes_differ : (a b : List ℕ) → (a ≡ b → ⊥) → bytes_eq a b ≡ false
bytes_differ a b differ = grind (arith, bytes_eq, bytes_eq-Decides, cases_Bool)

-- the names before one are others
pub name_new : (names before : List (List ℕ)) (name : List ℕ) (after : List (List ℕ)) → AreDifferentNames names → before ++ name ∷ after ≡ names →
    position (λ other. bytes_eq other name) before ≡ None
name_new names before name after different is =
    let long : length names ≡ length before + length (name ∷ after) = ap length (sym is) ∙ length-append before (name ∷ after) in
    let here : name_at names (length before) ≡ name = ap (λ names. name_at names (length before)) (sym is) ∙ get_or-append_seam before name after [] in
    let other : (k : ℕ) → k < length before → bytes_eq (get_or before k []) name ≡ false =
    λ k within. bytes_differ (get_or before k []) name (λ same.
    let there : name_at names k ≡ get_or before k [] = ap (λ names. name_at names k) (sym is) ∙ get_or_append_left before (name ∷ after) [] k within in
    let same_place : k ≡ length before = different k (length before) (omega arith) (omega arith) (there ∙ same ∙ sym here) in
    omega arith) in
    rw (position_or_len_is (λ other. bytes_eq other name) before (length before) [] (le_refl (length before)) other (λ within. absurd (omega arith)), le-ltb (length before) (length before) (le_refl (length before)))
    refl

-- a name has the number of its job
pub name_known : (names : List (List ℕ)) (job : ℕ) → AreDifferentNames names → job < length names →
    position (λ other. bytes_eq other (name_at names job)) names ≡ Some job
name_known names job different known = grind (arith, bytes_differ, bytes_eq, bytes_eq-Decides, lt-ltb, position_or_len_is)
