-- Rows of the first of some threads: one changes, or one comes.
use Rattle.base.proofs.Common.{◌≡◌, ℕ, zero, suc, ◌+◌, ◌<◌, ◌≤◌, ◌==◌, Bool, false, List, [], ◌∷◌, ◌++◌, length, map, take, set, Option, Some, None, refl, sym, ap, ap₂, subst, ◌∙◌, arith, eqb-false, ne_eqb, or_parts, position, position-Some, take_all, take-append-le, map-append, length-append, eqb-true, get_or, lt-ltb, cases_lt, inl, inr, cond, not, or_from, length-map, length-take, cases_Bool, get_or-map, map-set}
use Rattle.std.specs.Prelude.{nat_eq, slice_get}
use Rattle.std.specs.List.{AllByRecursion, IsDistinct, list_any, position_or_len}
use Rattle.std.proofs.lemmas.Map.Keys.{IsDistinct-head, IsDistinct-tail}
use Rattle.std.proofs.lemmas.Option.{slice_get-get_or, slice_get_within}
use Rattle.yds_trace_threads.specs.Kept.{IsPlace}

-- f and g tell the same of each thread but one
abbrev pub AgreeBut : {A : Type 0} → ℕ → (ℕ → A) → (ℕ → A) → Type 0
AgreeBut pid f g = (other : ℕ) → (pid == other) ≡ false → g other ≡ f other

abbrev Absent : ℕ → List ℕ → Type 0
Absent pid pids = AllByRecursion (λ other. (pid == other) ≡ false) pids

pub turned : (m n : ℕ) → (m == n) ≡ false → (n == m) ≡ false
turned m n apart = ne_eqb n m (λ same. eqb-false m n apart (sym same))

-- what each has, the one at a place has
at_place : (P : ℕ → Type 0) (numbers : List ℕ) (place number : ℕ) → AllByRecursion P numbers → slice_get numbers place ≡ Some number → P number
at_place P [] place number all is = let no : None ≡ Some number = is in absurd cc
at_place P (first ∷ numbers) zero number all is = let same : first ≡ number = cc in subst P same all.0
at_place P (first ∷ numbers) (suc place) number all is = at_place P numbers place number all.1 is

absent_from_any : (pid : ℕ) (pids : List ℕ) → list_any (nat_eq pid) pids ≡ false → Absent pid pids
absent_from_any pid [] none = tt
absent_from_any pid (other ∷ pids) none =
    let parts = or_parts (pid == other) (list_any (nat_eq pid) pids) none in (parts.0, absent_from_any pid pids parts.1)

same_rows : {A : Type 0} (f g : ℕ → A) (pid n : ℕ) (pids : List ℕ) → AgreeBut pid f g → Absent pid pids → map g (take n pids) ≡ map f (take n pids)
same_rows f g pid zero pids agree absent = refl
same_rows f g pid (suc n) [] agree absent = refl
same_rows {A} f g pid (suc n) (other ∷ pids) agree absent =
    ap₂ (λ (row : A) (rows : List A). row ∷ rows) (agree other absent.0) (same_rows f g pid n pids agree absent.1)

-- # Where the thread has a row

pub changed_row : {A : Type 0} (f g : ℕ → A) (pid n : ℕ) (pids : List ℕ) (place : ℕ) → AgreeBut pid f g → IsDistinct nat_eq pids → slice_get pids place ≡ Some pid → place < n
    → map g (take n pids) ≡ set (map f (take n pids)) place (g pid)
changed_row f g pid zero pids place agree different at within = absurd (omega (arith, within))
changed_row f g pid (suc n) [] place agree different at within = let no : None ≡ Some pid = at in absurd cc
changed_row {A} f g pid (suc n) (first ∷ pids) zero agree different at within =
    let same : first ≡ pid = cc in
    ap₂ (λ (row : A) (rows : List A). row ∷ rows) (ap g same)
    (same_rows f g pid n pids agree (subst (λ (number : ℕ). Absent number pids) same (IsDistinct-head nat_eq first pids different)))
changed_row {A} f g pid (suc n) (first ∷ pids) (suc place) agree different at within =
    ap₂ (λ (row : A) (rows : List A). row ∷ rows)
    (agree first (turned first pid (at_place (λ other. (first == other) ≡ false) pids place pid (IsDistinct-head nat_eq first pids different) at)))
    (changed_row f g pid n pids place agree (IsDistinct-tail nat_eq first pids different) at (omega (arith, within)))

-- # Where it has none

passed_row : {A : Type 0} (f g : ℕ → A) (pid n : ℕ) (pids : List ℕ) (place : ℕ) → AgreeBut pid f g → IsDistinct nat_eq pids → slice_get pids place ≡ Some pid → n ≤ place
    → map g (take n pids) ≡ map f (take n pids)
passed_row f g pid zero pids place agree different at behind = refl
passed_row f g pid (suc n) [] place agree different at behind = refl
passed_row f g pid (suc n) (first ∷ pids) zero agree different at behind = absurd (omega (arith, behind))
passed_row {A} f g pid (suc n) (first ∷ pids) (suc place) agree different at behind =
    ap₂ (λ (row : A) (rows : List A). row ∷ rows)
    (agree first (turned first pid (at_place (λ other. (first == other) ≡ false) pids place pid (IsDistinct-head nat_eq first pids different) at)))
    (passed_row f g pid n pids place agree (IsDistinct-tail nat_eq first pids different) at (omega (arith, behind)))

pub absent_row : {A : Type 0} (f g : ℕ → A) (pid n : ℕ) (pids : List ℕ) → AgreeBut pid f g → list_any (nat_eq pid) pids ≡ false
    → map g (take n pids) ≡ map f (take n pids)
absent_row f g pid n pids agree none = same_rows f g pid n pids agree (absent_from_any pid pids none)

-- Behind so many rows as are kept there is none.
pub unkept_row : {A : Type 0} (f g : ℕ → A) (pid n : ℕ) (pids : List ℕ) (place : ℕ) (rows : List A) → AgreeBut pid f g → IsDistinct nat_eq pids → slice_get pids place ≡ Some pid
    → rows ≡ map f (take n pids) → length rows ≤ place → rows ≡ map g (take n pids)
unkept_row f g pid n pids place rows agree different at is behind =
    is ∙ sym (passed_row f g pid n pids place agree different at
    (omega (arith, behind, ap length is, length-map (take n pids) f, length-take n pids, slice_get_within pids place pid at)))

pub kept_row : {A : Type 0} (f g : ℕ → A) (pid n : ℕ) (pids : List ℕ) (place : ℕ) (rows : List A) → AgreeBut pid f g → IsDistinct nat_eq pids → slice_get pids place ≡ Some pid
    → rows ≡ map f (take n pids) → place < length rows → set rows place (g pid) ≡ map g (take n pids)
kept_row {A} f g pid n pids place rows agree different at is within =
    ap (λ (l : List A). set l place (g pid)) is
    ∙ sym (changed_row f g pid n pids place agree different at
    (omega (arith, within, ap length is, length-map (take n pids) f, length-take n pids)))

at_row : {A : Type 0} (f : ℕ → A) (pid n : ℕ) (pids : List ℕ) (place : ℕ) (d : A) → slice_get pids place ≡ Some pid → place < n → get_or (map f (take n pids)) place d ≡ f pid
at_row f pid zero pids place d at within = absurd (omega (arith, within))
at_row f pid (suc n) [] place d at within = let no : None ≡ Some pid = at in absurd cc
at_row f pid (suc n) (first ∷ pids) zero d at within = let same : first ≡ pid = cc in ap f same
at_row f pid (suc n) (first ∷ pids) (suc place) d at within = at_row f pid n pids place d at (omega (arith, within))

-- what is kept of one thread changes, and so does its row
pub set_row : {K A : Type 0} (view : K → A) (f g : ℕ → A) (pid n : ℕ) (pids : List ℕ) (place : ℕ) (kept : List K) (old new : K) (change : A → A) → AgreeBut pid f g
    → IsDistinct nat_eq pids → slice_get pids place ≡ Some pid → map view kept ≡ map f (take n pids) → place < length kept → old ≡ get_or kept place old
    → view new ≡ change (view old) → g pid ≡ change (f pid) → map view (set kept place new) ≡ map g (take n pids)
set_row {K} {A} view f g pid n pids place kept old new change agree different at is within read now then =
    let long : place < length (map view kept) = omega (arith, within, length-map kept view) in
    let few : place < n = omega (arith, long, ap length is, length-map (take n pids) f, length-take n pids) in
    let row : view old ≡ f pid =
    ap view read ∙ sym (get_or-map view kept place old (view old) within)
    ∙ ap (λ (rows : List A). get_or rows place (view old)) is ∙ at_row f pid n pids place (view old) at few in
    map-set view kept place new
    ∙ ap (λ (one : A). set (map view kept) place one) (now ∙ ap change row ∙ sym then)
    ∙ kept_row f g pid n pids place (map view kept) agree different at is long

-- # A new row

pub pushed_row : {A : Type 0} (f : ℕ → A) (pid n : ℕ) (pids : List ℕ) (rows : List A) → rows ≡ map f (take n pids) → length pids < n
    → rows ++ f pid ∷ [] ≡ map f (take n (pids ++ pid ∷ []))
pushed_row {A} f pid n pids rows is few =
    ap (λ (l : List A). l ++ f pid ∷ []) (is ∙ ap (map f) (take_all n pids (omega (arith, few))))
    ∙ sym (map-append f pids (pid ∷ []))
    ∙ ap (map f) (sym (take_all n (pids ++ pid ∷ []) (omega (arith, few, length-append pids (pid ∷ [])))))

pub no_new_row : {A : Type 0} (f : ℕ → A) (pid n : ℕ) (pids : List ℕ) (rows : List A) → rows ≡ map f (take n pids) → n ≤ length pids
    → rows ≡ map f (take n (pids ++ pid ∷ []))
no_new_row f pid n pids rows is many = is ∙ ap (map f) (sym (take-append-le n pids (pid ∷ []) many))

-- # Places

none_passes : (test : ℕ → Bool) (pids : List ℕ) → length pids ≤ position_or_len test pids → list_any test pids ≡ false
none_passes test [] all = refl
none_passes test (first ∷ pids) all = elim (cases_Bool (test first)) [
  | inl held ↦ absurd (omega (arith, all, ap (λ (c : Bool). cond (not c) (1 + position_or_len test pids) 0) held))
  | inr denied ↦ or_from (test first) (list_any test pids) denied
      (none_passes test pids (omega (arith, all, ap (λ (c : Bool). cond (not c) (1 + position_or_len test pids) 0) denied)))
]

pub place_of_new : (test : ℕ → Bool) (pids : List ℕ) → list_any test pids ≡ false → position_or_len test pids ≡ length pids
place_of_new test [] none = refl
place_of_new test (first ∷ pids) none =
    let parts = or_parts (test first) (list_any test pids) none in
    ap (λ (c : Bool). cond (not c) (1 + position_or_len test pids) 0) parts.0 ∙ omega (arith, place_of_new test pids parts.1)

pub no_place : (pid : ℕ) (pids : List ℕ) → position (nat_eq pid) pids ≡ None → list_any (nat_eq pid) pids ≡ false
no_place pid pids none = elim (cases_lt (position_or_len (nat_eq pid) pids) (length pids)) [
  | inl within ↦
      (let no : Some (position_or_len (nat_eq pid) pids) ≡ None =
      sym (ap (λ (b : Bool). cond b (Some (position_or_len (nat_eq pid) pids)) None) (lt-ltb (position_or_len (nat_eq pid) pids) (length pids) within)) ∙ none in absurd cc)
  | inr past ↦ none_passes (nat_eq pid) pids past
]

pub some_place : (pid : ℕ) (pids : List ℕ) (place : ℕ) → position (nat_eq pid) pids ≡ Some place → slice_get pids place ≡ Some pid
some_place pid pids place is =
    let found = position-Some (nat_eq pid) pids place 0 is in
    slice_get-get_or pids place 0 found.0 ∙ ap Some (sym (eqb-true pid (get_or pids place 0) found.1))

pub found_place : (pid : ℕ) (pids : List ℕ) (place : Option ℕ) → place ≡ position (nat_eq pid) pids → IsPlace pids pid place
found_place pid pids None is = no_place pid pids (sym is)
found_place pid pids (Some place) is = some_place pid pids place (sym is)
