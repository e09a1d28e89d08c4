-- The number of a name, and what an instance keeps as a job with a new name comes.
use Rattle.yds_model.proofs.Common.{Bor, ⊎_elim, ◌≡◌, ℕ, ◌+◌, ◌<◌, ◌≤◌, Bool, true, false, cond, not, List, [], ◌∷◌, ◌++◌, Option, Some, None, length, ltb, refl, sym, ap, ◌∙◌, inl, inr, arith, subst, map, Contains, list_any, slice_index_or, prefix_len, position_or_len, position, MatchOption, bytes_eq, common_steps, cases_Bool, false≢true, ltb-false, bytes_eq-Decides, length-map, get_or-map, length_push, get_or_push, get_or_append_left, fails_before_first, position-Some, All-push, Job, IsJob, AreDifferentNames, AreNamedJobs, name_at, is_name, place_cases}
use Rattle.base.specs.declared.limits.TheConstants.{MAX_JOBS}
use Rattle.yds_instance.specs.Named.{Named, number_of}

-- # The number of a name

prefix_len-map : {X Y : Type 0} (p : Y → Bool) (f : X → Y) (xs : List X) → prefix_len p (map f xs) ≡ prefix_len (λ x. p (f x)) xs
prefix_len-map p f [] = refl
prefix_len-map p f (x ∷ xs) = ap (λ n. cond (p (f x)) (1 + n) 0) (prefix_len-map p f xs)

pub position-map : {X Y : Type 0} (p : Y → Bool) (f : X → Y) (xs : List X) → position p (map f xs) ≡ position (λ x. p (f x)) xs
position-map p f xs = rw (prefix_len-map, length-map) refl

prefix_len-same : {X : Type 0} (p q : X → Bool) → ((x : X) → p x ≡ q x) → (xs : List X) → prefix_len p xs ≡ prefix_len q xs
prefix_len-same p q same [] = refl
prefix_len-same p q same (x ∷ xs) =
    ap (λ b. cond b (1 + prefix_len p xs) 0) (same x) ∙ ap (λ n. cond (q x) (1 + n) 0) (prefix_len-same p q same xs)

bytes_eq_comm : (a b : List ℕ) → bytes_eq a b ≡ bytes_eq b a
bytes_eq_comm a b = elim (cases_Bool (bytes_eq a b)) [
  | inl same ↦ same ∙ sym ((bytes_eq-Decides b a).1 (sym ((bytes_eq-Decides a b).0 same)))
  | inr differ ↦ elim (cases_Bool (bytes_eq b a)) [
    | inl alike ↦ absurd (false≢true (sym differ ∙ (bytes_eq-Decides a b).1 (sym ((bytes_eq-Decides b a).0 alike))))
    | inr other ↦ differ ∙ sym other
  ]
]

-- as the index tests, with the name on the left
number_found : (names : List (List ℕ)) (name : List ℕ) → number_of names name ≡ position (bytes_eq name) names
number_found names name =
    ap (λ n. cond (ltb n (length names)) (Some n) None)
    (prefix_len-same (λ other. not (bytes_eq other name)) (λ other. not (bytes_eq name other)) (λ other. ap not (bytes_eq_comm other name)) names)

chosen : (b : Bool) (n : ℕ) → cond b (Some n) None ≡ None → b ≡ false
chosen true n none = cc
chosen false n none = refl

position-None : {X : Type 0} (p : X → Bool) (xs : List X) → position p xs ≡ None → length xs ≤ position_or_len p xs
position-None p xs none = ltb-false (position_or_len p xs) (length xs) (chosen (ltb (position_or_len p xs) (length xs)) (position_or_len p xs) none)

-- a name has no number exactly where no job has it
pub others_differ : (names : List (List ℕ)) (name : List ℕ) → number_of names name ≡ None → (i : ℕ) (d : List ℕ) → i < length names → bytes_eq name (slice_index_or names i d) ≡ false
others_differ names name none i d within =
    let end : length names ≤ position_or_len (bytes_eq name) names = position-None (bytes_eq name) names (sym (number_found names name) ∙ none) in
    fails_before_first (bytes_eq name) names i d (omega arith)

not_contained : (names : List (List ℕ)) (name : List ℕ) → number_of names name ≡ None → Contains names name → ⊥
not_contained names name none (i, within, is) =
    false≢true (sym (others_differ names name none i name within) ∙ (bytes_eq-Decides name (slice_index_or names i name)).1 (sym is))

pub has_name : (names : List (List ℕ)) (name : List ℕ) (number : ℕ) → number_of names name ≡ Some number → (number < length names) × (name_at names number ≡ name)
has_name names name number is =
    let found = position-Some (λ other. bytes_eq other name) names number [] is in
    (found.0, (bytes_eq-Decides (name_at names number) name).0 found.1)

pub number_says : (named : Named) (name : List ℕ) (number : Option ℕ) → AreNamedJobs named.names named.jobs → number ≡ number_of named.names name →
    MatchOption number (Contains named.names name → ⊥) (λ n. (n < length named.jobs) × (name_at named.names n ≡ name))
number_says named name None kept is = not_contained named.names name (sym is)
number_says named name (Some n) kept is =
    let found : (n < length named.names) × (name_at named.names n ≡ name) = has_name named.names name n (sym is) in (omega (arith, kept.one_name_each), found.1)

-- the job at this place has this name
pub number_at : (names : List (List ℕ)) (name : List ℕ) (i : ℕ) → AreDifferentNames names → i < length names → name_at names i ≡ name → number_of names name ≡ Some i
number_at names name i different within is = by (number_of names name) refl
  where
    by : (r : Option ℕ) → number_of names name ≡ r → number_of names name ≡ Some i
    by None none = absurd (false≢true (sym (others_differ names name none i [] within) ∙ (bytes_eq-Decides name (name_at names i)).1 (sym is)))
    by (Some j) some =
        let found : (j < length names) × (name_at names j ≡ name) = has_name names name j some in
        some ∙ ap Some (sym (different i j within found.0 (is ∙ sym found.1)))

-- what a job is named is a name
pub named_at : (names : List (List ℕ)) (jobs : List Job) (name : List ℕ) (i : ℕ) → AreNamedJobs names jobs → i < length names → name_at names i ≡ name → is_name name ≡ true
named_at names jobs name i kept within is = subst (λ name. is_name name ≡ true) is (kept.names_fit i [] within)

-- # The number as the set of names tells it

abbrev pub texts : List (Bor (List ℕ)) → List (List ℕ)
texts keys = map (λ (key : Bor (List ℕ)). key.now) keys

pub number_of_key : (keys : List (Bor (List ℕ))) (name : List ℕ) → position (λ key. bytes_eq name key.now) keys ≡ number_of (texts keys) name
number_of_key keys name = sym (position-map (bytes_eq name) (λ (key : Bor (List ℕ)). key.now) keys) ∙ sym (number_found (texts keys) name)

-- the first place where the test holds lies within the list, or is its length
first_within : {X : Type 0} (p : X → Bool) (xs : List X) → position_or_len p xs ≤ length xs
first_within p [] = omega arith
first_within p (x ∷ xs) = let rest : position_or_len p xs ≤ length xs = first_within p xs in grind (arith, common_steps, rest)

any_within : {X : Type 0} (p : X → Bool) (xs : List X) → ltb (position_or_len p xs) (length xs) ≡ list_any p xs
any_within p [] = refl
any_within p (x ∷ xs) = let rest : ltb (position_or_len p xs) (length xs) ≡ list_any p xs = any_within p xs in grind (arith, common_steps, rest)

-- a name that the set hasn't has no number, and its place is the next one
pub number_of_none : (keys : List (Bor (List ℕ))) (name : List ℕ) → list_any (λ key. bytes_eq name key.now) keys ≡ false → number_of (texts keys) name ≡ None
number_of_none keys name none =
    sym (number_of_key keys name) ∙ ap (λ b. cond b (Some (position_or_len (λ key. bytes_eq name key.now) keys)) None) (any_within (λ key. bytes_eq name key.now) keys ∙ none)

pub place_of_none : (keys : List (Bor (List ℕ))) (name : List ℕ) → list_any (λ key. bytes_eq name key.now) keys ≡ false → position_or_len (λ key. bytes_eq name key.now) keys ≡ length keys
place_of_none keys name none =
    let past : length keys ≤ position_or_len (λ key. bytes_eq name key.now) keys = ltb-false _ _ (any_within (λ key. bytes_eq name key.now) keys ∙ none) in
    let within : position_or_len (λ key. bytes_eq name key.now) keys ≤ length keys = first_within (λ key. bytes_eq name key.now) keys in
    omega arith

-- the number of one that it has is its place
pub number_of_some : (keys : List (Bor (List ℕ))) (name : List ℕ) → list_any (λ key. bytes_eq name key.now) keys ≡ true →
    number_of (texts keys) name ≡ Some (position_or_len (λ key. bytes_eq name key.now) keys)
number_of_some keys name some =
    sym (number_of_key keys name) ∙ ap (λ b. cond b (Some (position_or_len (λ key. bytes_eq name key.now) keys)) None) (any_within (λ key. bytes_eq name key.now) keys ∙ some)

-- the name of a job, in the set
pub name_of_key : (keys : List (Bor (List ℕ))) (i : ℕ) (d : Bor (List ℕ)) → i < length keys → name_at (texts keys) i ≡ (slice_index_or keys i d).now
name_of_key keys i d within = get_or-map (λ (key : Bor (List ℕ)). key.now) keys i d [] within

-- what the set was found to add: a new name last, or none
pub added_none : (keys : List (Bor (List ℕ))) (name : List ℕ) (is_new : Bool) → is_new ≡ not (list_any (λ key. bytes_eq name key.now) keys) → is_new ≡ true →
    list_any (λ key. bytes_eq name key.now) keys ≡ false
added_none keys name is_new is new = ⊎_elim (λ yes. absurd (false≢true (ap not (sym yes) ∙ sym is ∙ new))) (λ no. no) (cases_Bool (list_any (λ key. bytes_eq name key.now) keys))

pub added_some : (keys : List (Bor (List ℕ))) (name : List ℕ) (is_new : Bool) → is_new ≡ not (list_any (λ key. bytes_eq name key.now) keys) → is_new ≡ false →
    list_any (λ key. bytes_eq name key.now) keys ≡ true
added_some keys name is_new is old = ⊎_elim (λ yes. yes) (λ no. absurd (false≢true (sym old ∙ is ∙ ap not no))) (cases_Bool (list_any (λ key. bytes_eq name key.now) keys))

-- # A job with a new name comes

other_differs : (names : List (List ℕ)) (name : List ℕ) (i : ℕ) → number_of names name ≡ None → i < length names → name_at names i ≡ name → ⊥
other_differs names name i none within is =
    false≢true (sym (others_differ names name none i [] within) ∙ (bytes_eq-Decides name (name_at names i)).1 (sym is))

different_pushed : (names : List (List ℕ)) (name : List ℕ) → AreDifferentNames names → number_of names name ≡ None → AreDifferentNames (names ++ name ∷ [])
different_pushed names name different none i j i_within j_within same =
    let last : name_at (names ++ name ∷ []) (length names) ≡ name = get_or_push names name [] (length names) refl in
    let earlier : (k : ℕ) → k < length names → name_at (names ++ name ∷ []) k ≡ name_at names k = λ k within. get_or_append_left names (name ∷ []) [] k within in
    elim (place_cases i (length names) (rw length_push at i_within)) [
      | inl i_less ↦ elim (place_cases j (length names) (rw length_push at j_within)) [
        | inl j_less ↦ different i j i_less j_less (sym (earlier i i_less) ∙ same ∙ earlier j j_less)
        | inr j_last ↦ absurd (other_differs names name i none i_less (sym (earlier i i_less) ∙ same ∙ rw j_last last))
      ]
      | inr i_last ↦ elim (place_cases j (length names) (rw length_push at j_within)) [
        | inl j_less ↦ absurd (other_differs names name j none j_less (sym (earlier j j_less) ∙ sym same ∙ rw i_last last))
        | inr j_last ↦ i_last ∙ sym j_last
      ]
    ]

pub named_pushed : (names : List (List ℕ)) (jobs : List Job) (name : List ℕ) (job : Job) → AreNamedJobs names jobs → length jobs < MAX_JOBS → is_name name ≡ true → IsJob job →
    number_of names name ≡ None → AreNamedJobs (names ++ name ∷ []) (jobs ++ job ∷ [])
named_pushed names jobs name job kept room name_fits job_fits none = record {
  one_name_each = omega (arith, length_push names name, length_push jobs job, kept.one_name_each);
  few = omega (arith, length_push jobs job);
  names_fit = All-push (λ other. is_name other ≡ true) names name kept.names_fit name_fits;
  different = different_pushed names name kept.different none;
  jobs_fit = All-push IsJob jobs job kept.jobs_fit job_fits;
}
