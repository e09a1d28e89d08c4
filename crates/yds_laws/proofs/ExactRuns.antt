-- Runs that never rounded: Average Rate does whole parts of jobs, and Optimal Available has the greatest quotient's speed.
use Rattle.yds_model.proofs.Common.{◌≡◌, ℕ, zero, suc, ◌+◌, ◌-◌, ◌*◌, ◌%◌, ◌<◌, ◌≤◌, ◌⊎◌, max, List, [], ◌∷◌, length, map, ◌∙◌, refl, sym, ap, subst, arith, inl, inr, cond, Bool, true, false, count_by, sum_by, nat_le, ◌==◌, ◌&&◌, ◌||◌, not, fold, All, Any, filter, list_any, list_all, cases_lt, cases_Bool, lt-ltb, eqb-true, true≢false, get_or_default, All-nil, All-cons, All-head, All-tail, All-filter, All-weaker, All-from_get_or, sum_by-cons, mul-pos, mul-sub, mul-le-mul_right, eq_of_mul-eq-mul_right, div-lt_iff_lt-mul, Job, WholeSlot, slots_at, Piece, stretches, div_up, slots_in, FillsAtSpeed, ServesCapacity, IsRunAt, is_live, term_numerator, term_of, rounds_term, average_rate_rounds, due_units, pending_deadlines, asked, units_asked, optimal_available, optimal_available_rounds, work_in, stretch_at}
use Rattle.model_lemmas.proofs.Runs.{run_forward}
use Rattle.yds_events.specs.Stretch.{no_stretch}
use Rattle.yds_events.proofs.Neighbours.{stretch_forward}
use Rattle.yds_laws.specs.RunLaws.{HasWholeTerms, HasGreatestSpeed, OptimalAvailableIsExact}

-- # Nothing that is counted none times holds

pub none_counted : {X : Type 0} (p : X → Bool) (xs : List X) → 0 ≡ count_by p xs → All (λ x. p x ≡ false) xs
none_counted p [] none = All-nil (λ x. p x ≡ false)
none_counted p (x ∷ xs) none =
    let counted = sum_by-cons (λ y. cond (p y) 1 0) x xs in
    All-cons (λ y. p y ≡ false) x xs
    (elim (cases_Bool (p x)) [
      | inr fails ↦ fails
      | inl passes ↦ absurd (omega (arith, none, counted, ap {B = ℕ} (λ b. cond b 1 0) passes))
    ])
    (none_counted p xs (omega (arith, none, counted)))

-- # What a stretch that serves its capacity does

filled_work : (capacity per from to : ℕ) (slots : List WholeSlot) → All (λ slot. slot.from < slot.to) slots → FillsAtSpeed capacity per from to slots →
    (from ≤ to) × (sum_by (λ slot. slot.work) slots * per ≡ capacity * (to - from))
filled_work capacity per from to [] forward fills =
    let none : to - from ≡ 0 = omega (arith, fills) in
    (omega (arith, fills), omega (arith, ap (λ n. capacity * n) none))
filled_work capacity per from to (slot ∷ slots) forward fills =
    let rest = filled_work capacity per slot.to to slots (All-tail (λ s. s.from < s.to) slot slots forward) fills.2 in
    let here = All-head (λ s. s.from < s.to) slot slots forward in
    let split : to - from ≡ (slot.to - slot.from) + (to - slot.to) = omega (arith, rest.0, here, fills.0) in (
      omega (arith, rest.0, here, fills.0),
      omega (
        arith,
        ap (λ n. n * per) (sum_by-cons (λ (s : WholeSlot). s.work) slot slots),
        rest.1,
        fills.1,
        ap (λ n. capacity * n) split,
      ),
    )

module _ (jobs : List Job) (grid scale : ℕ) (some_grid : 1 ≤ grid) (some_scale : 1 ≤ scale) (capacity : Piece → ℕ) (slots : List WholeSlot)
    (run : IsRunAt jobs grid scale capacity slots) (k : ℕ) (here : k < length (stretches jobs)) where
  abbrev st : Piece
  st = stretch_at jobs k

  served : (units : ℕ) → capacity st ≡ units → ServesCapacity grid scale units st slots → grid * work_in scale st slots ≡ units
  served zero is nothing = ap (λ some. grid * sum_by (λ slot. slot.work) some) nothing ∙ omega arith
  served (suc units) is fills =
      let forward = All-filter (λ slot. nat_le (st.from * scale) slot.from && nat_le slot.to (st.to * scale)) (λ slot. slot.from < slot.to) slots
      (run_forward 0 slots run.feasible.one_at_a_time) in
      let filled = filled_work (suc units) (grid * (st.to - st.from) * scale) (st.from * scale) (st.to * scale) (slots_in scale st slots) forward fills in
      let long : 1 ≤ (st.to - st.from) * scale = mul-pos (omega (arith, stretch_forward jobs k here)) some_scale in
      eq_of_mul-eq-mul_right ((st.to - st.from) * scale) long (grid * work_in scale st slots) (suc units)
      (let length_is : st.to * scale - st.from * scale ≡ (st.to - st.from) * scale = omega (arith, mul-sub scale st.to st.from) in
      omega (arith, filled.1, ap (λ n. suc units * n) length_is))

  pub does_capacity : grid * work_in scale st slots ≡ capacity st
  does_capacity = served (capacity st) refl (subst (λ stretch. ServesCapacity grid scale (capacity stretch) stretch slots)
      (get_or_default (stretches jobs) k st no_stretch here) (run.each k st here))

-- # Average Rate

whole_quotient : (x y : ℕ) → (x % y == 0) ≡ true → 1 ≤ y → div_up x y * y ≡ x
whole_quotient x y whole some = grind arith

-- where none of those that pass one test passes another
none_any_more : {X : Type 0} (q : X → Bool) (b : Bool) (x : X) (xs : List X) → list_any q (cond b (x ∷ xs) xs) ≡ false →
    (b ≡ true → q x ≡ false) × (list_any q xs ≡ false)
none_any_more q false x xs none = (λ passes. absurd (true≢false (sym passes)), none)
none_any_more q true x xs none = elim (cases_Bool (q x)) [
  | inl holds ↦ absurd (true≢false (sym (ap (λ b. b || list_any q xs) holds) ∙ none))
  | inr fails ↦ (λ passes. fails, sym (ap (λ b. b || list_any q xs) fails) ∙ none)
]

none_any : {X : Type 0} (p q : X → Bool) (xs : List X) → list_any q (filter p xs) ≡ false → All (λ x. p x ≡ true → q x ≡ false) xs
none_any p q [] none = All-nil (λ x. p x ≡ true → q x ≡ false)
none_any p q (x ∷ xs) none =
    let both = none_any_more q (p x) x (filter p xs) none in
    All-cons (λ y. p y ≡ true → q y ≡ false) x xs both.0 (none_any p q xs both.1)

not_not : (b : Bool) → not b ≡ false → b ≡ true
not_not true is = refl
not_not false is = absurd (true≢false is)

-- a job's window takes time where a stretch lies in it
window_long : (stretch : Piece) (job : Job) → is_live stretch job ≡ true → 1 ≤ job.deadline - job.release
window_long stretch job live = grind arith

pub whole_terms : (jobs : List Job) (grid : ℕ) (stretch : Piece) → average_rate_rounds jobs grid stretch ≡ false → HasWholeTerms jobs grid stretch
whole_terms jobs grid stretch none =
    All-weaker (λ job. is_live stretch job ≡ true → rounds_term grid stretch job ≡ false)
    (λ job. is_live stretch job ≡ true → term_of grid stretch job * (job.deadline - job.release) ≡ term_numerator grid stretch job)
    (λ job fails live. whole_quotient (term_numerator grid stretch job) (job.deadline - job.release) (not_not _ (fails live)) (window_long stretch job live))
    jobs (none_any (is_live stretch) (rounds_term grid stretch) jobs none)

-- # Optimal Available

up_bound : (x y : ℕ) → 1 ≤ y → x ≤ div_up x y * y
up_bound x y some =
    let high : x + (y - 1) < (div_up x y + 1) * y = (div-lt_iff_lt-mul {k = y} {x = x + (y - 1)} {y = div_up x y + 1} some).0 (omega arith) in
    omega (arith, high)

fold_from : (a : ℕ) (xs : List ℕ) → a ≤ fold max a xs
fold_from a [] = omega arith
fold_from a (x ∷ xs) = omega (arith, fold_from (max a x) xs)

fold_over : (f : ℕ → ℕ) (a : ℕ) (xs : List ℕ) → All (λ x. f x ≤ fold max a (map f xs)) xs
fold_over f a [] = All-nil (λ x. f x ≤ a)
fold_over f a (x ∷ xs) = All-cons (λ y. f y ≤ fold max (max a (f x)) (map f xs)) x xs (omega (arith, fold_from (max a (f x)) (map f xs))) (fold_over f (max a (f x)) xs)

-- some element fails where not all pass
some_fails : {X : Type 0} (p : X → Bool) (xs : List X) → list_all p xs ≡ false → Any (λ x. p x ≡ false) xs
some_fails p [] none = absurd (true≢false none)
some_fails p (x ∷ xs) none = elim (cases_Bool (p x)) [
  | inr fails ↦ (0, x, omega arith, refl, fails)
  | inl passes ↦
      let rest = some_fails p xs (sym (ap (λ b. b && list_all p xs) passes) ∙ none) in
      (suc rest.0, rest.1, omega (arith, rest.2), rest.3, rest.4)
]

any_weaker : {X : Type 0} (P Q : X → Type 0) → ((x : X) → P x → Q x) → (xs : List X) → Any P xs → Any Q xs
any_weaker P Q f xs (k, x, within, is, holds) = (k, x, within, is, f x holds)

module _ (jobs : List Job) (grid scale : ℕ) (some_scale : 1 ≤ scale) (slots : List WholeSlot) (stretch : Piece) where
  abbrev units : ℕ
  units = units_asked jobs grid scale slots stretch

  abbrev short : ℕ → Bool
  short deadline = not (due_units jobs grid scale slots stretch deadline * (stretch.to - stretch.from) == units * (scale * (deadline - stretch.from)))

  most_asked : All (λ deadline. stretch.from < deadline → due_units jobs grid scale slots stretch deadline * (stretch.to - stretch.from)
      ≤ units * (scale * (deadline - stretch.from))) (pending_deadlines jobs scale slots stretch)
  most_asked = All-weaker (λ deadline. asked jobs grid scale slots stretch deadline ≤ units)
      (λ deadline. stretch.from < deadline → due_units jobs grid scale slots stretch deadline * (stretch.to - stretch.from) ≤ units * (scale * (deadline - stretch.from)))
      (λ deadline most later.
      let some : 1 ≤ scale * (deadline - stretch.from) = mul-pos some_scale (omega (arith, later)) in
      omega (
        arith,
        up_bound (due_units jobs grid scale slots stretch deadline * (stretch.to - stretch.from)) (scale * (deadline - stretch.from)) some,
        mul-le-mul_right (scale * (deadline - stretch.from)) most,
      ))
      (pending_deadlines jobs scale slots stretch) (fold_over (asked jobs grid scale slots stretch) 0 (pending_deadlines jobs scale slots stretch))

  just_asked : optimal_available_rounds jobs grid scale slots stretch ≡ false → (units ≡ 0)
      ⊎ Any (λ deadline. due_units jobs grid scale slots stretch deadline * (stretch.to - stretch.from) ≡ units * (scale * (deadline - stretch.from)))
      (pending_deadlines jobs scale slots stretch)
  just_asked none = elim (cases_lt 0 units) [
    | inr nothing ↦ inl (omega (arith, nothing))
    | inl some ↦ inr (any_weaker (λ deadline. short deadline ≡ false)
        (λ deadline. due_units jobs grid scale slots stretch deadline * (stretch.to - stretch.from) ≡ units * (scale * (deadline - stretch.from)))
        (λ deadline fails. eqb-true _ _ (not_not _ fails)) (pending_deadlines jobs scale slots stretch)
        (some_fails short (pending_deadlines jobs scale slots stretch)
        (sym (ap (λ b. b && list_all short (pending_deadlines jobs scale slots stretch)) (lt-ltb 0 units some)) ∙ none)))
  ]

-- the law of Optimal Available
pub optimal_available_is_exact : OptimalAvailableIsExact
optimal_available_is_exact jobs grid slots some run = record {
  solid = run.run.solid;
  holds = λ scale is.
      let whole = slots_at scale slots in
      let none = none_counted (optimal_available_rounds jobs grid scale whole) (stretches jobs) (run.rounds.holds scale is) in
      All-from_get_or (HasGreatestSpeed jobs grid scale whole) (stretches jobs) no_stretch (λ k here. record {
        does = does_capacity jobs grid scale some is.positive (optimal_available jobs grid scale whole) whole (run.run.holds scale is) k here;
        most = most_asked jobs grid scale is.positive whole (stretch_at jobs k);
        attained = just_asked jobs grid scale is.positive whole (stretch_at jobs k) (none k no_stretch here);
      });
}
