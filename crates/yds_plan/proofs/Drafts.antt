-- Levels on the way: each group joins the last level or makes a new one.
use Rattle.yds_model.proofs.Common.{◌≡◌, ℕ, zero, suc, ◌+◌, ◌*◌, ◌<◌, ◌≤◌, ◌==◌, List, length, sym, refl, ap, arith, inl, inr, Bool, true, false, add-one, ◌-◌, [], ◌∷◌, ◌++◌, ◌∙◌, map, get_or, set, not, cond, nat_lt, range_with_len, sum_by, cases_lt, cases_eq, ltb-true, ltb-false, eqb-true, eq-eqb, not-true, not-false, true≢false, get_or-le-sum_by, sum_by_push, sum_by_more_le, length-range_with_len, get_or-map-range_with_len, length-map-range_with_len, map-range_with_len_more, mul-pos, mul-lt-mul_of_pos_right, lt_of_mul-lt-mul_right, sum_by-mul, sum_by_same, sum_by_at_most, sum_by_zero, ext_get_or, length-set, get_or-set_same, get_or-set_other, get_or-map, get_or_past, Level, no_level, level_at}
use Rattle.fraction_lemmas.proofs.Fractions.{same_through}
use Rattle.yds_search.specs.Found.{Group, group_at, no_group}
use Rattle.yds_plan.specs.Laid.{slows_after, level_of, levels_among, together}
use Rattle.yds_timetable.proofs.Lists.{map_range_same}
use Rattle.yds_search.proofs.KeySums.{in_range, not_here, is_here, range_more, sum_of_first, cond_at_most}
use Rattle.yds_search.specs.declared.found.Group.{Group as Struct}
use Rattle.yds_search.specs.Views.{group_view}
use Rattle.yds_plan.specs.Drafts.{among, empty_level, empty_levels, joins_before, level_of_one, with_more, with_group}

-- groups with work and length, none faster than the one before
pub record AreGroups (groups : List Group) : Type 0 where
  pub some_work : (i : ℕ) → i < length groups → 1 ≤ (group_at groups i).work
  pub some_length : (i : ℕ) → i < length groups → 1 ≤ (group_at groups i).length
  pub order : (i : ℕ) → i + 1 < length groups → (group_at groups (i + 1)).work * (group_at groups i).length ≤ (group_at groups i).work * (group_at groups (i + 1)).length

-- a/b = c/d < e/f = g/h give a/b < g/h
less_between : (a b c d e f g h : ℕ) → 1 ≤ b → 1 ≤ h → a * d ≡ c * b → g * f ≡ e * h → c * f < e * d → a * h < g * b
less_between a b c d e f g h some_b some_h one two less =
    let between : c * f * (b * h) < e * d * (b * h) = mul-lt-mul_of_pos_right less (mul-pos some_b some_h) in
    let first : a * d * (f * h) ≡ c * b * (f * h) = ap (λ n. n * (f * h)) one in
    let second : g * f * (d * b) ≡ e * h * (d * b) = ap (λ n. n * (d * b)) two in
    lt_of_mul-lt-mul_right (d * f) (omega arith)

one_step : (b : Bool) → cond b 1 0 ≤ 1
one_step true = omega arith
one_step false = omega arith

falls_not : (b : Bool) (level : ℕ) → level + cond b 1 0 ≤ level → b ≡ false
falls_not true level h = absurd (omega arith)
falls_not false level h = refl

falls : (b : Bool) (level l : ℕ) → level ≤ l → l + 1 ≤ level + cond b 1 0 → (b ≡ true) × (level ≡ l)
falls true level l below above = (refl, omega arith)
falls false level l below above = absurd (omega arith)

module _ (groups : List Group) where
  pub level_rises : (i j : ℕ) → i ≤ j → level_of groups i ≤ level_of groups j
  level_rises i zero h = elim (cases_eq i 0) [
    | inl same ↦ rw same (omega arith)
    | inr other ↦ absurd (other (omega arith))
  ]
  level_rises i (suc j) h = elim (cases_lt j i) [
    | inl above ↦
        let same : i ≡ suc j = omega arith in
        rw same (omega arith)
    | inr below ↦ omega (arith, level_rises i j below)
  ]

  pub level_below : (i : ℕ) → level_of groups i ≤ i
  level_below zero = omega arith
  level_below (suc i) = omega (arith, level_below i, one_step (slows_after groups i))

  -- each number up to a level's is one
  level_found : (i l : ℕ) → l ≤ level_of groups i → (k : ℕ) × (k ≤ i) × (level_of groups k ≡ l)
  level_found zero l h = (0, omega arith, omega arith)
  level_found (suc i) l h = elim (cases_lt (level_of groups i) l) [
    | inl above ↦ (suc i, omega arith, omega (arith, one_step (slows_after groups i)))
    | inr below ↦ let found = level_found i l below in (found.0, omega (arith, found.1), found.2)
  ]

  -- and where it is less, the speed falls to the next
  pub record Falls (i l : ℕ) : Type 0 where
    pub place : ℕ
    pub before : place < i
    pub level : level_of groups place ≡ l
    pub next : level_of groups (place + 1) ≡ l + 1
    pub slower : slows_after groups place ≡ true

  fall_found : (i l : ℕ) → l + 1 ≤ level_of groups i → Falls i l
  fall_found zero l h = absurd (omega arith)
  fall_found (suc i) l h = elim (cases_lt l (level_of groups i)) [
    | inl more ↦
        let found = fall_found i l (omega arith) in
        record { place = found.place; before = omega (arith, found.before); level = found.level; next = found.next; slower = found.slower }
    | inr here ↦
        let now = falls (slows_after groups i) (level_of groups i) l here h in
        record { place = i; before = omega arith; level = now.1; next = rw (add-one) (omega (arith, now.1, ap {B = ℕ} (λ b. cond b 1 0) now.0)); slower = now.0 }
  ]

  pub among_below : (n : ℕ) → levels_among groups n ≤ n
  among_below zero = omega arith
  among_below (suc n) = omega (arith, level_below n)

  pub among_above : (n i : ℕ) → i < n → level_of groups i < levels_among groups n
  among_above zero i h = absurd (omega arith)
  among_above (suc n) i h = omega (arith, level_rises i n (omega arith))

  pub among_found : (n l : ℕ) → l < levels_among groups n → (k : ℕ) × (k < n) × (level_of groups k ≡ l)
  among_found zero l h = absurd (omega arith)
  among_found (suc n) l h =
      let found = level_found n l (omega arith) in
      (found.0, omega (arith, found.1), found.2)

  pub among_falls : (n l : ℕ) → l + 1 < levels_among groups n → (k : ℕ) × (k + 1 < n) × (level_of groups k ≡ l)
      × (level_of groups (k + 1) ≡ l + 1) × (slows_after groups k ≡ true)
  among_falls zero l h = absurd (omega arith)
  among_falls (suc n) l h =
      let found = fall_found n l (omega arith) in
      (found.place, omega (arith, found.before), found.level, found.next, found.slower)

  module _ (are : AreGroups groups) where
    -- groups of one level have one speed
    same_speed : (i j : ℕ) → i ≤ j → j < length groups → level_of groups i ≡ level_of groups j →
        (group_at groups i).work * (group_at groups j).length ≡ (group_at groups j).work * (group_at groups i).length
    same_speed i zero h within same =
        let zeroth : i ≡ 0 = omega arith in
        rw zeroth refl
    same_speed i (suc j) h within same = elim (cases_lt j i) [
      | inl above ↦
          let last : i ≡ suc j = omega arith in
          rw last refl
      | inr below ↦
          let stays : slows_after groups j ≡ false = falls_not (slows_after groups j) (level_of groups j) (omega (arith, same, level_rises i j below)) in
          let before : level_of groups i ≡ level_of groups j = omega (arith, same, ap {B = ℕ} (λ b. cond b 1 0) stays) in
          let order = rw add-one at (are.order j (omega arith)) in
          let notless = rw add-one at (ltb-false _ _ stays) in
          same_through (group_at groups i).work (group_at groups j).work (group_at groups (suc j)).work
          (group_at groups i).length (group_at groups j).length (group_at groups (suc j)).length
          (are.some_length j (omega arith)) (same_speed i j below (omega arith) before) (omega (arith, order, notless))
    ]

    pub one_speed : (i j : ℕ) → i < length groups → j < length groups → level_of groups i ≡ level_of groups j →
        (group_at groups i).work * (group_at groups j).length ≡ (group_at groups j).work * (group_at groups i).length
    one_speed i j known_i known_j same = elim (cases_lt j i) [
      | inl below ↦ sym (same_speed j i (omega arith) known_i (sym same))
      | inr above ↦ same_speed i j above known_j same
    ]

    -- and so has the level
    weighed : (i j : ℕ) → i < length groups → j < length groups → (group_at groups i).length * cond (level_of groups j == level_of groups i) (group_at groups j).work 0
        ≡ (group_at groups i).work * cond (level_of groups j == level_of groups i) (group_at groups j).length 0
    weighed i j known_i known_j = choose (level_of groups j == level_of groups i) (λ is. one_speed j i known_j known_i (eqb-true _ _ is)) where
      choose : (b : Bool) → (b ≡ true → (group_at groups j).work * (group_at groups i).length ≡ (group_at groups i).work * (group_at groups j).length) →
          (group_at groups i).length * cond b (group_at groups j).work 0 ≡ (group_at groups i).work * cond b (group_at groups j).length 0
      choose true same = omega (arith, same refl)
      choose false same = omega arith

    pub level_speed : (i : ℕ) → i < length groups → together (λ group. group.work) groups (level_of groups i) * (group_at groups i).length
        ≡ (group_at groups i).work * together (λ group. group.length) groups (level_of groups i)
    level_speed i known =
        let all = range_with_len 0 (length groups) in
        omega (
          arith,
          sum_by-mul (group_at groups i).length (λ (j : ℕ). cond (level_of groups j == level_of groups i) (group_at groups j).work 0) all,
          sum_by-mul (group_at groups i).work (λ (j : ℕ). cond (level_of groups j == level_of groups i) (group_at groups j).length 0) all,
          sum_by_same (λ j. (group_at groups i).length * cond (level_of groups j == level_of groups i) (group_at groups j).work 0)
              (λ j. (group_at groups i).work * cond (level_of groups j == level_of groups i) (group_at groups j).length 0) all
              (λ k d within. let is = in_range (length groups) k d within in rw (is.1) (weighed i k known is.0)),
        )

    -- a level has at least what one of its groups has
    pub level_has : (f : Group → ℕ) (i : ℕ) → i < length groups → f (group_at groups i) ≤ together f groups (level_of groups i)
    level_has f i known =
        let part = get_or-le-sum_by (λ (j : ℕ). cond (level_of groups j == level_of groups i) (f (group_at groups j)) 0)
        (range_with_len 0 (length groups)) i 0 (omega (arith, length-range_with_len 0 (length groups))) in
        let is = in_range (length groups) i 0 (omega (arith, length-range_with_len 0 (length groups))) in
        omega (arith, rw (is.1) at part, ap (λ b. cond b (f (group_at groups i)) 0) (eq-eqb (level_of groups i) (level_of groups i) refl))

    -- each level is slower than the one before it
    pub level_slower : (l : ℕ) → l + 1 < levels_among groups (length groups) → together (λ group. group.work) groups (l + 1) * together (λ group. group.length) groups l
        < together (λ group. group.work) groups l * together (λ group. group.length) groups (l + 1)
    level_slower l h =
        let found = among_falls (length groups) l h in
        let k = found.0 in
        let upper = rw (found.2) at (level_speed k (omega (arith, found.1))) in
        let lower = rw (found.3) at (level_speed (k + 1) found.1) in
        less_between (together (λ group. group.work) groups (l + 1)) (together (λ group. group.length) groups (l + 1))
        (group_at groups (k + 1)).work (group_at groups (k + 1)).length (group_at groups k).work (group_at groups k).length
        (together (λ group. group.work) groups l) (together (λ group. group.length) groups l)
        (omega (arith, rw (found.3) at (level_has (λ group. group.length) (k + 1) found.1), are.some_length (k + 1) found.1))
        (omega (arith, rw (found.2) at (level_has (λ group. group.length) k (omega (arith, found.1))), are.some_length k (omega (arith, found.1))))
        lower upper (ltb-true _ _ found.4)

-- values over a range, of which one is replaced
pub map_range_set : {X : Type 0} (d : X) (f g : ℕ → X) (n l : ℕ) → l < n → ((k : ℕ) → k < n → (k ≡ l → ⊥) → f k ≡ g k) →
    set (map f (range_with_len 0 n)) l (g l) ≡ map g (range_with_len 0 n)
map_range_set d f g n l below others =
    ext_get_or d _ _ (length-set (map f (range_with_len 0 n)) l (g l) ∙ length-map-range_with_len f 0 n ∙ sym (length-map-range_with_len g 0 n)) (λ i within.
    let known : i < n = omega (arith, length-set (map f (range_with_len 0 n)) l (g l), length-map-range_with_len f 0 n) in
    let there = get_or-map-range_with_len g 0 n i i d known (omega arith) in
    elim (cases_eq i l) [
      | inl same ↦ rw same (get_or-set_same (map f (range_with_len 0 n)) l (g l) d (omega (arith, length-map-range_with_len f 0 n))
          ∙ sym (get_or-map-range_with_len g 0 n l l d below (omega arith)))
      | inr other ↦ get_or-set_other (map f (range_with_len 0 n)) l i (g l) d other
          ∙ get_or-map-range_with_len f 0 n i i d known (omega arith) ∙ others i known other ∙ sym there
    ])

module _ (groups : List Group) where
  pub joining : (i : ℕ) → joins_before groups i ≡ true → level_of groups i + 1 ≡ levels_among groups i
  joining zero joins = absurd (true≢false (sym joins))
  joining (suc i) joins = omega (arith, ap {B = ℕ} (λ b. cond b 1 0) (not-true (slows_after groups i) joins))

  pub parting : (i : ℕ) → joins_before groups i ≡ false → level_of groups i ≡ levels_among groups i
  parting zero parts = refl
  parting (suc i) parts = omega (arith, ap {B = ℕ} (λ b. cond b 1 0) (not-false (slows_after groups i) parts))

  pub among_more : (f : Group → ℕ) (i l : ℕ) → among f groups (i + 1) l ≡ among f groups i l + cond (level_of groups i == l) (f (group_at groups i)) 0
  among_more f i l = grind (arith, range_more, sum_by_push)

  among_none : (f : Group → ℕ) (i l : ℕ) → levels_among groups i ≤ l → among f groups i l ≡ 0
  among_none f i l past =
      sum_by_zero (λ k. cond (level_of groups k == l) (f (group_at groups k)) 0) (range_with_len 0 i) (λ k d within.
      let at = in_range i k d within in
      rw (at.1) (not_here (level_of groups k) l (f (group_at groups k)) (λ same. omega (arith, among_above groups i k at.0))))

  among_other : (f : Group → ℕ) (i l : ℕ) → (l ≡ level_of groups i → ⊥) → among f groups i l ≡ among f groups (i + 1) l
  among_other f i l other =
      omega (arith, among_more f i l, not_here (level_of groups i) l (f (group_at groups i)) (λ same. other (sym same)))

  among_here : (f : Group → ℕ) (i : ℕ) → among f groups i (level_of groups i) + f (group_at groups i) ≡ among f groups (i + 1) (level_of groups i)
  among_here f i =
      omega (arith, among_more f i (level_of groups i), is_here (level_of groups i) (level_of groups i) (f (group_at groups i)) refl)

  level_other : (i l : ℕ) → (l ≡ level_of groups i → ⊥) → empty_level groups i l ≡ empty_level groups (i + 1) l
  level_other i l other = cc (among_other (λ group. group.work) i l other, among_other (λ group. group.length) i l other)

  level_more : (i : ℕ) → with_more (empty_level groups i (level_of groups i)) (group_at groups i) ≡ empty_level groups (i + 1) (level_of groups i)
  level_more i = cc (among_here (λ group. group.work) i, among_here (λ group. group.length) i)

  level_new : (i : ℕ) → levels_among groups i ≤ level_of groups i → level_of_one (group_at groups i) ≡ empty_level groups (i + 1) (level_of groups i)
  level_new i past =
      let work : (group_at groups i).work ≡ among (λ group. group.work) groups (i + 1) (level_of groups i) =
      omega (arith, among_here (λ group. group.work) i, among_none (λ group. group.work) i (level_of groups i) past) in
      let long : (group_at groups i).length ≡ among (λ group. group.length) groups (i + 1) (level_of groups i) =
      omega (arith, among_here (λ group. group.length) i, among_none (λ group. group.length) i (level_of groups i) past) in
      cc (work, long)

  pub empty_length : (i : ℕ) → length (empty_levels groups i) ≡ levels_among groups i
  empty_length i = length-map-range_with_len (empty_level groups i) 0 (levels_among groups i)

  joins_step : (i : ℕ) → joins_before groups i ≡ true → set (empty_levels groups i) (length (empty_levels groups i) - 1)
      (with_more (level_at (empty_levels groups i) (length (empty_levels groups i) - 1)) (group_at groups i)) ≡ empty_levels groups (i + 1)
  joins_step i joins =
      let last : length (empty_levels groups i) - 1 ≡ level_of groups i = omega (arith, empty_length i, joining i joins) in
      let here : level_at (empty_levels groups i) (level_of groups i) ≡ empty_level groups i (level_of groups i) =
      get_or-map-range_with_len (empty_level groups i) 0 (levels_among groups i) (level_of groups i) (level_of groups i) no_level
      (omega (arith, joining i joins)) (omega arith) in
      let count : levels_among groups (i + 1) ≡ levels_among groups i = rw (add-one) (omega (arith, joining i joins)) in
      rw (last, here, level_more i, count) (map_range_set no_level (empty_level groups i) (empty_level groups (i + 1)) (levels_among groups i) (level_of groups i)
      (omega (arith, joining i joins)) (λ k known other. level_other i k other))

  parts_step : (i : ℕ) → joins_before groups i ≡ false → empty_levels groups i ++ level_of_one (group_at groups i) ∷ [] ≡ empty_levels groups (i + 1)
  parts_step i parts =
      let number : level_of groups i ≡ levels_among groups i = parting i parts in
      let count : levels_among groups (i + 1) ≡ levels_among groups i + 1 = rw (add-one) (omega arith) in
      let front = map_range_same no_level (empty_level groups i) (empty_level groups (i + 1)) (levels_among groups i)
      (λ k known. level_other i k (λ same. omega arith)) in
      let next : level_of_one (group_at groups i) ≡ empty_level groups (i + 1) (levels_among groups i) =
      rw number at (level_new i (omega arith)) in
      rw (count, front, next) (sym (map-range_with_len_more (empty_level groups (i + 1)) 0 (levels_among groups i) (levels_among groups i) (omega arith)))

  with_group_cases : (i : ℕ) (b : Bool) → joins_before groups i ≡ b → with_group (empty_levels groups i) b (group_at groups i) ≡ empty_levels groups (i + 1)
  with_group_cases i true joins = joins_step i joins
  with_group_cases i false parts = parts_step i parts

  pub draft_step : (i : ℕ) → with_group (empty_levels groups i) (joins_before groups i) (group_at groups i) ≡ empty_levels groups (i + 1)
  draft_step i = with_group_cases i (joins_before groups i) refl

  -- what a level has so far, and the next group, are within what all groups have
  among_within : (f : Group → ℕ) (i l : ℕ) → i < length groups → among f groups i l + f (group_at groups i) ≤ sum_by f groups
  among_within f i l within =
      omega (
        arith,
        sum_by_at_most (λ k. cond (level_of groups k == l) (f (group_at groups k)) 0) (λ k. f (group_at groups k)) (range_with_len 0 i) (λ k d inside. cond_at_most _ _),
        sum_of_first f groups no_group i (omega arith),
        sum_by_more_le f groups i no_group within,
      )

  pub work_within : (i x : ℕ) → i < length groups → (level_at (empty_levels groups i) x).work + (group_at groups i).work ≤ sum_by (λ group. group.work) groups
  work_within i x within = elim (cases_lt x (levels_among groups i)) [
    | inl known ↦
        let here = get_or-map-range_with_len (empty_level groups i) 0 (levels_among groups i) x x no_level known (omega arith) in
        rw here (among_within (λ group. group.work) i x within)
    | inr past ↦
        let none = get_or_past (empty_levels groups i) x no_level (omega (arith, empty_length i)) in
        rw none (omega (arith, sum_by_more_le (λ group. group.work) groups i no_group within))
  ]

  pub length_within : (i x : ℕ) → i < length groups → (level_at (empty_levels groups i) x).length + (group_at groups i).length ≤ sum_by (λ group. group.length) groups
  length_within i x within = elim (cases_lt x (levels_among groups i)) [
    | inl known ↦
        let here = get_or-map-range_with_len (empty_level groups i) 0 (levels_among groups i) x x no_level known (omega arith) in
        rw here (among_within (λ group. group.length) i x within)
    | inr past ↦
        let none = get_or_past (empty_levels groups i) x no_level (omega (arith, empty_length i)) in
        rw none (omega (arith, sum_by_more_le (λ group. group.length) groups i no_group within))
  ]

-- a struct's group at a place
pub view_at : (items : List Struct) (i : ℕ) (d : Struct) → i < length items → group_at (map group_view items) i ≡ group_view (get_or items i d)
view_at items i d within = get_or-map group_view items i d no_group within

abbrev pub no_struct : Struct
no_struct = record { work = 0; length = 0 }

pub work_at : (items : List Struct) (i : ℕ) → i < length items → (group_at (map group_view items) i).work ≡ (get_or items i no_struct).work
work_at items i within = ap (λ group. group.work) (view_at items i no_struct within)

pub length_at : (items : List Struct) (i : ℕ) → i < length items → (group_at (map group_view items) i).length ≡ (get_or items i no_struct).length
length_at items i within = ap (λ group. group.length) (view_at items i no_struct within)

pub joins_at : (items : List Struct) (place : ℕ) (d : Struct) → 0 < place → place < length items →
    not (nat_lt ((get_or items place d).work * (get_or items (place - 1) d).length) ((get_or items (place - 1) d).work * (get_or items place d).length))
    ≡ joins_before (map group_view items) place
joins_at items zero d some within = absurd (omega arith)
joins_at items (suc i) d some within =
    let before : suc i - 1 ≡ i = omega arith in
    let known : i < length items = omega arith in
    rw (before, add-one, view_at items (suc i) d within, view_at items i d known) refl

-- the levels and their groups' numbers after so many groups
pub record IsDrafted (groups : List Group) (i : ℕ) (levels : List Level) (numbers : List ℕ) : Type 0 where
  pub drafts : levels ≡ empty_levels groups i
  pub numbered : numbers ≡ map (level_of groups) (range_with_len 0 i)

pub levels_next : (items : List Struct) (i : ℕ) (d : Struct) (levels next : List Level) (numbers : List ℕ) (joins : Bool) →
    i < length items → IsDrafted (map group_view items) i levels numbers → joins ≡ joins_before (map group_view items) i →
    next ≡ with_group levels joins (group_view (get_or items i d)) → next ≡ empty_levels (map group_view items) (i + 1)
levels_next items i d levels next numbers joins within drafted is_joins is_next = grind (arith, draft_step, view_at)

pub count_next : (groups : List Group) (i : ℕ) (levels : List Level) → levels ≡ empty_levels groups (i + 1) → length levels ≡ level_of groups i + 1
count_next groups i levels is = ap length is ∙ empty_length groups (i + 1) ∙ ap (levels_among groups) (add-one i)

pub numbers_next : (groups : List Group) (i : ℕ) (numbers next : List ℕ) (count : ℕ) → numbers ≡ map (level_of groups) (range_with_len 0 i) →
    count ≡ level_of groups i + 1 → next ≡ numbers ++ (count - 1) ∷ [] → next ≡ map (level_of groups) (range_with_len 0 (i + 1))
numbers_next groups i numbers next count are is_count is =
    let number : count - 1 ≡ level_of groups i = omega arith in
    is ∙ ap (λ some. some ++ (count - 1) ∷ []) are ∙ ap (λ n. map (level_of groups) (range_with_len 0 i) ++ n ∷ []) number
    ∙ sym (map-range_with_len_more (level_of groups) 0 i i (omega arith))
