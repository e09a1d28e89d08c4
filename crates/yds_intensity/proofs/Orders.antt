-- Rows sorted by their deadlines.
use Rattle.yds_model.proofs.Common.{◌≡◌, ℕ, zero, suc, ◌+◌, ◌<◌, ◌≤◌, false, List, [], ◌∷◌, ◌∙◌, length, get_or, map, refl, sym, ap, subst, inl, inr, add-one, arith, All, nat_cmp, is_lt, IsPermutation, IsNonDecreasingBy, IsSortedByKey, IsStableByKey, get_or-map, length-map, length-map-range_with_len, get_or-map-range_with_len, All-map, IsPermutation-map, All-permutation, ties_still_rise, cases_lt, nat_tests, Job, job_at, numbers_of}
use Rattle.yds_intensity.specs.declared.deadline_order.Due.{Due}
use Rattle.yds_intensity.specs.Due.{due_of}
use Rattle.yds_intensity.specs.DeadlineOrder.{IsDeadlineOrder}

abbrev no_due : Due
no_due = record { deadline = 0; number = 0 }

not_less : (x y : ℕ) → y ≤ x → is_lt (nat_cmp x y) ≡ false
not_less x y above = grind (arith, nat_tests)

numbers_back : (jobs : List Job) (numbers : List ℕ) → map (λ (due : Due). due.number) (map (due_of jobs) numbers) ≡ numbers
numbers_back jobs [] = refl
numbers_back jobs (n ∷ numbers) = ap (λ (ns : List ℕ). n ∷ ns) (numbers_back jobs numbers)

-- before the sort the numbers rise
numbers_sorted : (jobs : List Job) → IsSortedByKey (λ (due : Due). due.number) nat_cmp (map (due_of jobs) (numbers_of jobs))
numbers_sorted jobs k d low within =
    let all = length-map-range_with_len (due_of jobs) 0 (length jobs) in
    let here = ap (λ (due : Due). due.number) (get_or-map-range_with_len (due_of jobs) 0 (length jobs) k k d (omega arith) (omega arith)) in
    let next = ap (λ (due : Due). due.number) (get_or-map-range_with_len (due_of jobs) 0 (length jobs) (k + 1) (k + 1) d (omega arith) (omega arith)) in
    not_less (get_or (map (due_of jobs) (numbers_of jobs)) (k + 1) d).number (get_or (map (due_of jobs) (numbers_of jobs)) k d).number (omega (arith, here, next))

-- of equal deadlines the lesser number comes first
ties_rise : (dues sorted : List Due) → IsSortedByKey (λ (due : Due). due.number) nat_cmp dues → IsStableByKey (λ (due : Due). due.deadline) nat_cmp dues sorted →
    IsNonDecreasingBy (λ (due : Due). due.deadline) sorted → (i j : ℕ) (d : Due) → i ≤ j → j < length sorted →
    (get_or sorted i d).deadline ≡ (get_or sorted j d).deadline → (get_or sorted i d).number ≤ (get_or sorted j d).number
ties_rise dues sorted up stable rises i zero d before within same = let first : i ≡ 0 = omega arith in rw first (omega arith)
ties_rise dues sorted up stable rises i (suc j) d before within same = elim (cases_lt i (suc j)) [
  | inl less ↦
      let middle : (get_or sorted i d).deadline ≤ (get_or sorted j d).deadline = rises i j d (omega arith) (omega arith) in
      let last : (get_or sorted j d).deadline ≤ (get_or sorted (suc j) d).deadline = rises j (suc j) d (omega arith) within in
      let rest = ties_rise dues sorted up stable rises i j d (omega arith) (omega arith) (omega arith) in
      let next = ties_still_rise (λ (due : Due). due.number) (λ (due : Due). due.deadline) dues sorted up stable j d (omega arith) (rw add-one (omega arith)) in
      omega (arith, rest, rw add-one at next)
  | inr more ↦ let here : i ≡ suc j = omega arith in rw here (omega arith)
]

-- rows that are sorted by their deadlines are in order
pub sorted_order : (jobs : List Job) (dues sorted : List Due) (order : List ℕ) → dues ≡ map (due_of jobs) (numbers_of jobs) → IsPermutation dues sorted →
    IsNonDecreasingBy (λ (due : Due). due.deadline) sorted → IsStableByKey (λ (due : Due). due.deadline) nat_cmp dues sorted →
    order ≡ map (λ (due : Due). due.number) sorted → IsDeadlineOrder jobs order
sorted_order jobs dues sorted order are same rises stable is =
    let up : IsSortedByKey (λ (due : Due). due.number) nat_cmp dues = subst (IsSortedByKey (λ (due : Due). due.number) nat_cmp) (sym are) (numbers_sorted jobs) in
    let own : All (λ (due : Due). due.deadline ≡ (job_at jobs due.number).deadline) sorted =
    All-permutation (λ (due : Due). due.deadline ≡ (job_at jobs due.number).deadline) dues sorted same
    (subst (All (λ (due : Due). due.deadline ≡ (job_at jobs due.number).deadline)) (sym are)
    (All-map (λ (due : Due). due.deadline ≡ (job_at jobs due.number).deadline) (due_of jobs) (numbers_of jobs) (λ k d within. refl))) in
    let count : length order ≡ length sorted = ap (λ (xs : List ℕ). length xs) is ∙ length-map sorted (λ (due : Due). due.number) in
    let number : (i : ℕ) → i < length sorted → get_or order i 0 ≡ (get_or sorted i no_due).number =
    λ i within. ap (λ (xs : List ℕ). get_or xs i 0) is ∙ get_or-map (λ (due : Due). due.number) sorted i no_due 0 within in
    let deadline : (i : ℕ) → i < length sorted → (job_at jobs (get_or order i 0)).deadline ≡ (get_or sorted i no_due).deadline =
    λ i within. ap (λ (n : ℕ). (job_at jobs n).deadline) (number i within) ∙ sym (own i no_due within) in
    record {
      once = subst (λ (xs : List ℕ). IsPermutation xs order) (ap (map (λ (due : Due). due.number)) are ∙ numbers_back jobs (numbers_of jobs))
          (subst (IsPermutation (map (λ (due : Due). due.number) dues)) (sym is) (IsPermutation-map (λ (due : Due). due.number) dues sorted same));
      rising = λ i j before within.
          let inside : j < length sorted = omega arith in
          let inside_i : i < length sorted = omega arith in
          elim (cases_lt (job_at jobs (get_or order i 0)).deadline (job_at jobs (get_or order j 0)).deadline) [
            | inl less ↦ inl less
            | inr more ↦
                let equal : (job_at jobs (get_or order i 0)).deadline ≡ (job_at jobs (get_or order j 0)).deadline =
                omega (arith, deadline i inside_i, deadline j inside, rises i j no_due (omega arith) inside) in
                inr (
                  equal,
                  omega (
                    arith,
                    number i inside_i,
                    number j inside,
                    ties_rise dues sorted up stable rises i j no_due (omega arith) inside (omega (arith, equal, deadline i inside_i, deadline j inside)),
                  ),
                )
          ];
    }
