-- Sums over the slots of a group of jobs. Each slot is weighed by how often its job stands in the group, so that such a
-- sum is one of its members' sums, and no slot has to be looked for.
use Rattle.yds_model.proofs.Common.{◌≡◌, ℕ, ◌+◌, ◌*◌, ◌<◌, ◌≤◌, ◌==◌, List, [], ◌∷◌, ◌++◌, ◌∙◌, length, get_or, arith, ap, cond, if◌then◌else◌, All, sum_by, sum_by-cons, sum_by-append, All-tail, nat_tests, add-mul, AreDifferent, count, Job, job_at, work_of, WholeSlot, work_given, sum_by-add, sum_by_same, sum_by_at_most, sum_by_zero, count-cons}

-- the sum over the slots of a group's jobs
abbrev pub group : (WholeSlot → ℕ) → List ℕ → List WholeSlot → ℕ
group f members slots = sum_by (λ slot. count slot.job members * f slot) slots

-- no members have no slots
pub group-nil : (f : WholeSlot → ℕ) (slots : List WholeSlot) → group f [] slots ≡ 0
group-nil f slots = sum_by_zero (λ slot. 0 * f slot) slots (λ k d within. omega arith)

-- one member more
pub group-cons : (f : WholeSlot → ℕ) (x : ℕ) (xs : List ℕ) (slots : List WholeSlot) →
    group f (x ∷ xs) slots ≡ sum_by (λ slot. cond (slot.job == x) 1 0 * f slot) slots + group f xs slots
group-cons f x xs slots =
    sum_by_same (λ slot. count slot.job (x ∷ xs) * f slot)
    (λ slot. cond (slot.job == x) 1 0 * f slot + count slot.job xs * f slot) slots
    (λ k d within. ap (λ n. n * f (get_or slots k d)) (count-cons (get_or slots k d).job x xs) ∙ add-mul _ _ _)
    ∙ sum_by-add (λ slot. cond (slot.job == x) 1 0 * f slot) (λ slot. count slot.job xs * f slot) slots

-- two groups together
pub group-append : (f : WholeSlot → ℕ) (xs ys : List ℕ) (slots : List WholeSlot) →
    group f (xs ++ ys) slots ≡ group f xs slots + group f ys slots
group-append f xs ys slots =
    sum_by_same (λ slot. count slot.job (xs ++ ys) * f slot)
    (λ slot. count slot.job xs * f slot + count slot.job ys * f slot) slots
    (λ k d within. ap (λ n. n * f (get_or slots k d))
    (sum_by-append (λ other. cond ((get_or slots k d).job == other) 1 0) xs ys) ∙ add-mul _ _ _)
    ∙ sum_by-add (λ slot. count slot.job xs * f slot) (λ slot. count slot.job ys * f slot) slots

-- a job's own slots are those that it counts once
own_part : (a b work : ℕ) → cond (a == b) 1 0 * work ≡ (if b == a then work else 0)
own_part a b work = grind (arith, nat_tests)

-- the slots of a group of jobs have the jobs' work, where each job is served
pub work_served : (jobs : List Job) (scale : ℕ) (slots : List WholeSlot) (members : List ℕ) →
    ((number : ℕ) → number < length jobs → work_given slots number ≡ (job_at jobs number).work * scale) →
    All (λ number. number < length jobs) members →
    group (λ slot. slot.work) members slots ≡ scale * work_of jobs members
work_served jobs scale slots [] served known = omega (arith, group-nil (λ slot. slot.work) slots)
work_served jobs scale slots (x ∷ xs) served known =
    omega (
      arith,
      group-cons (λ slot. slot.work) x xs slots,
      sum_by_same (λ slot. cond (slot.job == x) 1 0 * slot.work) (λ slot. if x == slot.job then slot.work else 0) slots
          (λ k d within. own_part (get_or slots k d).job x (get_or slots k d).work),
      served x (known 0 x (omega arith)),
      work_served jobs scale slots xs served (All-tail (λ number. number < length jobs) x xs known),
      ap (λ n. scale * n) (sum_by-cons (λ number. (job_at jobs number).work) x xs),
    )

-- what the slots give the members, together
pub given_together : (members : List ℕ) (slots : List WholeSlot) → sum_by (work_given slots) members ≡ group (λ slot. slot.work) members slots
given_together [] slots = omega (arith, group-nil (λ slot. slot.work) slots)
given_together (x ∷ xs) slots =
    omega (
      arith,
      sum_by-cons (work_given slots) x xs,
      group-cons (λ slot. slot.work) x xs slots,
      sum_by_same (λ slot. cond (slot.job == x) 1 0 * slot.work) (λ slot. if x == slot.job then slot.work else 0) slots
          (λ k d within. own_part (get_or slots k d).job x (get_or slots k d).work),
      given_together xs slots,
    )

once_at_most : (often n : ℕ) → often ≤ 1 → often * n ≤ n
once_at_most often n once = grind arith

-- is no more than all, where the members are different
pub group_at_most : (f : WholeSlot → ℕ) (members : List ℕ) (slots : List WholeSlot) → AreDifferent members → group f members slots ≤ sum_by f slots
group_at_most f members slots different =
    sum_by_at_most (λ slot. count slot.job members * f slot) f slots (λ k d within. once_at_most (count (get_or slots k d).job members) (f (get_or slots k d)) (different _))
