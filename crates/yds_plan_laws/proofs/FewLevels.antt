-- A plan has no more levels than jobs with work: each level has a member, and no job with work is a member twice.
use Rattle.yds_model.proofs.Common.{◌≡◌, ℕ, ◌+◌, ◌<◌, ◌≤◌, List, [], ◌∷◌, length, get_or, refl, ap, arith, inl, inr, cond, nat_lt, All, All-tail, All-contains, cases_lt, lt-ltb, get_or-le-sum_by, sum_by, sum_by-add, sum_by_same, sum_by_at_most, count, counted_contains, Job, job_at, work_of, WrittenSlot, Level, no_level, level_at, all_members, numbers_of, IsPlan, All-from_get_or}
use Rattle.model_lemmas.proofs.Counted.{contained_counted, count_joined}
use Rattle.yds_laws.proofs.Served.{is_number, all_numbers}
use Rattle.yds_laws.proofs.JobNumbers.{sum_by_number}
use Rattle.yds_plan_laws.specs.CountLaws.{LevelsAreFew}

-- a level of some work has a member
some_member : (jobs : List Job) (work : ℕ) (members : List ℕ) → 1 ≤ work → work ≡ work_of jobs members → 1 ≤ length members
some_member jobs work [] some same = absurd (omega (arith, some, same))
some_member jobs work (number ∷ members) some same = omega arith

-- which is counted among the numbers of all jobs
member_counted_once : (jobs : List Job) (members : List ℕ) → 1 ≤ length members → All (λ number. number < length jobs) members →
    1 ≤ sum_by (λ number. count number members) (numbers_of jobs)
member_counted_once jobs [] some known = absurd (omega (arith, some))
member_counted_once jobs (number ∷ members) some known =
    let there = is_number jobs number (known 0 number (omega arith)) in
    omega (
      arith,
      get_or-le-sum_by (λ one. count one (number ∷ members)) (numbers_of jobs) there.0 number there.1,
      ap (λ one. count one (number ∷ members)) there.2,
      contained_counted (number ∷ members) number (0, omega arith, refl),
    )

-- so there are no more levels than members are counted
members_counted : (jobs : List Job) (levels : List Level) → All (λ level. 1 ≤ length level.members) levels →
    All (λ level. All (λ number. number < length jobs) level.members) levels → length levels ≤ sum_by (λ number. count number (all_members levels)) (numbers_of jobs)
members_counted jobs [] some known = omega arith
members_counted jobs (level ∷ levels) some known =
    omega (
      arith,
      sum_by_same (λ number. count number (all_members (level ∷ levels))) (λ number. count number level.members + count number (all_members levels)) (numbers_of jobs)
          (λ k d within. count_joined (get_or (numbers_of jobs) k d) level.members (all_members levels)),
      sum_by-add (λ number. count number level.members) (λ number. count number (all_members levels)) (numbers_of jobs),
      member_counted_once jobs level.members (some 0 level (omega arith)) (known 0 level (omega arith)),
      members_counted jobs levels (All-tail (λ one. 1 ≤ length one.members) level levels some)
          (All-tail (λ one. All (λ number. number < length jobs) one.members) level levels known),
    )

-- a job is counted once where it has work, and else not at all
counted_with_work : (jobs : List Job) (slots : List WrittenSlot) (levels : List Level) → IsPlan jobs slots levels → (number : ℕ) → number < length jobs →
    count number (all_members levels) ≤ cond (nat_lt 0 (job_at jobs number).work) 1 0
counted_with_work jobs slots levels plan number known = elim (cases_lt (count number (all_members levels)) 1) [
  | inl none ↦ omega (arith, none)
  | inr some ↦ omega (
    arith,
    (plan.proper.members number known).at_most_once,
    ap {B = ℕ} (λ b. cond b 1 0) (lt-ltb 0 (job_at jobs number).work
        (All-contains (λ one. 1 ≤ (job_at jobs one).work) (all_members levels) number plan.members_work (counted_contains number (all_members levels) some))),
  )
]

-- the law: so the levels are no more than the jobs with work
pub levels_are_few : LevelsAreFew
levels_are_few jobs slots levels plan =
    omega (
      arith,
      members_counted jobs levels
          (All-from_get_or (λ level. 1 ≤ length level.members) levels no_level (λ i within.
          some_member jobs (level_at levels i).work (level_at levels i).members (plan.proper.well_formed.positive i no_level within).0 (plan.proper.sums i within).work))
          plan.proper.well_formed.known,
      sum_by_at_most (λ number. count number (all_members levels)) (λ number. cond (nat_lt 0 (job_at jobs number).work) 1 0) (numbers_of jobs)
          (all_numbers (λ number. count number (all_members levels) ≤ cond (nat_lt 0 (job_at jobs number).work) 1 0) jobs (counted_with_work jobs slots levels plan)),
      sum_by_number (λ (job : Job). cond (nat_lt 0 job.work) 1 0) jobs,
    )
