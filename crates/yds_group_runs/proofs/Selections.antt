-- Sums over the numbers of groups' jobs, against the sum over all jobs; and the work that is live for groups and for all.
use Rattle.yds_model.proofs.Common.{◌≡◌, ℕ, ◌*◌, ◌/◌, ◌≤◌, List, [], ◌∷◌, length, get_or, ap, refl, ◌∙◌, arith, inl, inr, cond, ◌==◌, sum_by, sum_by-cons, sum_by-append, sum_by-map, cases_eq, eq-eqb, ne_eqb, mul-le-mul_left, mul-le-mul_right, count, count-cons, Job, no_job, job_at, jobs_with, Piece, is_live, sum_by_same}
use Rattle.model_lemmas.proofs.Counted.{contained_counted}
use Rattle.base.specs.Numbers.{sum_below}
use Rattle.model_lemmas.proofs.SumsBelow.{sum_below_at_most, sum_by_grouped, sum_places, sum_below_same}
use Rattle.yds_laws.proofs.JobNumbers.{sum_by_number}
use Rattle.yds_ratios.proofs.AverageSpeeds.{window, live_work}
use Rattle.yds_cuts.specs.Groups.{AreApartIn, HaveAll}
use Rattle.yds_cuts.specs.Bounds.{WrittenGroup}
use Rattle.yds_group_runs.specs.GroupRuns.{numbers_of_written}
use Rattle.yds_group_runs.proofs.Units.{above}

-- # Numbers of jobs

-- a number counts for one that it is
one_counted : (weight : ℕ → ℕ) (number other : ℕ) → cond (number == other) (weight other) 0 ≡ cond (number == other) 1 0 * weight number
one_counted weight number other = elim (cases_eq number other) [
  | inl same ↦
      omega (
        arith,
        ap {B = ℕ} (λ b. cond b (weight other) 0) (eq-eqb number other same),
        ap {B = ℕ} (λ b. cond b 1 0 * weight number) (eq-eqb number other same),
        ap weight same,
      )
  | inr isnt ↦
      omega (
        arith,
        ap {B = ℕ} (λ b. cond b (weight other) 0) (ne_eqb number other isnt),
        ap {B = ℕ} (λ b. cond b 1 0 * weight number) (ne_eqb number other isnt),
      )
]

-- so it counts as often as it stands there
often : (weight : ℕ → ℕ) (number : ℕ) (numbers : List ℕ) → sum_by (λ other. cond (number == other) (weight other) 0) numbers ≡ count number numbers * weight number
often weight number [] = omega arith
often weight number (other ∷ numbers) =
    omega (
      arith,
      sum_by-cons (λ one. cond (number == one) (weight one) 0) other numbers,
      one_counted weight number other,
      ap (λ n. n * weight number) (count-cons number other numbers),
      often weight number numbers,
    )

module _ (amount : Job → ℕ) (jobs : List Job) (numbers : List ℕ) (apart : AreApartIn jobs numbers) where
  abbrev weight : ℕ → ℕ
  weight number = amount (job_at jobs number)

  by_numbers : sum_by weight numbers ≡ sum_below (length jobs) (λ number. count number numbers * weight number)
  by_numbers =
      sum_by_grouped (length jobs) (λ number. number) weight numbers apart.known
      ∙ sum_below_same (length jobs) (λ number. sum_by (λ other. cond (number == other) (weight other) 0) numbers) (λ number. count number numbers * weight number)
      (λ number within. often weight number numbers)

  -- different jobs have together at most what all have
  pub some_at_most : sum_by weight numbers ≤ sum_by amount jobs
  some_at_most =
      omega (
        arith,
        by_numbers,
        sum_below_at_most (length jobs) (λ number. count number numbers * weight number) weight
            (λ number within. omega (arith, mul-le-mul_right (weight number) (apart.different number))),
        sum_places amount jobs no_job,
      )

  -- and just that where none is left out
  pub all_at_least : HaveAll jobs numbers → sum_by amount jobs ≤ sum_by weight numbers
  all_at_least have =
      omega (
        arith,
        by_numbers,
        sum_below_at_most (length jobs) weight (λ number. count number numbers * weight number)
            (λ number within. omega (arith, mul-le-mul_right (weight number) (contained_counted numbers number (have number within)))),
        sum_places amount jobs no_job,
      )

-- # Groups

-- what the groups have is what their numbers have
pub groups_sum : (amount : Job → ℕ) (jobs : List Job) (groups : List WrittenGroup) →
    sum_by (λ group. sum_by amount (jobs_with jobs group.numbers)) groups ≡ sum_by (λ number. amount (job_at jobs number)) (numbers_of_written groups)
groups_sum amount jobs [] = refl
groups_sum amount jobs (group ∷ groups) =
    omega (
      arith,
      sum_by-cons (λ (one : WrittenGroup). sum_by amount (jobs_with jobs one.numbers)) group groups,
      sum_by-map (job_at jobs) amount group.numbers,
      sum_by-append (λ number. amount (job_at jobs number)) group.numbers (numbers_of_written groups),
      groups_sum amount jobs groups,
    )

-- # Live work

-- what is live of a job in a stretch
abbrev live_of : ℕ → Piece → Job → ℕ
live_of windows stretch job = cond (is_live stretch job) (windows / window job) 0 * job.work

-- of all jobs
live_is : (jobs : List Job) (windows : ℕ) (stretch : Piece) → live_work jobs windows stretch ≡ sum_by (live_of windows stretch) jobs
live_is jobs windows stretch = sum_by_number (live_of windows stretch) jobs

-- so the groups' live work is together at most that of all
pub groups_live : (jobs : List Job) (windows : ℕ) (stretch : Piece) (groups : List WrittenGroup) → AreApartIn jobs (numbers_of_written groups) →
    sum_by (λ group. live_work (jobs_with jobs group.numbers) windows stretch) groups ≤ live_work jobs windows stretch
groups_live jobs windows stretch groups apart =
    omega (
      arith,
      sum_by_same (λ group. live_work (jobs_with jobs group.numbers) windows stretch) (λ group. sum_by (live_of windows stretch) (jobs_with jobs group.numbers)) groups
          (λ k d within. live_is (jobs_with jobs (get_or groups k d).numbers) windows stretch),
      groups_sum (live_of windows stretch) jobs groups,
      some_at_most (live_of windows stretch) jobs (numbers_of_written groups) apart,
      live_is jobs windows stretch,
    )

-- # Above a speed

-- what is above a speed in each is together at most what is above it in all
pub above_together : {X : Type 0} (p q windows : ℕ) (work : X → ℕ) (xs : List X) → sum_by (λ x. above p q windows (work x)) xs ≤ above p q windows (sum_by work xs)
above_together p q windows work [] = omega arith
above_together p q windows work (x ∷ xs) =
    omega (
      arith,
      sum_by-cons (λ y. above p q windows (work y)) x xs,
      ap (λ n. q * n) (sum_by-cons work x xs),
      above_together p q windows work xs,
    )

-- and more work is above it by no less
pub above_more : (p q windows one other : ℕ) → one ≤ other → above p q windows one ≤ above p q windows other
above_more p q windows one other less = omega (arith, mul-le-mul_left q less)
