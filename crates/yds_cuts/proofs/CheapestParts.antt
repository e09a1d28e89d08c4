-- Slots that are cheapest on the points in each part are so together, where no window is open at the cuts.
use Rattle.yds_model.proofs.Common.{◌≡◌, ℕ, zero, suc, ◌+◌, ◌<◌, ◌≤◌, List, [], ◌∷◌, ◌++◌, length, refl, sym, ap, ap₂, subst, ◌∙◌, arith, inl, inr, cond, cases_eq, cases_lt, zero-add, eq-eqb, ne_eqb, All, AllZip, Contains, flat_map, sum_by-cons, All-nil, All-cons, All-weaker, All-contains, length-append, get_or_append_left, get_or-append-add, count, AreDifferent, count-cons, counted_contains, Job, no_job, job_at, jobs_with, Fraction, IsFeasible, horizon, Point, IsTable, IsEnergyOf}
use Rattle.std.proofs.Common.{add_assoc}
use Rattle.yds_energy.specs.RoundingLaws.{IsLeastEnergy}
use Rattle.yds_energy.proofs.RoundedCheapest.{rounded_is_cheapest}
use Rattle.yds_energy.proofs.RoundedOnPoints.{rounded_is_feasible}
use Rattle.yds_cuts.specs.Cuts.{Part, all_jobs, part_horizons}
use Rattle.yds_cuts.specs.Groups.{AreApartIn, HaveAll, horizons}
use Rattle.yds_cuts.specs.Energies.{IsEnergyOver}
use Rattle.yds_cuts.specs.ClosedCuts.{IsCheapestOnPoints, CheapestInEachPart, IsRoundedPart, RoundedInEachPart}
use Rattle.yds_cuts.proofs.ClosedCuts.{parted_follow}
use Rattle.yds_cuts.proofs.CutEnergies.{together_feasible, energy_on_points_in_each_part}
use Rattle.yds_cuts.proofs.LeastEnergies.{least_energies_are_a_lower_bound}

-- # The numbers of jobs that stand one after another

abbrev numbers_from : ℕ → List Job → List ℕ
numbers_from n [] = []
numbers_from n (job ∷ jobs) = n ∷ numbers_from (suc n) jobs

numbers_joined : (n : ℕ) (jobs others : List Job) → numbers_from n (jobs ++ others) ≡ numbers_from n jobs ++ numbers_from (n + length jobs) others
numbers_joined n [] others = ap (λ k. numbers_from k others) (omega arith)
numbers_joined n (job ∷ jobs) others =
    ap (λ (rest : List ℕ). n ∷ rest) (numbers_joined (suc n) jobs others ∙ ap (λ k. numbers_from (suc n) jobs ++ numbers_from k others) (omega arith))

numbers_known : (n : ℕ) (jobs : List Job) → All (λ k. (n ≤ k) × (k < n + length jobs)) (numbers_from n jobs)
numbers_known n [] = All-nil (λ k. (n ≤ k) × (k < n + 0))
numbers_known n (job ∷ jobs) =
    All-cons (λ k. (n ≤ k) × (k < n + length (job ∷ jobs))) n (numbers_from (suc n) jobs) (omega arith, omega arith)
    (All-weaker (λ k. (suc n ≤ k) × (k < suc n + length jobs)) (λ k. (n ≤ k) × (k < n + length (job ∷ jobs))) (λ k is. (omega (arith, is.0), omega (arith, is.1)))
    (numbers_from (suc n) jobs) (numbers_known (suc n) jobs))

numbers_different : (n : ℕ) (jobs : List Job) → AreDifferent (numbers_from n jobs)
numbers_different n [] number = omega arith
numbers_different n (job ∷ jobs) number = elim (cases_eq number n) [
  | inl same ↦
      let none : count number (numbers_from (suc n) jobs) < 1 = fewer n number jobs same in
      omega (arith, none, count-cons number n (numbers_from (suc n) jobs), ap {B = ℕ} (λ b. cond b 1 0) (eq-eqb number n same))
  | inr other ↦ omega (
    arith,
    numbers_different (suc n) jobs number,
    count-cons number n (numbers_from (suc n) jobs),
    ap {B = ℕ} (λ b. cond b 1 0) (ne_eqb number n other),
  )
]
  where
    fewer : (n number : ℕ) (jobs : List Job) → number ≡ n → count number (numbers_from (suc n) jobs) < 1
    fewer n number jobs same = elim (cases_lt (count number (numbers_from (suc n) jobs)) 1) [
      | inl few ↦ few
      | inr some ↦
          let has = counted_contains number (numbers_from (suc n) jobs) some in
          let known = All-contains (λ k. (suc n ≤ k) × (k < suc n + length jobs)) (numbers_from (suc n) jobs) number (numbers_known (suc n) jobs) has in
          absurd (omega (arith, known.0, same))
    ]

numbers_have : (n : ℕ) (jobs : List Job) (k : ℕ) → k < length jobs → Contains (numbers_from n jobs) (n + k)
numbers_have n [] k within = absurd (omega (arith, within))
numbers_have n (job ∷ jobs) zero within = (0, omega arith, omega arith)
numbers_have n (job ∷ jobs) (suc k) within =
    let (place, inside, is) = numbers_have (suc n) jobs k (omega (arith, within)) in
    let same : suc n + k ≡ n + suc k = omega arith in
    subst (Contains (n ∷ numbers_from (suc n) jobs)) same (suc place, omega (arith, inside), is)

-- they are the jobs themselves
numbers_read : (whole : List Job) (n : ℕ) (jobs : List Job) → ((k : ℕ) → k < length jobs → job_at whole (n + k) ≡ job_at jobs k) → jobs_with whole (numbers_from n jobs) ≡ jobs
numbers_read whole n [] read = refl
numbers_read whole n (job ∷ jobs) read =
    ap₂ (λ (one : Job) (rest : List Job). one ∷ rest) (ap (job_at whole) (omega arith) ∙ read 0 (omega arith))
    (numbers_read whole (suc n) jobs (λ k within. ap (job_at whole) (omega arith) ∙ read (suc k) (omega (arith, within))))

-- # The numbers of each part's jobs

abbrev numbers_of_parts : ℕ → List Part → List (List ℕ)
numbers_of_parts n [] = []
numbers_of_parts n (part ∷ parts) = numbers_from n part.jobs ∷ numbers_of_parts (n + length part.jobs) parts

all_numbers : (n : ℕ) (parts : List Part) → flat_map (λ numbers. numbers) (numbers_of_parts n parts) ≡ numbers_from n (all_jobs parts)
all_numbers n [] = refl
all_numbers n (part ∷ parts) =
    ap (λ (rest : List ℕ). numbers_from n part.jobs ++ rest) (all_numbers (n + length part.jobs) parts) ∙ sym (numbers_joined n part.jobs (all_jobs parts))

-- what the jobs with these numbers are
module _ (whole : List Job) where
  abbrev Reads : ℕ → List Job → Type 0
  Reads n jobs = (k : ℕ) → k < length jobs → job_at whole (n + k) ≡ job_at jobs k

  reads_first : (n : ℕ) (jobs others : List Job) → Reads n (jobs ++ others) → jobs_with whole (numbers_from n jobs) ≡ jobs
  reads_first n jobs others read = numbers_read whole n jobs (λ k within.
      read k (omega (arith, within, length-append jobs others)) ∙ get_or_append_left jobs others no_job k within)

  reads_later : (n : ℕ) (jobs others : List Job) → Reads n (jobs ++ others) → Reads (n + length jobs) others
  reads_later n jobs others read k within =
      ap (job_at whole) (add_assoc n (length jobs) k) ∙ read (length jobs + k) (omega (arith, within, length-append jobs others)) ∙ get_or-append-add jobs others k no_job

  horizons_read : (n : ℕ) (parts : List Part) → Reads n (all_jobs parts) → horizons whole (numbers_of_parts n parts) ≡ part_horizons parts
  horizons_read n [] read = refl
  horizons_read n (part ∷ parts) read = omega (
    arith,
    sum_by-cons (λ numbers. horizon (jobs_with whole numbers)) (numbers_from n part.jobs) (numbers_of_parts (n + length part.jobs) parts),
    sum_by-cons (λ (part : Part). horizon part.jobs) part parts,
    ap horizon (reads_first n part.jobs (all_jobs parts) read),
    horizons_read (n + length part.jobs) parts (reads_later n part.jobs (all_jobs parts) read),
  )

  least_read : (points : List Point) (n : ℕ) (parts : List Part) (energies : List Fraction) → Reads n (all_jobs parts) →
      AllZip (λ part energy. IsCheapestOnPoints part.jobs points part.slots energy) parts energies →
      AllZip (λ numbers energy. IsLeastEnergy (jobs_with whole numbers) points energy) (numbers_of_parts n parts) energies
  least_read points n [] [] read least = tt
  least_read points n [] (energy ∷ energies) read least = absurd least
  least_read points n (part ∷ parts) [] read least = absurd least
  least_read points n (part ∷ parts) (energy ∷ energies) read least = (
    subst (λ jobs. IsLeastEnergy jobs points energy) (sym (reads_first n part.jobs (all_jobs parts) read)) least.0.least,
    least_read points (n + length part.jobs) parts energies (reads_later n part.jobs (all_jobs parts) read) least.1,
  )

-- # The laws

-- of cheapest parts each is feasible, and its energy is this
record AreCheapest (points : List Point) (parts : List Part) (energies : List Fraction) : Type 0 where
  feasible : All (λ part. IsFeasible part.jobs part.slots) parts
  energy_of : AllZip (λ part energy. IsEnergyOf part.jobs points part.slots energy) parts energies

are_cheapest : (points : List Point) (parts : List Part) (energies : List Fraction) →
    AllZip (λ part energy. IsCheapestOnPoints part.jobs points part.slots energy) parts energies → AreCheapest points parts energies
are_cheapest points [] [] cheapest = record { feasible = All-nil (λ part. IsFeasible part.jobs part.slots); energy_of = tt }
are_cheapest points [] (energy ∷ energies) cheapest = absurd cheapest
are_cheapest points (part ∷ parts) [] cheapest = absurd cheapest
are_cheapest points (part ∷ parts) (energy ∷ energies) cheapest =
    let rest = are_cheapest points parts energies cheapest.1 in
    record {
      feasible = All-cons (λ part. IsFeasible part.jobs part.slots) part parts cheapest.0.feasible rest.feasible;
      energy_of = (cheapest.0.energy_of, rest.energy_of);
    }

pub cheapest_in_each_part : CheapestInEachPart
cheapest_in_each_part points parts energies energy parted cheapest over =
    let are = are_cheapest points parts energies cheapest in
    let follow = parted_follow parts parted are.feasible in
    let whole : List Job = all_jobs parts in
    let read : Reads whole 0 whole = λ k within. ap (job_at whole) (zero-add k) in
    let same = all_numbers 0 parts in
    record {
      feasible = together_feasible parts follow are.feasible;
      energy_of = energy_on_points_in_each_part points parts energies energy follow are.feasible are.energy_of over;
      least = least_energies_are_a_lower_bound whole points (numbers_of_parts 0 parts) energies energy
          (subst (AreApartIn whole) (sym same) (record {
            known = All-weaker (λ k. (0 ≤ k) × (k < 0 + length whole)) (λ k. k < length whole) (λ k is. omega (arith, is.1)) (numbers_from 0 whole) (numbers_known 0 whole);
            different = numbers_different 0 whole;
          }))
          (inl (subst (HaveAll whole) (sym same) (λ number within. subst (Contains (numbers_from 0 whole)) (zero-add number) (numbers_have 0 whole number within))))
          (least_read whole points 0 parts energies read cheapest)
          (subst (λ own. IsEnergyOver (horizon whole) own points energies energy) (sym (horizons_read whole 0 parts read)) over);
    }

-- rounded slots of plans are cheapest in each part
rounded_cheapest : (points : List Point) (parts : List Part) (energies : List Fraction) → IsTable points → AllZip (IsRoundedPart points) parts energies →
    AllZip (λ part energy. IsCheapestOnPoints part.jobs points part.slots energy) parts energies
rounded_cheapest points [] [] table rounded = tt
rounded_cheapest points [] (energy ∷ energies) table rounded = absurd rounded
rounded_cheapest points (part ∷ parts) [] table rounded = absurd rounded
rounded_cheapest points (part ∷ parts) (energy ∷ energies) table (here, rounded) = (
  record {
    feasible = (rounded_is_feasible part.jobs points here.planned here.levels part.slots energy here.plan table here.rounding).feasible;
    energy_of = here.rounding.energy_of;
    least = rounded_is_cheapest part.jobs points here.planned here.levels part.slots energy here.plan table here.rounding;
  },
  rounded_cheapest points parts energies table rounded,
)

pub rounded_in_each_part : RoundedInEachPart
rounded_in_each_part points parts energies energy table parted rounded over =
    cheapest_in_each_part points parts energies energy parted (rounded_cheapest points parts energies table rounded) over
