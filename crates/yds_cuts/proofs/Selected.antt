-- The slots of some of the jobs, out of a schedule of all: they are a feasible schedule of those jobs.
use Rattle.yds_model.proofs.Common.{◌≡◌, ℕ, zero, suc, ◌*◌, ◌<◌, ◌==◌, List, [], ◌∷◌, length, get_or, map, refl, sym, ap, subst, ◌∙◌, arith, Bool, true, not, cond, if◌then◌else◌, inl, inr, nat_le, le-leb, leb-true, false≢true, cases_Bool, cases_eq, eq-eqb, ne_eqb, All, Contains, filter, filter_passes, get_or-map, length-map, All-map, All-filter, All-contains, Contains-get_or, sum_by-cons, count, AreDifferent, count-cons, counted_contains, Job, no_job, job_at, jobs_with, WholeSlot, work_given, RunFrom, IsInWindow, IsFeasibleAt, part_other}
use Rattle.model_lemmas.proofs.Counted.{contained_counted}
use Rattle.model_lemmas.proofs.Runs.{run_earlier}
use Rattle.yds_cuts.proofs.Renamed.{renamed, run_renamed, window_renamed, given_renamed}

-- # Places among different numbers

-- the place of a number
abbrev pub place_of : List ℕ → ℕ → ℕ
place_of [] number = 0
place_of (one ∷ numbers) number = if one == number then 0 else suc (place_of numbers number)

-- a number that stands in the list is at its place
place_found : (numbers : List ℕ) (number : ℕ) → Contains numbers number → (place_of numbers number < length numbers) × (get_or numbers (place_of numbers number) 0 ≡ number)
place_found [] number has = absurd (omega (arith, has.1))
place_found (one ∷ numbers) number has = elim (cases_eq one number) [
  | inl same ↦ rw (eq-eqb one number same) (omega arith, same)
  | inr other ↦
      let later : Contains numbers number = later_has numbers one number other has in
      let rest = place_found numbers number later in
      rw (ne_eqb one number other) (omega (arith, rest.0), rest.1)
]
  where
    later_has : (numbers : List ℕ) (one number : ℕ) → (one ≡ number → ⊥) → Contains (one ∷ numbers) number → Contains numbers number
    later_has numbers one number other (zero, within, is) = absurd (other is)
    later_has numbers one number other (suc k, within, is) = (k, omega (arith, within), is)

-- each place has a number of its own
pub one_place : (numbers : List ℕ) (i k : ℕ) → AreDifferent numbers → i < length numbers → k < length numbers → get_or numbers i 0 ≡ get_or numbers k 0 → i ≡ k
one_place [] i k different within inside same = absurd (omega (arith, within))
one_place (one ∷ numbers) zero zero different within inside same = refl
one_place (one ∷ numbers) zero (suc k) different within inside same =
    absurd (omega (
      arith,
      different one,
      count-cons one one numbers,
      ap {B = ℕ} (λ b. cond b 1 0) (eq-eqb one one refl),
      contained_counted numbers one (subst (Contains numbers) (sym same) (Contains-get_or numbers k 0 (omega (arith, inside)))),
    ))
one_place (one ∷ numbers) (suc i) zero different within inside same =
    absurd (omega (
      arith,
      different one,
      count-cons one one numbers,
      ap {B = ℕ} (λ b. cond b 1 0) (eq-eqb one one refl),
      contained_counted numbers one (subst (Contains numbers) same (Contains-get_or numbers i 0 (omega (arith, within)))),
    ))
one_place (one ∷ numbers) (suc i) (suc k) different within inside same =
    ap suc (one_place numbers i k (λ number. omega (arith, different number, count-cons number one numbers)) (omega (arith, within)) (omega (arith, inside)) same)

-- # A part of a schedule of all jobs

-- slots of the jobs, in their windows and one at a time, that give these jobs their work
pub record Serves (jobs : List Job) (scale : ℕ) (numbers : List ℕ) (slots : List WholeSlot) : Type 0 where
  pub order : RunFrom 0 slots
  pub windows : All (IsInWindow jobs scale) slots
  pub served : All (λ number. work_given slots number ≡ (job_at jobs number).work * scale) numbers

-- the slot is of one of these jobs, or isn't
abbrev pub is_of : List ℕ → ℕ → Bool
is_of numbers number = nat_le 1 (count number numbers)

abbrev pub isnt_of : List ℕ → ℕ → Bool
isnt_of numbers number = not (is_of numbers number)

-- the slots whose jobs pass a test
abbrev pub slots_of : (ℕ → Bool) → List WholeSlot → List WholeSlot
slots_of test slots = filter (λ slot. test slot.job) slots

module _ (test : ℕ → Bool) where
  run_of : (start : ℕ) (slots : List WholeSlot) → RunFrom start slots → RunFrom start (slots_of test slots)
  run_of start [] run = tt
  run_of start (slot ∷ slots) run =
      let rest = run_of slot.to slots run.2 in
      elim (cases_Bool (test slot.job)) [
        | inl kept ↦ rw kept (run.0, run.1, rest)
        | inr fails ↦ rw fails (run_earlier start slot.to (slots_of test slots) (omega (arith, run.0, run.1)) rest)
      ]

  given_of_kept : (number : ℕ) (slots : List WholeSlot) → test number ≡ true → work_given (slots_of test slots) number ≡ work_given slots number
  given_of_kept number [] passes = refl
  given_of_kept number (slot ∷ slots) passes =
      let rest = given_of_kept number slots passes in
      elim (cases_Bool (test slot.job)) [
        | inl kept ↦ rw kept (omega (
          arith,
          rest,
          sum_by-cons (λ (one : WholeSlot). if number == one.job then one.work else 0) slot slots,
          sum_by-cons (λ (one : WholeSlot). if number == one.job then one.work else 0) slot (slots_of test slots),
        ))
        | inr fails ↦ rw fails (omega (
          arith,
          rest,
          sum_by-cons (λ (one : WholeSlot). if number == one.job then one.work else 0) slot slots,
          part_other number slot.job slot.work (λ same. absurd (false≢true (sym fails ∙ ap test (sym same) ∙ passes))),
        ))
      ]

  -- what passes serves the jobs that pass
  pub kept_serve : (jobs : List Job) (scale : ℕ) (numbers others : List ℕ) (slots : List WholeSlot) → Serves jobs scale numbers slots →
      ((number : ℕ) → Contains others number → Contains numbers number × (test number ≡ true)) → Serves jobs scale others (slots_of test slots)
  kept_serve jobs scale numbers others slots serves pass = record {
    order = run_of 0 slots serves.order;
    windows = All-filter (λ slot. test slot.job) (IsInWindow jobs scale) slots serves.windows;
    served = λ k d within.
        let one = pass (get_or others k d) (Contains-get_or others k d within) in
        given_of_kept (get_or others k d) slots one.1
        ∙ All-contains (λ number. work_given slots number ≡ (job_at jobs number).work * scale) numbers (get_or others k d) serves.served one.0;
  }

-- # The jobs of a list of numbers

-- the slots of these jobs, which are told by their places among them
abbrev pub selected : List ℕ → List WholeSlot → List WholeSlot
selected numbers slots = map (renamed (place_of numbers)) (slots_of (is_of numbers) slots)

-- a number passes where it stands in the list
pub passes_of : (numbers : List ℕ) (number : ℕ) → Contains numbers number → is_of numbers number ≡ true
passes_of numbers number has = le-leb 1 (count number numbers) (contained_counted numbers number has)

pub of_passes : (numbers : List ℕ) (number : ℕ) → is_of numbers number ≡ true → Contains numbers number
of_passes numbers number passes = counted_contains number numbers (leb-true 1 (count number numbers) passes)

-- so they are a feasible schedule of the jobs
pub selected_feasible : (jobs : List Job) (scale : ℕ) (numbers : List ℕ) (slots : List WholeSlot) → AreDifferent numbers → Serves jobs scale numbers slots →
    IsFeasibleAt (jobs_with jobs numbers) scale (selected numbers slots)
selected_feasible jobs scale numbers slots different serves =
    let own : List WholeSlot = slots_of (is_of numbers) slots in
    let place : ℕ → ℕ = place_of numbers in
    let are : All (λ slot. Contains numbers slot.job) own = λ k d within. of_passes numbers _ (filter_passes (λ (slot : WholeSlot). is_of numbers slot.job) slots k d within) in
    let read = λ (k : ℕ) (within : k < length numbers).
    let same : job_at (jobs_with jobs numbers) k ≡ job_at jobs (get_or numbers k 0) = get_or-map (job_at jobs) numbers k 0 no_job within in same in
    let many = length-map numbers (job_at jobs) in
    record {
      one_at_a_time = run_renamed place 0 own (run_of (is_of numbers) 0 slots serves.order);
      in_windows = All-map (IsInWindow (jobs_with jobs numbers) scale) (renamed place) own (λ k d within.
          let slot = get_or own k d in
          let found = place_found numbers slot.job (are k d within) in
          window_renamed place jobs (jobs_with jobs numbers) scale slot (omega (arith, found.0, many)) (read (place slot.job) found.0 ∙ ap (job_at jobs) found.1)
          (All-filter (λ (slot : WholeSlot). is_of numbers slot.job) (IsInWindow jobs scale) slots serves.windows k d within));
      served = λ number within.
          let inside : number < length numbers = omega (arith, within, many) in
          let job = get_or numbers number 0 in
          let has : Contains numbers job = Contains-get_or numbers number 0 inside in
          given_renamed place number job own (λ k d kept.
          let slot = get_or own k d in
          let found = place_found numbers slot.job (are k d kept) in (
            λ at. sym found.1 ∙ ap (λ i. get_or numbers i 0) at,
            λ same. one_place numbers (place slot.job) number different found.0 inside (found.1 ∙ same),
          ))
          ∙ given_of_kept (is_of numbers) job slots (passes_of numbers job has)
          ∙ All-contains (λ number. work_given slots number ≡ (job_at jobs number).work * scale) numbers job serves.served has
          ∙ ap (λ (job : Job). job.work * scale) (sym (read number inside));
    }
