-- The place of each job in an order of all jobs.
use Rattle.yds_model.proofs.Common.{◌≡◌, ℕ, suc, ◌+◌, ◌<◌, List, length, set, get_or, map, slice_index, ◌∙◌, refl, sym, subst, ap, arith, cond, ◌==◌, All, Contains, range_with_len, IsPermutation, IsNonDecreasingBy, cases_lt, cases_eq, eq-eqb, get_or_default, get_or-set_same, get_or-set_other, sum_by-IsPermutation, Contains-permutation, All-permutation, length_permutation, length-range_with_len, get_or-range_with_len, length-map-range_with_len, get_or-map-range_with_len, Job, numbers_of, sum_by-map}
use Rattle.base.specs.Numbers.{sum_below}
use Rattle.yds_edf.specs.Serving.{IsDueBefore, AreTies}
use Rattle.yds_edf.specs.declared.due_order.Due.{Due}
use Rattle.yds_edf.specs.declared.pending.PendingJobs.{PendingJobs}
use Rattle.yds_edf.specs.DueOrder.{due_job, due_jobs, no_due, due_at, place_in_order, IsDueJob}
use Rattle.yds_edf.specs.Ranked.{AreRanked}
use Rattle.model_lemmas.proofs.SumsBelow.{sum_below_same, sum_below_term, sum_below_front, sum_below_one, sum_places}

-- the places of the first entries are told
abbrev pub ArePlacesTo : List Due → List ℕ → ℕ → Type 0
ArePlacesTo order places end = (place : ℕ) → place < end → slice_index places (due_at order place).job ≡ place

module _ (jobs : List Job) (ties : List ℕ) (order : List Due) (same : IsPermutation (due_jobs jobs ties) order) where
  -- there are as many entries as jobs
  pub all_placed : length order ≡ length jobs
  all_placed = length_permutation (due_jobs jobs ties) order same ∙ length-map-range_with_len (due_job jobs ties) 0 (length jobs)

  -- each is that of a job
  pub all_due : All (IsDueJob jobs ties) order
  all_due = All-permutation (IsDueJob jobs ties) (due_jobs jobs ties) order same (λ i d within.
      let below : i < length jobs = omega (arith, within, length-map-range_with_len (due_job jobs ties) 0 (length jobs)) in
      let is : get_or (map (due_job jobs ties) (range_with_len 0 (length jobs))) i d ≡ due_job jobs ties i =
      get_or-map-range_with_len (due_job jobs ties) 0 (length jobs) i i d below (omega arith) in
      subst (IsDueJob jobs ties) (sym is) (record { known = below; release = refl; deadline = refl; tie = refl }))

  pub entry_at : (place : ℕ) → place < length order → IsDueJob jobs ties (due_at order place)
  entry_at place within = all_due place no_due within

  -- each job stands somewhere
  pub stands_at : (job : ℕ) → job < length jobs → (place : ℕ) × (place < length order) × ((due_at order place).job ≡ job)
  stands_at job known =
      let there : Contains (due_jobs jobs ties) (due_job jobs ties job) = (
        job,
        omega (arith, known, length-map-range_with_len (due_job jobs ties) 0 (length jobs)),
        get_or-map-range_with_len (due_job jobs ties) 0 (length jobs) job job (due_job jobs ties job) known (omega arith),
      ) in
      let place = Contains-permutation (due_jobs jobs ties) order (due_job jobs ties job) same there in
      (place.0, place.1, ap (λ (due : Due). due.job) (get_or_default order place.0 no_due (due_job jobs ties job) place.1 ∙ place.2))

  -- a sum over the jobs, by their places
  pub sum_in_order : (f : ℕ → ℕ) → sum_below (length order) (λ place. f (due_at order place).job) ≡ sum_below (length jobs) f
  sum_in_order f =
      sym (sum_places (λ (due : Due). f due.job) order no_due)
      ∙ sum_by-IsPermutation (λ (due : Due). f due.job) (due_jobs jobs ties) order same
      ∙ sum_by-map (due_job jobs ties) (λ (due : Due). f due.job) (numbers_of jobs)
      ∙ sum_places f (range_with_len 0 (length jobs)) 0
      ∙ ap (λ n. sum_below n (λ i. f (get_or (range_with_len 0 (length jobs)) i 0))) (length-range_with_len 0 (length jobs))
      ∙ sum_below_same (length jobs) (λ i. f (get_or (range_with_len 0 (length jobs)) i 0)) f
      (λ i within. ap f (let is : get_or (range_with_len 0 (length jobs)) i 0 ≡ i = omega (arith, get_or-range_with_len 0 (length jobs) i 0 within) in is))

  -- no job stands twice
  apart_before : (one other : ℕ) → one < other → other < length order → (due_at order one).job ≡ (due_at order other).job → ⊥
  apart_before one other before within both =
      let job = (due_at order other).job in
      let count : ℕ → ℕ = λ place. cond ((due_at order place).job == job) 1 0 in
      let first : count one ≡ 1 = ap {B = ℕ} (λ b. cond b 1 0) (eq-eqb (due_at order one).job job both) in
      let second : count other ≡ 1 = ap {B = ℕ} (λ b. cond b 1 0) (eq-eqb job job refl) in
      omega (
        arith,
        sum_below_term other one count before,
        sum_below_front (suc other) (length order) count (omega (arith, within)),
        sum_in_order (λ number. cond (number == job) 1 0),
        sum_below_one (length jobs) job 1 (entry_at other within).known,
        first,
        second,
      )

  pub apart : (one other : ℕ) → one < length order → other < length order → (due_at order one).job ≡ (due_at order other).job → one ≡ other
  apart one other first second both = grind (arith, apart_before, cases_eq, cases_lt)

  -- # By deadline and tie

  module _ (small : All (λ tie. tie < 4294967296) ties) (all_tied : length ties ≡ length jobs) (rising : IsNonDecreasingBy place_in_order order) where
    small_tie : (place : ℕ) (d : Due) → place < length order → (get_or order place d).tie < 4294967296
    small_tie place d within = grind (arith, all_due)

    pub deadlines_rise : IsNonDecreasingBy (λ due. due.deadline) order
    deadlines_rise i j d upto within = omega (arith, rising i j d upto within, small_tie j d within)

    pub in_turn : AreTies ties → (place other : ℕ) → place < other → other < length order →
        IsDueBefore jobs (slice_index ties) (due_at order place).job (due_at order other).job
    in_turn told place other before within = grind (arith, apart, cases_lt, deadlines_rise, entry_at, slice_index, small_tie)

  -- # Their places are told

  pub one_place_more : (places : List ℕ) (end job : ℕ) → length places ≡ length jobs →
      end < length order → job ≡ (due_at order end).job → ArePlacesTo order places end → ArePlacesTo order (set places job end) (end + 1)
  one_place_more places end job long here is before place within = grind (arith, apart, cases_eq, entry_at, get_or-set_other, get_or-set_same, set, slice_index)

module _ {jobs : List Job} {ties : List ℕ} {pending : PendingJobs} (ranked : AreRanked jobs ties pending) where
  -- each job has its place
  pub placed_at : (job : ℕ) → job < length jobs →
      (slice_index pending.places.items job < length pending.order.items)
      × ((due_at pending.order.items (slice_index pending.places.items job)).job ≡ job)
  placed_at job known =
      let place = stands_at jobs ties pending.order.items ranked.order.same job known in
      let is : slice_index pending.places.items job ≡ place.0 = ap (slice_index pending.places.items) (sym place.2) ∙ ranked.places place.0 place.1 in
      rw is (place.1, place.2)

  -- no two have the same
  pub places_apart : (one other : ℕ) → one < length jobs → other < length jobs →
      slice_index pending.places.items one ≡ slice_index pending.places.items other → one ≡ other
  places_apart one other first second both =
      sym (placed_at one first).1 ∙ ap (λ place. (due_at pending.order.items place).job) both ∙ (placed_at other second).1

-- other units leave their places as they are
pub ranked_with : {jobs : List Job} {ties : List ℕ} {pending : PendingJobs} → AreRanked jobs ties pending → (units : List ℕ) → length units ≡ length pending.units →
    AreRanked jobs ties (record pending { units = units })
ranked_with ranked units long = grind arith
