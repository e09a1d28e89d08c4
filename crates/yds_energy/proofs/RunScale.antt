-- The runs of the policies are free of scale, and so is what is served in stretches.
use Rattle.yds_model.proofs.Common.{◌≡◌, ℕ, zero, suc, ◌-◌, ◌*◌, ◌<◌, ◌≤◌, List, [], ◌∷◌, ◌++◌, map, get_or, length, refl, ap, sym, ◌∙◌, arith, count_by, ◌↔◌, mul-zero, mul-pos, fun_ext, map-append, length-map, get_or-map, All-map, Job, job_at, WholeSlot, work_given, no_slot, slot_at, Piece, stretches, LiesIn, IsUncut, MayRun, EarliestAfter, IsServedInStretches, pending_at, slots_in, FillsAtSpeed, ServesCapacity, IsRunAt, average_rate, asked, optimal_available, optimal_available_rounds, top_capacity, sum_by-mul}
use Rattle.model_lemmas.proofs.Scale.{finer, finer_work, feasible_finer, feasible_coarser}
use Rattle.model_lemmas.proofs.RoundedUp.{rounded_up_same}
use Rattle.yds_energy.proofs.Finer.{order_of_multiples, factor_out, factor_grouped, factor_of_difference, same_both, at_most_test, some_test, same_test, factor_of_lesser, filter_finer, slots_in_finer, none_both, IsFreeOfScale}

-- # What is served in stretches

-- a job that may run may run in finer parts, and the other way round
may_run_both : (jobs : List Job) (k scale : ℕ) (before : List WholeSlot) (time number : ℕ) → 1 ≤ k →
    MayRun jobs (k * scale) (k * time) (map (finer k) before) number ↔ MayRun jobs scale time before number
may_run_both jobs k scale before time number some =
    omega (
      arith,
      finer_work k before number,
      order_of_multiples k ((job_at jobs number).release * scale) time some,
      order_of_multiples k (work_given before number) ((job_at jobs number).work * scale) some,
    )

-- so is a slot that lies in a stretch
lies_both : (k scale : ℕ) (slot : WholeSlot) (stretch : Piece) → 1 ≤ k → LiesIn (k * scale) (finer k slot) stretch ↔ LiesIn scale slot stretch
lies_both k scale slot stretch some = omega (arith, order_of_multiples k (stretch.from * scale) slot.from some, order_of_multiples k slot.to (stretch.to * scale) some)

-- slots come in the order of deadlines
earliest_free : (jobs : List Job) (a b scale : ℕ) (before slots : List WholeSlot) → 1 ≤ a → 1 ≤ b →
    EarliestAfter jobs (a * scale) (map (finer a) before) (map (finer a) slots) → EarliestAfter jobs (b * scale) (map (finer b) before) (map (finer b) slots)
earliest_free jobs a b scale before [] some more earliest = tt
earliest_free jobs a b scale before (slot ∷ slots) some more (due, later) = (
  record {
    may_run = (may_run_both jobs b scale before slot.from slot.job more).1 ((may_run_both jobs a scale before slot.from slot.job some).0 due.may_run);
    first = λ other inside may. due.first other inside
        ((may_run_both jobs a scale before slot.from other some).1 ((may_run_both jobs b scale before slot.from other more).0 may));
  },
  rw (← map-append (finer b) before (slot ∷ [])) (earliest_free jobs a b scale (before ++ slot ∷ []) slots some more (rw (map-append (finer a) before (slot ∷ [])) later)),
)

-- the finer slot at a place
finer_read : (k : ℕ) (slots : List WholeSlot) (i : ℕ) → i < length slots → slot_at (map (finer k) slots) i ≡ finer k (slot_at slots i)
finer_read k slots i within = get_or-map (finer k) slots i no_slot no_slot within

-- what is served in stretches
pub served_free : (jobs : List Job) → IsFreeOfScale (IsServedInStretches jobs)
served_free jobs a b scale slots some more positive served = record {
  earliest_first = earliest_free jobs a b scale [] slots some more served.earliest_first;
  uncut = All-map (IsUncut jobs (b * scale)) (finer b) slots (λ k d within.
      let slot = get_or slots k d in
      let (place, stretch, inside, is, lies) = rw (get_or-map (finer a) slots k d (finer a d) within) at (served.uncut k (finer a d) (omega (arith, within, length-map slots (finer a)))) in
      (place, stretch, inside, is, (lies_both b scale slot stretch more).1 ((lies_both a scale slot stretch some).0 lies)));
  once = λ i j order inside.
      let second : j < length slots = omega (arith, inside, length-map slots (finer b)) in
      let first : i < length slots = omega (arith, order, second) in
      let lies = λ (slot : WholeSlot) (stretch : Piece) (is : LiesIn (b * scale) (finer b slot) stretch).
      (lies_both a scale slot stretch some).1 ((lies_both b scale slot stretch more).0 is) in
      rw (finer_read b slots i first, finer_read b slots j second) (λ same k stretch within one other.
      (rw (finer_read a slots i first, finer_read a slots j second) at (served.once i j order (omega (arith, second, length-map slots (finer a)))))
      same k stretch within (lies _ _ one) (lies _ _ other));
}

-- # What a stretch serves

-- slots run from one time to another, at one speed
fills_both : (k capacity per from to : ℕ) (slots : List WholeSlot) → 1 ≤ k →
    FillsAtSpeed (k * capacity) (k * per) (k * from) (k * to) (map (finer k) slots) ↔ FillsAtSpeed capacity per from to slots
fills_both k capacity per from to [] some = same_both k some from to
fills_both k capacity per from to (slot ∷ slots) some =
    simp (fills_both k capacity per slot.to to slots some, same_both k some, factor_of_difference k, factor_out k, factor_grouped k) (λ fills. fills, λ fills. fills)

-- a capacity that isn't 0 is served where its slots fill the stretch
serves_some : (grid scale capacity : ℕ) (stretch : Piece) (slots : List WholeSlot) → 1 ≤ capacity →
    ServesCapacity grid scale capacity stretch slots
    ≡ FillsAtSpeed capacity (grid * (stretch.to - stretch.from) * scale) (stretch.from * scale) (stretch.to * scale) (slots_in scale stretch slots)
serves_some grid scale zero stretch slots more = absurd (omega arith)
serves_some grid scale (suc capacity) stretch slots more = refl

-- a stretch serves so much
serves_both : (k grid scale capacity : ℕ) (stretch : Piece) (slots : List WholeSlot) → 1 ≤ k →
    ServesCapacity grid (k * scale) (k * capacity) stretch (map (finer k) slots) ↔ ServesCapacity grid scale capacity stretch slots
serves_both k grid scale zero stretch slots some =
    rw (mul-zero k, slots_in_finer k scale stretch slots some) (none_both k (slots_in scale stretch slots))
serves_both k grid scale (suc capacity) stretch slots some =
    rw (serves_some grid (k * scale) (k * suc capacity) stretch (map (finer k) slots) (mul-pos some (omega arith)), slots_in_finer k scale stretch slots some)
    (simp (factor_out k) (fills_both k (suc capacity) _ _ _ (slots_in scale stretch slots) some))

-- # Runs

-- a policy's capacities are k times as much in parts that are k times as fine
abbrev IsScaled : (ℕ → List WholeSlot → Piece → ℕ) → Type 0
IsScaled capacity = (k scale : ℕ) (slots : List WholeSlot) (stretch : Piece) → 1 ≤ k → capacity (k * scale) (map (finer k) slots) stretch ≡ k * capacity scale slots stretch

-- so its runs are free of scale
run_free : (jobs : List Job) (grid : ℕ) (capacity : ℕ → List WholeSlot → Piece → ℕ) → IsScaled capacity →
    IsFreeOfScale (λ scale whole. IsRunAt jobs grid scale (capacity scale whole) whole)
run_free jobs grid capacity scaled a b scale slots some more positive run = record {
  feasible = feasible_finer jobs b scale slots more (feasible_coarser jobs a scale slots some run.feasible);
  served = served_free jobs a b scale slots some more positive run.served;
  few = omega (arith, run.few, length-map slots (finer a), length-map slots (finer b));
  each = λ i other within.
      let stretch = get_or (stretches jobs) i other in
      let units = capacity scale slots stretch in
      rw (scaled b scale slots stretch more) ((serves_both b grid scale units stretch slots more).1
      ((serves_both a grid scale units stretch slots some).0 (rw (scaled a scale slots stretch some) at (run.each i other within))));
}

module _ (jobs : List Job) (k scale : ℕ) (some : 1 ≤ k) where
  -- work that is pending
  pending_finer : (slots : List WholeSlot) (time job : ℕ) →
      pending_at jobs (k * scale) (map (finer k) slots) time job ≡ k * pending_at jobs scale slots time job
  pending_finer slots time job = simp (filter_finer, factor_out k, at_most_test k some, finer_work, factor_of_difference k)

  -- each deadline asks for as many units
  asked_finer : (grid : ℕ) (slots : List WholeSlot) (stretch : Piece) →
      asked jobs grid (k * scale) (map (finer k) slots) stretch ≡ asked jobs grid scale slots stretch
  asked_finer grid slots stretch = fun_ext (λ deadline. simp pending_finer (simp (some_test k some, sum_by-mul, factor_out k, factor_grouped k, rounded_up_same k some)))

  -- and where no deadline asked just that much, none does
  rounds_finer : (grid : ℕ) (slots : List WholeSlot) →
      optimal_available_rounds jobs grid (k * scale) (map (finer k) slots) ≡ optimal_available_rounds jobs grid scale slots
  rounds_finer grid slots = fun_ext (λ stretch. simp (asked_finer, pending_finer) (simp (some_test k some, sum_by-mul, factor_out k, factor_grouped k, same_test k some)))

-- Average Rate
pub average_rate_run_free : (jobs : List Job) (grid : ℕ) → IsFreeOfScale (λ scale whole. IsRunAt jobs grid scale (average_rate jobs grid scale whole) whole)
average_rate_run_free jobs grid =
    run_free jobs grid (average_rate jobs grid)
    (λ k scale slots stretch some. simp (pending_finer jobs k scale some) (simp (sum_by-mul, factor_out k, factor_grouped k, factor_of_lesser k some)))

-- Optimal Available
pub optimal_available_run_free : (jobs : List Job) (grid : ℕ) → IsFreeOfScale (λ scale whole. IsRunAt jobs grid scale (optimal_available jobs grid scale whole) whole)
optimal_available_run_free jobs grid =
    run_free jobs grid (optimal_available jobs grid)
    (λ k scale slots stretch some. simp (asked_finer jobs k scale some, pending_finer jobs k scale some) (simp (some_test k some, factor_grouped k)))

-- and at how many event points it rounds
pub optimal_available_rounds_free : (jobs : List Job) (grid rounded : ℕ) →
    IsFreeOfScale (λ scale whole. rounded ≡ count_by (optimal_available_rounds jobs grid scale whole) (stretches jobs))
optimal_available_rounds_free jobs grid rounded a b scale slots some more positive is =
    is ∙ ap (λ rounds. count_by rounds (stretches jobs)) (rounds_finer jobs a scale some grid slots ∙ sym (rounds_finer jobs b scale more grid slots))

-- the run of admitted jobs
pub admitted_run_free : (jobs : List Job) (top : ℕ) → IsFreeOfScale (λ scale whole. IsRunAt jobs 1 scale (top_capacity jobs top scale whole) whole)
admitted_run_free jobs top =
    run_free jobs 1 (top_capacity jobs top)
    (λ k scale slots stretch some. simp (pending_finer jobs k scale some) (simp (sum_by-mul, factor_out k, factor_grouped k, factor_of_lesser k some)))
