-- What a run of Optimal Available that never rounded does above a speed p/q is at most the work of the jobs in all of whose window it is
-- faster. From the last stretch to the first: from each on that follows none, or one that isn't fast, what is above the speed is at most the
-- work of such jobs that are released from there on.
use Rattle.yds_model.proofs.Common.{◌≡◌, ℕ, zero, suc, ◌+◌, ◌-◌, ◌*◌, ◌<◌, ◌≤◌, List, [], length, get_or, cond, Bool, true, ◌&&◌, nat_le, nat_lt, sym, ap, subst, ◌∙◌, arith, inl, inr, All, filter, sum_by, cases_lt, cases_Bool, lt-ltb, leb-true, ltb-true, and_parts, All-from_get_or, mul-pos, mul-le-mul_left, mul-le-mul_right, le_of_mul-le-mul_right, Job, job_at, work_of, numbers_of, WholeSlot, slots_at, stretches, is_live, slots_in, busy, work_in, stretch_at, excess, sum_by-filter, sum_by-add, sum_by-mul, sum_by_same, sum_by_at_most, sum_by_zero, IsFeasibleAt, IsUncut}
use Rattle.model_lemmas.proofs.Runs.{run_forward}
use Rattle.base.specs.Numbers.{sum_below}
use Rattle.model_lemmas.proofs.SumsBelow.{sum_places}
use Rattle.yds_events.specs.Stretch.{no_stretch}
use Rattle.yds_events.specs.Window.{length_at}
use Rattle.yds_events.proofs.Neighbours.{stretch_begins, stretch_forward, stretches_run}
use Rattle.yds_laws.proofs.Served.{all_numbers}
use Rattle.yds_energy.proofs.RoundedRuns.{all_work}
use Rattle.yds_energy.proofs.SpentEnergy.{IsEven}
use Rattle.yds_energy.proofs.StretchSlots.{sum_in_stretches}
use Rattle.yds_ratios.specs.SpendingByPower.{is_fast, runs_faster, faster_throughout}
use Rattle.yds_ratios.specs.RatioLaws.{OptimalAvailableAboveASpeed}
use Rattle.yds_ratios.proofs.PassingTests.{all_pass, filter_has, less_of_both}
use Rattle.yds_ratios.proofs.StretchPoints.{point, ends_at, points_order}
use Rattle.yds_ratios.proofs.ExactRun.{IsExactRun, exact_run, work_at, IsFast, IsSlow}
use Rattle.yds_ratios.proofs.BlockAbove.{is_inside, block_jobs, over, block_above}

-- # In plain numbers

-- a job whose window lies in a block, or one that is released later, is released from the block's start on
one_of_both : (first from to release deadline : ℕ) (fast : Bool) (n : ℕ) → first ≤ from → from ≤ to → (from ≤ release → deadline ≤ to → fast ≡ true) →
    cond (nat_le from release && nat_lt release to && nat_le deadline to) n 0 + cond (nat_le to release && fast) n 0 ≤ cond (nat_le first release && fast) n 0
one_of_both first from to release deadline fast n before order is = grind (arith, cases_Bool)

-- # What a stretch does above the speed

-- in plain numbers: a slot of a stretch is faster than p/q where the stretch is
pub faster_slot : (p q time work slot_time slot_work : ℕ) → 1 ≤ time → slot_work * time ≡ work * slot_time → p * time ≤ q * work → p * slot_time ≤ q * slot_work
faster_slot p q time work slot_time slot_work some is fast =
    le_of_mul-le-mul_right {k = time} (omega (arith, ap (λ n. q * n) is, mul-le-mul_right slot_time fast)) some

-- or slower
slower_slot : (p q time work slot_time slot_work : ℕ) → 1 ≤ time → slot_work * time ≡ work * slot_time → q * work ≤ p * time → q * slot_work ≤ p * slot_time
slower_slot p q time work slot_time slot_work some is slow =
    le_of_mul-le-mul_right {k = time} (omega (arith, ap (λ n. q * n) is, mul-le-mul_right slot_time slow)) some

-- slots of one speed that take all the time
full_over : (p q time : ℕ) (slots : List WholeSlot) → 1 ≤ time → busy slots ≡ time → All (λ slot. slot.work * time ≡ all_work slots * (slot.to - slot.from)) slots →
    sum_by (λ slot. q * slot.work - p * (slot.to - slot.from)) slots ≡ q * all_work slots - p * time
full_over p q time slots some full speeds = elim (cases_lt (p * time) (q * all_work slots)) [
  | inl fast ↦
      omega (
        arith,
        sum_by_same (λ slot. (q * slot.work - p * (slot.to - slot.from)) + p * (slot.to - slot.from)) (λ slot. q * slot.work) slots
            (λ k d within.
            let slot : WholeSlot = get_or slots k d in
            let more = faster_slot p q time (all_work slots) (slot.to - slot.from) slot.work some (speeds k d within) (omega (arith, fast)) in
            omega (arith, more)),
        sum_by-add (λ slot. q * slot.work - p * (slot.to - slot.from)) (λ slot. p * (slot.to - slot.from)) slots,
        sum_by-mul p (λ slot. slot.to - slot.from) slots,
        sum_by-mul q (λ (slot : WholeSlot). slot.work) slots,
        ap (λ n. p * n) full,
      )
  | inr slow ↦
      omega (
        arith,
        slow,
        sum_by_zero (λ slot. q * slot.work - p * (slot.to - slot.from)) slots
            (λ k d within.
            let slot : WholeSlot = get_or slots k d in
            let less = slower_slot p q time (all_work slots) (slot.to - slot.from) slot.work some (speeds k d within) slow in
            omega (arith, less)),
      )
]

-- and none
empty_over : (p q time : ℕ) (slots : List WholeSlot) → slots ≡ [] → sum_by (λ slot. q * slot.work - p * (slot.to - slot.from)) slots ≡ q * all_work slots - p * time
empty_over p q time slots none = rw none (omega arith)

-- Where each stretch is of one speed, the excess is what the stretches do above the speed.
pub even_excess : (jobs : List Job) (scale p q : ℕ) (slots : List WholeSlot) → 1 ≤ scale → IsFeasibleAt jobs scale slots → All (IsUncut jobs scale) slots →
    All (IsEven scale slots) (stretches jobs) →
    excess p q slots ≡ sum_by (λ stretch. q * work_in scale stretch slots - p * ((stretch.to - stretch.from) * scale)) (stretches jobs)
even_excess jobs scale p q slots positive feasible uncut even =
    let term = λ (slot : WholeSlot). q * slot.work - p * (slot.to - slot.from) in
    sym (sum_in_stretches term scale 0 (stretches jobs) slots (stretches_run jobs) (run_forward 0 slots feasible.one_at_a_time) uncut)
    ∙ sum_by_same (λ stretch. sum_by term (slots_in scale stretch slots)) (λ stretch. q * work_in scale stretch slots - p * ((stretch.to - stretch.from) * scale)) (stretches jobs)
    (All-from_get_or (λ stretch. sum_by term (slots_in scale stretch slots) ≡ q * work_in scale stretch slots - p * ((stretch.to - stretch.from) * scale)) (stretches jobs) no_stretch
    (λ k here.
    let stretch = stretch_at jobs k in
    elim (even k no_stretch here) [
      | inl none ↦ empty_over p q ((stretch.to - stretch.from) * scale) (slots_in scale stretch slots) none
      | inr full ↦ full_over p q ((stretch.to - stretch.from) * scale) (slots_in scale stretch slots)
          (mul-pos (omega (arith, stretch_forward jobs k here)) positive) full.full full.speeds
    ]))

module _ (jobs : List Job) (scale : ℕ) (slots : List WholeSlot) (run : IsExactRun jobs scale slots) (p q : ℕ) where
  abbrev count : ℕ
  count = length (stretches jobs)

  abbrev above : ℕ → ℕ
  above = over jobs scale slots run p q

  abbrev Fast : ℕ → Type 0
  Fast = IsFast jobs scale slots p q

  abbrev Slow : ℕ → Type 0
  Slow = IsSlow jobs scale slots p q

  -- the excess is what the stretches do above the speed
  pub excess_by_stretches : excess p q slots ≡ sum_below count above
  excess_by_stretches =
      even_excess jobs scale p q slots run.positive run.feasible run.uncut run.even
      ∙ sum_places (λ stretch. q * work_in scale stretch slots - p * ((stretch.to - stretch.from) * scale)) (stretches jobs) no_stretch

  -- # Jobs in all of whose window the run is faster

  abbrev is_later : ℕ → ℕ → Bool
  is_later k number = nat_le (point jobs k) (job_at jobs number).release && runs_faster jobs p q scale slots (job_at jobs number)

  -- the work of those that are released from the k-th event point on
  abbrev later_jobs : ℕ → ℕ
  later_jobs k = work_of jobs (filter (is_later k) (numbers_of jobs))

  -- a job whose window lies in a block is one of them
  block_faster : (i j : ℕ) → i ≤ j → j ≤ count → ((l : ℕ) → i ≤ l → l < j → Fast l) → (number : ℕ) →
      point jobs i ≤ (job_at jobs number).release → (job_at jobs number).deadline ≤ point jobs j → runs_faster jobs p q scale slots (job_at jobs number) ≡ true
  block_faster i j order upto fast number from to =
      let job = job_at jobs number in
      all_pass (is_fast p q scale slots) (filter (λ stretch. is_live stretch job) (stretches jobs))
      (filter_has (λ stretch. is_live stretch job) (λ stretch. is_fast p q scale slots stretch ≡ true) (stretches jobs)
      (All-from_get_or (λ stretch. is_live stretch job ≡ true → is_fast p q scale slots stretch ≡ true) (stretches jobs) no_stretch
      (λ l here live.
      let both = and_parts (nat_le job.release (stretch_at jobs l).from) (nat_lt (stretch_at jobs l).from job.deadline) live in
      let released = leb-true job.release (stretch_at jobs l).from both.0 in
      let due = ltb-true (stretch_at jobs l).from job.deadline both.1 in
      let begins = stretch_begins jobs l here in
      let not_before : i ≤ l = elim (cases_lt l i) [
        | inr later ↦ later
        | inl earlier ↦ absurd (omega (
          arith,
          from,
          released,
          begins,
          stretch_forward jobs l here,
          ends_at jobs l here,
          points_order jobs (suc l) i (omega (arith, earlier)) (omega (arith, order, upto)),
        ))
      ] in
      let not_after : l < j = elim (cases_lt l j) [
        | inl earlier ↦ earlier
        | inr later ↦ absurd (omega (arith, to, due, begins, points_order jobs j l later (omega (arith, here))))
      ] in
      lt-ltb (p * (((stretch_at jobs l).to - (stretch_at jobs l).from) * scale)) (q * work_in scale (stretch_at jobs l) slots) (fast l not_before not_after))))

  -- so the jobs of a block and those after it are all released from its start on
  jobs_with_block : (i j k : ℕ) → i ≤ j → j ≤ count → point jobs k ≤ point jobs i → ((l : ℕ) → i ≤ l → l < j → Fast l) →
      work_of jobs (block_jobs jobs i j) + later_jobs j ≤ later_jobs k
  jobs_with_block i j k order upto first fast =
      let work = λ (number : ℕ). (job_at jobs number).work in
      let inside = is_inside jobs (point jobs i) (point jobs j) in
      omega (
        arith,
        sum_by-filter inside work (numbers_of jobs),
        sum_by-filter (is_later j) work (numbers_of jobs),
        sum_by-filter (is_later k) work (numbers_of jobs),
        sum_by-add (λ number. cond (inside number) (work number) 0) (λ number. cond (is_later j number) (work number) 0) (numbers_of jobs),
        sum_by_at_most (λ number. cond (inside number) (work number) 0 + cond (is_later j number) (work number) 0) (λ number. cond (is_later k number) (work number) 0) (numbers_of jobs)
            (all_numbers (λ number. cond (inside number) (work number) 0 + cond (is_later j number) (work number) 0 ≤ cond (is_later k number) (work number) 0) jobs
            (λ number there.
            one_of_both (point jobs k) (point jobs i) (point jobs j) (job_at jobs number).release (job_at jobs number).deadline (runs_faster jobs p q scale slots (job_at jobs number)) (work number)
            first (points_order jobs i j order upto) (λ from to. block_faster i j order upto fast number from to))),
      )

  -- # From the last stretch to the first

  -- From a stretch on all are fast, up to one that isn't or to the end; and what is above the speed from there on is work of such jobs.
  record Reached (k : ℕ) : Type 0 where
    end : ℕ
    order : k ≤ end
    upto : end ≤ count
    fast : (l : ℕ) → k ≤ l → l < end → Fast l
    slow : end < count → Slow end
    rest : sum_below count above ≤ sum_below end above + q * scale * later_jobs end

  -- where none is before, or one that isn't fast, the block is whole
  closed : (k first : ℕ) (reached : Reached k) → ((l : ℕ) → suc l ≡ k → Slow l) → point jobs first ≤ point jobs k →
      sum_below count above ≤ sum_below k above + q * scale * later_jobs first
  closed k first reached before from =
      omega (
        arith,
        reached.rest,
        block_above jobs scale slots run p q k reached.end reached.order reached.upto reached.fast reached.slow before,
        mul-le-mul_left (q * scale) (jobs_with_block k reached.end first reached.order reached.upto from reached.fast),
      )

  -- from the last stretch back
  reach : (more k : ℕ) → k + more ≡ count → Reached k
  reach zero k is = record {
    end = k;
    order = omega arith;
    upto = omega (arith, is);
    fast = λ l from to. absurd (omega (arith, from, to));
    slow = λ less. absurd (omega (arith, is, less));
    rest = omega (arith, ap (λ m. sum_below m above) (let same : k ≡ count = omega (arith, is) in same));
  }
  reach (suc more) k is =
      let next = reach more (suc k) (omega (arith, is)) in
      let here : k < count = omega (arith, is) in
      elim (cases_lt (p * (length_at jobs k * scale)) (q * work_at jobs scale slots k)) [
        | inl quick ↦ record {
          end = next.end;
          order = omega (arith, next.order);
          upto = next.upto;
          fast = λ l from to. elim (cases_lt k l) [
            | inl after ↦ next.fast l (omega (arith, after)) to
            | inr not_after ↦ subst Fast (let same : k ≡ l = omega (arith, from, not_after) in same) quick
          ];
          slow = next.slow;
          rest = next.rest;
        }
        | inr slow ↦ record {
          end = k;
          order = omega arith;
          upto = omega (arith, here);
          fast = λ l from to. absurd (omega (arith, from, to));
          slow = λ less. slow;
          rest = omega (
            arith,
            closed (suc k) k next (λ l same. subst Slow (let it : k ≡ l = omega (arith, same) in it) slow)
                (points_order jobs k (suc k) (omega arith) (omega (arith, here))),
            slow,
          );
        }
      ]

  -- The fact.
  pub above_a_speed : excess p q slots ≤ q * scale * work_of jobs (faster_throughout jobs p q scale slots)
  above_a_speed =
      let work = λ (number : ℕ). (job_at jobs number).work in
      let all = λ (number : ℕ). runs_faster jobs p q scale slots (job_at jobs number) in
      let few : later_jobs 0 ≤ work_of jobs (faster_throughout jobs p q scale slots) =
      omega (
        arith,
        sum_by-filter (is_later 0) work (numbers_of jobs),
        sum_by-filter all work (numbers_of jobs),
        sum_by_at_most (λ number. cond (is_later 0 number) (work number) 0) (λ number. cond (all number) (work number) 0) (numbers_of jobs)
            (λ k d within. less_of_both (nat_le (point jobs 0) (job_at jobs (get_or (numbers_of jobs) k d)).release) (all (get_or (numbers_of jobs) k d)) (work (get_or (numbers_of jobs) k d))),
      ) in
      omega (
        arith,
        excess_by_stretches,
        closed 0 0 (reach count 0 (omega arith)) (λ l never. absurd (omega (arith, never))) (omega arith),
        mul-le-mul_left (q * scale) few,
      )

-- the law
pub optimal_available_above_a_speed : OptimalAvailableAboveASpeed
optimal_available_above_a_speed jobs grid slots some run = record {
  solid = run.run.solid;
  holds = λ scale is p q positive. above_a_speed jobs scale (slots_at scale slots) (exact_run jobs grid slots some run scale is) p q;
}
