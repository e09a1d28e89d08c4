-- The law of two speeds: the jobs in all of whose window a run of Optimal Available is faster than p/q are confined to the stretches in
-- which it is, so every feasible schedule does much above each other speed. By layers, the run spends at most so many times as much.
use Rattle.yds_model.proofs.Common.{◌≡◌, ℕ, zero, suc, ◌+◌, ◌-◌, ◌*◌, ◌^◌, ◌<◌, ◌≤◌, List, length, get_or, cond, true, nat_le, nat_lt, ap, ◌∙◌, arith, inl, inr, All, Contains, filter, sum_by, cases_Bool, cond-true, cond-false, le-leb, lt-ltb, ltb-true, and_from, All-append, All-contains, All-filter, All-from_get_or, get_or_default, mul-pos, mul-le-mul_left, mul-le-mul_right, lt_of_mul-lt-mul_right, le_of_mul-le-mul_left, Job, job_at, numbers_of, WholeSlot, IsSolid, slots_at, Piece, IsConfined, total_length, IsFeasibleAt, stretches, is_live, slots_in, busy, work_in, stretch_at, excess, contains_filter, sum_by-filter, sum_by-mul, sum_by_same, sum_by_at_most}
use Rattle.model_lemmas.proofs.Runs.{run_forward}
use Rattle.yds_events.specs.Stretch.{no_stretch}
use Rattle.yds_events.proofs.Neighbours.{stretches_run, release_outside, stretch_with}
use Rattle.yds_laws.proofs.Bound.{confinement_bound, scale_left, scale_right}
use Rattle.yds_laws.proofs.Served.{all_numbers, kept_different}
use Rattle.yds_energy.proofs.RoundedRuns.{all_work}
use Rattle.yds_energy.proofs.StretchSlots.{lies, sum_in_stretches}
use Rattle.yds_ratios.specs.SpendingByPower.{is_faster, time_above, is_fast, runs_faster, faster_throughout}
use Rattle.yds_ratios.specs.RatioLaws.{OptimalAvailableOfTwoSpeeds, OptimalAvailableSpends}
use Rattle.yds_ratios.proofs.WholeSpeeds.{lengths, lengths_some, first_speeds, other_speeds, at_most_times, two_speeds_spend}
use Rattle.yds_ratios.proofs.PassingTests.{each_passes, filter_has}
use Rattle.yds_ratios.proofs.ExactRun.{IsExactRun, exact_run}
use Rattle.yds_ratios.proofs.AboveSpeed.{above_a_speed}

-- in plain numbers: a slot of a stretch that is faster than p/q is so too
quick_slot : (p q time work slot_time slot_work : ℕ) → 1 ≤ slot_time → slot_work * time ≡ work * slot_time → p * time < q * work → p * slot_time < q * slot_work
quick_slot p q time work slot_time slot_work some is fast =
    lt_of_mul-lt-mul_right time (omega (arith, ap (λ n. q * n) is, mul-le-mul_right slot_time (let more : p * time + 1 ≤ q * work = omega (arith, fast) in more), some))

-- slots of one speed above p/q that take all the time
full_time : (p q time : ℕ) (slots : List WholeSlot) → busy slots ≡ time → All (λ slot. slot.work * time ≡ all_work slots * (slot.to - slot.from)) slots →
    All (λ slot. slot.from < slot.to) slots → p * time < q * all_work slots → time_above p q slots ≡ time
full_time p q time slots full speeds forward fast =
    sum_by_same (λ slot. cond (is_faster p q slot) (slot.to - slot.from) 0) (λ slot. slot.to - slot.from) slots
    (λ k d within.
    let slot : WholeSlot = get_or slots k d in
    let quick = quick_slot p q time (all_work slots) (slot.to - slot.from) slot.work (omega (arith, forward k d within)) (speeds k d within) fast in
    cond-true {A = ℕ} (is_faster p q slot) (slot.to - slot.from) 0 (lt-ltb (p * (slot.to - slot.from)) (q * slot.work) quick))
    ∙ full

module _ (jobs : List Job) (scale : ℕ) (slots : List WholeSlot) (run : IsExactRun jobs scale slots) (p q : ℕ) where
  -- the stretches in which the run is faster
  abbrev fast_pieces : List Piece
  fast_pieces = filter (is_fast p q scale slots) (stretches jobs)

  -- a job in all of whose window it is so is confined to them
  faster_confined : (number : ℕ) → number < length jobs → runs_faster jobs p q scale slots (job_at jobs number) ≡ true → IsConfined (job_at jobs number) fast_pieces
  faster_confined number known faster time released due =
      let job = job_at jobs number in
      let found = stretch_with jobs number time known released due in
      let stretch = stretch_at jobs found.0 in
      let begun : job.release ≤ stretch.from = elim (release_outside jobs number found.0 known found.1.known) [
        | inl before ↦ before
        | inr after ↦ absurd (omega (arith, released, after, found.1.below))
      ] in
      let before_due : stretch.from < job.deadline = omega (arith, due, found.1.from) in
      let live : is_live stretch job ≡ true = and_from (nat_le job.release stretch.from) (nat_lt stretch.from job.deadline) (le-leb _ _ begun) (lt-ltb _ _ before_due) in
      let stands : Contains (stretches jobs) stretch = (found.0, found.1.known, get_or_default (stretches jobs) found.0 stretch no_stretch found.1.known) in
      let fast = All-contains (λ one. is_fast p q scale slots one ≡ true) (filter (λ one. is_live one job) (stretches jobs)) stretch
      (each_passes (is_fast p q scale slots) (filter (λ one. is_live one job) (stretches jobs)) faster) (contains_filter (λ one. is_live one job) (stretches jobs) stretch live stands) in
      let kept = contains_filter (is_fast p q scale slots) (stretches jobs) stretch fast stands in
      (kept.0, stretch, kept.1, kept.2, (found.1.from, found.1.below))

  -- in them slots run that are faster, all the time
  fast_time : scale * total_length fast_pieces ≤ time_above p q slots
  fast_time =
      let length_of = λ (piece : Piece). piece.to - piece.from in
      let time = λ (slot : WholeSlot). cond (is_faster p q slot) (slot.to - slot.from) 0 in
      let forward = run_forward 0 slots run.feasible.one_at_a_time in
      omega (
        arith,
        ap (λ n. scale * n) (sum_by-filter (is_fast p q scale slots) length_of (stretches jobs)),
        sum_by-mul scale (λ stretch. cond (is_fast p q scale slots stretch) (length_of stretch) 0) (stretches jobs),
        sum_by_at_most (λ stretch. scale * cond (is_fast p q scale slots stretch) (length_of stretch) 0) (λ stretch. sum_by time (slots_in scale stretch slots)) (stretches jobs)
            (All-from_get_or (λ stretch. scale * cond (is_fast p q scale slots stretch) (length_of stretch) 0 ≤ sum_by time (slots_in scale stretch slots)) (stretches jobs) no_stretch
            (λ k here.
            let stretch = stretch_at jobs k in
            elim (cases_Bool (is_fast p q scale slots stretch)) [
              | inr slow ↦ omega (arith, ap (λ n. scale * n) (cond-false {A = ℕ} (is_fast p q scale slots stretch) (length_of stretch) 0 slow))
              | inl fast ↦
                  let quick = ltb-true (p * (length_of stretch * scale)) (q * work_in scale stretch slots) fast in
                  elim (run.even k no_stretch here) [
                    | inl none ↦ absurd (let nothing : work_in scale stretch slots ≡ 0 = ap all_work none in omega (arith, quick, ap (λ n. q * n) nothing))
                    | inr full ↦ omega (
                      arith,
                      full_time p q (length_of stretch * scale) (slots_in scale stretch slots) full.full full.speeds
                          (All-filter (lies scale stretch) (λ slot. slot.from < slot.to) slots forward) quick,
                      ap (λ n. scale * n) (cond-true {A = ℕ} (is_fast p q scale slots stretch) (length_of stretch) 0 fast),
                    )
                  ]
            ])),
        sum_in_stretches time scale 0 (stretches jobs) slots (stretches_run jobs) forward run.uncut,
      )

  -- so what the run does above p/q is at most what others do above r/s, and r/s for that long
  pub two_speeds : (r s : ℕ) (others : List WholeSlot) → IsFeasibleAt jobs scale others →
      s * excess p q slots ≤ q * excess r s others + q * r * time_above p q slots
  two_speeds r s others feasible =
      let test = λ (number : ℕ). runs_faster jobs p q scale slots (job_at jobs number) in
      let members = faster_throughout jobs p q scale slots in
      let bound = confinement_bound jobs scale r s others members fast_pieces run.positive (kept_different jobs test)
      (All-filter test (λ number. number < length jobs) (numbers_of jobs) (all_numbers (λ number. number < length jobs) jobs (λ number known. known)))
      (filter_has test (λ number. IsConfined (job_at jobs number) fast_pieces) (numbers_of jobs)
      (all_numbers (λ number. test number ≡ true → IsConfined (job_at jobs number) fast_pieces) jobs faster_confined))
      feasible in
      omega (
        arith,
        mul-le-mul_left s (above_a_speed jobs scale slots run p q),
        mul-le-mul_left q bound,
        mul-le-mul_left (q * r) fast_time,
      )

-- the law of two speeds
pub optimal_available_of_two_speeds : OptimalAvailableOfTwoSpeeds
optimal_available_of_two_speeds jobs grid scale p q r s slots others some run feasible is positive also =
    two_speeds jobs scale (slots_at scale slots) (exact_run jobs grid slots some run scale (scale_left scale slots others is)) p q r s (slots_at scale others)
    (feasible.holds scale (scale_right scale slots others is))

-- the law of what it spends
pub optimal_available_spends : OptimalAvailableSpends
optimal_available_spends zero jobs grid slots others one some run feasible = absurd (omega arith)
optimal_available_spends (suc n) jobs grid slots others one some run feasible = record {
  solid = All-append IsSolid slots others run.run.solid feasible.solid;
  at_most = λ scale is.
      let mine : List WholeSlot = slots_at scale slots in
      let theirs : List WholeSlot = slots_at scale others in
      let exact = exact_run jobs grid slots some run scale (scale_left scale slots others is) in
      let their_own = feasible.holds scale (scale_right scale slots others is) in
      let forward = run_forward 0 mine exact.feasible.one_at_a_time in
      let ahead = run_forward 0 theirs their_own.one_at_a_time in
      let K : ℕ = lengths mine * lengths theirs in
      let positive = mul-pos (lengths_some mine forward) (lengths_some theirs ahead) in
      let have = first_speeds mine theirs forward in
      let also = other_speeds mine theirs ahead in
      at_most_times n K (suc n ^ suc n) mine theirs positive have also
      (two_speeds_spend n K mine theirs have also
      (λ y. le_of_mul-le-mul_left {k = K} (omega (arith, two_speeds jobs scale mine exact y K y (suc n * K) theirs their_own)) positive));
}
