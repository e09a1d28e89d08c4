-- The horizon of all jobs is that of each part and the gap between them.
use Rattle.yds_model.proofs.Common.{◌≡◌, ℕ, ◌+◌, ◌-◌, ◌*◌, ◌<◌, ◌≤◌, min, max, List, [], ◌∷◌, ◌++◌, length, map, refl, sym, ap, ◌∙◌, arith, All, fold, All-head, All-tail, sum_by-cons, sum_by-append, Job, WholeSlot, IsFeasibleAt, last_deadline, first_release, horizon, busy, idle}
use Rattle.model_lemmas.proofs.Horizon.{releases_from, busy_and_idle}
use Rattle.yds_parts.specs.Parts.{ArePartedAt, moved, together_at, gap_between, WindowsAreForward}
use Rattle.yds_parts.proofs.TwoParts.{feasible_together}

-- # Folds

-- of a time and of jobs the latest is the later of both
latest_from : (time : ℕ) (jobs : List Job) → fold (λ time job. max time job.deadline) time jobs ≡ max time (last_deadline jobs)
latest_from time [] = grind arith
latest_from time (job ∷ jobs) =
    let one = latest_from (max time job.deadline) jobs in
    let other = latest_from (max 0 job.deadline) jobs in
    grind (arith, one, other)

latest_of_both : (time : ℕ) (first second : List Job) →
    fold (λ time job. max time job.deadline) time (first ++ second) ≡ fold (λ time job. max time job.deadline) (fold (λ time job. max time job.deadline) time first) second
latest_of_both time [] second = refl
latest_of_both time (job ∷ first) second = latest_of_both (max time job.deadline) first second

earliest_of_both : (time : ℕ) (first second : List Job) →
    fold (λ time job. min time job.release) time (first ++ second) ≡ fold (λ time job. min time job.release) (fold (λ time job. min time job.release) time first) second
earliest_of_both time [] second = refl
earliest_of_both time (job ∷ first) second = earliest_of_both (min time job.release) first second

-- later releases leave the earliest time
earliest_kept : (time : ℕ) (jobs : List Job) → All (λ job. time ≤ job.release) jobs → fold (λ time job. min time job.release) time jobs ≡ time
earliest_kept time [] later = refl
earliest_kept time (job ∷ jobs) later =
    let own = All-head (λ one. time ≤ one.release) job jobs later in
    let same : min time job.release ≡ time = grind (arith, own) in
    ap (λ n. fold (λ time job. min time job.release) n jobs) same ∙ earliest_kept time jobs (All-tail (λ one. time ≤ one.release) job jobs later)

-- the earliest of jobs from a time that isn't before the cut
earliest_from : (time from : ℕ) (jobs : List Job) → time ≤ from → All (λ job. time ≤ job.release) jobs → time ≤ fold (λ time job. min time job.release) from jobs
earliest_from time from [] late later = late
earliest_from time from (job ∷ jobs) late later =
    let own = All-head (λ one. time ≤ one.release) job jobs later in
    earliest_from time (min from job.release) jobs (grind (arith, late, own)) (All-tail (λ one. time ≤ one.release) job jobs later)

-- deadlines by a time have their latest by it
latest_by : (time from : ℕ) (jobs : List Job) → from ≤ time → All (λ job. job.deadline ≤ time) jobs → fold (λ time job. max time job.deadline) from jobs ≤ time
latest_by time from [] early before = early
latest_by time from (job ∷ jobs) early before =
    let own = All-head (λ one. one.deadline ≤ time) job jobs before in
    latest_by time (max from job.deadline) jobs (grind (arith, early, own)) (All-tail (λ one. one.deadline ≤ time) job jobs before)

-- slots of jobs some places later take as long
busy_moved : (n : ℕ) (slots : List WholeSlot) → busy (map (moved n) slots) ≡ busy slots
busy_moved n [] = refl
busy_moved n (slot ∷ slots) = omega (
  arith,
  sum_by-cons (λ (one : WholeSlot). one.to - one.from) (moved n slot) (map (moved n) slots),
  sum_by-cons (λ (one : WholeSlot). one.to - one.from) slot slots,
  busy_moved n slots,
)

-- # The horizon

module _ (time : ℕ) (first second : List Job) (parted : ArePartedAt time first second) (first_windows : WindowsAreForward first) (second_windows : WindowsAreForward second)
    (some : 1 ≤ length first) (some_later : 1 ≤ length second) where
  -- the first jobs end by the cut
  first_ends : last_deadline first ≤ time
  first_ends = latest_by time 0 first (omega arith) parted.before

  -- and the second end after it
  second_ends : time ≤ last_deadline second
  second_ends = ends second some_later parted.after second_windows where
    ends : (jobs : List Job) → 1 ≤ length jobs → All (λ job. time ≤ job.release) jobs → WindowsAreForward jobs → time ≤ last_deadline jobs
    ends [] some later valid = absurd (omega (arith, some))
    ends (job ∷ jobs) some later valid =
        let from = latest_from (max 0 job.deadline) jobs in
        let own = All-head (λ one. time ≤ one.release) job jobs later in
        let window = All-head (λ one. one.release < one.deadline) job jobs valid in
        grind (arith, from, own, window)

  second_begins : time ≤ first_release second
  second_begins = earliest_from time (last_deadline second) second second_ends parted.after

  -- all jobs end with the second
  pub last_of_both : last_deadline (first ++ second) ≡ last_deadline second
  last_of_both =
      let joined = latest_of_both 0 first second in
      let from = latest_from (last_deadline first) second in
      let ends = first_ends in
      let later = second_ends in
      grind (arith, joined, from, ends, later)

  -- and begin with the first
  pub first_of_both : first_release (first ++ second) ≡ first_release first
  first_of_both =
      ap (λ n. fold (λ time job. min time job.release) n (first ++ second)) last_of_both
      ∙ earliest_of_both (last_deadline second) first second
      ∙ ap (λ n. fold (λ time job. min time job.release) n second) (same first some parted.before first_windows)
      ∙ earliest_kept (first_release first) second (λ k d within. omega (arith, parted.after k d within, releases_from first (last_deadline first), first_ends)) where
        same : (jobs : List Job) → 1 ≤ length jobs → All (λ job. job.deadline ≤ time) jobs → WindowsAreForward jobs →
            fold (λ time job. min time job.release) (last_deadline second) jobs ≡ first_release jobs
        same [] some before valid = absurd (omega (arith, some))
        same (job ∷ jobs) some before valid =
            let own = All-head (λ one. one.deadline ≤ time) job jobs before in
            let window = All-head (λ one. one.release < one.deadline) job jobs valid in
            let from = latest_from (max 0 job.deadline) jobs in
            let ends = second_ends in
            let one : min (last_deadline second) job.release ≡ job.release = grind (arith, own, window, ends) in
            let other : min (last_deadline (job ∷ jobs)) job.release ≡ job.release = grind (arith, window, from) in
            ap (λ n. fold (λ time job. min time job.release) n jobs) (one ∙ sym other)

  -- so the horizon is both parts' with the gap
  pub horizon_of_both : horizon (first ++ second) ≡ horizon first + gap_between first second + horizon second
  horizon_of_both = grind (arith, first_ends, first_of_both, last_of_both, releases_from, second_begins)

  -- # Idle time

  -- a schedule of all jobs is idle as long as those of both parts, and between the two
  pub idle_of_both : (scale : ℕ) (slots others : List WholeSlot) → IsFeasibleAt first scale slots → IsFeasibleAt second scale others →
      idle (first ++ second) scale (together_at first slots others) ≡ idle first scale slots + idle second scale others + scale * gap_between first second
  idle_of_both scale slots others one other = omega (
    arith,
    ap (λ n. scale * n) horizon_of_both,
    busy_and_idle first scale slots one,
    busy_and_idle second scale others other,
    busy_and_idle (first ++ second) scale (together_at first slots others) (feasible_together time scale first second parted slots others one other),
    sum_by-append (λ (slot : WholeSlot). slot.to - slot.from) slots (map (moved (length first)) others),
    busy_moved (length first) others,
  )
