-- What a block of stretches that are faster than a speed p/q does above it is at most the work of the jobs whose windows lie in the block. The block
-- is as long as possible: the stretches on its two sides, where there are any, aren't faster.
--
-- What it does of jobs that were released before it is due by its end, and carried on by the stretch before it. If a slot there has a job
-- that is due after the block, nothing is carried: earliest deadline first. Else all that is done there was due by the block's end too, and
-- no time asks more than that stretch's speed. So what is carried is at most what the speed p/q does in the block's time.
use Rattle.yds_model.proofs.Common.{◌≡◌, ℕ, zero, suc, ◌+◌, ◌-◌, ◌*◌, ◌<◌, ◌≤◌, List, length, get_or, cond, Bool, ◌&&◌, nat_le, nat_lt, refl, sym, ap, ◌∙◌, arith, inl, inr, filter, sum_by, cases_lt, cases_Bool, cond-true, cond-false, le-leb, lt-ltb, leb-true, ltb-true, true≢false, and_parts, and_from, All-from_get_or, All-filter, mul-sub, mul-le-mul_left, mul-le-mul_right, lt_of_mul-lt-mul_right, le_of_mul-le-mul_right, Job, job_at, work_of, numbers_of, WholeSlot, no_slot, slot_at, stretches, LiesIn, stretch_at, found_or_none, sum_by-add, sum_by_same, sum_by_at_most, sum_by_zero}
use Rattle.base.specs.Numbers.{sum_below}
use Rattle.base.specs.Numbers.{count as count_of}
use Rattle.yds_events.specs.Window.{length_at}
use Rattle.yds_events.proofs.Times.{not_later, release_at}
use Rattle.yds_events.proofs.Neighbours.{stretch_begins, stretch_forward, release_outside}
use Rattle.yds_laws.proofs.Group.{work_served}
use Rattle.yds_laws.proofs.Served.{all_numbers}
use Rattle.yds_laws.proofs.ExactRates.{stretch_of_slot}
use Rattle.yds_energy.proofs.StretchSlots.{lies, lies_told, lies_passes}
use Rattle.yds_ratios.proofs.PassingTests.{one_at_most, one_or_none, counted_kept}
use Rattle.yds_ratios.proofs.StretchPoints.{point, ends_at, points_order}
use Rattle.yds_ratios.proofs.LaterWork.{later_part, later_work, part_at_most, part_whole}
use Rattle.yds_ratios.proofs.EarliestLater.{due_later}
use Rattle.yds_ratios.proofs.ExactRun.{IsExactRun, work_at, IsFast, IsSlow, part_in, work_is, in_part, takes_time, known, released_by}
use Rattle.yds_ratios.proofs.FastBlock.{due_in_block}

-- # In plain numbers

-- what lies between a and b, and what lies between b and c, lies between a and c
three_points : (a b c d e from to n : ℕ) → a ≤ b → d ≡ b → e ≡ c → b ≤ c → from < to →
    cond (nat_le a from && nat_le to b) n 0 + cond (nat_le d from && nat_le to e) n 0 ≤ cond (nat_le a from && nat_le to c) n 0
three_points a b c d e from to n first is also second takes = grind arith

-- what is left after a stretch that isn't faster than p/q, and does just what is due
left_after : (p q M w long L left x : ℕ) → w + left ≤ L → L * long ≤ w * (long + x) → q * w ≤ p * (long * M) → 1 ≤ long → q * left ≤ p * M * x
left_after p q M w long L left x split most slow time =
    le_of_mul-le-mul_right {k = long} (omega (arith, mul-le-mul_left q (mul-le-mul_right long split), mul-le-mul_left q most, mul-le-mul_right x slow)) time

-- # Jobs of a block

-- the job's window lies between two times, and isn't empty
abbrev pub is_inside : List Job → ℕ → ℕ → ℕ → Bool
is_inside jobs from to number = nat_le from (job_at jobs number).release && nat_lt (job_at jobs number).release to && nat_le (job_at jobs number).deadline to

-- the numbers of the jobs whose windows lie between two event points
abbrev pub block_jobs : List Job → ℕ → ℕ → List ℕ
block_jobs jobs i j = filter (is_inside jobs (point jobs i) (point jobs j)) (numbers_of jobs)

-- a slot's work, where its job is one of them
abbrev inside_part : List Job → ℕ → ℕ → WholeSlot → ℕ
inside_part jobs i j slot = cond (is_inside jobs (point jobs i) (point jobs j) slot.job) slot.work 0

module _ (jobs : List Job) (scale : ℕ) (slots : List WholeSlot) (run : IsExactRun jobs scale slots) where
  abbrev count : ℕ
  count = length (stretches jobs)

  abbrev deadline : WholeSlot → ℕ
  deadline slot = (job_at jobs slot.job).deadline

  abbrev release : WholeSlot → ℕ
  release slot = (job_at jobs slot.job).release

  abbrev work : ℕ → ℕ
  work = work_at jobs scale slots

  abbrev begin : ℕ → ℕ
  begin k = (stretch_at jobs k).from

  abbrev end : ℕ → ℕ
  end k = (stretch_at jobs k).to

  -- # Work that a stretch carries on

  -- a slot's work where it comes after the stretch, and its job was released when the stretch began and is due by D
  abbrev carried_part : ℕ → ℕ → WholeSlot → ℕ
  carried_part k D slot = later_part jobs (end k * scale) (begin k) D slot

  -- none, where a slot in the stretch has a job that is due later
  none_carried : (k D s : ℕ) → s < length slots → LiesIn scale (slot_at slots s) (stretch_at jobs k) → D < deadline (slot_at slots s) →
      (t : ℕ) → t < length slots → carried_part k D (slot_at slots t) ≡ 0
  none_carried k D s within there late t inside =
      let none = part_at_most jobs (end k * scale) (begin k) D 0 (slot_at slots t)
      (λ from released due.
      let after : (slot_at slots s).to ≤ (slot_at slots t).from = omega (arith, there.to, from) in
      let order = due_later jobs scale slots run.feasible run.earliest s t within inside after (omega (arith, there.from, mul-le-mul_right scale released)) in
      absurd (omega (arith, late, due, order))) in
      omega (arith, none)

  -- where all slots in the stretch are due by then, they and what is carried on were due by then
  all_due : (k D : ℕ) → k < count → ((s : ℕ) → s < length slots → LiesIn scale (slot_at slots s) (stretch_at jobs k) → deadline (slot_at slots s) ≤ D) →
      (t : ℕ) → t < length slots → part_in jobs scale k (slot_at slots t) + carried_part k D (slot_at slots t) ≤ later_part jobs (begin k * scale) (begin k) D (slot_at slots t)
  all_due k D here by t inside =
      let slot = slot_at slots t in
      let all = later_part jobs (begin k * scale) (begin k) D slot in
      elim (cases_Bool (lies scale (stretch_at jobs k) slot)) [
        | inl passes ↦
            let there = lies_told scale (stretch_at jobs k) slot passes in
            let none = part_at_most jobs (end k * scale) (begin k) D 0 slot
            (λ from released due. absurd (omega (arith, takes_time jobs scale slots run t inside, there.to, from))) in
            let is = part_whole jobs (begin k * scale) (begin k) D slot there.from (released_by jobs scale slots run k t here inside there) (by t inside there) in
            omega (arith, is, none, in_part jobs scale k slot there)
        | inr fails ↦
            let forward : begin k ≤ end k = omega (arith, stretch_forward jobs k here) in
            let most = part_at_most jobs (end k * scale) (begin k) D all slot
            (λ from released due. omega (arith, part_whole jobs (begin k * scale) (begin k) D slot (omega (arith, from, mul-le-mul_right scale forward)) released due)) in
            omega (arith, most, cond-false {A = ℕ} (lies scale (stretch_at jobs k) slot) slot.work 0 fails)
      ]

  -- So what a stretch that isn't fast carries on, due by a time, is at most what the speed p/q does until then.
  carried_most : (p q k D : ℕ) → k < count → end k ≤ D → IsSlow jobs scale slots p q k → q * sum_by (carried_part k D) slots ≤ p * scale * (D - end k)
  carried_most p q k D here after slow =
      let stands = λ (s : ℕ). lies scale (stretch_at jobs k) (slot_at slots s) in
      let late = λ (s : ℕ). nat_lt D (deadline (slot_at slots s)) in
      let laters = later_part jobs (begin k * scale) (begin k) D in
      elim (found_or_none (length slots) (λ s. stands s && late s)) [
        | inl (s, within, passes) ↦
            let both = and_parts (stands s) (late s) passes in
            let none = sum_by_zero (carried_part k D) slots (All-from_get_or (λ slot. carried_part k D slot ≡ 0) slots no_slot
            (none_carried k D s within (lies_told scale (stretch_at jobs k) (slot_at slots s) both.0) (ltb-true D (deadline (slot_at slots s)) both.1))) in
            omega (arith, ap (λ n. q * n) none)
        | inr none ↦
            let by : (s : ℕ) → s < length slots → LiesIn scale (slot_at slots s) (stretch_at jobs k) → deadline (slot_at slots s) ≤ D =
            λ s within there. elim (cases_lt D (deadline (slot_at slots s))) [
              | inr upto ↦ upto
              | inl beyond ↦
                  let passes = and_from (stands s) (late s) (lies_passes scale (stretch_at jobs k) (slot_at slots s) there) (lt-ltb D (deadline (slot_at slots s)) beyond) in
                  absurd (true≢false (sym passes ∙ none s within))
            ] in
            let split : work k + sum_by (carried_part k D) slots ≤ later_work jobs scale slots (begin k) D =
            omega (
              arith,
              work_is jobs scale slots k,
              sum_by-add (part_in jobs scale k) (carried_part k D) slots,
              sum_by_at_most (λ slot. part_in jobs scale k slot + carried_part k D slot) laters slots
                  (All-from_get_or (λ slot. part_in jobs scale k slot + carried_part k D slot ≤ laters slot) slots no_slot (all_due k D here by)),
            ) in
            let left : D - begin k ≡ length_at jobs k + (D - end k) = omega (arith, after, stretch_forward jobs k here) in
            let most = run.most k D here (omega (arith, after, stretch_forward jobs k here)) in
            left_after p q scale (work k) (length_at jobs k) (later_work jobs scale slots (begin k) D) (sum_by (carried_part k D) slots) (D - end k) split
            (omega (arith, most, ap (λ n. work k * n) left)) slow (omega (arith, stretch_forward jobs k here))
      ]

  -- # What a block does

  -- a slot's work where it lies between two times
  abbrev block_part : ℕ → ℕ → WholeSlot → ℕ
  block_part from to slot = cond (nat_le (from * scale) slot.from && nat_le slot.to (to * scale)) slot.work 0

  -- what is done in stretches is done between the first's start and the last's end
  work_between : (more i j : ℕ) → i + more ≡ j → j ≤ count → sum_below j work ≤ sum_below i work + sum_by (block_part (point jobs i) (point jobs j)) slots
  work_between zero i j is upto = omega (arith, ap (λ m. sum_below m work) (let same : i ≡ j = omega (arith, is) in same))
  work_between (suc more) i zero is upto = absurd (omega (arith, is))
  work_between (suc more) i (suc j) is upto =
      let here : j < count = omega (arith, upto) in
      let so_far = block_part (point jobs i) (point jobs j) in
      omega (
        arith,
        work_between more i j (omega (arith, is)) (omega (arith, upto)),
        work_is jobs scale slots j,
        sum_by-add so_far (part_in jobs scale j) slots,
        sum_by_at_most (λ slot. so_far slot + part_in jobs scale j slot) (block_part (point jobs i) (point jobs (suc j))) slots
            (All-from_get_or (λ slot. so_far slot + part_in jobs scale j slot ≤ block_part (point jobs i) (point jobs (suc j)) slot) slots no_slot
            (λ s within. three_points (point jobs i * scale) (point jobs j * scale) (point jobs (suc j) * scale) (begin j * scale) (end j * scale)
            (slot_at slots s).from (slot_at slots s).to (slot_at slots s).work (mul-le-mul_right scale (points_order jobs i j (omega (arith, is)) (omega (arith, upto))))
            (ap (λ n. n * scale) (stretch_begins jobs j here)) (ap (λ n. n * scale) (ends_at jobs j here))
            (mul-le-mul_right scale (points_order jobs j (suc j) (omega arith) upto)) (takes_time jobs scale slots run s within))),
      )

  -- the slots of the jobs whose windows lie in a block have all their work
  inside_sum : (i j : ℕ) → sum_by (inside_part jobs i j) slots ≡ scale * work_of jobs (block_jobs jobs i j)
  inside_sum i j =
      let test = is_inside jobs (point jobs i) (point jobs j) in
      sum_by_same (inside_part jobs i j) (λ slot. count_of slot.job (block_jobs jobs i j) * slot.work) slots
      (λ k d within.
      let slot : WholeSlot = get_or slots k d in
      sym (ap (λ n. n * slot.work) (counted_kept jobs test slot.job (run.feasible.in_windows k d within).known) ∙ one_or_none (test slot.job) slot.work))
      ∙ work_served jobs scale slots (block_jobs jobs i j) run.feasible.served
      (All-filter test (λ number. number < length jobs) (numbers_of jobs) (all_numbers (λ number. number < length jobs) jobs (λ number there. there)))

  -- what is carried into a block by the stretch before it, where there is one
  abbrev carried_into : ℕ → ℕ → WholeSlot → ℕ
  carried_into zero D slot = 0
  carried_into (suc k) D slot = carried_part k D slot

  -- no job is released before the first event point
  none_earlier : (number : ℕ) → number < length jobs → point jobs 0 ≤ (job_at jobs number).release
  none_earlier number there = let at = release_at jobs number there in omega (arith, at.2, not_later jobs 0 at.0 (omega arith) at.1)

  -- a slot of a job that was released before the block is carried into it
  carried_slot : (i j s : ℕ) → i ≤ j → j ≤ count → s < length slots → release (slot_at slots s) < point jobs i → point jobs i * scale ≤ (slot_at slots s).from →
      deadline (slot_at slots s) ≤ point jobs j → (slot_at slots s).work ≤ carried_into i (point jobs j) (slot_at slots s)
  carried_slot zero j s order upto within before from due = absurd (omega (arith, before, none_earlier (slot_at slots s).job (known jobs scale slots run s within)))
  carried_slot (suc k) j s order upto within before from due =
      let slot = slot_at slots s in
      let here : k < count = omega (arith, order, upto) in
      let released : release slot ≤ begin k = elim (release_outside jobs slot.job k (known jobs scale slots run s within) here) [
        | inl by ↦ by
        | inr after ↦ absurd (omega (arith, after, before, ends_at jobs k here))
      ] in
      let begun : end k * scale ≤ slot.from = omega (arith, from, ap (λ n. n * scale) (ends_at jobs k here)) in
      omega (arith, part_whole jobs (end k * scale) (begin k) (point jobs j) slot begun released due)

  -- # A block

  module _ (p q i j : ℕ) (order : i ≤ j) (upto : j ≤ count) (fast : (l : ℕ) → i ≤ l → l < j → IsFast jobs scale slots p q l)
      (slow : j < count → IsSlow jobs scale slots p q j) where
    -- a slot that lies in the block lies in one of its stretches
    stands_in : (s : ℕ) → s < length slots → point jobs i * scale ≤ (slot_at slots s).from → (slot_at slots s).to ≤ point jobs j * scale →
        (l : ℕ) × (i ≤ l) × (l < j) × LiesIn scale (slot_at slots s) (stretch_at jobs l)
    stands_in s within from to =
        let slot = slot_at slots s in
        let takes = takes_time jobs scale slots run s within in
        let place = stretch_of_slot jobs scale slot (run.uncut s no_slot within) in
        let l = place.0 in
        let not_before : i ≤ l = elim (cases_lt l i) [
          | inr later ↦ later
          | inl earlier ↦
              let ended = mul-le-mul_right scale (points_order jobs (suc l) i (omega (arith, earlier)) (omega (arith, order, upto))) in
              absurd (omega (arith, takes, place.2.to, from, ap (λ n. n * scale) (ends_at jobs l place.1), ended))
        ] in
        let not_after : l < j = elim (cases_lt l j) [
          | inl earlier ↦ earlier
          | inr later ↦
              let begun = mul-le-mul_right scale (points_order jobs j l later (omega (arith, place.1))) in
              absurd (omega (arith, takes, place.2.from, to, ap (λ n. n * scale) (stretch_begins jobs l place.1), begun))
        ] in
        (l, not_before, not_after, place.2)

    -- its job was released before the block, or has its window in it
    slot_of_block : (s : ℕ) → s < length slots → point jobs i * scale ≤ (slot_at slots s).from → (slot_at slots s).to ≤ point jobs j * scale →
        (slot_at slots s).work ≤ carried_into i (point jobs j) (slot_at slots s) + inside_part jobs i j (slot_at slots s)
    slot_of_block s within from to =
        let slot = slot_at slots s in
        let window = run.feasible.in_windows s no_slot within in
        let place = stands_in s within from to in
        let due = due_in_block jobs scale slots run p q (j - i) i j (omega (arith, order)) upto fast slow place.0 s place.1 place.2 within place.3 in
        let released : release slot < point jobs j = lt_of_mul-lt-mul_right scale (omega (arith, takes_time jobs scale slots run s within, window.released, to)) in
        elim (cases_lt (release slot) (point jobs i)) [
          | inr after ↦ omega (
            arith,
            cond-true {A = ℕ} (is_inside jobs (point jobs i) (point jobs j) slot.job) slot.work 0
                (and_from (nat_le (point jobs i) (release slot) && nat_lt (release slot) (point jobs j)) (nat_le (deadline slot) (point jobs j))
                (and_from (nat_le (point jobs i) (release slot)) (nat_lt (release slot) (point jobs j)) (le-leb _ _ after) (lt-ltb _ _ released)) (le-leb _ _ due)),
          )
          | inl before ↦ omega (arith, carried_slot i j s order upto within before from due)
        ]

    -- So what the block does is carried into it, or work of jobs whose windows lie in it.
    block_work : sum_below j work ≤ sum_below i work + sum_by (carried_into i (point jobs j)) slots + scale * work_of jobs (block_jobs jobs i j)
    block_work =
        let parts = λ (slot : WholeSlot). carried_into i (point jobs j) slot + inside_part jobs i j slot in
        omega (
          arith,
          work_between (j - i) i j (omega (arith, order)) upto,
          sum_by_at_most (block_part (point jobs i) (point jobs j)) parts slots
              (All-from_get_or (λ slot. block_part (point jobs i) (point jobs j) slot ≤ parts slot) slots no_slot
              (λ s within.
              let begun = nat_le (point jobs i * scale) (slot_at slots s).from in
              let ended = nat_le (slot_at slots s).to (point jobs j * scale) in
              one_at_most (begun && ended) (slot_at slots s).work (parts (slot_at slots s))
              (λ passes. let both = and_parts begun ended passes in slot_of_block s within (leb-true _ _ both.0) (leb-true _ _ both.1)))),
          sum_by-add (carried_into i (point jobs j)) (inside_part jobs i j) slots,
          inside_sum i j,
        )

  -- what is carried into a block is at most what the speed does in its time
  carried_few : (p q i j : ℕ) → i ≤ j → j ≤ count → ((k : ℕ) → suc k ≡ i → IsSlow jobs scale slots p q k) →
      q * sum_by (carried_into i (point jobs j)) slots ≤ p * scale * (point jobs j - point jobs i)
  carried_few p q zero j order upto before = omega (arith, ap (λ n. q * n) (sum_by_zero (carried_into zero (point jobs j)) slots (λ k d within. refl)))
  carried_few p q (suc k) j order upto before =
      let here : k < count = omega (arith, order, upto) in
      let joint = ends_at jobs k here in
      let after : point jobs (suc k) ≤ point jobs j = points_order jobs (suc k) j order upto in
      omega (arith, carried_most p q k (point jobs j) here (omega (arith, joint, after)) (before k refl), ap (λ n. p * scale * (point jobs j - n)) joint)

  -- # What a block does above the speed

  -- what a stretch does above it, times q
  abbrev pub over : ℕ → ℕ → ℕ → ℕ
  over p q k = q * work k - p * (length_at jobs k * scale)

  -- a fast stretch does its time at the speed and what it does above it
  over_all : (p q more i j : ℕ) → i + more ≡ j → j ≤ count → ((l : ℕ) → i ≤ l → l < j → IsFast jobs scale slots p q l) →
      sum_below j (over p q) + p * scale * point jobs j + q * sum_below i work ≡ sum_below i (over p q) + p * scale * point jobs i + q * sum_below j work
  over_all p q zero i j is upto fast =
      let same : i ≡ j = omega (arith, is) in
      omega (arith, ap (λ m. sum_below m (over p q)) same, ap (λ n. p * scale * point jobs n) same, ap (λ n. q * sum_below n work) same)
  over_all p q (suc more) i zero is upto fast = absurd (omega (arith, is))
  over_all p q (suc more) i (suc j) is upto fast =
      let here : j < count = omega (arith, upto) in
      let quick = fast j (omega (arith, is)) (omega arith) in
      let time : point jobs (suc j) ≡ length_at jobs j + point jobs j = omega (arith, stretch_begins jobs j here, ends_at jobs j here, stretch_forward jobs j here) in
      omega (
        arith,
        over_all p q more i j (omega (arith, is)) (omega (arith, upto)) (λ l from to. fast l from (omega (arith, to))),
        quick,
        ap (λ n. p * scale * n) time,
      )

  -- The fact: what a block does above the speed is at most the work of the jobs whose windows lie in it.
  pub block_above : (p q i j : ℕ) → i ≤ j → j ≤ count → ((l : ℕ) → i ≤ l → l < j → IsFast jobs scale slots p q l) → (j < count → IsSlow jobs scale slots p q j) →
      ((k : ℕ) → suc k ≡ i → IsSlow jobs scale slots p q k) → sum_below j (over p q) ≤ sum_below i (over p q) + q * scale * work_of jobs (block_jobs jobs i j)
  block_above p q i j order upto fast slow before =
      omega (
        arith,
        over_all p q (j - i) i j (omega (arith, order)) upto fast,
        mul-le-mul_left q (block_work p q i j order upto fast slow),
        carried_few p q i j order upto before,
        mul-sub (p * scale) (point jobs j) (point jobs i),
        mul-le-mul_left (p * scale) (points_order jobs i j order upto),
      )
