-- A stretch in which a plan has a slot is full, of slots of one level: the level's members have no time to spare.
use Rattle.yds_model.proofs.Common.{◌≡◌, ℕ, zero, suc, ◌+◌, ◌-◌, ◌*◌, ◌<◌, ◌≤◌, List, [], ◌∷◌, ◌++◌, length, get_or, take, refl, sym, ap, subst, ◌∙◌, arith, inl, inr, add-one, eq-eqb, cond, All, Contains, cases_lt, nat_tests, get_or_append_left, get_or_push, length-append, length-map, take_all, All-cons, All-append, All-map, All-contains, All-weaker, Contains-get_or, sum_by-cons, sum_by-append, get_or-le-sum_by, mul-sub, mul-le-mul_right, mul-lt-mul_of_pos_right, count, AreDifferent, Job, no_job, job_at, WrittenSlot, WholeSlot, IsScale, no_slot, slot_at_scale, slots_at, work_given, RunFrom, IsInWindow, Piece, IsConfined, Covers, total_length, Level, no_level, level_at, all_members, all_pieces, busy, LiesIn, IsPlan, sum_by-add, sum_by_same, All-front, All-back, count-cons, counted_contains, flat_map-take}
use Rattle.model_lemmas.proofs.Time.{time_within}
use Rattle.model_lemmas.proofs.Front.{front_at}
use Rattle.model_lemmas.proofs.Runs.{run_forward, run_later, run_joined}
use Rattle.model_lemmas.proofs.Horizon.{busy_within}
use Rattle.model_lemmas.proofs.Counted.{count_joined}
use Rattle.yds_laws.proofs.Group.{group, group-nil, group-cons, group-append, group_at_most}
use Rattle.yds_laws.proofs.Exact.{Fits, level_time}
use Rattle.yds_laws.proofs.Plans.{plans_serve_work}
use Rattle.yds_laws.proofs.Explained.{levels_fit, front_different}
use Rattle.yds_energy.proofs.RoundedFeasible.{IsBetweenEvents, slot_open}
use Rattle.yds_energy.proofs.PlanParts.{run_front, run_back}
use Rattle.model_lemmas.proofs.Counted.{one_level}

-- # Members

-- the level of a number that is counted among the first levels' members
pub level_of_member : (levels : List Level) (n number : ℕ) → n ≤ length levels → 1 ≤ count number (all_members (take n levels)) →
    (i : ℕ) × (i < n) × Contains (level_at levels i).members number
level_of_member levels zero number within some = absurd (omega (arith, some))
level_of_member [] (suc n) number within some = absurd (omega (arith, within))
level_of_member (level ∷ levels) (suc n) number within some = elim (cases_lt (count number level.members) 1) [
  | inl none ↦
      let rest = level_of_member levels n number (omega (arith, within)) (omega (arith, some, none, count_joined number level.members (all_members (take n levels)))) in
      (suc rest.0, omega (arith, rest.1), rest.2)
  | inr here ↦ (0, omega arith, counted_contains number level.members here)
]

-- # The time of the first levels

-- the slots of the first levels' members take as long as those levels' pieces are
front_time : (jobs : List Job) (scale : ℕ) (slots : List WholeSlot) (levels : List Level) →
    ((number : ℕ) → number < length jobs → work_given slots number ≡ (job_at jobs number).work * scale) → All (Fits jobs slots) levels → (n : ℕ) → n ≤ length levels →
    group (λ slot. slot.to - slot.from) (all_members (take n levels)) slots ≡ scale * total_length (all_pieces (take n levels))
front_time jobs scale slots levels served fit zero within = omega (arith, group-nil (λ slot. slot.to - slot.from) slots)
front_time jobs scale slots levels served fit (suc n) within =
    let level = level_at levels n in
    let inside : n < length levels = omega (arith, within) in
    rw (flat_map-take (λ (one : Level). one.members) levels n no_level inside, flat_map-take (λ (one : Level). one.pieces) levels n no_level inside)
    (omega (
      arith,
      group-append (λ slot. slot.to - slot.from) (all_members (take n levels)) level.members slots,
      front_time jobs scale slots levels served fit n (omega (arith, within)),
      level_time jobs scale slots served level (fit n no_level inside),
      ap (λ n. scale * n) (sum_by-append (λ (piece : Piece). piece.to - piece.from) (all_pieces (take n levels)) level.pieces),
    ))

-- # A stretch beside the others

-- how long a slot takes
abbrev time_of : WholeSlot → ℕ
time_of slot = slot.to - slot.from

-- a group with one job more takes no less time
group_more : (job : ℕ) (members : List ℕ) (slots : List WholeSlot) → group time_of members slots ≤ group time_of (job ∷ members) slots
group_more job members slots = omega (arith, group-cons time_of job members slots)

-- a new number and different ones that are less are different
new_different : (job : ℕ) (members : List ℕ) → AreDifferent members → All (λ number. number < job) members → AreDifferent (job ∷ members)
new_different job members different below number =
    let less : 1 ≤ count number members → number < job = λ some. All-contains (λ n. n < job) members number below (counted_contains number members some) in
    grind (arith, nat_tests, count-cons number job members, different number, less)

-- Beside the stretch, with one more job that takes all of it, the members of confined jobs have no more time than the pieces; so where
-- their time is all the pieces', they fill the stretch.
stretch_room : (jobs : List Job) (scale : ℕ) (members : List ℕ) (pieces : List Piece) (stretch : Piece) (before here after : List WholeSlot) → 1 ≤ scale →
    stretch.from < stretch.to → AreDifferent members → All (λ number. number < length jobs) members →
    All (λ number. IsConfined (job_at jobs number) pieces) members → ((time : ℕ) → stretch.from ≤ time → time < stretch.to → Covers pieces time) →
    RunFrom 0 (before ++ (here ++ after)) → All (IsInWindow jobs scale) (before ++ (here ++ after)) → All (λ slot. slot.to ≤ stretch.from * scale) before →
    All (λ slot. stretch.to * scale ≤ slot.from) after → group time_of members (before ++ (here ++ after)) ≡ scale * total_length pieces →
    (stretch.to - stretch.from) * scale ≤ group time_of members here
stretch_room jobs scale members pieces stretch before here after positive forward different known confined covers run windows first last all =
    let number : ℕ = length jobs in
    let job : Job = record { release = stretch.from; deadline = stretch.to; work = 0 } in
    let more : List Job = jobs ++ job ∷ [] in
    let slot : WholeSlot = record { job = number; from = stretch.from * scale; to = stretch.to * scale; work = 0 } in
    let others : List WholeSlot = before ++ slot ∷ after in
    let new : job_at more number ≡ job = get_or_push jobs job no_job number refl in
    let old : (n : ℕ) → n < number → job_at more n ≡ job_at jobs n = λ n less. get_or_append_left jobs (job ∷ []) no_job n less in
    let window : (one : WholeSlot) → IsInWindow jobs scale one → IsInWindow more scale one = λ one is. record {
      known = omega (arith, is.known, length-append jobs (job ∷ []));
      released = omega (arith, is.released, ap (λ (x : Job). x.release * scale) (old one.job is.known));
      due = omega (arith, is.due, ap (λ (x : Job). x.deadline * scale) (old one.job is.known));
    } in
    let long : stretch.from * scale < stretch.to * scale = mul-lt-mul_of_pos_right forward positive in
    let runs : RunFrom 0 others = run_joined 0 (stretch.from * scale) before (slot ∷ after) (omega arith) (run_front 0 before (here ++ after) run) first
    (omega arith, long, run_later 0 (stretch.to * scale) after (run_back 0 here after (run_back 0 before (here ++ after) run)) last) in
    let all_windows : All (IsInWindow more scale) others = All-append (IsInWindow more scale) before (slot ∷ after)
    (All-weaker (IsInWindow jobs scale) (IsInWindow more scale) window before (All-front (IsInWindow jobs scale) before (here ++ after) windows))
    (All-cons (IsInWindow more scale) slot after
    (record {
      known = omega (arith, length-append jobs (job ∷ []));
      released = omega (arith, ap (λ (x : Job). x.release * scale) new);
      due = omega (arith, ap (λ (x : Job). x.deadline * scale) new);
    })
    (All-weaker (IsInWindow jobs scale) (IsInWindow more scale) window after
    (All-back (IsInWindow jobs scale) here after (All-back (IsInWindow jobs scale) before (here ++ after) windows)))) in
    let all_confined : All (λ n. IsConfined (job_at more n) pieces) (number ∷ members) =
    All-cons (λ n. IsConfined (job_at more n) pieces) number members (subst (λ (x : Job). IsConfined x pieces) (sym new) covers)
    (λ k d inside. subst (λ (x : Job). IsConfined x pieces) (sym (old (get_or members k d) (known k d inside))) (confined k d inside)) in
    let room = time_within more scale (number ∷ members) pieces others positive (new_different number members different known) all_confined runs all_windows in
    let one : count number (number ∷ members) ≡ 1 + count number members =
    count-cons number number members ∙ ap {B = ℕ} (λ b. cond b 1 0 + count number members) (eq-eqb number number refl) in
    omega (
      arith,
      room,
      all,
      sum_by-append (λ (x : WholeSlot). count x.job (number ∷ members) * time_of x) before (slot ∷ after),
      sum_by-cons (λ (x : WholeSlot). count x.job (number ∷ members) * time_of x) slot after,
      sum_by-append (λ (x : WholeSlot). count x.job members * time_of x) before (here ++ after),
      sum_by-append (λ (x : WholeSlot). count x.job members * time_of x) here after,
      group_more number members before,
      group_more number members after,
      ap (λ n. n * (stretch.to * scale - stretch.from * scale)) one,
      mul-sub scale stretch.to stretch.from,
    )

-- the slot is of a member where all the time is the members'
part_taken : (often time : ℕ) → often ≤ 1 → often * time + (1 - often) * time ≡ time
part_taken often time once =
    let all : often + (1 - often) ≡ 1 = omega (arith, once) in
    omega (arith, ap (λ n. n * time) all)

-- and it takes time
part_left : (often time : ℕ) → (1 - often) * time ≡ 0 → 0 < time → 1 ≤ often
part_left zero time none takes = absurd (omega (arith, none, takes))
part_left (suc often) time none takes = omega arith

-- so slots that don't take longer than their members' time are all the members'
all_members_of : (members : List ℕ) (slots : List WholeSlot) → AreDifferent members → All (λ slot. slot.from < slot.to) slots →
    busy slots ≤ group time_of members slots → All (λ slot. 1 ≤ count slot.job members) slots
all_members_of members slots different forward within k d inside =
    let slot = get_or slots k d in
    let rest = λ (one : WholeSlot). (1 - count one.job members) * time_of one in
    let both = sum_by_same (λ one. count one.job members * time_of one + rest one) time_of slots
    (λ i e at. part_taken (count (get_or slots i e).job members) (time_of (get_or slots i e)) (different (get_or slots i e).job)) in
    let split = sum_by-add (λ (one : WholeSlot). count one.job members * time_of one) rest slots in
    let part = get_or-le-sum_by rest slots k d inside in
    part_left (count slot.job members) (time_of slot) (omega (arith, both, split, part, within)) (omega (arith, forward k d inside))

-- # The slots of a plan

-- each of a plan's slots is of a job with work, which is a member once
pub planned_once : (jobs : List Job) (planned : List WrittenSlot) (levels : List Level) (scale : ℕ) → IsPlan jobs planned levels → IsScale scale planned →
    All (λ slot. count slot.job (all_members levels) ≡ 1) (slots_at scale planned)
planned_once jobs planned levels scale plan is k d within =
    let slots = slots_at scale planned in
    let work : All (λ slot. 1 ≤ (job_at jobs slot.job).work) slots =
    All-map (λ slot. 1 ≤ (job_at jobs slot.job).work) (slot_at_scale scale) planned (λ i e at. plans_serve_work jobs planned levels plan i e at) in
    (plan.proper.members (get_or slots k d).job ((plan.proper.feasible.holds scale is).in_windows k d within).known).with_work (work k d within)

-- the levels of a plan fit its slots
pub plan_fits : (jobs : List Job) (planned : List WrittenSlot) (levels : List Level) (scale : ℕ) → IsPlan jobs planned levels → IsScale scale planned →
    All (Fits jobs (slots_at scale planned)) levels
plan_fits jobs planned levels scale plan is =
    levels_fit jobs levels scale (slots_at scale planned) plan.proper.well_formed (plan.proper.feasible.holds scale is) plan.proper.members plan.proper.sums
    (λ s within. plan.proper.speeds scale is s (omega (arith, within, length-map planned (slot_at_scale scale))))

-- # The law of it

-- The slots are of members of one level, and take all of the stretch.
pub record FillsStretch (levels : List Level) (scale : ℕ) (stretch : Piece) (slots : List WholeSlot) : Type 0 where
  pub level : Level
  pub has : Contains levels level
  pub members : All (λ slot. Contains level.members slot.job) slots
  pub full : busy slots ≡ (stretch.to - stretch.from) * scale

-- A plan's slots in a stretch, with those before it and those after it.
module _ (jobs : List Job) (planned : List WrittenSlot) (levels : List Level) (scale : ℕ) (stretch : Piece) (before here after : List WholeSlot)
    (plan : IsPlan jobs planned levels) (is : IsScale scale planned) (between : IsBetweenEvents jobs stretch) (forward : stretch.from < stretch.to)
    (parts : slots_at scale planned ≡ before ++ (here ++ after)) (first : All (λ slot. slot.to ≤ stretch.from * scale) before)
    (lies : All (λ slot. LiesIn scale slot stretch) here) (last : All (λ slot. stretch.to * scale ≤ slot.from) after) where
  -- the slots in the stretch are in order
  here_runs : RunFrom 0 here
  here_runs = run_front 0 here after (run_back 0 before (here ++ after) (subst (RunFrom 0) parts (plan.proper.feasible.holds scale is).one_at_a_time))

  -- in their jobs' windows
  here_windows : All (IsInWindow jobs scale) here
  here_windows = All-front (IsInWindow jobs scale) here after
      (All-back (IsInWindow jobs scale) before (here ++ after) (subst (All (IsInWindow jobs scale)) parts (plan.proper.feasible.holds scale is).in_windows))

  -- and take no more time than it has
  here_short : busy here ≤ (stretch.to - stretch.from) * scale
  here_short =
      omega (
        arith,
        busy_within (stretch.to * scale) (stretch.from * scale) here (omega (arith, mul-le-mul_right scale forward))
            (run_later 0 (stretch.from * scale) here here_runs (λ k d within. (lies k d within).from)) (λ k d within. (lies k d within).to),
        mul-sub scale stretch.to stretch.from,
      )

  -- the members of the levels up to that of one of the slots fill the stretch
  front_fills : (k i : ℕ) (slot : WholeSlot) → k < length here → i < length levels → Contains (level_at levels i).members (get_or here k slot).job →
      (stretch.to - stretch.from) * scale ≤ group time_of (all_members (take (suc i) levels)) here
  front_fills k i slot inside within has =
      let one = get_or here k slot in
      let proper = plan.proper in
      let feasible = proper.feasible.holds scale is in
      let front = front_at jobs levels proper.well_formed proper.pieces proper.windows (suc i) (omega (arith, within)) in
      let free = slot_open jobs stretch scale one between (here_windows k slot inside) (run_forward 0 here here_runs k slot inside) (lies k slot inside) in
      let confined : IsConfined (job_at jobs one.job) (all_pieces (take (suc i) levels)) = rw add-one at (proper.windows one.job free.known i within has) in
      stretch_room jobs scale (all_members (take (suc i) levels)) (all_pieces (take (suc i) levels)) stretch before here after is.positive forward
      (front_different jobs levels scale (slots_at scale planned) proper.well_formed feasible proper.members (suc i) front.known) front.known front.confined
      (λ time from below. confined time (omega (arith, free.released, from)) (omega (arith, free.due, below)))
      (subst (RunFrom 0) parts feasible.one_at_a_time) (subst (All (IsInWindow jobs scale)) parts feasible.in_windows) first last
      (subst (λ slots. group time_of (all_members (take (suc i) levels)) slots ≡ scale * total_length (all_pieces (take (suc i) levels))) parts
      (front_time jobs scale (slots_at scale planned) levels feasible.served (plan_fits jobs planned levels scale plan is) (suc i) (omega (arith, within))))

  -- the first levels' members are different
  front_once : (i : ℕ) → i < length levels → AreDifferent (all_members (take (suc i) levels))
  front_once i within =
      let proper = plan.proper in
      front_different jobs levels scale (slots_at scale planned) proper.well_formed (proper.feasible.holds scale is) proper.members (suc i)
      (front_at jobs levels proper.well_formed proper.pieces proper.windows (suc i) (omega (arith, within))).known

  -- so all of the slots are of members of those levels
  front_members : (k i : ℕ) (slot : WholeSlot) → k < length here → i < length levels → Contains (level_at levels i).members (get_or here k slot).job →
      All (λ one. 1 ≤ count one.job (all_members (take (suc i) levels))) here
  front_members k i slot inside within has =
      all_members_of (all_members (take (suc i) levels)) here (front_once i within) (run_forward 0 here here_runs)
      (omega (arith, here_short, front_fills k i slot inside within has))

  -- each of the slots is of a member
  here_once : All (λ slot. count slot.job (all_members levels) ≡ 1) here
  here_once = All-front (λ slot. count slot.job (all_members levels) ≡ 1) here after
      (All-back (λ slot. count slot.job (all_members levels) ≡ 1) before (here ++ after)
      (subst (All (λ slot. count slot.job (all_members levels) ≡ 1)) parts (planned_once jobs planned levels scale plan is)))

  -- so where there is one they are of members of one level, and fill the stretch
  pub stretch_full : 1 ≤ length here → FillsStretch levels scale stretch here
  stretch_full some =
      let one = get_or here 0 no_slot in
      let once = here_once 0 no_slot some in
      let found = level_of_member levels (length levels) one.job (omega arith)
      (subst (λ front. 1 ≤ count one.job (all_members front)) (sym (take_all (length levels) levels (omega arith))) (omega (arith, once))) in
      let i = found.0 in
      record {
        level = level_at levels i;
        has = Contains-get_or levels i no_level found.1;
        members = λ k d inside.
            let other = get_or here k d in
            let its = level_of_member levels (suc i) other.job (omega (arith, found.1)) (front_members 0 i no_slot some found.1 found.2 k d inside) in
            let its_within : its.0 < length levels = omega (arith, its.1, found.1) in
            let back = level_of_member levels (suc its.0) one.job (omega (arith, its_within)) (front_members k its.0 d inside its_within its.2 0 no_slot some) in
            let same : i ≡ back.0 = one_level levels i back.0 one.job (omega (arith, once)) found.1 (omega (arith, back.1, its_within)) found.2 back.2 in
            let place : its.0 ≡ i = omega (arith, its.1, back.1, same) in
            subst (λ (n : ℕ). Contains (level_at levels n).members other.job) {x = its.0} place its.2;
        full = omega (
          arith,
          here_short,
          front_fills 0 i no_slot some found.1 found.2,
          group_at_most time_of (all_members (take (suc i) levels)) here (front_once i found.1),
        );
      }
