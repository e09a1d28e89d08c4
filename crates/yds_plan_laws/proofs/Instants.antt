-- How fast a least schedule runs at each part of time: in a level's pieces one of the level's members runs, and elsewhere no work is done.
use Rattle.yds_model.proofs.Common.{◌≡◌, ℕ, zero, suc, ◌-◌, ◌*◌, ◌/◌, ◌<◌, ◌≤◌, List, [], ◌∷◌, length, get_or, take, take_all, filter, refl, sym, ap, subst, ◌∙◌, arith, inl, inr, cond, Bool, true, nat_lt, Any, Contains, All-filter, All-contains, All-contains_itself, Any-append_left, Any-append_right, cases_lt, cases_order, cases_Bool, ltb-true, add-one, filter_passes, get_or_default, sum_by, sum_by-filter, sum_by_at_most, le-div_iff_mul-le, div-lt_iff_lt-mul, mul-le-mul_left, le_of_mul-le-mul_left, flat_map-take, count, counted_contains, AreDifferent, Job, job_at, WrittenSlot, WholeSlot, IsScale, no_slot, slot_at, slots_at, RunFrom, IsInWindow, IsFeasibleAt, IsLeast, Covers, IsConfined, Level, no_level, level_at, all_members, all_pieces, busy, IsPlan}
use Rattle.model_lemmas.proofs.Front.{front_at}
use Rattle.model_lemmas.proofs.Runs.{run_earlier}
use Rattle.yds_laws.proofs.Bound.{scale_left, scale_right}
use Rattle.yds_laws.proofs.Explained.{front_different}
use Rattle.yds_energy.proofs.FullStretches.{level_of_member}
use Rattle.yds_plan_laws.specs.InstantLaws.{IsAsFastAt, OneSpeedAtEachInstant}
use Rattle.yds_plan_laws.proofs.Certified.{levels_fill, member_speed, no_work}
use Rattle.yds_plan_laws.proofs.Ends.{covers_either}
use Rattle.yds_plan_laws.proofs.Running.{RunsAt, LieIn, at_parts, parts_long, parts_cover, runs_in}
use Rattle.yds_plan_laws.proofs.OneCertificate.{none_earlier}

-- # Times of the first levels' pieces

-- such a time is one of some level's
pub level_of_time : (levels : List Level) (n time : ℕ) → n ≤ length levels → Covers (all_pieces (take n levels)) time →
    (i : ℕ) × (i < n) × Covers (level_at levels i).pieces time
level_of_time levels zero time within (k, one, inside, is, holds) = absurd (omega (arith, inside))
level_of_time levels (suc n) time within covers =
    elim (covers_either time (all_pieces (take n levels)) (level_at levels n).pieces (rw (flat_map-take (λ (one : Level). one.pieces) levels n no_level within) at covers)) [
      | inr own ↦ (n, omega arith, own)
      | inl earlier ↦ let found = level_of_time levels n time (omega (arith, within)) earlier in (found.0, omega (arith, found.1), found.2)
    ]

-- and one of a level's is such a time
pub level_in_front : (levels : List Level) (n i time : ℕ) → n ≤ length levels → i < n → Covers (level_at levels i).pieces time → Covers (all_pieces (take n levels)) time
level_in_front levels zero i time within inside covers = absurd (omega (arith, inside))
level_in_front levels (suc n) i time within inside covers =
    rw (flat_map-take (λ (one : Level). one.pieces) levels n no_level within) (elim (cases_lt i n) [
      | inl before ↦ Any-append_left (λ piece. (piece.from ≤ time) × (time < piece.to)) (all_pieces (take n levels)) (level_at levels n).pieces
          (level_in_front levels n i time (omega (arith, within)) before covers)
      | inr last ↦
          let same : i ≡ n = omega (arith, last, inside) in
          Any-append_right (λ piece. (piece.from ≤ time) × (time < piece.to)) (all_pieces (take n levels)) (level_at levels n).pieces
          (subst (λ (k : ℕ). Covers (level_at levels k).pieces time) same covers)
    ])

-- no two levels of a plan have one
one_level_has : (jobs : List Job) (slots : List WrittenSlot) (levels : List Level) → IsPlan jobs slots levels → (i k time : ℕ) → i < length levels →
    k < length levels → Covers (level_at levels i).pieces time → Covers (level_at levels k).pieces time → i ≡ k
one_level_has jobs slots levels plan i k time within inside covers other = elim (cases_order i k) [
  | inl same ↦ same
  | inr (inl before) ↦ absurd (none_earlier jobs slots levels plan k time inside other (level_in_front levels k i time (omega (arith, inside)) before covers))
  | inr (inr after) ↦ absurd (none_earlier jobs slots levels plan i time within covers (level_in_front levels i k time (omega (arith, within)) after other))
]

-- # Slots of some jobs

-- the job is one of these
abbrev is_of : List ℕ → WholeSlot → Bool
is_of members slot = nat_lt 0 (count slot.job members)

-- their slots run as before
those_run : (start : ℕ) (members : List ℕ) (slots : List WholeSlot) → RunFrom start slots → RunFrom start (filter (is_of members) slots)
those_run start members [] run = tt
those_run start members (slot ∷ slots) run = elim (cases_Bool (is_of members slot)) [
  | inl its ↦ rw its (run.0, run.1, those_run slot.to members slots run.2)
  | inr not ↦ rw not (run_earlier start slot.to (filter (is_of members) slots) (omega (arith, run.0, run.1)) (those_run slot.to members slots run.2))
]

-- what is counted at most once is its own part, or none
own_part : (often time : ℕ) → often ≤ 1 → often * time ≤ cond (nat_lt 0 often) time 0
own_part zero time once = omega arith
own_part (suc zero) time once = omega arith
own_part (suc (suc often)) time once = absurd (omega (arith, once))

-- and as long
those_long : (members : List ℕ) (slots : List WholeSlot) → AreDifferent members →
    sum_by (λ slot. count slot.job members * (slot.to - slot.from)) slots ≤ busy (filter (is_of members) slots)
those_long members slots different =
    omega (
      arith,
      sum_by-filter (is_of members) (λ (slot : WholeSlot). slot.to - slot.from) slots,
      sum_by_at_most (λ slot. count slot.job members * (slot.to - slot.from)) (λ slot. cond (is_of members slot) (slot.to - slot.from) 0) slots
          (λ k d within. own_part (count (get_or slots k d).job members) ((get_or slots k d).to - (get_or slots k d).from) (different (get_or slots k d).job)),
    )

-- # One slot at a time

-- slots that run from a time on begin there or later
runs_late : (start t : ℕ) (slots : List WholeSlot) → RunFrom start slots → t < length slots → start ≤ (slot_at slots t).from
runs_late start t [] run within = absurd (omega (arith, within))
runs_late start zero (slot ∷ slots) run within = run.0
runs_late start (suc t) (slot ∷ slots) run within = omega (arith, run.0, run.1, runs_late slot.to t slots run.2 (omega (arith, within)))

-- so two slots that have a part of time are one
pub runs_once : (start time s t : ℕ) (slots : List WholeSlot) → RunFrom start slots → s < length slots → t < length slots → RunsAt time (slot_at slots s) →
    RunsAt time (slot_at slots t) → s ≡ t
runs_once start time s t [] run within inside one other = absurd (omega (arith, within))
runs_once start time zero zero (slot ∷ slots) run within inside one other = refl
runs_once start time zero (suc t) (slot ∷ slots) run within inside one other =
    absurd (omega (arith, one.1, other.0, runs_late slot.to t slots run.2 (omega (arith, inside))))
runs_once start time (suc s) zero (slot ∷ slots) run within inside one other =
    absurd (omega (arith, other.1, one.0, runs_late slot.to s slots run.2 (omega (arith, within))))
runs_once start time (suc s) (suc t) (slot ∷ slots) run within inside one other =
    ap suc (runs_once slot.to time s t slots run.2 (omega (arith, within)) (omega (arith, inside)) one other)

-- # What runs when

-- a slot of one of the level's members has the part of time
pub record RunsLevel (levels : List Level) (slots : List WholeSlot) (time i : ℕ) : Type 0 where
  pub place : ℕ
  pub within : place < length slots
  pub runs : RunsAt time (slot_at slots place)
  pub member : Contains (level_at levels i).members (slot_at slots place).job

module _ (jobs : List Job) (planned : List WrittenSlot) (levels : List Level) (plan : IsPlan jobs planned levels) (others : List WrittenSlot)
    (least : IsLeast jobs others) (scale : ℕ) (is : IsScale scale others) where
  -- a member's slot runs in the pieces of its level and of earlier ones
  slot_covered : (s k time : ℕ) → s < length (slots_at scale others) → k < length levels → RunsAt time (slot_at (slots_at scale others) s) →
      Contains (level_at levels k).members (slot_at (slots_at scale others) s).job → Covers (all_pieces (take (suc k) levels)) (time / scale)
  slot_covered s k time within inside runs stands =
      let slot = slot_at (slots_at scale others) s in
      let window = (least.holds scale is).feasible.in_windows s no_slot within in
      rw add-one at (plan.proper.windows slot.job window.known k inside stands (time / scale) ((le-div_iff_mul-le is.positive).1 (omega (arith, window.released, runs.0)))
      ((div-lt_iff_lt-mul is.positive).1 (omega (arith, window.due, runs.1))))

  -- at a part of a level's pieces a member of this level or of an earlier one runs
  front_runs : (i time : ℕ) → i < length levels → Covers (level_at levels i).pieces (time / scale) →
      Any (RunsAt time) (filter (is_of (all_members (take (suc i) levels))) (slots_at scale others))
  front_runs i time within covers =
      let members = all_members (take (suc i) levels) in
      let pieces = all_pieces (take (suc i) levels) in
      let whole = slots_at scale others in
      let feasible = (least.holds scale is).feasible in
      let front = front_at jobs levels plan.proper.well_formed plan.proper.pieces plan.proper.windows (suc i) within in
      let once = front_different jobs levels scale whole plan.proper.well_formed feasible plan.proper.members (suc i) front.known in
      let windows = All-filter (is_of members) (IsInWindow jobs scale) whole feasible.in_windows in
      let lie : LieIn (at_parts scale pieces) (filter (is_of members) whole) = λ k d inside unit from to.
      let slot = get_or (filter (is_of members) whole) k d in
      let window = windows k d inside in
      parts_cover scale unit pieces is.positive
      (All-contains (λ number. IsConfined (job_at jobs number) pieces) members slot.job front.confined
      (counted_contains slot.job members (ltb-true 0 (count slot.job members) (filter_passes (is_of members) whole k d inside)))
      (unit / scale) ((le-div_iff_mul-le is.positive).1 (omega (arith, window.released, from))) ((div-lt_iff_lt-mul is.positive).1 (omega (arith, window.due, to)))) in
      runs_in (filter (is_of members) whole) (at_parts scale pieces) time (those_run 0 members whole feasible.one_at_a_time) lie
      (omega (arith, parts_long scale pieces, levels_fill jobs planned levels plan others least scale is i within, those_long members whole once))
      (parts_cover scale time pieces is.positive (level_in_front levels (suc i) i (time / scale) within (omega arith) covers))

  -- and it is one of this level: the time is none of an earlier one's
  pub level_runs : (i time : ℕ) → i < length levels → Covers (level_at levels i).pieces (time / scale) → RunsLevel levels (slots_at scale others) time i
  level_runs i time within covers =
      let members = all_members (take (suc i) levels) in
      let whole = slots_at scale others in
      let (k, one, inside, same, runs) = front_runs i time within covers in
      let stands : Contains whole one = All-contains (Contains whole) (filter (is_of members) whole) one
      (All-filter (is_of members) (Contains whole) whole (All-contains_itself whole)) (k, inside, same) in
      let often : 1 ≤ count one.job members = ltb-true 0 (count one.job members)
      (All-contains (λ slot. is_of members slot ≡ true) (filter (is_of members) whole) one (filter_passes (is_of members) whole) (k, inside, same)) in
      let there : one ≡ slot_at whole stands.0 = sym (get_or_default whole stands.0 no_slot one stands.1 ∙ stands.2) in
      let found = level_of_member levels (suc i) one.job within often in
      let here : RunsAt time (slot_at whole stands.0) = subst (RunsAt time) there runs in
      let member : Contains (level_at levels found.0).members (slot_at whole stands.0).job =
      subst (λ (slot : WholeSlot). Contains (level_at levels found.0).members slot.job) there found.2 in
      let below : found.0 < length levels = omega (arith, found.1, within) in
      let level = level_of_time levels (suc found.0) (time / scale) below (slot_covered stands.0 found.0 time stands.1 below here member) in
      let equal : level.0 ≡ i = one_level_has jobs planned levels plan level.0 i (time / scale) (omega (arith, level.1, below)) within level.2 covers in
      let own : found.0 ≡ i = omega (arith, found.1, level.1, equal) in
      record { place = stands.0; within = stands.1; runs = here; member = subst (λ (n : ℕ). Contains (level_at levels n).members (slot_at whole stands.0).job) own member }

  -- A slot of a job with work is of a member of the level whose pieces have its part of time.
  pub runs_level : (s time : ℕ) → s < length (slots_at scale others) → RunsAt time (slot_at (slots_at scale others) s) →
      1 ≤ (job_at jobs (slot_at (slots_at scale others) s).job).work → (i : ℕ) × (i < length levels) × Contains (level_at levels i).members (slot_at (slots_at scale others) s).job × Covers (level_at levels i).pieces (time / scale)
  runs_level s time within runs some =
      let whole = slots_at scale others in
      let slot = slot_at whole s in
      let feasible = (least.holds scale is).feasible in
      let known = (feasible.in_windows s no_slot within).known in
      let once = (plan.proper.members slot.job known).with_work some in
      let found = level_of_member levels (length levels) slot.job (omega arith)
      (omega (arith, once, ap (λ front. count slot.job (all_members front)) (take_all (length levels) levels (omega arith)))) in
      let level = level_of_time levels (suc found.0) (time / scale) found.1 (slot_covered s found.0 time within found.1 runs found.2) in
      let below : level.0 < length levels = omega (arith, level.1, found.1) in
      let there = level_runs level.0 time below level.2 in
      let same : there.place ≡ s = runs_once 0 time there.place s whole feasible.one_at_a_time there.within within there.runs runs in
      (level.0, below, subst (λ (n : ℕ). Contains (level_at levels level.0).members (slot_at whole n).job) {x = there.place} same there.member, level.2)

-- # The law

-- the slot that is as fast at a part of time
pub fast_slot : (p q time : ℕ) (slots : List WholeSlot) → IsAsFastAt p q time slots →
    (s : ℕ) × (s < length slots) × RunsAt time (slot_at slots s) × (p * ((slot_at slots s).to - (slot_at slots s).from) ≤ q * (slot_at slots s).work)
fast_slot p q time slots (s, slot, within, same, holds) =
    let there : slot ≡ slot_at slots s = sym (get_or_default slots s no_slot slot within ∙ same) in
    let here = subst (λ (one : WholeSlot). (one.from ≤ time) × (time < one.to) × (p * (one.to - one.from) ≤ q * one.work)) there holds in
    (s, within, (here.0, here.1), here.2)

-- and the other way round
pub slot_fast : (p q time : ℕ) (slots : List WholeSlot) (s : ℕ) → s < length slots → RunsAt time (slot_at slots s) →
    p * ((slot_at slots s).to - (slot_at slots s).from) ≤ q * (slot_at slots s).work → IsAsFastAt p q time slots
slot_fast p q time slots s within runs speed = (s, slot_at slots s, within, get_or_default slots s (slot_at slots s) no_slot within, (runs.0, runs.1, speed))

-- a level is as fast as a slot of its speed,
pub level_as_fast : (p q all size work time : ℕ) → 1 ≤ time → work * size ≡ all * time → p * time ≤ q * work → p * size ≤ q * all
level_as_fast p q all size work time takes same fast =
    le_of_mul-le-mul_left {k = time} (omega (arith, mul-le-mul_left size fast, ap (λ n. q * n) same)) takes

-- and the slot as the level
pub slot_as_fast : (p q all size work time : ℕ) → 1 ≤ size → work * size ≡ all * time → p * size ≤ q * all → p * time ≤ q * work
slot_as_fast p q all size work time some same fast =
    le_of_mul-le-mul_left {k = size} (omega (arith, mul-le-mul_left time fast, ap (λ n. q * n) same)) some

-- what is faster than nothing does work
some_work : (p q work time : ℕ) → 1 ≤ p → 1 ≤ time → p * time ≤ q * work → 1 ≤ work
some_work p q zero time some takes fast = absurd (omega (arith, fast, mul-le-mul_left p takes, some))
some_work p q (suc work) time some takes fast = omega arith

-- and what does work is of a job with work
job_works : (jobs : List Job) (scale : ℕ) (slots : List WholeSlot) → IsFeasibleAt jobs scale slots → (s : ℕ) → s < length slots → 1 ≤ (slot_at slots s).work →
    1 ≤ (job_at jobs (slot_at slots s).job).work
job_works jobs scale slots feasible s within works = elim (cases_lt (job_at jobs (slot_at slots s).job).work 1) [
  | inl none ↦ absurd (omega (arith, works, no_work jobs scale slots feasible s within none))
  | inr enough ↦ enough
]

-- both schedules run at the speed of the level whose pieces have the time
pub one_speed_at_each_instant : OneSpeedAtEachInstant
one_speed_at_each_instant jobs slots first second levels scale time p q plan one other is some fast =
    let left = scale_left scale first second is in
    let right = scale_right scale first second is in
    let (s, within, runs, speed) = fast_slot p q time (slots_at scale first) fast in
    let slot = slot_at (slots_at scale first) s in
    let takes : 1 ≤ slot.to - slot.from = omega (arith, runs.0, runs.1) in
    let found = runs_level jobs slots levels plan first one scale left s time within runs
    (job_works jobs scale (slots_at scale first) (one.holds scale left).feasible s within (some_work p q slot.work (slot.to - slot.from) some takes speed)) in
    let level = level_at levels found.0 in
    let there = level_runs jobs slots levels plan second other scale right found.0 time found.1 found.3 in
    let next = slot_at (slots_at scale second) there.place in
    let size = (plan.proper.well_formed.positive found.0 no_level found.1).1 in
    slot_fast p q time (slots_at scale second) there.place there.within there.runs
    (slot_as_fast p q level.work level.length next.work (next.to - next.from) size
    (member_speed jobs slots levels plan second other scale right there.place there.within found.0 found.1 there.member)
    (level_as_fast p q level.work level.length slot.work (slot.to - slot.from) takes
    (member_speed jobs slots levels plan first one scale left s within found.0 found.1 found.2) speed))
