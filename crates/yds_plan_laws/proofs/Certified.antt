-- A plan's levels are a proper certificate of each least schedule.
--
-- Take the speed of a level. Above it a least schedule does what the plan does: what the members of the levels before that level force, and
-- what they force together with the level's own. So the confinement bound has nothing to spare, in no slot: each slot of those members is
-- at least so fast, and each other slot at most. A slot of the level's own members is both.
use Rattle.yds_model.proofs.Common.{◌≡◌, ℕ, zero, suc, ◌+◌, ◌-◌, ◌*◌, ◌<◌, ◌≤◌, List, ◌++◌, length, get_or, take, take_all, refl, ap, subst, arith, inl, inr, if◌then◌else◌, ◌∙◌, ◌==◌, All, Contains, cases_lt, sum_by, sum_by-append, sum_by-add, sum_by-mul, sum_by_same, get_or-le-sum_by, part_own, mul_comm, mul-pos, length-map, eq_of_mul-eq-mul_left, mul-le-mul_left, le_of_mul-le-mul_left, flat_map-take, count, AreDifferent, Job, job_at, work_of, WrittenSlot, WholeSlot, IsScale, IsSolid, no_slot, slot_at, slot_at_scale, slots_at, All-append, IsFeasibleAt, excess, IsLeast, Piece, IsConfined, total_length, Level, no_level, level_at, all_members, all_pieces, HasLevelSpeed, IsPlan}
use Rattle.model_lemmas.proofs.Time.{none_times, time_within}
use Rattle.model_lemmas.proofs.Front.{front_at}
use Rattle.model_lemmas.proofs.Counted.{contained_counted, count_joined}
use Rattle.model_lemmas.proofs.Scale.{scale_exists, excess_scaled}
use Rattle.yds_laws.proofs.Group.{work_served}
use Rattle.yds_laws.proofs.Bound.{explained_is_least, scale_left, scale_right}
use Rattle.yds_laws.proofs.Explained.{proper_explains, front_different}
use Rattle.yds_laws.proofs.Curve.{curve, curve_above}
use Rattle.yds_laws.proofs.LeastAbove.{front_above}
use Rattle.yds_laws.proofs.Plans.{plan_falls, plan_sums_up, plan_excess}
use Rattle.yds_energy.proofs.FullStretches.{level_of_member}
use Rattle.yds_plan_laws.specs.LeastLaws.{LevelsCertifyTheLeast}
use Rattle.yds_plan_laws.specs.SpeedLaws.{LeastSpeedsAreOne}

-- # One slot

-- By how much a slot is on the wrong side of a speed: a member's below it, another one's above it.
abbrev astray : ℕ → ℕ → ℕ → ℕ → ℕ → ℕ
astray p q often work time = often * (p * time - q * work) + (1 - often) * (q * work - p * time)

-- what it does above the speed, and what a member does at it, is a member's work and that
slot_split : (p q often work time : ℕ) → often ≤ 1 → (q * work - p * time) + p * (often * time) ≡ q * (often * work) + astray p q often work time
slot_split p q zero work time once = omega arith
slot_split p q (suc zero) work time once = omega arith
slot_split p q (suc (suc often)) work time once = absurd (omega (arith, once))

-- a member's slot that isn't astray is at least as fast
fast_member : (p q often work time : ℕ) → 1 ≤ often → astray p q often work time ≡ 0 → p * time ≤ q * work
fast_member p q often work time some none = grind arith

-- and another one's is at most
slow_other : (p q often work time : ℕ) → often < 1 → astray p q often work time ≡ 0 → q * work ≤ p * time
slow_other p q often work time none right = grind arith

-- # All slots at a scale

module _ (jobs : List Job) (scale : ℕ) (slots : List WholeSlot) (positive : 1 ≤ scale) (feasible : IsFeasibleAt jobs scale slots) where
  -- what all slots do above a speed, and the members' at it, is the members' work and by how much slots are astray
  all_split : (p q : ℕ) (members : List ℕ) → AreDifferent members → All (λ number. number < length jobs) members →
      excess p q slots + p * sum_by (λ slot. count slot.job members * (slot.to - slot.from)) slots
      ≡ q * scale * work_of jobs members + sum_by (λ slot. astray p q (count slot.job members) slot.work (slot.to - slot.from)) slots
  all_split p q members different known =
      let often = λ (slot : WholeSlot). count slot.job members in
      let time = λ (slot : WholeSlot). slot.to - slot.from in
      let term = λ (slot : WholeSlot). q * slot.work - p * time slot in
      let wrong = λ (slot : WholeSlot). astray p q (often slot) slot.work (time slot) in
      omega (
        arith,
        sum_by_same (λ slot. term slot + p * (often slot * time slot)) (λ slot. q * (often slot * slot.work) + wrong slot) slots
            (λ j e inside. slot_split p q (often (get_or slots j e)) (get_or slots j e).work (time (get_or slots j e)) (different (get_or slots j e).job)),
        sum_by-add term (λ slot. p * (often slot * time slot)) slots,
        sum_by-add (λ slot. q * (often slot * slot.work)) wrong slots,
        sum_by-mul p (λ slot. often slot * time slot) slots,
        sum_by-mul q (λ slot. often slot * slot.work) slots,
        ap (λ n. q * n) (work_served jobs scale slots members feasible.served known),
      )

  -- Where jobs and pieces force all that is done above a speed
  module _ (p q : ℕ) (members : List ℕ) (pieces : List Piece) (different : AreDifferent members) (known : All (λ number. number < length jobs) members)
      (confined : All (λ number. IsConfined (job_at jobs number) pieces) members)
      (forced : excess p q slots + p * scale * total_length pieces ≤ q * scale * work_of jobs members) where
    -- no slot is astray,
    none_astray : All (λ slot. astray p q (count slot.job members) slot.work (slot.to - slot.from) ≡ 0) slots
    none_astray k d within =
        omega (
          arith,
          forced,
          get_or-le-sum_by (λ (slot : WholeSlot). astray p q (count slot.job members) slot.work (slot.to - slot.from)) slots k d within,
          all_split p q members different known,
          mul-le-mul_left p (time_within jobs scale members pieces slots positive different confined feasible.one_at_a_time feasible.in_windows),
        )

    -- and the members fill the pieces.
    members_fill : 1 ≤ p → scale * total_length pieces ≤ sum_by (λ slot. count slot.job members * (slot.to - slot.from)) slots
    members_fill some = le_of_mul-le-mul_left {k = p} (omega (arith, forced, all_split p q members different known)) some

-- # The levels of a plan

module _ (jobs : List Job) (planned : List WrittenSlot) (levels : List Level) (plan : IsPlan jobs planned levels) where
  -- at a level's speed the levels before it force what all of them do
  before_forces : (i : ℕ) → i < length levels →
      curve (level_at levels i).work (level_at levels i).length levels + (level_at levels i).work * total_length (all_pieces (take i levels))
      ≡ (level_at levels i).length * work_of jobs (all_members (take i levels))
  before_forces i within =
      rw (front_above levels i (plan_falls jobs planned levels plan) within) at
      (curve_above jobs (level_at levels i).work (level_at levels i).length levels (plan_falls jobs planned levels plan) (plan_sums_up jobs planned levels plan))

  -- and so they do together with the level
  with_it_forces : (i : ℕ) → i < length levels →
      curve (level_at levels i).work (level_at levels i).length levels + (level_at levels i).work * total_length (all_pieces (take (suc i) levels))
      ≡ (level_at levels i).length * work_of jobs (all_members (take (suc i) levels))
  with_it_forces i within =
      let level = level_at levels i in
      let sums = plan.proper.sums i within in
      omega (
        arith,
        before_forces i within,
        ap (λ n. level.work * n) (ap total_length (flat_map-take (λ (one : Level). one.pieces) levels i no_level within)),
        ap (λ n. level.work * n) (sum_by-append (λ (piece : Piece). piece.to - piece.from) (all_pieces (take i levels)) level.pieces),
        ap (λ n. level.work * n) sums.length,
        ap (λ n. level.length * n) (ap (work_of jobs) (flat_map-take (λ (one : Level). one.members) levels i no_level within)),
        ap (λ n. level.length * n) (sum_by-append (λ number. (job_at jobs number).work) (all_members (take i levels)) level.members),
        ap (λ n. level.length * n) sums.work,
      )

  module _ (others : List WrittenSlot) (least : IsLeast jobs others) (scale : ℕ) (is : IsScale scale others) where
    -- above a speed a least schedule does what the levels do
    least_does : (p q : ℕ) → 1 ≤ q → excess p q (slots_at scale others) ≤ scale * curve p q levels
    least_does p q some =
        let common = scale_exists (planned ++ others) (All-append IsSolid planned others plan.proper.feasible.solid least.solid) in
        let left = scale_left common.0 planned others common.1 in
        let right = scale_right common.0 planned others common.1 in
        le_of_mul-le-mul_left {k = common.0} (omega (
          arith,
          mul-le-mul_left scale ((least.holds common.0 right).least p q some (slots_at common.0 planned) (plan.proper.feasible.holds common.0 left)),
          ap (λ n. scale * n) (plan_excess jobs planned levels common.0 p q plan left some),
          excess_scaled others common.0 scale p q right,
          excess_scaled others scale common.0 p q is,
          ap (λ n. excess p q (slots_at n others)) (mul_comm scale common.0),
        )) common.1.positive

    -- it is feasible
    feasible : IsFeasibleAt jobs scale (slots_at scale others)
    feasible = (least.holds scale is).feasible

    -- Of a front whose levels force what all of them do
    module _ (p q n : ℕ) (some : 1 ≤ q) (within : n ≤ length levels)
        (forces : curve p q levels + p * total_length (all_pieces (take n levels)) ≡ q * work_of jobs (all_members (take n levels))) where
      -- the members are different,
      front_once : AreDifferent (all_members (take n levels))
      front_once = front_different jobs levels scale (slots_at scale others) plan.proper.well_formed feasible plan.proper.members n
          (front_at jobs levels plan.proper.well_formed plan.proper.pieces plan.proper.windows n within).known

      -- and do all that is done above the speed,
      front_forced : excess p q (slots_at scale others) + p * scale * total_length (all_pieces (take n levels))
          ≤ q * scale * work_of jobs (all_members (take n levels))
      front_forced = omega (arith, least_does p q some, ap (λ n. scale * n) forces)

      -- so no slot is astray of them,
      front_right : All (λ slot. astray p q (count slot.job (all_members (take n levels))) slot.work (slot.to - slot.from) ≡ 0) (slots_at scale others)
      front_right =
          let front = front_at jobs levels plan.proper.well_formed plan.proper.pieces plan.proper.windows n within in
          none_astray jobs scale (slots_at scale others) is.positive feasible p q (all_members (take n levels)) (all_pieces (take n levels)) front_once
          front.known front.confined front_forced

      -- and they fill its pieces
      front_fills : 1 ≤ p → scale * total_length (all_pieces (take n levels))
          ≤ sum_by (λ slot. count slot.job (all_members (take n levels)) * (slot.to - slot.from)) (slots_at scale others)
      front_fills =
          let front = front_at jobs levels plan.proper.well_formed plan.proper.pieces plan.proper.windows n within in
          members_fill jobs scale (slots_at scale others) is.positive feasible p q (all_members (take n levels)) (all_pieces (take n levels)) front_once
          front.known front.confined front_forced

    -- The members of the first levels fill their pieces.
    pub levels_fill : (i : ℕ) → i < length levels → scale * total_length (all_pieces (take (suc i) levels))
        ≤ sum_by (λ slot. count slot.job (all_members (take (suc i) levels)) * (slot.to - slot.from)) (slots_at scale others)
    levels_fill i within =
        let some = plan.proper.well_formed.positive i no_level within in
        front_fills (level_at levels i).work (level_at levels i).length (suc i) some.1 within (with_it_forces i within) some.0

    -- a slot of a level's member has the level's speed
    pub member_speed : (s : ℕ) → s < length (slots_at scale others) → HasLevelSpeed levels (slots_at scale others) s
    member_speed s inside i within stands =
        let level = level_at levels i in
        let slot = slot_at (slots_at scale others) s in
        let some = (plan.proper.well_formed.positive i no_level within).1 in
        let own = contained_counted level.members slot.job stands in
        let once = front_once level.work level.length (suc i) some within (with_it_forces i within) slot.job in
        let parts = ap (count slot.job) (flat_map-take (λ (one : Level). one.members) levels i no_level within)
        ∙ count_joined slot.job (all_members (take i levels)) level.members in
        omega (
          arith,
          fast_member level.work level.length (count slot.job (all_members (take (suc i) levels))) slot.work (slot.to - slot.from) (omega (arith, own, parts))
              (front_right level.work level.length (suc i) some within (with_it_forces i within) s no_slot inside),
          slow_other level.work level.length (count slot.job (all_members (take i levels))) slot.work (slot.to - slot.from) (omega (arith, own, parts, once))
              (front_right level.work level.length i some (omega (arith, within)) (before_forces i within) s no_slot inside),
        )

-- # The laws

-- all but the slots' speeds is said of the levels alone, or of feasible slots
pub levels_certify_the_least : LevelsCertifyTheLeast
levels_certify_the_least jobs slots others levels plan = (
  λ proper. explained_is_least jobs others levels (proper_explains jobs others levels proper),
  λ least. record {
    well_formed = plan.proper.well_formed;
    feasible = record { solid = least.solid; holds = λ scale is. (least.holds scale is).feasible };
    pieces = plan.proper.pieces;
    members = plan.proper.members;
    sums = plan.proper.sums;
    order = plan.proper.order;
    windows = plan.proper.windows;
    speeds = λ scale is s within. member_speed jobs slots levels plan others least scale is s (rw (length-map others (slot_at_scale scale)) within);
  },
)

-- slots of one speed have their works and times in one proportion
one_speed : (work time other other_time all long : ℕ) → 1 ≤ all → 1 ≤ long → work * long ≡ all * time → other * long ≡ all * other_time → work * other_time ≡ other * time
one_speed work time other other_time all long some some_length first second =
    eq_of_mul-eq-mul_left (all * long) (mul-pos some some_length) (work * other_time) (other * time)
    (omega (arith, ap (λ n. n * (all * other_time)) first, ap (λ n. n * (all * time)) second))

-- a slot of a job without work has none
pub no_work : (jobs : List Job) (scale : ℕ) (slots : List WholeSlot) → IsFeasibleAt jobs scale slots → (s : ℕ) → s < length slots →
    (job_at jobs (slot_at slots s).job).work < 1 → (slot_at slots s).work ≡ 0
no_work jobs scale slots feasible s within none =
    omega (
      arith,
      get_or-le-sum_by (λ (slot : WholeSlot). if (slot_at slots s).job == slot.job then slot.work else 0) slots s no_slot within,
      part_own (slot_at slots s).job (slot_at slots s).job (slot_at slots s).work refl,
      feasible.served (slot_at slots s).job (feasible.in_windows s no_slot within).known,
      none_times (job_at jobs (slot_at slots s).job).work scale none,
    )

-- a job with work is a member of a level, and one without gets no work
pub least_speeds_are_one : LeastSpeedsAreOne
least_speeds_are_one jobs slots first second levels scale s t plan one other is within inside same =
    let left = scale_left scale first second is in
    let right = scale_right scale first second is in
    let nothing = λ (some : List WrittenSlot) (divided : IsScale scale some) (least : IsLeast jobs some) (k : ℕ) (below : k < length (slots_at scale some)).
    no_work jobs scale (slots_at scale some) (least.holds scale divided).feasible k below in
    let slot = slot_at (slots_at scale first) s in
    let next = slot_at (slots_at scale second) t in
    let here : s < length (slots_at scale first) = omega (arith, within, length-map first (slot_at_scale scale)) in
    let there : t < length (slots_at scale second) = omega (arith, inside, length-map second (slot_at_scale scale)) in
    let known = (((one.holds scale left).feasible).in_windows s no_slot here).known in
    elim (cases_lt (job_at jobs slot.job).work 1) [
      | inl none ↦ omega (
        arith,
        ap (λ n. n * (next.to - next.from)) (nothing first left one s here none),
        ap (λ n. n * (slot.to - slot.from)) (nothing second right other t there (omega (arith, none, ap (λ n. (job_at jobs n).work) same))),
      )
      | inr some ↦
          let found = level_of_member levels (length levels) slot.job (omega arith)
          (omega (arith, (plan.proper.members slot.job known).with_work some, ap (λ front. count slot.job (all_members front)) (take_all (length levels) levels (omega arith)))) in
          let level = level_at levels found.0 in
          let size = plan.proper.well_formed.positive found.0 no_level found.1 in
          one_speed slot.work (slot.to - slot.from) next.work (next.to - next.from) level.work level.length size.0 size.1
          (member_speed jobs slots levels plan first one scale left s here found.0 found.1 found.2)
          (member_speed jobs slots levels plan second other scale right t there found.0 found.1 (subst (λ (job : ℕ). Contains level.members job) same found.2))
    ]
