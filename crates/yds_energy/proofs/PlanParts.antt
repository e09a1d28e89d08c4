-- Parts of a plan's slots, at a scale: each has what the whole has.
use Rattle.yds_model.proofs.Common.{◌≡◌, ℕ, ◌-◌, ◌*◌, ◌+◌, ◌≤◌, ◌==◌, List, [], ◌∷◌, ◌++◌, sym, subst, ◌∙◌, arith, if◌then◌else◌, All, Contains, map-append, get_or_default, length-map, All-append, All-weaker, All-from_get_or, sum_by-append, mul-pos, dvd-mul_right_of_dvd, Job, WrittenSlot, WholeSlot, IsDivided, IsScale, slot_at_scale, slots_at, slot_at, no_slot, work_given, RunFrom, IsInWindow, Level, level_at, no_level, IsPlan, All-front, All-back}
use Rattle.model_lemmas.proofs.Runs.{run_earlier}

-- # Slots in order

-- the first of two parts
pub run_front : (start : ℕ) (slots others : List WholeSlot) → RunFrom start (slots ++ others) → RunFrom start slots
run_front start [] others run = tt
run_front start (slot ∷ slots) others run = (run.0, run.1, run_front slot.to slots others run.2)

-- and the second
pub run_back : (start : ℕ) (slots others : List WholeSlot) → RunFrom start (slots ++ others) → RunFrom 0 others
run_back start [] others run = run_earlier 0 start others (omega arith) run
run_back start (slot ∷ slots) others run = run_back slot.to slots others run.2

-- two parts give a job what each gives it
pub given_joined : (slots others : List WholeSlot) (job : ℕ) → work_given (slots ++ others) job ≡ work_given slots job + work_given others job
given_joined slots others job = sum_by-append (λ (slot : WholeSlot). if job == slot.job then slot.work else 0) slots others

-- a scale of two schedules is one of both together
pub scale_joined : (scale : ℕ) (slots others : List WrittenSlot) → IsScale scale slots → IsScale scale others → IsScale scale (slots ++ others)
scale_joined scale slots others one other = record {
  positive = one.positive;
  divided = All-append (IsDivided scale) slots others one.divided other.divided;
}

-- a multiple of a scale is one
pub scale_times : (scale k : ℕ) (slots : List WrittenSlot) → 1 ≤ k → IsScale scale slots → IsScale (scale * k) slots
scale_times scale k slots some is = grind (arith, All-weaker, dvd-mul_right_of_dvd, mul-pos)

-- # Parts of a plan

-- the slot has the speeds of its job's levels
abbrev pub HasSpeeds : List Level → WholeSlot → Type 0
HasSpeeds levels slot = (level : Level) → Contains levels level → Contains level.members slot.job → slot.work * level.length ≡ level.work * (slot.to - slot.from)

-- the slots are a part of a plan's
pub record IsPartOfPlan (jobs : List Job) (levels : List Level) (slots : List WholeSlot) (scale : ℕ) : Type 0 where
  pub order : RunFrom 0 slots
  pub windows : All (IsInWindow jobs scale) slots
  pub speeds : All (HasSpeeds levels) slots

-- a level's place in the list
pub level_found : (levels : List Level) (level : Level) (has : Contains levels level) → level_at levels has.0 ≡ level
level_found levels level has = get_or_default levels has.0 no_level level has.1 ∙ has.2

-- all slots of a plan are one
pub plan_part : (jobs : List Job) (slots : List WrittenSlot) (levels : List Level) (scale : ℕ) → IsPlan jobs slots levels → IsScale scale slots →
    IsPartOfPlan jobs levels (slots_at scale slots) scale
plan_part jobs slots levels scale plan is =
    let feasible = plan.proper.feasible.holds scale is in
    record {
      order = feasible.one_at_a_time;
      windows = feasible.in_windows;
      speeds = All-from_get_or (HasSpeeds levels) (slots_at scale slots) no_slot (λ s within level has member.
          let slot = slot_at (slots_at scale slots) s in
          let found = level_found levels level has in
          subst (λ (one : Level). slot.work * one.length ≡ one.work * (slot.to - slot.from)) found
          (plan.proper.speeds scale is s (omega (arith, within, length-map slots (slot_at_scale scale))) has.0 has.1
          (subst (λ (one : Level). Contains one.members slot.job) (sym found) member)));
    }

-- a part of two parts, at a scale
whole_part : (jobs : List Job) (levels : List Level) (slots others : List WrittenSlot) (scale : ℕ) → IsPartOfPlan jobs levels (slots_at scale (slots ++ others)) scale →
    RunFrom 0 (slots_at scale slots ++ slots_at scale others) × All (IsInWindow jobs scale) (slots_at scale slots ++ slots_at scale others)
    × All (HasSpeeds levels) (slots_at scale slots ++ slots_at scale others)
whole_part jobs levels slots others scale part = rw (← map-append (slot_at_scale scale) slots others) (part.order, part.windows, part.speeds)

-- the first of two parts is one
pub part_front : (jobs : List Job) (levels : List Level) (slots others : List WrittenSlot) (scale : ℕ) →
    IsPartOfPlan jobs levels (slots_at scale (slots ++ others)) scale → IsPartOfPlan jobs levels (slots_at scale slots) scale
part_front jobs levels slots others scale part =
    let (order, windows, speeds) = whole_part jobs levels slots others scale part in
    let here = slots_at scale slots in
    let later = slots_at scale others in
    record { order = run_front 0 here later order; windows = All-front (IsInWindow jobs scale) here later windows; speeds = All-front (HasSpeeds levels) here later speeds }

-- and the second
pub part_back : (jobs : List Job) (levels : List Level) (slots others : List WrittenSlot) (scale : ℕ) →
    IsPartOfPlan jobs levels (slots_at scale (slots ++ others)) scale → IsPartOfPlan jobs levels (slots_at scale others) scale
part_back jobs levels slots others scale part =
    let (order, windows, speeds) = whole_part jobs levels slots others scale part in
    let here = slots_at scale slots in
    let later = slots_at scale others in
    record { order = run_back 0 here later order; windows = All-back (IsInWindow jobs scale) here later windows; speeds = All-back (HasSpeeds levels) here later speeds }
