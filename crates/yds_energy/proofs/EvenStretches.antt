-- The stretches of a plan are even, and so are those of each policy's run: empty, or full of slots of one speed.
use Rattle.yds_model.proofs.Common.{◌≡◌, ℕ, zero, suc, ◌+◌, ◌-◌, ◌*◌, ◌<◌, ◌≤◌, ◌⊎◌, List, [], ◌∷◌, length, get_or, refl, sym, ap, subst, ◌∙◌, arith, inl, inr, true, All, Contains, cases_lt, get_or_default, All-nil, All-cons, All-tail, All-filter, All-contains, All-weaker, All-from_get_or, filter_passes, sum_by-cons, mul-pos, mul-sub, mul-le-mul_right, le_of_mul-le-mul_right, eq_of_mul-eq-mul_right, Job, WrittenSlot, WholeSlot, IsScale, slots_at, Piece, Level, IsPlan, Point, busy, stretches, LiesIn, IsUncut, slots_in, FillsAtSpeed, ServesCapacity, IsRunAt, top_of, IsTooFast, stretch_at, HoldsStretch}
use Rattle.model_lemmas.proofs.Runs.{run_forward}
use Rattle.yds_events.specs.Stretch.{no_stretch}
use Rattle.yds_events.proofs.Neighbours.{stretch_forward, stretch_order}
use Rattle.yds_energy.proofs.FullStretches.{stretch_full}
use Rattle.yds_energy.proofs.PlanParts.{HasSpeeds, plan_part}
use Rattle.yds_energy.proofs.RoundedFeasible.{stretches_between}
use Rattle.yds_energy.proofs.RoundedRuns.{all_work, HasRate, rate_together}
use Rattle.yds_energy.proofs.SpentEnergy.{IsFull, IsEven}
use Rattle.yds_energy.proofs.StretchSlots.{lies, lies_told, IsBeside, parted}

-- # Slots of one speed

-- slots of one speed that take all of a stretch fill it
rate_full : (rate per scale : ℕ) (stretch : Piece) (slots : List WholeSlot) → 1 ≤ per → busy slots ≡ (stretch.to - stretch.from) * scale → All (HasRate rate per) slots →
    IsFull scale stretch slots
rate_full rate per scale stretch slots some full each =
    let together = rate_together rate per slots each in
    let time : ℕ = (stretch.to - stretch.from) * scale in
    record {
      full = full;
      speeds = λ k d within.
          let slot = get_or slots k d in
          eq_of_mul-eq-mul_right per some (slot.work * time) (all_work slots * (slot.to - slot.from))
          (omega (
            arith,
            ap (λ n. n * time) (each k d within),
            ap (λ n. n * (slot.to - slot.from)) together,
            ap (λ n. rate * n * (slot.to - slot.from)) full,
          ));
    }

-- # Runs

-- slots that fill a stretch at a speed take all of it
fills_busy : (capacity per from to : ℕ) (slots : List WholeSlot) → All (λ slot. slot.from < slot.to) slots → FillsAtSpeed capacity per from to slots → from + busy slots ≡ to
fills_busy capacity per from to [] takes fills = omega (arith, fills)
fills_busy capacity per from to (slot ∷ slots) takes fills =
    let later = fills_busy capacity per slot.to to slots (All-tail (λ one. one.from < one.to) slot slots takes) fills.2 in
    simp sum_by-cons (omega (arith, takes 0 slot (omega arith), fills.0, later))

-- and have it
fills_rate : (capacity per from to : ℕ) (slots : List WholeSlot) → FillsAtSpeed capacity per from to slots → All (HasRate capacity per) slots
fills_rate capacity per from to [] fills = All-nil (HasRate capacity per)
fills_rate capacity per from to (slot ∷ slots) fills = All-cons (HasRate capacity per) slot slots fills.1 (fills_rate capacity per slot.to to slots fills.2)

-- a speed that is served isn't over nothing
rate_some : (rate per : ℕ) (slots : List WholeSlot) → 1 ≤ rate → 1 ≤ busy slots → All (HasRate rate per) slots → 1 ≤ per
rate_some rate zero slots some takes each = absurd (omega (arith, rate_together rate 0 slots each, mul-pos some takes))
rate_some rate (suc per) slots some takes each = omega arith

-- so a stretch that serves its capacity is even
served_even : (grid scale units : ℕ) (stretch : Piece) (slots : List WholeSlot) → 1 ≤ scale → stretch.from < stretch.to →
    All (λ slot. slot.from < slot.to) (slots_in scale stretch slots) → ServesCapacity grid scale units stretch slots → IsEven scale slots stretch
served_even grid scale zero stretch slots positive forward takes nothing = inl nothing
served_even grid scale (suc units) stretch slots positive forward takes fills =
    let here : List WholeSlot = slots_in scale stretch slots in
    let per : ℕ = grid * (stretch.to - stretch.from) * scale in
    let all = fills_busy (suc units) per (stretch.from * scale) (stretch.to * scale) here takes fills in
    let full : busy here ≡ (stretch.to - stretch.from) * scale = omega (arith, all, mul-sub scale stretch.to stretch.from) in
    let ahead : 1 ≤ stretch.to - stretch.from = omega (arith, forward) in
    let time : 1 ≤ busy here = omega (arith, full, mul-pos ahead positive) in
    let rates = fills_rate (suc units) per (stretch.from * scale) (stretch.to * scale) here fills in
    inr (rate_full (suc units) per scale stretch here (rate_some (suc units) per here (omega arith) time rates) full rates)

-- and so is each stretch of a run
pub run_even : (jobs : List Job) (grid scale : ℕ) (capacity : Piece → ℕ) (slots : List WholeSlot) → 1 ≤ scale → IsRunAt jobs grid scale capacity slots →
    All (IsEven scale slots) (stretches jobs)
run_even jobs grid scale capacity slots positive run = All-from_get_or (IsEven scale slots) (stretches jobs) no_stretch (λ k within.
    served_even grid scale (capacity (stretch_at jobs k)) (stretch_at jobs k) slots positive (stretch_forward jobs k within)
    (All-filter (lies scale (stretch_at jobs k)) (λ slot. slot.from < slot.to) slots (run_forward 0 slots run.feasible.one_at_a_time))
    (run.each k no_stretch within))

-- # Plans

-- whether a list has an element
pub some_or_none : {X : Type 0} (xs : List X) → (xs ≡ []) ⊎ (1 ≤ length xs)
some_or_none [] = inl refl
some_or_none (x ∷ xs) = inr (omega arith)

-- a slot that lies in some stretch is beside each, or in it
uncut_beside : (jobs : List Job) (scale k : ℕ) (slot : WholeSlot) → k < length (stretches jobs) → IsUncut jobs scale slot → IsBeside scale (stretch_at jobs k) slot
uncut_beside jobs scale k slot within (j, other, inside, is, there) =
    let found : stretch_at jobs j ≡ other = get_or_default (stretches jobs) j no_stretch other inside ∙ is in
    let its : LiesIn scale slot (stretch_at jobs j) = subst (LiesIn scale slot) (sym found) there in
    elim (cases_lt j k) [
      | inl before ↦ inl (omega (arith, its.to, mul-le-mul_right scale (stretch_order jobs j k before within)))
      | inr later ↦ elim (cases_lt k j) [
        | inl after ↦ inr (inr (omega (arith, its.from, mul-le-mul_right scale (stretch_order jobs k j after inside))))
        | inr same ↦
            let place : j ≡ k = omega (arith, later, same) in
            inr (inl (subst (λ (n : ℕ). LiesIn scale slot (stretch_at jobs n)) place its))
      ]
    ]

-- What a plan has in a stretch where it has a slot: slots of one level that fill it.
pub record IsOfLevel (levels : List Level) (scale : ℕ) (stretch : Piece) (here : List WholeSlot) : Type 0 where
  pub full : IsFull scale stretch here
  pub level : Level
  pub has : Contains levels level
  pub members : All (λ slot. Contains level.members slot.job) here
  pub rates : All (HasRate level.work level.length) here

pub of_level : (jobs : List Job) (planned : List WrittenSlot) (levels : List Level) (scale k : ℕ) → IsPlan jobs planned levels → IsScale scale planned →
    k < length (stretches jobs) → 1 ≤ length (slots_in scale (stretch_at jobs k) (slots_at scale planned)) →
    IsOfLevel levels scale (stretch_at jobs k) (slots_in scale (stretch_at jobs k) (slots_at scale planned))
of_level jobs planned levels scale k plan is within some =
    let stretch = stretch_at jobs k in
    let slots : List WholeSlot = slots_at scale planned in
    let here : List WholeSlot = slots_in scale stretch slots in
    let feasible = plan.proper.feasible.holds scale is in
    let forward = stretch_forward jobs k within in
    let beside : All (IsBeside scale stretch) slots =
    All-weaker (IsUncut jobs scale) (IsBeside scale stretch) (λ slot uncut. uncut_beside jobs scale k slot within uncut) slots (plan.served scale is).uncut in
    let parts = parted scale 0 stretch slots forward feasible.one_at_a_time beside in
    let there : All (λ slot. LiesIn scale slot stretch) here =
    All-weaker (λ slot. lies scale stretch slot ≡ true) (λ slot. LiesIn scale slot stretch) (λ slot passes. lies_told scale stretch slot passes) here
    (filter_passes (lies scale stretch) slots) in
    let fills = stretch_full jobs planned levels scale stretch parts.before here parts.after plan is (stretches_between jobs k no_stretch within) forward parts.parts parts.first
    there parts.last some in
    let all_speeds = All-filter (lies scale stretch) (HasSpeeds levels) slots (plan_part jobs planned levels scale plan is).speeds in
    let rates : All (HasRate fills.level.work fills.level.length) here = λ i d inside. all_speeds i d inside fills.level fills.has (fills.members i d inside) in
    let positive = All-contains (λ level. (1 ≤ level.work) × (1 ≤ level.length)) levels fills.level plan.proper.well_formed.positive fills.has in
    record {
      full = rate_full fills.level.work fills.level.length scale stretch here positive.1 fills.full rates;
      level = fills.level;
      has = fills.has;
      members = fills.members;
      rates = rates;
    }

-- so a plan's stretches are even
pub plan_even : (jobs : List Job) (planned : List WrittenSlot) (levels : List Level) (scale : ℕ) → IsPlan jobs planned levels → IsScale scale planned →
    All (IsEven scale (slots_at scale planned)) (stretches jobs)
plan_even jobs planned levels scale plan is = All-from_get_or (IsEven scale (slots_at scale planned)) (stretches jobs) no_stretch (λ k within.
    elim (some_or_none (slots_in scale (stretch_at jobs k) (slots_at scale planned))) [
      | inl none ↦ inl none
      | inr some ↦ inr (of_level jobs planned levels scale k plan is within some).full
    ])

-- work that is done at a speed below another is at most what the other does
pub held_at : (top work long level_work level_length : ℕ) → 1 ≤ level_length → level_work ≤ top * level_length → work * level_length ≡ level_work * long → work ≤ top * long
held_at top work long level_work level_length some slow is =
    let less : work * level_length ≤ top * long * level_length = omega (arith, is, mul-le-mul_right long slow) in
    le_of_mul-le-mul_right {k = level_length} less some

-- and where no level is too fast the top point is fast enough for them
pub plan_holds : (jobs : List Job) (planned : List WrittenSlot) (levels : List Level) (points : List Point) (scale : ℕ) → IsPlan jobs planned levels → IsScale scale planned →
    All (λ level. IsTooFast points level → ⊥) levels → All (HoldsStretch points scale (slots_at scale planned)) (stretches jobs)
plan_holds jobs planned levels points scale plan is slow = All-from_get_or (HoldsStretch points scale (slots_at scale planned)) (stretches jobs) no_stretch (λ k within.
    let here : List WholeSlot = slots_in scale (stretch_at jobs k) (slots_at scale planned) in
    elim (some_or_none here) [
      | inl none ↦ omega (arith, ap all_work none)
      | inr some ↦
          let of = of_level jobs planned levels scale k plan is within some in
          let level = of.level in
          let positive = All-contains (λ level. (1 ≤ level.work) × (1 ≤ level.length)) levels level plan.proper.well_formed.positive of.has in
          let within_top : level.work ≤ top_of points * level.length = elim (cases_lt (top_of points * level.length) level.work) [
            | inl fast ↦ absurd (All-contains (λ level. IsTooFast points level → ⊥) levels level slow of.has fast)
            | inr enough ↦ enough
          ] in
          held_at (top_of points) (all_work here) (((stretch_at jobs k).to - (stretch_at jobs k).from) * scale) level.work level.length positive.1 within_top
          (rate_together level.work level.length here of.rates ∙ ap (λ n. level.work * n) of.full.full)
    ])
