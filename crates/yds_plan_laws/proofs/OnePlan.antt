-- Two plans of the same jobs have the same slots: they run at the same times, those of their pieces, and each job at the speed of its level.
use Rattle.yds_model.proofs.Common.{◌≡◌, ℕ, zero, suc, ◌-◌, ◌*◌, ◌<◌, ◌≤◌, List, [], ◌∷◌, ◌++◌, ◌∙◌, refl, length, length-append, get_or-append_seam, All-nil, get_or, take_all, sym, ap, subst, arith, All, Any, All-map, get_or_default, length-map, mul-pos, count, Job, job_at, WrittenSlot, WholeSlot, IsScale, no_slot, slot_at, slot_at_scale, slots_at, Piece, Level, no_level, level_at, all_members, all_pieces, IsPlan}
use Rattle.model_lemmas.proofs.Runs.{run_forward}
use Rattle.yds_laws.proofs.Bound.{scale_left, scale_right}
use Rattle.yds_laws.proofs.Plans.{plans_are_least, plans_serve_work}
use Rattle.yds_energy.proofs.FullStretches.{level_of_member}
use Rattle.yds_energy.proofs.PlanParts.{scale_joined}
use Rattle.yds_plan_laws.specs.OneLaws.{SlotsAreOne}
use Rattle.yds_plan_laws.proofs.Certified.{least_speeds_are_one}
use Rattle.yds_plan_laws.proofs.OneCertificate.{levels_are_one}
use Rattle.yds_plan_laws.proofs.Running.{RunsAt, at_parts, runs_in_pieces, pieces_run}
use Rattle.yds_plan_laws.proofs.OneSchedule.{GoesAlong, HasSpeedOf, IsRest, rests_are_one, runs_behind}

-- a level's speed is some, so a slot at it does some work
some_work : (work time all long : ℕ) → 1 ≤ all → 1 ≤ time → work * long ≡ all * time → 1 ≤ work
some_work zero time all long some takes same = absurd (omega (arith, same, mul-pos some takes))
some_work (suc work) time all long some takes same = omega arith

module _ (jobs : List Job) (slots : List WrittenSlot) (levels : List Level) (plan : IsPlan jobs slots levels) (scale : ℕ) (is : IsScale scale slots) where
  -- each slot of a plan does some work
  slots_work : All (λ slot. 1 ≤ slot.work) (slots_at scale slots)
  slots_work k d within =
      let slot = slot_at (slots_at scale slots) k in
      let feasible = plan.proper.feasible.holds scale is in
      let written : k < length slots = omega (arith, within, length-map slots (slot_at_scale scale)) in
      let some : 1 ≤ (job_at jobs slot.job).work =
      All-map (λ (s : WholeSlot). 1 ≤ (job_at jobs s.job).work) (slot_at_scale scale) slots (λ i e inside. plans_serve_work jobs slots levels plan i e inside) k no_slot within in
      let found = level_of_member levels (length levels) slot.job (omega arith)
      (omega (
        arith,
        (plan.proper.members slot.job (feasible.in_windows k no_slot within).known).with_work some,
        ap (λ front. count slot.job (all_members front)) (take_all (length levels) levels (omega arith)),
      )) in
      let level = level_at levels found.0 in
      let works : 1 ≤ slot.work = some_work slot.work (slot.to - slot.from) level.work level.length (plan.proper.well_formed.positive found.0 no_level found.1).0
      (omega (arith, run_forward 0 (slots_at scale slots) feasible.one_at_a_time k no_slot within)) (plan.proper.speeds scale is k written found.0 found.1 found.2) in
      subst (λ (s : WholeSlot). 1 ≤ s.work) (get_or_default (slots_at scale slots) k no_slot d within) works

  -- all of them are left at first
  all_left : IsRest jobs scale [] 0 (slots_at scale slots)
  all_left =
      let feasible = plan.proper.feasible.holds scale is in
      let served = plan.served scale is in
      record {
        ended = All-nil (λ slot. slot.to ≤ 0);
        run = feasible.one_at_a_time;
        windows = feasible.in_windows;
        due = served.earliest_first;
        uncut = served.uncut;
        once = served.once;
        works = slots_work;
        served = feasible.served;
      }

module _ (jobs : List Job) (slots others : List WrittenSlot) (levels more : List Level) (scale : ℕ) (plan : IsPlan jobs slots levels) (other : IsPlan jobs others more)
    (is : IsScale scale slots) (is_other : IsScale scale others) where
  -- what runs in the one plan runs in the other
  runs_too : (time : ℕ) → Any (RunsAt time) (slots_at scale slots) → Any (RunsAt time) (slots_at scale others)
  runs_too time (k, slot, within, same, runs) =
      let one : get_or (slots_at scale slots) k slot ≡ slot = same in
      pieces_run jobs others more other scale is_other time
      (subst (λ (some : List Level). Any (λ (piece : Piece). (piece.from ≤ time) × (time < piece.to)) (at_parts scale (all_pieces some)))
      (levels_are_one jobs slots others levels more plan other)
      (runs_in_pieces jobs slots levels plan scale is k slot within time (omega (arith, runs.0, ap (λ (s : WholeSlot). s.from) one))
      (omega (arith, runs.1, ap (λ (s : WholeSlot). s.to) one))))

-- so the one goes along with the other
along : (jobs : List Job) (slots others : List WrittenSlot) (levels more : List Level) (scale : ℕ) → IsPlan jobs slots levels → IsPlan jobs others more →
    IsScale scale (slots ++ others) → GoesAlong jobs scale (slots_at scale slots) (slots_at scale others)
along jobs slots others levels more scale plan other is = record {
  runs = λ before rest behind slot end left next all same time from to.
      let here : Any (RunsAt time) (before ++ slot ∷ rest) =
      (length before, slot, omega (arith, length-append before (slot ∷ rest)), get_or-append_seam before slot rest slot, (from, to)) in
      let there = runs_too jobs slots others levels more scale plan other (scale_left scale slots others is) (scale_right scale slots others is) time
      (subst (λ (some : List WholeSlot). Any (RunsAt time) some) (sym all) here) in
      runs_behind before behind end time next.ended (omega (arith, left.run.0, from)) (subst (λ (some : List WholeSlot). Any (RunsAt time) some) same there);
  speeds = λ before rest behind slot next end left follow all same begin job.
      let n : ℕ = length before in
      let first : slot_at (slots_at scale slots) n ≡ slot = ap (λ (some : List WholeSlot). slot_at some n) all ∙ get_or-append_seam before slot rest no_slot in
      let second : slot_at (slots_at scale others) n ≡ next = ap (λ (some : List WholeSlot). slot_at some n) same ∙ get_or-append_seam before next behind no_slot in
      subst (λ (one : WholeSlot). HasSpeedOf one next) first (subst (λ (one : WholeSlot). HasSpeedOf (slot_at (slots_at scale slots) n) one) second
      (least_speeds_are_one jobs slots slots others levels scale n n plan (plans_are_least jobs slots levels plan).0 (plans_are_least jobs others more other).0 is
      (omega (arith, ap length all, length-append before (slot ∷ rest), length-map slots (slot_at_scale scale)))
      (omega (arith, ap length same, length-append before (next ∷ behind), length-map others (slot_at_scale scale)))
      (ap (λ (s : WholeSlot). s.job) first ∙ job ∙ sym (ap (λ (s : WholeSlot). s.job) second))));
}

-- the law, at a scale of both
pub slots_are_one : SlotsAreOne
slots_are_one jobs slots others levels more scale plan other is =
    let left = scale_left scale slots others is in
    let right = scale_right scale slots others is in
    rests_are_one jobs scale is.positive (slots_at scale slots) (slots_at scale others) [] 0 (slots_at scale slots) (slots_at scale others)
    (along jobs slots others levels more scale plan other is)
    (along jobs others slots more levels scale other plan (scale_joined scale others slots right left)) refl refl (all_left jobs slots levels plan scale left) (all_left jobs others more other scale right)
