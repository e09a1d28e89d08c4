use Rattle.yds_model.proofs.Common.{◌≡◌, List, sym, ap, subst, All, AllZip, Job, WrittenSlot, Level, Point, IsPlan, IsTooFast, IsRounding, Spent}
use Rattle.yds_slots.specs.Schedule.{WrittenSchedule}
use Rattle.yds_round.specs.LevelPace.{RunsAs}
use Rattle.yds_round.specs.Fault.{HasFastLevel}
use Rattle.yds_round.proofs.Faults.{all_slow}
use Rattle.yds_round.proofs.RoundedEnergies.{slots_solid, rounding_within}
use Rattle.yds_round.proofs.RoundedPlans.{is_rounding}
use Rattle.yds_round.proofs.rounding.round.Goals as goal

-- of the levels as they are read none is too fast
none_fast : (jobs : List Job) (slots : List WrittenSlot) (levels read : List Level) (points : List Point) → read ≡ levels → IsPlan jobs slots levels →
    (HasFastLevel read points → ⊥) → All (λ level. IsTooFast points level → ⊥) read
none_fast jobs slots levels read points is plan slow = all_slow jobs slots read points (subst (IsPlan jobs slots) (sym is) plan) slow

pub paces_of-requires : goal.paces_of-requires
paces_of-requires c =
    none_fast c.args.rows.now c.args.plan.now.schedule.slots c.args.plan.now.certificate c.levels-levels.result.now c.args.table.now c.levels-levels.ensures.value c.requires.plan
    c.in_default.ensures

pub plan_spent-requires-clause-plan : goal.plan_spent-requires-clause-plan
plan_spent-requires-clause-plan c =
    (c.args.plan.now.schedule.slots, subst (IsPlan c.args.rows.now c.args.plan.now.schedule.slots) (sym c.levels-levels.ensures.value) c.requires.plan)

pub plan_spent-requires-clause-fast_enough : goal.plan_spent-requires-clause-fast_enough
plan_spent-requires-clause-fast_enough c =
    none_fast c.args.rows.now c.args.plan.now.schedule.slots c.args.plan.now.certificate c.levels-levels.result.now c.args.table.now c.levels-levels.ensures.value c.requires.plan
    c.in_default.ensures

pub returns-clause-rounding : goal.returns-clause-rounding
returns-clause-rounding c =
    let planned = c.args.plan.now.schedule.slots in
    let same = c.levels-levels.ensures.value in
    let slow = subst (λ (levels : List Level). All (λ level. IsTooFast c.args.table.now level → ⊥) levels) same (none_fast c.args.rows.now planned c.args.plan.now.certificate
    c.levels-levels.result.now c.args.table.now same c.requires.plan c.in_default.ensures) in
    let are : AllZip (RunsAs c.args.table.now) c.args.plan.now.certificate c.in_ok-paces.paces.items =
    subst (λ (levels : List Level). AllZip (RunsAs c.args.table.now) levels c.in_ok-paces.paces.items) same c.in_ok-paces.ensures in
    subst (λ (spent : Spent). IsRounding c.args.rows.now c.args.table.now planned c.args.plan.now.certificate c.in_ok-schedule.schedule.slots spent.energy) (sym c.spent.view_is)
    (is_rounding c.args.rows.now c.args.table.now planned c.args.plan.now.certificate c.in_ok-paces.paces.items c.args.plan.now.timetable
    c.args.plan.now.level_of_stretch.items c.in_ok-schedule.schedule.slots c.in_ok-spent.spent c.read_rows.ensures c.requires.plan c.points-points.ensures.kept.table
    slow are c.requires.timetable c.in_ok-schedule.ensures.rows
    (ap (λ (schedule : WrittenSchedule). schedule.slots) (rw (c.deref.ensures.value) at c.in_ok-schedule.ensures.written))
    (slots_solid c.in_ok-schedule.schedule.slots c.slots-slots.ensures.kept.fit)
    (c.in_ok-spent.ensures planned (subst (IsPlan c.args.rows.now planned) (sym same) c.requires.plan)))

pub returns-clause-energy : goal.returns-clause-energy
returns-clause-energy c =
    rounding_within c.args.rows.now c.args.table.now c.args.plan.now.schedule.slots c.args.plan.now.certificate c.in_ok-schedule.schedule.slots _ c.read_rows.ensures
    c.requires.plan c.points-points.ensures.kept (returns-clause-rounding c) c.whole-whole.ensures.kept.fraction
