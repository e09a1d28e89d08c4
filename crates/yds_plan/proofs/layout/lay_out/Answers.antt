use Rattle.yds_model.proofs.Common.{ℕ, List, length, map, ◌∙◌, sym, ap, ap₂, subst, slice_get}
use Rattle.yds_slots.specs.Schedule.{WrittenSchedule}
use Rattle.yds_timetable.specs.Timetable.{Row}
use Rattle.yds_timetable.specs.Room.{CanLay}
use Rattle.yds_search.specs.Views.{found_view}
use Rattle.yds_plan.proofs.Rows.{can_lay}
use Rattle.yds_plan.proofs.Bounds.{groups_within}
use Rattle.yds_plan.proofs.FoundPlan.{timetabled}
use Rattle.yds_plan.proofs.Fitting.{all_drafted, levels_fit, pieces_fit, members_fit}
use Rattle.yds_plan.proofs.layout.lay_out.Goals as goal

pub levels_of_found-requires-clause-groups : goal.levels_of_found-requires-clause-groups
levels_of_found-requires-clause-groups c =
    groups_within c.args.rows.now c.requires.jobs (found_view c.args.found.now) c.requires.found c.requires.few

pub from_levels-requires-clause-few : goal.from_levels-requires-clause-few
from_levels-requires-clause-few c =
    levels_fit c.args.rows.now (found_view c.args.found.now) c.requires.found c.args.timeline.now c.requires.timeline c.in_ok-levels.levels.items
    c.in_ok-levels.ensures.levels c.requires.jobs c.requires.few

pub from_levels-requires-clause-few_pieces : goal.from_levels-requires-clause-few_pieces
from_levels-requires-clause-few_pieces c =
    pieces_fit c.args.rows.now (found_view c.args.found.now) c.requires.found c.args.timeline.now c.requires.timeline c.in_ok-levels.levels.items
    c.in_ok-levels.ensures.levels c.requires.few

pub from_levels-requires-clause-few_members : goal.from_levels-requires-clause-few_members
from_levels-requires-clause-few_members c =
    members_fit c.args.rows.now (found_view c.args.found.now) c.requires.found c.args.timeline.now c.requires.timeline c.in_ok-levels.levels.items
    c.in_ok-levels.ensures.levels c.requires.few

pub lay-requires : goal.lay-requires
lay-requires c = subst (λ (rows : List Row). CanLay (length c.args.rows.now) rows) (sym c.in_ok-timetable.ensures)
    (can_lay c.args.rows.now (found_view c.args.found.now) c.requires.found c.requires.jobs c.requires.few)

pub returns-clause-timetable : goal.returns-clause-timetable
returns-clause-timetable c =
    timetabled c.args.rows.now c.requires.jobs c.requires.few (found_view c.args.found.now) c.requires.found c.in_ok-levels.numbers.items
    c.in_ok-level_of_stretch.level_of_stretch.items c.in_ok-levels.ensures.numbers
    (c.in_ok-level_of_stretch.ensures ∙ ap₂ (λ (numbers places : List ℕ). map (slice_get numbers) places) c.deref-2.ensures.value c.deref.ensures.value)
    c.in_ok-timetable.timetable c.in_ok-schedule.schedule.slots c.from_levels.result c.in_ok-timetable.ensures
    (ap (λ (schedule : WrittenSchedule). schedule.slots) c.in_ok-schedule.ensures)
    (c.from_levels.ensures ∙ all_drafted c.args.rows.now (found_view c.args.found.now) c.requires.found c.args.timeline.now c.requires.timeline c.in_ok-levels.levels.items
    c.in_ok-levels.ensures.levels)
