use Rattle.yds_model.proofs.Common.{◌≡◌, List, length, map, ◌∙◌, sym, ap, subst, arith, IfOk, All, map-map}
use Rattle.yds_events.proofs.Neighbours.{few_stretches}
use Rattle.yds_timetable.specs.Shares.{JobShare}
use Rattle.yds_timetable.specs.Timetable.{Row, rows_of, IsRow}
use Rattle.yds_search.specs.declared.found.Group.{Group}
use Rattle.yds_search.specs.Views.{group_view, found_view}
use Rattle.yds_plan.specs.Laid.{pace_of_group, rows_found}
use Rattle.yds_plan.proofs.Rows.{rows_are, rows_made}
use Rattle.yds_plan.proofs.layout.timetable.timetable_of.Goals as goal
use Rattle.yds_plan.proofs.layout.timetable.timetable_of.Goals.{After-deref-4}

made : (c : After-deref-4) → rows_of c.args.timeline.now c.deref-2.result.now c.deref-3.result.now c.deref-4.result.now ≡ rows_found c.args.rows.now (found_view c.args.found.now)
made c = rows_made c.args.rows.now (found_view c.args.found.now) c.requires.found c.requires.jobs c.requires.few _ _ _ _ c.requires.timeline
    (c.deref-2.ensures.value ∙ c.in_ok-paces.ensures
    ∙ sym (map-map pace_of_group group_view c.deref.result.now) ∙ ap (λ (groups : List Group). map pace_of_group (map group_view groups)) c.deref.ensures.value) c.deref-3.ensures.value c.deref-4.ensures.value

pub of_shares-requires-clause-few : goal.of_shares-requires-clause-few
of_shares-requires-clause-few c = omega (
  arith,
  ap (λ (shares : List JobShare). length shares) c.deref-4.ensures.value,
  c.requires.found.few,
  few_stretches c.args.rows.now,
  c.requires.few,
)

pub of_shares-requires-clause-rows : goal.of_shares-requires-clause-rows
of_shares-requires-clause-rows c =
    subst (λ (rows : List Row). All IsRow rows) (sym (made (goal.at.of_shares-requires-clause-rows c).After-deref-4))
    (rows_are c.args.rows.now (found_view c.args.found.now) c.requires.found c.requires.jobs c.requires.few)

pub returns : goal.returns
returns c = subst (λ (rows : List Row). IfOk c.of_shares.result (λ timetable. timetable ≡ rows)) (made (goal.at.returns c).After-deref-4) c.of_shares.ensures
