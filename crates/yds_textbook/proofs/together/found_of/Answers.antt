use Rattle.yds_model.proofs.Common.{List, ◌++◌, ◌∙◌, length, map, ap, arith, flat_map, range_with_len, take_all, Piece, stretches}
use Rattle.yds_events.proofs.Neighbours.{few_stretches}
use Rattle.yds_search.specs.Views.{group_view}
use Rattle.yds_textbook.specs.declared.stage.Stage.{Stage}
use Rattle.yds_textbook.specs.Together.{stage_of_job, stage_of_stretch}
use Rattle.yds_textbook.proofs.Making.{groups_next, shares_next, found_parts}
use Rattle.yds_textbook.proofs.together.found_of.Goals as goal

pub loop-stage-preserved : goal.loop-stage-preserved
loop-stage-preserved c = record {
  groups = groups_next c.args.stages.now c.loop-stage.stage-index c.stage-item.result c.loop-stage.groups.items c.push.new.self.items c.loop-stage-test.true c.stage-item.is
      c.loop-stage.invariant.groups c.in_ok-push.ensures.items;
  shares = shares_next c.args.stages.now c.loop-stage.stage-index c.stage-item.result c.loop-stage.shares.items c.extend_from_slice.new.self.items c.loop-stage-test.true
      c.stage-item.is c.loop-stage.invariant.shares
      (c.in_ok-extend_from_slice.ensures.items ∙ ap (λ own. c.loop-stage.shares.items ++ own) c.deref.ensures.value);
}

pub overflow_cast-timeline : goal.overflow_cast-timeline
overflow_cast-timeline c =
    omega (arith, few_stretches c.args.rows.now, ap (λ (pieces : List Piece). length pieces) c.requires.timeline, c.requires.few)

pub returns : goal.returns
returns c =
    let stages = c.args.stages.now in
    let all = take_all c.loop-stage.stage-index stages c.loop-stage-test.false in
    found_parts _ (map (λ (stage : Stage). group_view stage.group) stages) _ (map (stage_of_job stages) (range_with_len 0 (length c.args.rows.now))) _
    (map (stage_of_stretch stages) (range_with_len 0 (length (stretches c.args.rows.now)))) _ (flat_map (λ (stage : Stage). stage.shares.items) stages)
    (c.loop-stage.invariant.groups ∙ ap (λ (front : List Stage). map (λ (stage : Stage). group_view stage.group) front) all)
    c.in_ok-stages_of_jobs.ensures
    (c.in_ok-stages_of_stretches.ensures ∙ ap (λ (pieces : List Piece). map (stage_of_stretch stages) (range_with_len 0 (length pieces))) c.requires.timeline)
    (c.loop-stage.invariant.shares ∙ ap (λ (front : List Stage). flat_map (λ (stage : Stage). stage.shares.items) front) all)
