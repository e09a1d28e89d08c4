use Rattle.yds_model.proofs.Common.{◌<◌, ◌∙◌, ap, arith, length, get_or, get_or_read}
use Rattle.yds_events.specs.Stretch.{no_stretch}
use Rattle.yds_search.specs.Views.{found_view}
use Rattle.yds_plan.proofs.DraftSteps.{number_within, piece_step, piece_skip}
use Rattle.yds_plan.proofs.layout.members.add_pieces.Goals as goal
use Rattle.yds_plan.proofs.layout.members.add_pieces.Goals.{In-loop-stretch, in-Some+in_ok-add_piece, in_default}

inside : (c : In-loop-stretch) → c.loop-stretch.stretch < length c.args.timeline.now
inside c = omega (arith, c.requires.stretches, c.loop-stretch-test.true, ap length c.deref-place-items.ensures.value)

pub bounds-timeline-stretch : goal.bounds-timeline-stretch
bounds-timeline-stretch c = inside (goal.at.bounds-timeline-stretch c).In-loop-stretch

pub add_piece-requires : goal.add_piece-requires
add_piece-requires c =
    let read = c.in-Some.ensures.lookup in
    number_within c.args.timeline.now (found_view c.args.found.now) (length c.args.found.now.group_of_job.items) c.loop-stretch.stretch _
    c.in-Some.number.now c.args.numbers.now c.loop-stretch.levels.items c.requires.numbers c.loop-stretch.invariant read.3.0 read.1

pub loop-stretch-preserved : goal.loop-stretch-preserved
loop-stretch-preserved c =
    let timeline = c.args.timeline.now in
    let jobs = length c.args.found.now.group_of_job.items in
    let k = c.loop-stretch.stretch in
    let place = ap (λ some. get_or some k 0) c.deref-place-items.ensures.value in
    elim c.match-get.branch [
      | in-Some+in_ok-add_piece w ↦
          let read = w.in-Some.ensures.lookup in
          ap (λ some. some.items) w.levels-is
          ∙ piece_step timeline (found_view c.args.found.now) jobs k _ w.in-Some.number.now _ c.args.numbers.now c.loop-stretch.levels.items
          w.add_piece.new.levels.items c.requires.numbers c.loop-stretch.invariant place read.3.0 read.1
          (w.own.view_is ∙ get_or_read timeline k w.index-timeline-stretch.result (inside (goal.at.loop-stretch-preserved c).In-loop-stretch)
          w.index-timeline-stretch.is no_stretch) w.in_ok-add_piece.ensures
      | in_default w ↦
          ap (λ some. some.items) w.levels-is
          ∙ piece_skip timeline (found_view c.args.found.now) jobs k _ c.args.numbers.now c.loop-stretch.levels.items c.requires.numbers
          c.loop-stretch.invariant place w.in_default.ensures.lookup.3
    ]
