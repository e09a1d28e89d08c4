use Rattle.yds_model.proofs.Common.{◌*◌, ◌≤◌, arith, ap, All-weaker, Piece}
use Rattle.base.specs.declared.limits.TheConstants.{MAX_SLOT_WORK, MAX_WORK}
use Rattle.yds_timetable.specs.Shares.{JobShare}
use Rattle.yds_timetable.specs.Pace.{lowest_pace}
use Rattle.yds_timetable.proofs.LowestPace.{lowest_is}
use Rattle.yds_timetable.proofs.Filling.{can_run}
use Rattle.yds_edf.proofs.Laid.{laid_runs, laid_full}
use Rattle.yds_edf.proofs.laying.lay.Goals as goal

pub slots_at-requires : goal.slots_at-requires
slots_at-requires c =
    let grain = c.args.grain in
    let is = lowest_is c.args.capacity c.args.stretch grain c.filling.ensures.kept c.requires.some_capacity c.requires.some_grain
    (omega (arith, c.requires.grain_in_range)) c.requires.times_in_range in
    rw (c.in-Some.ensures.pace.1, ap (λ (piece : Piece). piece.from) c.stretch.view_is)
    (can_run (lowest_pace c.args.capacity c.args.stretch grain) c.args.stretch c.args.capacity c.args.shares.now is c.requires.enough
    (omega (arith, c.requires.enough, c.requires.capacity_in_range))
    (All-weaker (λ (share : JobShare). share.units ≤ MAX_WORK * grain) (λ share. share.units ≤ grain * MAX_SLOT_WORK) (λ share small. omega (arith, small))
    c.args.shares.now c.requires.works_in_range))

pub returns-clause-runs : goal.returns-clause-runs
returns-clause-runs c =
    let is = lowest_is c.args.capacity c.args.stretch c.args.grain c.filling.ensures.kept c.requires.some_capacity c.requires.some_grain
    (omega (arith, c.requires.grain_in_range)) c.requires.times_in_range in
    rw (c.in_ok-slots.ensures.slots, c.in-Some.ensures.pace.1, ap (λ (piece : Piece). piece.from) c.stretch.view_is)
    (laid_runs c.args.stretch c.args.capacity c.args.grain is c.args.shares.now c.in_ok-slots.ensures.shares c.requires.enough)

pub returns-clause-full : goal.returns-clause-full
returns-clause-full c =
    let is = lowest_is c.args.capacity c.args.stretch c.args.grain c.filling.ensures.kept c.requires.some_capacity c.requires.some_grain
    (omega (arith, c.requires.grain_in_range)) c.requires.times_in_range in
    λ full. rw (c.in_ok-slots.ensures.slots, c.in-Some.ensures.pace.1, ap (λ (piece : Piece). piece.from) c.stretch.view_is)
    (laid_full c.args.stretch c.args.capacity c.args.grain is c.args.shares.now c.in_ok-slots.ensures.shares full)
