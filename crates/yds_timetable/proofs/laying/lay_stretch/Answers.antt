use Rattle.yds_model.proofs.Common.{◌∙◌, ap, sym, Piece}
use Rattle.yds_timetable.specs.Timetable.{row_at}
use Rattle.yds_timetable.proofs.Filling.{can_follow}
use Rattle.yds_timetable.proofs.laying.lay_stretch.Goals as goal

pub fill-requires : goal.fill-requires
fill-requires c = rw (c.shares.ensures, ap (λ (piece : Piece). piece.from) (c.start.view_is ∙ c.stretch.ensures.value))
    (can_follow c.args.schedule.now.jobs c.args.schedule.now.slots (row_at c.args.timetable.now c.args.number) c.in-Some.pace (sym c.in-Some.ensures.value)
    c.pace.ensures.kept c.requires.can)
