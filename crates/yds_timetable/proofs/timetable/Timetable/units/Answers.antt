use Rattle.yds_model.proofs.Common.{arith, ◌∙◌, ap, sym}
use Rattle.yds_events.specs.Stretch.{length_of}
use Rattle.yds_timetable.specs.Timetable.{row_at}
use Rattle.yds_timetable.proofs.LowestPace.{units_read}
use Rattle.yds_timetable.proofs.timetable.Timetable.units.Goals as goal

pub overflow_mul-result : goal.overflow_mul-result
overflow_mul-result c =
    let read = units_read (row_at c.args.self.now c.args.number) c.in-Some.pace c.from.result (sym c.in-Some.ensures.value) c.pace.ensures.kept
    (c.from.ensures ∙ c.length.ensures.length ∙ ap length_of c.stretch.ensures.value) in
    omega (arith, read.0, read.1)

pub returns-in-Some : goal.returns-in-Some
returns-in-Some c =
    (units_read (row_at c.args.self.now c.args.number) c.in-Some.pace c.from.result (sym c.in-Some.ensures.value) c.pace.ensures.kept
    (c.from.ensures ∙ c.length.ensures.length ∙ ap length_of c.stretch.ensures.value)).0
