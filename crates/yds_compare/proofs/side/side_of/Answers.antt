use Rattle.yds_model.proofs.Common.{◌≡◌, ◌*◌, ◌<◌, List, length, ap, sym, ◌∙◌, arith, sum_by, get_or_read, mul-le-mul_right, IsFirstFailure, Piece, top_of}
use Rattle.yds_events.specs.Stretch.{length_of}
use Rattle.yds_timetable.specs.Timetable.{stretches_of}
use Rattle.yds_spending.specs.declared.load.Load.{Load}
use Rattle.yds_compare.specs.Load.{loads_of}
use Rattle.yds_spending.specs.Load.{load_at, IsHeldAt}
use Rattle.yds_compare.proofs.Runs.{spends, too_slow_for, load_times}
use Rattle.yds_compare.proofs.side.side_of.Goals as goal

pub spend-requires-clause-time_in_range : goal.spend-requires-clause-time_in_range
spend-requires-clause-time_in_range c =
    let is = c.deref-in_default.ensures.value ∙ c.in_ok-loads.ensures in
    omega (
      arith,
      ap (sum_by (λ (load : Load). load.time)) is,
      load_times c.from.result c.args.run.now,
      mul-le-mul_right c.args.grid c.requires.time_in_range,
      ap (λ n. sum_by length_of (stretches_of c.args.run.now) * n) c.from.ensures,
      ap (λ (pieces : List Piece). sum_by length_of pieces * c.args.grid) c.requires.run.stretches_are,
      c.from-in_default.ensures,
    )

pub returns-in_default : goal.returns-in_default
returns-in_default c =
    let is : c.in_ok-loads.loads.items ≡ loads_of c.args.grid c.args.run.now = c.in_ok-loads.ensures ∙ ap (λ g. loads_of g c.args.run.now) c.from.ensures in
    spends c.args.rows.now c.args.table.now c.args.grid c.args.run.now c.requires.some_grid c.requires.run c.in_ok-spent.spent
    (rw (← is, ← c.deref.ensures.value, ← c.top.ensures) c.in_default.ensures)
    (rw (← is, ← c.deref-in_default.ensures.value, ← c.from-in_default.ensures) c.in_ok-spent.ensures)

pub returns : goal.returns
returns c =
    let is : c.in_ok-loads.loads.items ≡ loads_of c.args.grid c.args.run.now = c.in_ok-loads.ensures ∙ ap (λ g. loads_of g c.args.run.now) c.from.ensures in
    let first : IsFirstFailure (length (loads_of c.args.grid c.args.run.now)) (λ i. IsHeldAt (top_of c.args.table.now) (load_at (loads_of c.args.grid c.args.run.now) i)) c.in-Some.place =
    rw (← is, ← c.deref.ensures.value, ← c.top.ensures) c.in-Some.ensures in
    let none : Load = record { time = 0; work = 0 } in
    let inside : c.in-Some.place < length c.in_ok-loads.loads.items = omega (arith, first.within, ap (λ (xs : List Load). length xs) is) in
    let units : c.index.result.now ≡ load_at (loads_of c.args.grid c.args.run.now) c.in-Some.place =
    get_or_read c.in_ok-loads.loads.items c.in-Some.place c.index.result.now inside c.index.ensures none
    ∙ ap (λ (xs : List Load). load_at xs c.in-Some.place) is in
    too_slow_for c.args.rows.now c.args.table.now c.args.grid c.args.run.now c.requires.some_grid c.requires.run c.in-Some.place c.index.result.now.work
    c.stretch.inside.from c.stretch.inside.to first (ap (λ (l : Load). l.work) units) (sym (c.stretch.view_is ∙ c.stretch-stretch.ensures.value))
