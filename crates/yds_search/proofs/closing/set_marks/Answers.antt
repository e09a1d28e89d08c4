use Rattle.yds_model.proofs.Common.{ℕ, ◌-◌, ◌≡◌, ◌≤◌, ◌<◌, ◌∙◌, min, List, length, map, get_or, set-set, ap, sym, arith, nat_le, if◌then◌else◌, nat_tests, get_or-map}
use Rattle.yds_search.specs.declared.filling.Cell.{Cell}
use Rattle.yds_search.specs.Closure.{reach_from}
use Rattle.yds_search.specs.Cells.{lates_of, shared_of, no_cell, cell_at}
use Rattle.yds_search.proofs.Closures.{marked_more}
use Rattle.yds_search.proofs.closing.set_marks.Goals as goal

reached : (after late shared k least reach : ℕ) → least ≡ min after late → least ≤ k → reach ≡ min least shared →
    (reach ≡ reach_from after late shared k) × (◌≡◌ {A = ℕ} (if nat_le reach k then 1 else 0) 1)
reached after late shared k least reach is within step = (grind (arith, nat_tests), grind (arith, nat_tests))

passed : (after late shared k least : ℕ) → least ≡ min after late → k < least → (least ≡ reach_from after late shared k) × (◌≡◌ {A = ℕ} (if nat_le least k then 1 else 0) 0)
passed after late shared k least is beyond = (grind (arith, nat_tests), grind (arith, nat_tests))

-- what is read of the next stretch
read : (f : Cell → ℕ) (cells : List Cell) (marks place : ℕ) → marks ≡ length cells → 1 ≤ place → place ≤ marks → f (cell_at cells (place - 1)) ≡ get_or (map f cells) (place - 1) (f no_cell)
read f cells marks place count some upto = sym (get_or-map f cells (place - 1) no_cell (f no_cell) (omega (arith, count, some, upto)))

pub loop-place-preserved-then-least-stretch : goal.loop-place-preserved-then-least-stretch
loop-place-preserved-then-least-stretch c =
    let cells : List Cell = c.args.cells.now in
    let late = read (λ cell. cell.late) cells (length c.args.marks.now) c.loop-place.place c.requires.count c.loop-place-test.true c.loop-place.auto.place in
    let shared = read (λ cell. cell.shared) cells (length c.args.marks.now) c.loop-place.place c.requires.count c.loop-place-test.true c.loop-place.auto.place in
    let step = reached c.loop-place.least _ _ (c.loop-place.place - 1) c.min-least.result c.min-least-then-least-stretch.result
    (c.min-least.ensures ∙ ap (λ n. min c.loop-place.least n) late) c.if-least-stretch.true (c.min-least-then-least-stretch.ensures ∙ ap (λ n. min c.min-least.result n) shared) in
    rw set-set (marked_more (lates_of cells) (shared_of cells) (length c.args.marks.now) c.loop-place.place c.loop-place.least c.loop-place.marks
    c.min-least-then-least-stretch.result 1 c.loop-place.invariant c.loop-place-test.true c.loop-place.auto.place step.0 (sym step.1))

pub loop-place-preserved : goal.loop-place-preserved
loop-place-preserved c =
    let cells : List Cell = c.args.cells.now in
    let late = read (λ cell. cell.late) cells (length c.args.marks.now) c.loop-place.place c.requires.count c.loop-place-test.true c.loop-place.auto.place in
    let step = passed c.loop-place.least _ (get_or (shared_of cells) (c.loop-place.place - 1) 0) (c.loop-place.place - 1) c.min-least.result
    (c.min-least.ensures ∙ ap (λ n. min c.loop-place.least n) late) c.if-least-stretch.false in
    marked_more (lates_of cells) (shared_of cells) (length c.args.marks.now) c.loop-place.place c.loop-place.least c.loop-place.marks c.min-least.result 0 c.loop-place.invariant
    c.loop-place-test.true c.loop-place.auto.place step.0 (sym step.1)
