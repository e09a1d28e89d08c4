use Rattle.yds_model.proofs.Common.{◌≡◌, ℕ, ap, ◌≤◌, List, length, insert, ◌∙◌, arith, ap₂, Job}
use Rattle.yds_admit.proofs.Listed.{row_count, rows_insert}
use Rattle.yds_admit.proofs.rows.Rows.insert.Goals as goal

pub insert-requires : goal.insert-requires
insert-requires c = omega (arith, c.requires, c.self.invariant.wanted, row_count c.self.inside.releases.items c.self.inside.deadlines.items c.self.inside.works.items c.args.self.now c.self.invariant c.self.view_is)

pub insert-requires-2 : goal.insert-requires-2
insert-requires-2 c = omega (arith, c.requires, c.self.invariant.due, row_count c.self.inside.releases.items c.self.inside.deadlines.items c.self.inside.works.items c.args.self.now c.self.invariant c.self.view_is)

pub insert-requires-3 : goal.insert-requires-3
insert-requires-3 c = omega (arith, c.requires, row_count c.self.inside.releases.items c.self.inside.deadlines.items c.self.inside.works.items c.args.self.now c.self.invariant c.self.view_is)

pub returns : goal.returns
returns c =
    let releases = c.self.inside.releases.items in
    let deadlines = c.self.inside.deadlines.items in
    let works = c.self.inside.works.items in
    let within : c.args.number ≤ length releases = omega (arith, c.requires, row_count releases deadlines works c.args.self.now c.self.invariant c.self.view_is) in
    let number : ℕ = c.args.number in
    let works_are : c.insert.new.self.items ≡ insert works number c.row.inside.work =
    c.in_ok-insert.ensures.items ∙ ap (λ (some : List ℕ). insert some number c.row.inside.work) c.in_ok-reserve.ensures.items in
    let deadlines_are : c.insert-2.new.self.items ≡ insert deadlines number c.row.inside.deadline =
    c.in_ok-insert-2.ensures.items ∙ ap (λ (some : List ℕ). insert some number c.row.inside.deadline) c.in_ok-reserve-2.ensures.items in
    let releases_are : c.insert-3.new.self.items ≡ insert releases number c.row.inside.release =
    c.in_ok-insert-3.ensures.items ∙ ap (λ (some : List ℕ). insert some number c.row.inside.release) c.in_ok-reserve-3.ensures.items in
    rw (releases_are, deadlines_are, works_are)
    (rows_insert releases deadlines works c.self.invariant number c.row.inside.release c.row.inside.deadline c.row.inside.work within
    ∙ ap₂ (λ (jobs : List Job) (job : Job). insert jobs number job) c.self.view_is c.row.view_is)
