use Rattle.yds_model.proofs.Common.{◌++◌, ◌∷◌, ◌∙◌, ◌≡◌, [], set, refl, ap, inl, inr, rules, arith, get_or_read, set-get_or}
use Rattle.yds_search.specs.declared.filling.Cell.{Cell}
use Rattle.yds_search.specs.Cells.{no_cell, cell_at}
use Rattle.yds_search.proofs.filling.Filling.take.Goals as goal
use Rattle.yds_search.proofs.filling.Filling.take.Goals.{then-not-self+in_ok-push, else-not-self}

pub returns-then-units-eq0-clause-taken : goal.returns-then-units-eq0-clause-taken
returns-then-units-eq0-clause-taken c shares =
    let cells = c.args.self.now.cells.items in
    let read : c.index_mut-cell.result.now ≡ cell_at cells c.args.stretch = get_or_read cells c.args.stretch _ c.requires c.index_mut-cell.ensures.value no_cell in (
      shares,
      inl (
        λ some. omega (arith, c.min-units.ensures, c.if-units-eq0.true, some, ap (λ (cell : Cell). cell.room) read),
        refl,
        refl,
        ap (λ (cell : Cell). set cells c.args.stretch cell) read ∙ set-get_or cells c.args.stretch no_cell,
      ),
      λ keeps. keeps,
    )

pub returns-clause-taken : goal.returns-clause-taken
returns-clause-taken c shares =
    let cells = c.args.self.now.cells.items in
    let read : c.index_mut-cell.result.now ≡ cell_at cells c.args.stretch = get_or_read cells c.args.stretch _ c.requires c.index_mut-cell.ensures.value no_cell in
    let room = ap (λ (cell : Cell). cell.room) read in (
      shares ++ record { job = c.args.job; stretch = c.args.stretch; units = c.min-units.result } ∷ [],
      inr (
        c.min-units.result,
        omega (arith, c.min-units.ensures, c.if-units-eq0.false),
        omega (arith, c.min-units.ensures, c.if-units-eq0.false, room),
        omega (arith, c.min-units.ensures, room),
        refl,
        refl,
        rw (c.min-cell.ensures, read) refl,
      ),
      λ keeps served. elim c.if-not-self.branch [
        | then-not-self+in_ok-push w ↦ rw (w.self-is, w.in_ok-push.ensures.items, keeps served) refl
        | else-not-self w ↦ search rules
      ],
    )
