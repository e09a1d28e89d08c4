use Rattle.yds_model.proofs.Common.{length, ◌-◌, ◌<◌, ap, arith, Piece}
use Rattle.yds_contract.proofs.Cells.{no_piece}
use Rattle.yds_contract.proofs.RemovedStretches.{count, stretch_at}
use Rattle.yds_contract.proofs.Appending.{total_by_last}
use Rattle.yds_contract.proofs.removing.total_removed.Goals as goal

pub overflow_sub-result : goal.overflow_sub-result
overflow_sub-result c =
    let removed = c.args.removed.now in
    let last = length removed - 1 in
    let within : last < length removed = omega (arith, c.in-len1-up.len_at_least) in
    omega (
      arith,
      c.requires.forward last no_piece (omega (arith, count removed)),
      ap (λ (p : Piece). p.from) (stretch_at removed last within),
      ap (λ (p : Piece). p.to) (stretch_at removed last within),
    )

pub overflow_add-result : goal.overflow_add-result
overflow_add-result c = omega (arith, total_by_last c.args.removed.now c.requires.summed (omega (arith, c.in-len1-up.len_at_least)), c.requires.fits)

pub returns-in-len1-up : goal.returns-in-len1-up
returns-in-len1-up c = omega (arith, total_by_last c.args.removed.now c.requires.summed (omega (arith, c.in-len1-up.len_at_least)))
