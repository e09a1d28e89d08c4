use Rattle.yds_model.proofs.Common.{◌*◌, ◌≤◌, All, IsJob}
use Rattle.base.specs.declared.limits.TheConstants.{MAX_WORK}
use Rattle.yds_edf.proofs.Filled.{Filling}
use Rattle.yds_edf.proofs.filling.fill.Given as goal

abbrev pub invariant-loop-number : goal.invariant-loop-number
invariant-loop-number l = record {
  are : All IsJob l.rows;
  works : All (λ share. share.units ≤ MAX_WORK * l.grain) l.shares.items;
  filling : Filling l.rows l.fn.ties l.grain l.stretches l.capacities l.number l.engine l.shares.items;
}
