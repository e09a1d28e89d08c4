use Rattle.yds_model.proofs.Common.{◌<◌, ◌/◌, length, ◌∙◌, refl, ap, arith, get_or_default_zero}
use Rattle.yds_edf.proofs.PlacedSums.{in_group, whole_group}
use Rattle.yds_edf.proofs.blocks.PlacedUnits.next.Goals as goal

pub returns-then-index-eq0-clause-none : goal.returns-then-index-eq0-clause-none
returns-then-index-eq0-clause-none c =
    let known : c.args.place < length c.self.inside.units.items = omega (arith, c.requires.known, ap length c.self.view_is) in
    let sum = c.index.ensures ∙ get_or_default_zero c.self.inside.groups.items (c.args.place / 8 / 8) c.index.result.now (in_group c.self.invariant c.args.place known) in
    rw (← c.self.view_is) (omega (arith, sum, c.if-index-eq0.true, whole_group c.self.invariant c.args.place _ c.if-place-eq0.true refl known))
