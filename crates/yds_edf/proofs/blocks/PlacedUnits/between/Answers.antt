use Rattle.yds_model.proofs.Common.{◌≡◌, ◌+◌, ◌/◌, ◌<◌, length, slice_index, ◌∙◌, ap, arith, get_or_default_zero}
use Rattle.yds_edf.proofs.PlacedSums.{few_units, one_place_more, in_block, in_group, whole_block, whole_group}
use Rattle.yds_edf.proofs.blocks.PlacedUnits.between.Goals as goal

pub returns-then-end-start-clause-units : goal.returns-then-end-start-clause-units
returns-then-end-start-clause-units c =
    let known : c.args.start < length c.self.inside.units.items = omega (arith, c.requires.within, c.if-end-start.true, ap length c.self.view_is) in
    let sum = c.index.ensures ∙ get_or_default_zero c.self.inside.groups.items (c.args.start / 8 / 8) c.index.result.now (in_group c.self.invariant c.args.start known) in
    rw (← c.self.view_is) (omega (arith, sum, whole_group c.self.invariant c.args.start c.args.end c.if-start-eq0.true c.if-end-start.true known))

pub returns-then-end-start-clause-few : goal.returns-then-end-start-clause-few
returns-then-end-start-clause-few c = rw (← c.self.view_is) (few_units c.self.invariant)

pub returns-then-end-start-2-clause-units : goal.returns-then-end-start-2-clause-units
returns-then-end-start-2-clause-units c =
    let known : c.args.start < length c.self.inside.units.items = omega (arith, c.requires.within, c.if-end-start-2.true, ap length c.self.view_is) in
    let sum = c.index-then-end-start-2.ensures
    ∙ get_or_default_zero c.self.inside.blocks.items (c.args.start / 8) c.index-then-end-start-2.result.now (in_block c.self.invariant c.args.start known) in
    rw (← c.self.view_is) (omega (
      arith,
      sum,
      whole_block c.self.inside.units.items c.self.inside.blocks.items c.self.invariant.in_blocks c.args.start c.args.end c.if-start-eq0-2.true c.if-end-start-2.true known,
    ))

pub returns-then-end-start-2-clause-few : goal.returns-then-end-start-2-clause-few
returns-then-end-start-2-clause-few c = rw (← c.self.view_is) (few_units c.self.invariant)

pub overflow_add-units : goal.overflow_add-units
overflow_add-units c =
    let units = c.self.inside.units.items in
    let place = c.loop-place.place in
    let known : place < length units = omega (arith, c.loop-place-test.true, c.requires.within, ap length c.self.view_is) in
    let here : c.index-in-loop-place.result.now ≡ slice_index units place = c.index-in-loop-place.ensures ∙ get_or_default_zero units place c.index-in-loop-place.result.now known in
    omega (
      arith,
      here,
      one_place_more units place,
      few_units c.self.invariant (place + 1),
      rw (← c.self.view_is) at c.loop-place.invariant,
    )

pub loop-place-preserved : goal.loop-place-preserved
loop-place-preserved c =
    let units = c.self.inside.units.items in
    let place = c.loop-place.place in
    let known : place < length units = omega (arith, c.loop-place-test.true, c.requires.within, ap length c.self.view_is) in
    let here : c.index-in-loop-place.result.now ≡ slice_index units place = c.index-in-loop-place.ensures ∙ get_or_default_zero units place c.index-in-loop-place.result.now known in
    rw (← c.self.view_is) (omega (
      arith,
      here,
      one_place_more units place,
      rw (← c.self.view_is) at c.loop-place.invariant,
    ))

pub returns-clause-few : goal.returns-clause-few
returns-clause-few c = rw (← c.self.view_is) (few_units c.self.invariant)
