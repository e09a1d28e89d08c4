use Rattle.yds_model.proofs.Common.{◌≡◌, ℕ, ◌+◌, ◌-◌, ◌<◌, ◌≤◌, List, length, slice_index, ◌∙◌, refl, ap, arith, get_or_default}
use Rattle.yds_edf.specs.declared.due_order.Due.{Due}
use Rattle.yds_oa.specs.declared.quotient.Quotient.{Quotient}
use Rattle.yds_edf.specs.Blocks.{units_before}
use Rattle.yds_edf.specs.DueOrder.{no_due, due_at}
use Rattle.yds_edf.proofs.PlacedSums.{one_place_more}
use Rattle.yds_oa.proofs.Walked.{one_further}
use Rattle.yds_oa.proofs.walk.greatest_until.Goals as goal

pub overflow_add-units : goal.overflow_add-units
overflow_add-units c =
    let place = c.loop-place.place in
    let same = c.units-placed.ensures.units in
    omega (
      arith,
      c.loop-place.invariant.sum,
      one_place_more c.args.jobs.now.units place,
      c.units-placed.ensures.few (place + 1),
      ap (λ (units : List ℕ). units_before units (place + 1)) same,
      ap (λ (units : List ℕ). slice_index units place) same,
    )

pub overflow_sub-index : goal.overflow_sub-index
overflow_sub-index c =
    let order = c.args.jobs.now.order.items in
    let place = c.loop-place.place in
    let known : place < length order = omega (arith, c.loop-place-test.true, c.requires.within) in
    let past : c.args.walk.start ≤ place = omega (arith, c.requires.walk.past, c.loop-place.auto.place) in
    let at : c.index.result.now ≡ due_at order place = c.index.ensures ∙ get_or_default order place c.index.result.now no_due known in
    omega (arith, c.requires.walk.after.after place past known, ap (λ (due : Due). due.deadline) at)

pub loop-place-preserved : goal.loop-place-preserved
loop-place-preserved c =
    let order = c.args.jobs.now.order.items in
    let from = c.args.walk.from in
    let place = c.loop-place.place in
    let known : place < length order = omega (arith, c.loop-place-test.true, c.requires.within) in
    let past : c.args.walk.start ≤ place = omega (arith, c.requires.walk.past, c.loop-place.auto.place) in
    let at : c.index.result.now ≡ due_at order place = c.index.ensures ∙ get_or_default order place c.index.result.now no_due known in
    let units = c.loop-place.units + slice_index c.units-placed.result.now place in
    let sum : units_before c.args.jobs.now.units c.args.walk.start + units ≡ units_before c.args.jobs.now.units (place + 1) = omega (
      arith,
      c.loop-place.invariant.sum,
      one_place_more c.args.jobs.now.units place,
      ap (λ (all : List ℕ). slice_index all place) c.units-placed.ensures.units,
    ) in
    let one : Quotient = record { units = units; time = c.index.result.now.deadline - from; place = place } in
    record {
      sum = sum;
      greatest = one_further c.args.jobs.now from c.args.walk.start place units c.loop-place.greatest c.max-greatest.result one c.requires.walk.after past known sum refl
          (ap (λ (due : Due). due.deadline - from) at) c.max-greatest.ensures.either c.max-greatest.ensures.first c.max-greatest.ensures.second c.loop-place.invariant.greatest;
    }
