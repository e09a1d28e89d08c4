use Rattle.yds_model.proofs.Common.{◌∙◌, sym, arith, refl, length-set}
use Rattle.yds_edf.specs.DueOrder.{due_at}
use Rattle.yds_edf.proofs.JobPlaces.{all_placed, entry_at, one_place_more}
use Rattle.yds_edf.proofs.due_order.places_in.Goals as goal

pub overflow_cast-place : goal.overflow_cast-place
overflow_cast-place c = omega (arith, c.loop-place-test.true, all_placed c.args.rows.now c.args.ties.now c.args.order.now c.requires.same, c.requires.few)

pub index_mut-requires : goal.index_mut-requires
index_mut-requires c = omega (
  arith,
  (entry_at c.args.rows.now c.args.ties.now c.args.order.now c.requires.same c.loop-place.place c.loop-place-test.true).known,
  c.loop-place.invariant.long,
)

pub loop-place-preserved : goal.loop-place-preserved
loop-place-preserved c = record {
  long = length-set c.loop-place.places.items (due_at c.args.order.now c.loop-place.place).job c.loop-place.place ∙ c.loop-place.invariant.long;
  places = one_place_more c.args.rows.now c.args.ties.now c.args.order.now c.requires.same c.loop-place.places.items c.loop-place.place (due_at c.args.order.now c.loop-place.place).job
      c.loop-place.invariant.long c.loop-place-test.true refl c.loop-place.invariant.places;
}

pub returns-clause-long : goal.returns-clause-long
returns-clause-long c = c.loop-place.invariant.long ∙ sym (all_placed c.args.rows.now c.args.ties.now c.args.order.now c.requires.same)
