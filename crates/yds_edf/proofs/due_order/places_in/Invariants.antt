use Rattle.yds_model.proofs.Common.{◌≡◌, length}
use Rattle.yds_edf.proofs.JobPlaces.{ArePlacesTo}
use Rattle.yds_edf.proofs.due_order.places_in.Given as goal

abbrev pub invariant-loop-place : goal.invariant-loop-place
invariant-loop-place l = record {
  long : length l.places.items ≡ length l.rows;
  places : ArePlacesTo l.order l.places.items l.place;
}
