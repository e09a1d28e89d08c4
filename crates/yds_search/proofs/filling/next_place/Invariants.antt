use Rattle.yds_model.proofs.Common.{◌-◌, ◌<◌, ◌≤◌, List, ℕ, length}
use Rattle.yds_search.specs.Fill.{IsNext, IsNextFrom}
use Rattle.yds_search.proofs.filling.next_place.Given as goal

abbrev pub invariant-loop-place : goal.invariant-loop-place
invariant-loop-place l = record {
  one : (rooms : List ℕ) × IsNext rooms l.next;
  next : (rooms : List ℕ) → IsNext rooms l.initial.next → IsNext rooms l.next;
  place : (rooms : List ℕ) → IsNext rooms l.initial.next → IsNextFrom rooms l.from l.place (length l.next);
  after : l.from ≤ l.place;
  within : l.place < length l.next;
}

abbrev pub decreases-loop-place : goal.decreases-loop-place
decreases-loop-place l = length l.next - l.place
