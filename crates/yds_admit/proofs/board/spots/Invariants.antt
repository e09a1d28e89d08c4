use Rattle.yds_model.proofs.Common.{◌≡◌, map, All, range_with_len}
use Rattle.yds_admit.specs.Board.{IsSpot}
use Rattle.yds_admit.specs.declared.board.Spot.{Spot}
use Rattle.yds_admit.proofs.board.spots.Given as goal

abbrev pub invariant-loop-number : goal.invariant-loop-number
invariant-loop-number l = record {
  numbers : map (λ (spot : Spot). spot.number) l.spots.items ≡ range_with_len 0 l.number;
  each : All (IsSpot l.rows l.times) l.spots.items;
}
