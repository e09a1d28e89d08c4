use Rattle.yds_model.proofs.Common.{rules, nat_le, IsPartitionPoint-from_clause}
use Rattle.yds_checker.specs.declared.placed.Placed.{Placed}
use Rattle.yds_checker.proofs.Turns.{ends_partition}
use Rattle.yds_checker.proofs.pieces_in_turn.ended_by.Goals as goal

pub returns-clause-place : goal.returns-clause-place
returns-clause-place c =
    IsPartitionPoint-from_clause (λ (piece : Placed). nat_le piece.to c.args.time) c.args.placed.now c.partition_point.result c.partition_point.ensures.partitioned
    (ends_partition c.args.placed.now c.args.time c.requires) (λ a r q k. search rules)
