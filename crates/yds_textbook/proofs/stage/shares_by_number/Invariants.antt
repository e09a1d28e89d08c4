use Rattle.yds_model.proofs.Common.{◌≡◌, take, map}
use Rattle.yds_textbook.specs.Stages.{share_of_members}
use Rattle.yds_textbook.proofs.stage.shares_by_number.Given as goal

abbrev pub invariant-loop-share : goal.invariant-loop-share
invariant-loop-share l = l.own.items ≡ map (share_of_members l.members l.stretches) (take l.share-index l.shares)
