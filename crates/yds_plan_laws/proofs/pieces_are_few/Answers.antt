use Rattle.yds_plan_laws.proofs.FewPieces.{pieces_are_few}
use Rattle.yds_plan_laws.proofs.pieces_are_few.Goals as goal

pub returns : goal.returns
returns c = pieces_are_few
