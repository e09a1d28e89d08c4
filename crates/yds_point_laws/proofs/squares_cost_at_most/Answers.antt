use Rattle.yds_point_laws.proofs.Squares.{squares_cost_at_most}
use Rattle.yds_point_laws.proofs.squares_cost_at_most.Goals as goal

pub returns : goal.returns
returns c = squares_cost_at_most
