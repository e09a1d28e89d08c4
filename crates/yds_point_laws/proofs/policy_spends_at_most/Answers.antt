use Rattle.yds_point_laws.proofs.PolicySpends.{policy_spends_at_most}
use Rattle.yds_point_laws.proofs.policy_spends_at_most.Goals as goal

pub returns : goal.returns
returns c = policy_spends_at_most
