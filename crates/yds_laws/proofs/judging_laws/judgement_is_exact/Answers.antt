use Rattle.yds_laws.proofs.Judgements.{judgement_is_exact as law}
use Rattle.yds_laws.proofs.judging_laws.judgement_is_exact.Goals as goal

pub returns : goal.returns
returns c = law
