use Rattle.model_lemmas.proofs.Verdicts.{verdict_is_exact as law}
use Rattle.yds_laws.proofs.judging_laws.verdict_is_exact.Goals as goal

pub returns : goal.returns
returns c = law
