use Rattle.model_lemmas.proofs.Scale.{one_scale_decides as law}
use Rattle.yds_laws.proofs.scale_laws.one_scale_decides.Goals as goal

pub returns : goal.returns
returns c = law
