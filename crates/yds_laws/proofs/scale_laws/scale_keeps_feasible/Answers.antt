use Rattle.model_lemmas.proofs.Scale.{feasible_scaled as law}
use Rattle.yds_laws.proofs.scale_laws.scale_keeps_feasible.Goals as goal

pub returns : goal.returns
returns c = law
