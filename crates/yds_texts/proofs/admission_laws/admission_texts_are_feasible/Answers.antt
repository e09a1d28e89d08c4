use Rattle.yds_texts.proofs.AdmitText.{admission_texts_are_feasible as law}
use Rattle.yds_texts.proofs.admission_laws.admission_texts_are_feasible.Goals as goal

pub returns : goal.returns
returns c = law
