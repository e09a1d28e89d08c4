use Rattle.yds_texts.proofs.AdmitText.{admissions_are_read as law}
use Rattle.yds_texts.proofs.admission_laws.admissions_are_read.Goals as goal

pub returns : goal.returns
returns c = law
