use Rattle.yds_texts.proofs.JudgedText.{judgements_tell_proper as law}
use Rattle.yds_texts.proofs.judging_laws.judgements_tell_proper.Goals as goal

pub returns : goal.returns
returns c = law
