use Rattle.yds_texts.proofs.CompareText.{compared_is_too_slow}
use Rattle.yds_texts.proofs.comparison_laws.compared_is_too_slow.Goals as goal

pub returns : goal.returns
returns c = compared_is_too_slow
