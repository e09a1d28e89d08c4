use Rattle.yds_texts.proofs.TextLaws.{lines_are_slices}
use Rattle.yds_texts.proofs.text_laws.lines_are_slices.Goals as goal

pub returns : goal.returns
returns c = lines_are_slices
