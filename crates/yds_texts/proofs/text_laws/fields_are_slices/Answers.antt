use Rattle.yds_texts.proofs.TextLaws.{fields_are_slices}
use Rattle.yds_texts.proofs.text_laws.fields_are_slices.Goals as goal

pub returns : goal.returns
returns c = fields_are_slices
