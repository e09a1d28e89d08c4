use Rattle.yds_trace_whole.proofs.Together.{parts_make_the_document}
use Rattle.yds_trace_whole.proofs.laws.parts_make_the_document.Goals as goal

pub returns : goal.returns
returns c = parts_make_the_document
