use Rattle.yds_trace_whole.proofs.Together.{whole_is_the_document}
use Rattle.yds_trace_whole.proofs.laws.whole_is_the_document.Goals as goal

pub returns : goal.returns
returns c = whole_is_the_document
