use Rattle.yds_trace_whole.proofs.Spans.{spans_are_the_whole}
use Rattle.yds_trace_whole.proofs.laws.spans_are_the_whole.Goals as goal

pub returns : goal.returns
returns c = spans_are_the_whole
