-- The sink behind one that is written to in small pieces.
use Rattle.yds_trace_cli.specs.declared.small_writes.SmallWrites.{SmallWrites}

abbrev pub inner_of : {K : Type 0} → SmallWrites K → K
inner_of sink = sink.inner
