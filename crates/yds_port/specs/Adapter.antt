-- What a source over a reader of std, and a sink over a writer of std, consist of, and what they make of an answer.
use Rattle.std.specs.Prelude.{ℕ, zero, suc, Result, Ok, Err}
use Rattle.yds_port.specs.declared.source.Taken.{Taken}
use Rattle.yds_port.specs.declared.source.Taken.TheVariants.{Bytes as BytesTaken, End, Failed as NotRead}
use Rattle.yds_port.specs.declared.sink.Given.{Given}
use Rattle.yds_port.specs.declared.sink.Given.TheVariants.{Bytes as BytesGiven, Failed as NotWritten}
use Rattle.yds_port.specs.declared.sink.Flushed.{Flushed}
use Rattle.yds_port.specs.declared.sink.Flushed.TheVariants.{Done, Failed as NotFlushed}
use Rattle.yds_port.specs.declared.std_source.StdSource.{StdSource}
use Rattle.yds_port.specs.declared.std_sink.StdSink.{StdSink}

-- the reader, and how many of its reads failed
abbrev pub reader_of : {R : Type 0} → StdSource R → R
reader_of source = source.inner

abbrev pub read_faults : {R : Type 0} → StdSource R → ℕ
read_faults source = source.faults

-- the writer, and how many of its writes and flushes failed
abbrev pub writer_of : {W : Type 0} → StdSink W → W
writer_of sink = sink.inner

abbrev pub write_faults : {W : Type 0} → StdSink W → ℕ
write_faults sink = sink.faults

-- and how often it was flushed
abbrev pub flush_calls : {W : Type 0} → StdSink W → ℕ
flush_calls sink = sink.flushes

-- A reader's answer: a read of no byte is the end, and each error a fault.
abbrev pub taken_by : {E : Type 0} → Result ℕ E → Taken
taken_by (Ok zero) = End
taken_by (Ok (suc n)) = BytesTaken (suc n)
taken_by (Err e) = NotRead

-- A writer's answer to a piece that isn't empty: a write of no byte is a fault, as each error is.
abbrev pub given_by : {E : Type 0} → Result ℕ E → Given
given_by (Ok zero) = NotWritten
given_by (Ok (suc n)) = BytesGiven (suc n)
given_by (Err e) = NotWritten

-- A writer's answer to a flush: each error is a fault.
abbrev pub flushed_by : {T E : Type 0} → Result T E → Flushed
flushed_by (Ok x) = Done
flushed_by (Err e) = NotFlushed
