use Rattle.yds_trace_cli.specs.Codes.{code_without_words}
use Rattle.yds_trace_cli.specs.Telling.{text_without_words}
use Rattle.yds_trace_cli.proofs.Told.{told_as}
use Rattle.yds_trace_cli.proofs.tell_no_words.Goals as goal

pub returns : goal.returns
returns g c =
    told_as c.text_without_words.result.now (text_without_words c.args.kind) c.code_without_words.result (code_without_words c.args.kind) c.tell.result
    (g.K.Sink.written c.args.sink.now) (g.K.Sink.written c.tell.new.sink) (g.K.Sink.flushed c.tell.new.sink) (g.K.Sink.faults c.args.sink.now) (g.K.Sink.faults c.tell.new.sink)
    c.text_without_words.ensures c.code_without_words.ensures c.tell.ensures
