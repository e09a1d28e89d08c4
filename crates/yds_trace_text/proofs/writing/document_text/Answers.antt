use Rattle.base.proofs.Common.{subst}
use Rattle.yds_trace.specs.Asked.{Asked}
use Rattle.yds_trace_document.specs.Settled.{Settled, settled_of}
use Rattle.yds_trace_document.specs.Views.{settled_read}
use Rattle.yds_trace_text.specs.Writing.{Gives}
use Rattle.yds_trace_text.proofs.Whole.{gives_same}
use Rattle.yds_trace_text.proofs.writing.document_text.Goals as goal

pub returns : goal.returns
returns c asked past is =
    gives_same c.args.strict asked (settled_of asked past) c.limited_text.result
    (subst (λ (made : Settled). Gives c.args.strict asked made c.limited_text.result) (c.in_ok-settled.ensures asked past is)
    (subst (λ (words : Asked). Gives c.args.strict words (settled_read c.in_ok-settled.settled) c.limited_text.result) is.same_asked
    c.limited_text.ensures))
