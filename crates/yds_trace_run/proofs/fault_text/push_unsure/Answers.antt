use Rattle.yds_model.proofs.Common.{◌++◌, ◌∙◌, sym, ap, Option}
use Rattle.yds_trace.specs.declared.reason.Reason.{Reason}
use Rattle.yds_trace_run.specs.FaultText.{unsure_text}
use Rattle.yds_trace_run.proofs.fault_text.push_unsure.Goals as goal

pub returns-in-None-clause-text : goal.returns-in-None-clause-text
returns-in-None-clause-text c = c.push_str.ensures.bytes ∙ ap (λ (reason : Option Reason). c.args.line.now.bytes ++ unsure_text reason) (sym c.in-None.is)

pub returns-in-Some-clause-text : goal.returns-in-Some-clause-text
returns-in-Some-clause-text c = c.push_reason.ensures.text ∙ ap (λ (reason : Option Reason). c.args.line.now.bytes ++ unsure_text reason) (sym c.in-Some.is)
